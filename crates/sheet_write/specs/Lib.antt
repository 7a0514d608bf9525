-- The bytes of a sheet, written from the two tables.
pub mod Writing
pub mod SameLaws
