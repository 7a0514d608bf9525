-- What no two rows may share: rules 13, 15, 16, 24 and 28.
pub mod Unique
pub mod Marks
pub mod SameLaws
