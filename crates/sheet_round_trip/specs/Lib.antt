-- The round trips: rows written as a sheet and read again, and a sheet read and written again.
pub mod Exact
pub mod FieldLaws
pub mod ExactLaws
pub mod RowLaws
pub mod WalkLaws
pub mod WrittenLaws
pub mod HeldLaws
pub mod Longest
pub mod LongestLaws
