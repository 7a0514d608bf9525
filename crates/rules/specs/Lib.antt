-- The schema rules 12 to 29, the judge of all rows, and what a change of one row can break.
pub mod Rules
pub mod RulesLaws
pub mod Judge
pub mod Found
pub mod Clear
pub mod Meets
pub mod RowChange
pub mod RowChangeLaws
pub mod ReadLaws
