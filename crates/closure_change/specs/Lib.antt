-- The closure store after a change, and rule 30 of a quick change.
pub mod Kept
pub mod After
pub mod JoinedLaws
