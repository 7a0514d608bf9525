-- Laws that the proofs of this crate cite.
pub mod Asked
pub mod Calm
pub mod JudgeLaws
pub mod MeetsLaws
pub mod NumberLaws
pub mod SameLaws
