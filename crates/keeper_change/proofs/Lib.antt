-- What the proofs of this crate share.
pub mod Saving
pub mod Whole
pub mod Making
pub mod Alone
