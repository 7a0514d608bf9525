-- Laws that the proofs of this crate cite.
pub mod Lines
pub mod Room
pub mod Loaded
pub mod Vectors
pub mod ListingLaws
pub mod Decimal
