-- Laws that the proofs of this crate cite.
pub mod Bytewise
pub mod CategoryLaws
pub mod StayLaws
