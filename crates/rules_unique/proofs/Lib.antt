-- Laws that the proofs of this crate cite.
pub mod Rivals
pub mod Places
pub mod UniqueLaws
pub mod IdentifierLaws
pub mod RivalLaws
