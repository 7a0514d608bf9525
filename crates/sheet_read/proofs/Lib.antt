-- Laws that the proofs of this crate cite.
pub mod Steps
pub mod Walk
pub mod TurnLaws
pub mod AcceptedLaws
pub mod StoppingLaws
