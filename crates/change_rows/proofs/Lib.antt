-- What the proofs of this crate share.
pub mod Editing
pub mod Applying
pub mod StoresLaws
