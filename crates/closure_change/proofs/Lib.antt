-- What the proofs of the functions share.
pub mod Holding
pub mod Joining
pub mod Carried
pub mod KeptLaws
pub mod FreshLaws
pub mod SameLaws
