-- Laws that the reader's proofs cite.
pub mod Entering
pub mod Storing
pub mod Vectors
pub mod Checking
pub mod Turning
