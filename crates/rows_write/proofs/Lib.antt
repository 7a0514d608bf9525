-- Laws that the writer's proofs cite.
pub mod Writing
pub mod Listing
