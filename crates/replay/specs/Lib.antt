-- Replay scripts: their steps, what a step leaves in the stores, and the hash by which stores are compared.
pub mod Hash
pub mod Size
pub mod Steps
pub mod Playing
