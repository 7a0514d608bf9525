-- Laws that belong to no one function.
pub mod Fill
pub mod Places
pub mod Ranges
