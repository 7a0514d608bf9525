-- Laws that belong to no one function.
pub mod Auditing
pub mod Loading
