-- Display names and object identifiers: which are valid, and when two names are the same.
pub mod Name
pub mod NameLaws
