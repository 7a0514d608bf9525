-- Laws of writing that other crates cite.
pub mod WritingLaws
