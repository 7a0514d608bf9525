-- Laws that belong to no one function.
pub mod RangeLaws
pub mod SyntaxLaws
pub mod LinksLaws
