-- Rules of an attribute row: its range, its syntax, the forward link that a back link needs, and the syntax that a link needs.
pub mod Range
pub mod Syntax
pub mod Links
pub mod SameLaws
