-- Rules of a class row: what it names is live, earlier and of the right category; its naming attribute. The chain of superclasses where 18 is met.
pub mod Blank
pub mod Live
pub mod LiveLaws
pub mod Category
pub mod Chain
pub mod ChainLaws
pub mod SameLaws
