-- Tables: the rows that a store holds, rows put in place, the same rows in two tables, one row changed or added, what a row names and may name.
pub mod Filled
pub mod FilledLaws
pub mod PutLaws
pub mod PutFrontLaws
pub mod Same
pub mod SameLaws
pub mod Chain
pub mod ChainLaws
pub mod Changed
pub mod ChangedLaws
pub mod Live
pub mod LiveLaws
pub mod Named
pub mod Shaped
pub mod ShapedLaws
