-- The class graph: what a class reaches, its depth, its closure, and how the closure changes with one change of the rows.
pub mod Walk
pub mod WalkLaws
pub mod BringsLaws
pub mod WarshallLaws
pub mod Graph
pub mod GraphLaws
pub mod ChangeLaws
pub mod Visit
pub mod Collect
pub mod Stages
pub mod Rewrite
pub mod Depth
pub mod DepthLaws
pub mod Changes
pub mod ThreeLaws
pub mod FrontLaws
pub mod PiecesLaws
