-- The public calls: load, write, audit and depth, each as one definition of its answer and of the bytes that it leaves.
pub mod InShape
pub mod InShapeLaws
pub mod Load
pub mod LoadLaws
pub mod Write
pub mod Order
pub mod Audit
pub mod Depth
pub mod CheckedLaws
pub mod EndLaws
pub mod OrderLaws
