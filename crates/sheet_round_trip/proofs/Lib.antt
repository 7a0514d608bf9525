-- Rows tested by computation.
pub mod Vectors
pub mod AcceptedLaws
pub mod SheetLaws
