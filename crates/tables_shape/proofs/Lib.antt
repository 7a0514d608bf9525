-- Laws that belong to no one function.
pub mod Checking
pub mod ShapeLaws
pub mod FilledShapeLaws
pub mod FrontLaws
