-- The shape of the two tables' stores, what it says, and the stores of well-formed rows.
pub mod Shape
pub mod PutShapeLaws
