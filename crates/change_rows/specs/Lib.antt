-- The rows after a change: the row that it is about, that row as the change leaves it, the schema and the stores.
pub mod Edits
pub mod Lists
pub mod ListsLaws
pub mod Rows
pub mod RowsLaws
pub mod Stores
pub mod FormedLaws
pub mod FrontLaws
pub mod BytesLaws
