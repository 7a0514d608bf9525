-- Reading a whole sheet: the rows that it gives, or where it stops.
pub mod SheetRead
pub mod SheetTag
pub mod Room
pub mod Turn
pub mod Reading
pub mod Stopping
pub mod Held
pub mod ReadingLaws
