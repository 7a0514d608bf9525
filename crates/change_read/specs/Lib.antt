-- A change: what reading it comes to, and what it carries.
pub mod ChangeRead
pub mod Reading
pub mod Stopping
pub mod Carried
pub mod Written
pub mod ChangeLaws
pub mod AdditionLaws
pub mod WrittenLaws
pub mod CarriedLaws
pub mod TagLaws
pub mod StoppingLaws
