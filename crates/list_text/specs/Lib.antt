-- The listing of the classes as text, and what the counts in it are.
pub mod Text
pub mod Listing
pub mod TextLaws
pub mod CountsLaws
