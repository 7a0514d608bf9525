-- The change calls, each as one definition of its answer and of the bytes that it leaves.
pub mod Made
pub mod MadeLaws
pub mod Judged
pub mod Plain
pub mod PlainLaws
pub mod DoneLaws
pub mod Quick
