-- What a change comes to, from rows alone.
pub mod Model
pub mod ModelLaws
pub mod Conditions
pub mod EditedLaws
pub mod Sound
pub mod ThereLaws
pub mod QuickLaws
