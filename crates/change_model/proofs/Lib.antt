-- Laws that belong to no one function.
pub mod ConditionsLaws
pub mod AloneLaws
pub mod AgreeLaws
pub mod SameLaws
