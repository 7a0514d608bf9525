-- Laws that belong to no one function.
pub mod PaperSheetLaws
pub mod PaperListingLaws
pub mod QuickSetsLaws
pub mod Demand3Laws
pub mod PromisesLaws
