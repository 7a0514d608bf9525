-- Laws that belong to no one function.
pub mod Past
pub mod Next
pub mod Visit
pub mod Gather
pub mod Rows
pub mod Chain
pub mod Warshall
pub mod Firsts
pub mod FreshLaws
pub mod ClosureLaws
pub mod UnreachedLaws
pub mod SameLaws
