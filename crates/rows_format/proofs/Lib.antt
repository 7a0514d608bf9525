-- Laws that the proofs of the tables cite.
pub mod ColumnsLaws
pub mod FormatsLaws
pub mod ShortLaws
pub mod BytesLaws
