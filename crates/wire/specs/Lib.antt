-- Tagged fields: what reading one finds, the bytes of one, and the laws that join the two.
pub mod FieldRead
pub mod Wire
pub mod WireLaws
