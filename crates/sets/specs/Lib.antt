-- Sets of small numbers as bit strings: the definitions, and their laws, each for any size.
pub mod Sets
pub mod SetsLaws
pub mod SideLaws
pub mod CountLaws
pub mod ListLaws
