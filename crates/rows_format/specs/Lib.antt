-- The formats of rows and changes: encodings of values, columns of fields, and the tables.
pub mod Entries
pub mod EntriesLaws
pub mod Encodings
pub mod EncodingsLaws
pub mod Columns
pub mod Formats
