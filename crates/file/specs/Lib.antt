-- The crate's definitions, file by file.
pub mod Errors
pub mod Layout
pub mod Rows
