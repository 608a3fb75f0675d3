-- The crate's definitions, file by file.
pub mod Row
