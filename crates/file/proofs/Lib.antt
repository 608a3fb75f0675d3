-- The crate's laws and proofs, file by file.
pub mod Errors
pub mod Rows
pub mod Sums
