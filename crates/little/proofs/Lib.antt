-- The crate's laws and proofs, file by file.
pub mod AtEnd
pub mod Written
