-- The machine over the code's own structs, for the private functions' contracts: no promise rests on it.
pub mod Who
pub mod Marks
pub mod Orders
pub mod State
pub mod Reads
pub mod Moves
pub mod Refusal
pub mod Run
pub mod Report
