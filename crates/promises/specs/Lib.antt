-- The crate's definitions, file by file.
pub mod Batches
pub mod Flows
pub mod Strong
pub mod Pair
pub mod Call
pub mod PairCall
pub mod Coherence
pub mod Same
pub mod Written
pub mod Weak
pub mod Shortfall
pub mod RaceOnly
pub mod Alone
pub mod WeakPair
pub mod Across
