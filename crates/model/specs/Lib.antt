-- The crate's definitions, file by file.
pub mod Limits
pub mod File
pub mod Codes
pub mod Marks
pub mod Queue
pub mod Plan
pub mod Run
pub mod Report
pub mod Outcome
pub mod RaceAnswer
pub mod PairFile
pub mod PairCodes
pub mod PairOutcome
pub mod PairWorked
pub mod Worked
pub mod computed
