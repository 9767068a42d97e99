pub mod OfCalls
pub mod OfRuns
