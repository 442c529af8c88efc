pub mod NodeRuns
pub mod PlainRuns
