pub mod LoadSaved
pub mod ThresholdsFit
