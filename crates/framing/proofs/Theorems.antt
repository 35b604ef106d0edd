pub mod OpeningGrammar
pub mod FrameAlone
pub mod FirstBytes
pub mod Waiting
