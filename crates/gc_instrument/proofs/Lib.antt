mod Common
pub mod Answering
pub mod Executions
pub mod HeardFrames
pub mod Keeping
pub mod Silence
pub mod Turns
