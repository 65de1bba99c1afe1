mod Common
pub mod Cases
pub mod Steps
