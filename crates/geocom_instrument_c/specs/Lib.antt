pub mod Bench
pub mod Feeding
pub mod Setting
