pub mod Prelude
pub mod Chosen
pub mod Limits
pub mod Options
pub mod Stations
pub mod Tables
pub mod Units
pub mod Words
