mod Common
pub mod Plain
pub mod Acted
pub mod Codes
pub mod Days
pub mod Instance
pub mod Nearest
pub mod Playing
pub mod Shifts
pub mod Turns
pub mod Slowly
pub mod Started
pub mod StartLaws
