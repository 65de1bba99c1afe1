mod Common
pub mod Prelude
pub mod Lines
pub mod Exchange
pub mod Choices
pub mod Sessions
pub mod Events
pub mod Calls
pub mod Courses
pub mod Laws
pub mod Witness
