mod Common
pub mod Behind
mod Brings
mod Calls
pub mod Choosing
pub mod Courses
mod Drains
pub mod InTable
pub mod Lawful
mod Nexts
mod Places
mod Repeats
pub mod Stretches
mod Waits
pub mod Walk
