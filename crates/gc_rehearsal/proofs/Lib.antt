mod Common
mod Asked
mod Explaining
pub mod Happened
mod Leading
mod Matching
pub mod Queued
mod Running
mod ShareForms
