mod Common
pub mod Leaving
mod LogCuts
mod LogLines
mod OnDisk
mod ServedEnds
mod Ways
