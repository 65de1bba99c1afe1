mod Common
pub mod Prelude
pub mod Asked
pub mod Drills
pub mod Jobs
pub mod Program
pub mod Programs
pub mod Refusing
pub mod Rules
pub mod Scenes
pub mod Served
pub mod Serves
pub mod Staging
pub mod Stations
pub mod Subcommands
