mod Common
pub mod Prelude
pub mod Checking
pub mod Drill
pub mod Laws
pub mod LogChecking
pub mod LogClients
pub mod Remarks
pub mod Reports
pub mod SceneDrill
pub mod SceneLines
pub mod SceneParts
pub mod SceneTroubles
pub mod Scenes
pub mod Schedule
pub mod Verdicts
