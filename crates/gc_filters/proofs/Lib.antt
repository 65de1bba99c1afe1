mod Common
mod Checked
mod Forms
mod InThree
mod LogVerdicts
mod OneSchedule
mod OneVerdict
mod Percents
pub mod RuleForms
mod SceneFields
mod SceneWords
mod Scenes
mod Shown
