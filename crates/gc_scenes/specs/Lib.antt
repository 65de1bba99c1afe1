mod Common
pub mod Prelude
pub mod Params
pub mod Shifting
pub mod ShiftedFacts
pub mod Ways
pub mod Clocks
pub mod Rules
pub mod Acting
pub mod SceneState
pub mod SceneExecution
pub mod SceneReplying
pub mod SceneServing
pub mod Seen
pub mod Appending
pub mod Starting
pub mod Laws
pub mod Slow
