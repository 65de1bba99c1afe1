mod Common
pub mod Prelude
pub mod Angles
pub mod Appending
pub mod Bounds
pub mod Choices
pub mod Labels
pub mod Logging
pub mod Measuring
pub mod Noted
pub mod Recording
pub mod Stops
pub mod TaskTexts
pub mod Telling
pub mod Texts
pub mod ValueCounts
pub mod Wanted
