mod Common
pub mod Prelude
pub mod Asking
pub mod AskRuns
pub mod Keeping
pub mod Listening
pub mod Laws
pub mod Links
pub mod Looping
pub mod Places
pub mod Serving
pub mod Showing
