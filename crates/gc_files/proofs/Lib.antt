mod Common
pub mod Whole
pub mod Moments
pub mod Lasting
pub mod Adding
pub mod Looking
pub mod Remembering
pub mod Killing
pub mod Failing
pub mod Needing
pub mod Feeds
pub mod Pieces
pub mod Staying
pub mod InTurn
