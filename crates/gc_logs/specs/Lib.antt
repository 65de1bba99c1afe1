mod Common
pub mod Prelude
pub mod Coding
pub mod Disk
pub mod Ends
pub mod Files
pub mod Following
pub mod Logging
pub mod Refusals
pub mod Repairs
pub mod Sinks
pub mod Statuses
pub mod Streams
pub mod Transcripts
pub mod Ways
