mod Common
pub mod AnswerLaws
pub mod AskedRules
pub mod CallLaws
pub mod EachReply
pub mod Joining
pub mod Lengths
pub mod LineLaws
pub mod Plain
pub mod RawLines
pub mod RawRules
pub mod RawTests
pub mod ReadingLaws
pub mod RequestBytes
pub mod SameText
pub mod Table
