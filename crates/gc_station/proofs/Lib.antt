mod Common
pub mod Acting
mod Always
mod Agreeing
mod Expecting
mod WhileBusy
mod AsText
pub mod Answers
pub mod Beginnings
pub mod Booking
mod ChainSteps
mod Chaining
mod Closings
mod Connected
mod Counts
pub mod Each
mod Interleaving
pub mod EachRun
pub mod Facts
mod InCycle
mod Faulty
pub mod Invariant
pub mod Following
mod Further
pub mod Givens
pub mod Going
mod Growing
pub mod Hearing
pub mod Lists
mod Losing
mod Making
pub mod Meant
pub mod Meets
pub mod Midway
mod ReplyLines
mod Mute
mod Noting
mod Opens
mod Outs
pub mod Parting
mod Pieces
mod Quiets
pub mod Readings
mod Records
mod Setups
mod Prepared
mod Silences
mod Since
mod TriesTaken
mod Tries
pub mod Turns
mod Used
mod Waiting
mod Walk
pub mod Freshness
mod Listed
mod Retrying
mod Needed
pub mod Words
pub mod Asked
pub mod SentAt
pub mod OnePart
pub mod PartFronts
pub mod Linking
mod OfKinds
pub mod DescribedRecords
mod Unread
pub mod Saying
mod Codes
mod Counting
mod Room
mod Row
mod Ticking
mod Timing
mod Tasked
mod Staying
mod Resting
mod Cycles
mod Periods
mod Dues
mod Grouped
mod Unsent
mod Pauses
mod Judging
mod Qualified
pub mod Nearly
pub mod Behind
mod NoneEnded
mod FirstReply
mod GoesBehind
pub mod SentWell
pub mod HoldingBack
mod HeldUp
mod Stopping
mod Unbroken
mod Outages
mod OnceAsked
mod Nulls
mod Recording
pub mod Requested
mod InFlight
mod LastCommand
mod CallTimes
mod BehindRaw
mod SettingUp
mod UnderWay
mod InTime
mod RealTime
mod SendsNoMore
mod OnceAskedInChain
mod TimedOutChain
mod OnceAskedOfTable
mod OnceAskedInTime
mod LastingByBound
mod Returning
mod BoundRuns
mod NoPeriodRun
mod Starts
pub mod Moments
mod Values
pub mod FirstActs
pub mod CountedIds
