mod Common
pub mod Digits
pub mod Earliest
pub mod Ends
pub mod Expiry
pub mod Lists
pub mod Marks
pub mod OneForOne
pub mod Rounds
pub mod Settling
pub mod Silence
pub mod Begins
