mod Common
pub mod Addresses
pub mod Clocking
pub mod Connecting
pub mod DeviceActs
pub mod DeviceMeaning
pub mod LinksMeant
pub mod Making
pub mod Meaning
pub mod Opening
pub mod Reading
pub mod Seeing
pub mod Sending
pub mod Taking
pub mod TcpMeaning
pub mod Waiting
