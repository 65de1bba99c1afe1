mod Common
pub mod Damaged
pub mod Eventful
pub mod Exchanges
pub mod Fields
pub mod Lasting
pub mod LastingSoFar
pub mod Left
pub mod Nights
pub mod Objects
pub mod OnLine
pub mod Programs
pub mod Rehearsals
pub mod Rows
pub mod RunMoments
pub mod SoFar
pub mod Tables
pub mod Witness
