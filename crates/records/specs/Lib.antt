pub mod Laws
pub mod Kinds
pub mod Parts
pub mod StandIn
pub mod Strings
