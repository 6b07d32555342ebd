pub mod Fault
pub mod Hearing
pub mod inner
pub mod Output
pub mod Parts
pub mod Pieces
pub mod Port
