pub mod Bytes
pub mod Gives
pub mod Graphic
pub mod Members
pub mod Padding
pub mod Texts
pub mod Uid
