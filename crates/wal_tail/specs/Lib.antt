pub mod Header
pub mod Tail
