pub mod Digests
pub mod Fault
pub mod Header
pub mod Spelling
pub mod Reading
pub mod Writing
