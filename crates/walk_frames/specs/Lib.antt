pub mod Nodes
pub mod Entries
pub mod Walks
pub mod Spelling
pub mod Reading
