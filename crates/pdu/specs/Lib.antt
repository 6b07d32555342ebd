pub mod Fault
pub mod Grammar
pub mod Header
pub mod Reading
pub mod Spelling
