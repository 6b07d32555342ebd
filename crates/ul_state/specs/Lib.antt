pub mod Acceptor
pub mod Admission
pub mod Answer
pub mod Decision
pub mod Table
pub mod Titles
