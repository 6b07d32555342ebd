pub mod Made
pub mod Lawful
pub mod Commanded
pub mod Worded
