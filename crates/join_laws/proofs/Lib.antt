pub mod Backwards
pub mod Folds
pub mod Puts
pub mod Undone
pub mod Unions
pub mod Journals
