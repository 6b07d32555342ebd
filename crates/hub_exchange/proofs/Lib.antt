pub mod Gains
pub mod HolderLaws
mod Lines
pub mod OnwardLaws
pub mod PuttingLaws
mod Steps
