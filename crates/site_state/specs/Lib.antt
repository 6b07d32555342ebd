pub mod Fault
pub mod Site
pub mod Union
pub mod Journal
pub mod Laws
pub mod Hidden
pub mod Whole
