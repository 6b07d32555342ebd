pub mod Copying
pub mod Gates
pub mod Telling
pub mod Texts
pub mod Walking
