pub mod Gates
pub mod Laying
pub mod Opening
pub mod Shutting
pub mod Texts
pub mod Walking
