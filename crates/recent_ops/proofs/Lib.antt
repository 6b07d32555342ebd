pub mod Answering
pub mod Fitting
pub mod Lookups
