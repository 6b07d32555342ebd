pub mod Adding
pub mod Fronts
pub mod Histories
pub mod Laters
pub mod Stamping
pub mod Takings
