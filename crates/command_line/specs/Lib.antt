pub mod Found
pub mod Reading
pub mod Serving
pub mod There
