pub mod FoundLaws
pub mod NetworkLaws
