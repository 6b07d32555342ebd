pub mod FieldLaws
pub mod ListingLaws
pub mod LookLaws
pub mod ServedLaws
