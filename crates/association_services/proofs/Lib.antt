pub mod DataLaws
pub mod GetLaws
pub mod OnceLaws
pub mod ResponseLaws
pub mod ServiceLaws
pub mod StatusLaws
pub mod UidLaws
pub mod WayLaws
