pub mod CharacterLaws
pub mod EscapingLaws
pub mod HostLaws
pub mod PathLaws
