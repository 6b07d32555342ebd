-- Texts and their order, which stand in octets.
pub use Rattle.octets.specs.Texts.{same, text_cmp, put, ascending}
