-- Members of lists, which stand in octets.
pub use Rattle.octets.specs.Members.{Has, SameMembers}
