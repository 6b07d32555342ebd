-- In an audit no title hides.
use Rattle.std.proofs.Common.{◌≡◌, ℕ, List, [], ◌∷◌, false, Option, Some, None, refl}
use Rattle.std.specs.List.{list_any}
use Rattle.rejection_note.specs.declared.note.Note.{Note}
use Rattle.operation.specs.Parts.{ContentParts}
use Rattle.archive_model.specs.declared.view.View.TheVariants.{Audit}
use Rattle.archive_model.specs.Contents.{contents}
use Rattle.archive_model.specs.Covered.{covers, is_hiding}
use Rattle.archive_model.specs.Laws.{AuditCoversNothing, AuditShowsPicks}
use Rattle.archive_model.proofs.ModelLaws.{shown_are_picks}

covers_none : (uid : List ℕ) (note : Option Note) → covers Audit uid note ≡ false
covers_none uid None = refl
covers_none uid (Some note) = refl

none_covers : (uid : List ℕ) (cs : List ContentParts) → list_any (λ c. covers Audit uid c.note) cs ≡ false
none_covers uid [] = refl
none_covers uid (c ∷ cs) = rw (covers_none uid c.note) (none_covers uid cs)

pub audit_covers_nothing : AuditCoversNothing
audit_covers_nothing ops uid = none_covers uid (contents ops)

hides_none : (note : Option Note) → is_hiding Audit note ≡ false
hides_none None = refl
hides_none (Some note) = refl

pub audit_shows_picks : AuditShowsPicks
audit_shows_picks ops c = (
  λ has. ((shown_are_picks Audit ops c).0 has).0,
  λ picked. (shown_are_picks Audit ops c).1 (picked, audit_covers_nothing ops c.instance, hides_none c.note),
)
