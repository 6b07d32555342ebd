-- A log that was only looked at.
use Rattle.std.proofs.Common.{◌≡◌, ℕ, List, [], ◌∷◌, inl, inr, All, length, refl, ap, subst, sym, ◌∙◌, arith}
use Rattle.std.proofs.lemmas.List.Elements.{All-head, All-tail}
use Rattle.sqlite_disk.specs.declared.Disk.{Ghosts}
use Rattle.body_log.specs.Lasts.{Spares}
use Rattle.operation.specs.declared.op.Op.{Op}
use Rattle.op_log.specs.Heads.{Head, body_of}
use Rattle.op_log.specs.Kept.{IsBelow}
use Rattle.op_log.specs.Loaded.{IsOf}
use Rattle.op_log.specs.Log.{GoesOn, Looks, Opened}
use Rattle.op_shelf.specs.Keep.{AreSame}
use Rattle.shelved_site.specs.Keeping.{IsUp}
use Rattle.shelved_site.specs.declared.unreadable.Unreadable.{Unreadable}
use Rattle.shelved_site.specs.Readable.{AreParts, IsAny}
use Rattle.shelved_site.specs.Stores.{IsSame}
use Rattle.shelved_site.proofs.Logs.{same_of}

module _ {B : Type 0} (g : Ghosts B) (end : ℕ) (old new : B) (spared : Spares g end old new) where
  -- the data set of a head that lies below the end lies there still
  of_on : (h : Head) (op : Op) → IsBelow end h → IsOf (g.seen old) h op → IsOf (g.seen new) h op
  of_on h op below it = record {
    lawful = it.lawful;
    head = it.head;
    held = λ some.
        let size : h.size ≡ length (body_of op) = ap (λ (k : Head). k.size) it.head in
        spared.kept h.at (body_of op) (omega (arith, below, size)) (it.held some);
  }

  -- and so do all that are shown
  parts_on : (heads : List Head) (told : List Unreadable) (ops : List Op) → All (IsBelow end) heads
      → AreParts (IsOf (g.seen old)) IsAny heads told ops → AreParts (IsOf (g.seen new)) IsAny heads told ops
  parts_on [] told ops below parts = parts
  parts_on (h ∷ heads) told ops below (inl (op, more, is, it, rest)) =
      inl (
        op,
        more,
        is,
        of_on h op (All-head (IsBelow end) h heads below) it,
        parts_on heads told more (All-tail (IsBelow end) h heads below) rest,
      )
  parts_on (h ∷ heads) told ops below (inr (more, is, any, rest)) =
      inr (more, is, any, parts_on heads more ops (All-tail (IsBelow end) h heads below) rest)

-- what was only looked at is the same
pub looked : {H B : Type 0} (gh : Ghosts H) (gb : Ghosts B) (old new : Opened H B) → GoesOn gh gb old new → IsUp gh gb new
    → Looks old new → IsSame gb old new
looked gh gb old new goes up looks = record {
  looks = looks;
  holds = same_of gh gb old new goes up looks.places;
  shows = λ told ops shown.
      subst (λ (heads : List Head). AreParts (IsOf (gb.seen new.bodies)) IsAny heads told ops) (sym looks.places)
      (parts_on gb old.bodies_end old.bodies new.bodies goes.spared old.places told ops goes.before.below shown);
}

-- what was not looked at is the same
pub same_self : {H B : Type 0} (g : Ghosts B) (log : Opened H B) → IsSame g log log
same_self g log = record {
  looks = record { heads = refl; heads_end = refl; places = refl; opens = refl };
  holds = λ op. (λ held. held, λ held. held);
  shows = λ told ops shown. shown;
}

-- what was looked at twice was only looked at
pub looks_twice : {H B : Type 0} (one two three : Opened H B) → Looks one two → Looks two three → Looks one three
looks_twice one two three first next = record {
  heads = next.heads ∙ first.heads;
  heads_end = next.heads_end ∙ first.heads_end;
  places = next.places ∙ first.places;
  opens = next.opens ∙ first.opens;
}

-- and what was the same twice is the same
pub same_twice : {H B : Type 0} (g : Ghosts B) (one two three : Opened H B) → IsSame g one two → IsSame g two three
    → IsSame g one three
same_twice g one two three first next = record {
  looks = looks_twice one two three first.looks next.looks;
  holds = λ op. (
    λ held. (next.holds op).0 ((first.holds op).0 held),
    λ held. (first.holds op).1 ((next.holds op).1 held),
  );
  shows = λ told ops shown. next.shows told ops (first.shows told ops shown);
}

pub has_twice : (one two three : Op → Type 0) → AreSame one two → AreSame two three → AreSame one three
has_twice one two three first next op = (
  λ held. (next op).0 ((first op).0 held),
  λ held. (first op).1 ((next op).1 held),
)
