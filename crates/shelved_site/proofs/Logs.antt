-- What a call of a log makes of the operations that it keeps.
use Rattle.std.proofs.Common.{◌≡◌, ◌↔◌, ℕ, List, ◌++◌, All, IsTrue, map, refl, sym, ◌∙◌, ap, subst, arith}
use Rattle.std.proofs.lemmas.List.Elements.{All-weaker}
use Rattle.sqlite_disk.specs.declared.Disk.{Ghosts}
use Rattle.body_log.proofs.Holding.{lasting}
use Rattle.operation.specs.declared.op.Op.{Op}
use Rattle.operation.specs.Spelling.{hash_of}
use Rattle.op_log.specs.declared.kept.Kept.{Kept as Told}
use Rattle.op_log.specs.Heads.{Entry, Head, body_of, head_of}
use Rattle.op_log.specs.Kept.{Has, IsHeld, IsLasting, StandsFor, first_under}
use Rattle.op_log.specs.Log.{GoesOn, Opened}
use Rattle.op_log.specs.Puts.{PutsAll}
use Rattle.op_log.proofs.Keeping.{stands}
use Rattle.op_log.proofs.Lookups.{still_first}
use Rattle.op_log.proofs.Mending.{keeps_all}
use Rattle.op_shelf.specs.Keep.{AreSame, GainsAll}
use Rattle.shelved_site.specs.Keeping.{Holds, IsUp, Lasts}
use Rattle.shelved_site.specs.Telling.{kept_of}
use Rattle.shelved_site.proofs.Holding.{has_back, held_on}
use Rattle.shelved_site.proofs.Keeps.{Have, gains_in, puts_had}

module _ {H B : Type 0} (gh : Ghosts H) (gb : Ghosts B) (old new : Opened H B) (goes : GoesOn gh gb old new) (up : IsUp gh gb new) where
  was_clean : IsTrue (gb.is_clean old.bodies)
  was_clean = goes.spared.clean up.bodies

  -- it was up
  pub was_up : IsUp gh gb old
  was_up = record { heads = goes.clean up.heads; bodies = was_clean; opens = goes.opens up.opens }

  -- under the heads from before the operations from before are had, and no others
  pub as_before : (other : Op) → Holds gb old other ↔ Have gb new.bodies new.bodies_end old.places other
  as_before other = (
    λ held. let (op, has, alike) = held in
        let (at, first, lies) = has in
        (op, (at, first, held_on gb old.bodies new.bodies old.bodies_end new.bodies_end goes.spared goes.longer (op, at) lies), alike),
    λ have. let (op, has, alike) = have in (
      op,
      has_back gb old.bodies new.bodies old.bodies_end new.bodies_end goes.spared goes.longer old.places op
          (goes.before.reach was_clean) goes.before.below has,
      alike,
    ),
  )

  -- the same heads keep the same operations
  pub same_of : new.places ≡ old.places → AreSame (Holds gb old) (Holds gb new)
  same_of same other = (
    λ held. subst (λ (hs : List Head). Have gb new.bodies new.bodies_end hs other) (sym same) ((as_before other).0 held),
    λ have. (as_before other).1 (subst (λ (hs : List Head). Have gb new.bodies new.bodies_end hs other) same have),
  )

  -- what is put is gained
  pub gains_all : (ops : List Op) (kepts : List Told) → PutsAll gb new.bodies new.bodies_end old.places ops kepts new.places
      → GainsAll (Holds gb old) (Holds gb new) ops (map kept_of kepts)
  gains_all ops kepts put = gains_in gb new.bodies new.bodies_end (Holds gb old) old.places new.places ops kepts up.bodies as_before put

  heads_are : (h : List ℕ) → gh.may_leave new.heads h → StandsFor h new.places
  heads_are h may = stands gh new.heads new.heads_end new.places h (goes.after.kept up.heads up.opens) may

  -- and lasts
  pub all_last : (ops : List Op) (kepts : List Told) → PutsAll gb new.bodies new.bodies_end old.places ops kepts new.places
      → ((e : Entry) → IsHeld gb new.bodies new.bodies_end e → IsLasting gb new.bodies new.bodies_end e) → All (Lasts gh gb new) ops
  all_last ops kepts put last =
      All-weaker (Has gb new.bodies new.bodies_end new.places) (Lasts gh gb new)
      (λ op has. record {
        op = op;
        at = has.0;
        first = has.1;
        alike = refl;
        lasting = last (op, has.0) has.2;
        heads_are = heads_are;
      }) ops (puts_had gb new.bodies new.bodies_end old.places new.places ops kepts up.bodies put)

  -- what lasted goes on to, behind a group
  pub lasts_behind : (ops : List Op) (kepts : List Told) → PutsAll gb new.bodies new.bodies_end old.places ops kepts new.places
      → ((e : Entry) → IsHeld gb new.bodies new.bodies_end e → IsLasting gb new.bodies new.bodies_end e) → (other : Op) → Lasts gh gb old other
      → Lasts gh gb new other
  lasts_behind ops kepts put last other was =
      let held = held_on gb old.bodies new.bodies old.bodies_end new.bodies_end goes.spared goes.longer (was.op, was.at)
      (λ some. ((was.lasting some).0.held, (was.lasting some).1)) in
      let has = keeps_all gb new.bodies new.bodies_end was.op ops kepts old.places new.places up.bodies (was.at, was.first, held) put in
      record {
        op = was.op;
        at = has.0;
        first = has.1;
        alike = was.alike;
        lasting = last (was.op, has.0) has.2;
        heads_are = heads_are;
      }

  -- and where heads are left as they were
  pub lasts_on : (more : List Head) → new.places ≡ old.places ++ more → (other : Op) → Lasts gh gb old other → Lasts gh gb new other
  lasts_on more is other was =
      record {
        op = was.op;
        at = was.at;
        first = ap (λ (hs : List Head). first_under (hash_of was.op) hs) is
            ∙ still_first old.places more (hash_of was.op) (head_of (was.op, was.at)) was.first;
        alike = was.alike;
        lasting = λ some.
            let it = was.lasting some in
            (lasting gb old.bodies_end old.bodies new.bodies goes.spared was.at (body_of was.op) it.1 it.0, omega (arith, it.1, goes.longer));
        heads_are = heads_are;
      }
