-- What holds of a log through a put.
use Rattle.std.proofs.Common.{◌≡◌, ◌&&◌, ℕ, List, ◌≤◌, Bool, true, false, inl, All, IsTrue}
use Rattle.std.proofs.Common.{refl, subst, arith}
use Rattle.std.proofs.lemmas.List.Elements.{All-same}
use Rattle.sqlite_disk.specs.declared.Disk.{Ghosts}
use Rattle.body_log.specs.declared.log.BodyLog.{BodyLog}
use Rattle.body_log.specs.Log.{disk_of, end_of}
use Rattle.head_log.specs.declared.gate.Gate.{Gate}
use Rattle.head_log.specs.declared.log.HeadLog.{HeadLog}
use Rattle.head_log.specs.Log.{is_up}
use Rattle.head_log.specs.Log.{disk_of as heads_of, gate_of as heads_end}
use Rattle.op_log.specs.Heads.{Head}
use Rattle.op_log.specs.Kept.{IsBelow, IsKept}
use Rattle.op_log.specs.Log.{GoesOn, IsSound, Opened, opened}
use Rattle.op_log.specs.Puts.{LeavesAllOrNone}
use Rattle.op_log.specs.Staged.{Grows}
use Rattle.operation.specs.declared.op.Op.{Op}
use Rattle.op_log.proofs.Growing.{below_on, reaches_on}

-- nothing was done
pub goes_nowhere : {H B : Type 0} (gh : Ghosts H) (gb : Ghosts B) (log : Opened H B) → IsSound gh gb log
    → GoesOn gh gb log log
goes_nowhere gh gb log sound =
    record {
      before = sound;
      after = sound;
      opens = λ h. h;
      clean = λ h. h;
      spared = record {
        kept = λ at bytes low h. h;
        left = λ c may. (c, may, λ at bytes low h. h);
        clean = λ h. h;
        longer = omega arith;
      };
      longer = omega arith;
    }

-- and a crash leaves the heads that are there
pub leaves_none : {H B : Type 0} (gh : Ghosts H) (gb : Ghosts B) (heads : H) (heads_end : Gate) (bodies : B) (end : ℕ)
    (old : List Head) (ops : List Op) → IsKept gh heads heads_end old → LeavesAllOrNone gh gb heads bodies end old ops
leaves_none gh gb heads heads_end bodies end old ops kept h b left may = inl (
    record { groups = kept.groups; are = kept.are; laid = inl (heads_end, kept.ready h left); spelled = kept.spelled }
    )

-- heads that are those from before lie below the end, which rose
pub still_below : {B : Type 0} (a b : BodyLog B) (old kept : List Head) → kept ≡ old → end_of a ≤ end_of b → All
    (IsBelow (end_of a)) old
    → All (IsBelow (end_of b)) kept
still_below a b old kept same longer low =
    All-same (IsBelow (end_of b)) kept old same (below_on (end_of a) (end_of b) old longer low)

-- a put goes on with a log
module _ {H B : Type 0} (gh : Ghosts H) (gb : Ghosts B) (h k : HeadLog H) (a b : BodyLog B) (old new : List Head) where
  pub sound_on : IsSound gh gb (opened gh gb h a old) → IsTrue (is_up gh h && gb.is_usable (disk_of a)) → Grows gb a b
      → (All (IsBelow (end_of a)) old → All (IsBelow (end_of b)) new)
      → (IsTrue (is_up gh k) → IsKept gh (heads_of h) (heads_end h) old → IsKept gh (heads_of k) (heads_end k) new)
      → (IsTrue (gh.is_clean (heads_of k)) → IsTrue (gh.is_clean (heads_of h))) → IsSound gh gb (opened gh gb k b new)
  sound_on sound was grows below kept clean =
      record {
        below = below sound.below;
        reach = reaches_on gb a b grows sound.reach;
        kept = λ now opens. kept (first (is_up gh k) (gb.is_usable (disk_of b)) opens) (sound.kept (clean now) was);
      }
    where
      first : (x y : Bool) → IsTrue (x && y) → IsTrue x
      first true y both = refl
      first false y both = absurd cc

  pub goes_on : IsSound gh gb (opened gh gb h a old) → IsTrue (is_up gh h && gb.is_usable (disk_of a)) → Grows gb a b
      → (IsTrue (gh.is_clean (heads_of k)) → IsTrue (gh.is_clean (heads_of h))) → IsSound gh gb (opened gh gb k b new)
      → GoesOn gh gb (opened gh gb h a old) (opened gh gb k b new)
  goes_on sound was grows clean after =
      record {
        before = sound;
        after = after;
        opens = λ _. was;
        clean = clean;
        spared = grows.spared;
        longer = grows.longer;
      }

-- a read goes on with a log
module _ {H B : Type 0} (gh : Ghosts H) (gb : Ghosts B) (h : HeadLog H) (a b : BodyLog B) (old : List Head) where
  pub sound_read : IsSound gh gb (opened gh gb h a old) → Grows gb a b → gb.is_usable (disk_of b) ≡ gb.is_usable
      (disk_of a)
      → IsSound gh gb (opened gh gb h b old)
  sound_read sound grows usable =
      record {
        below = below_on (end_of a) (end_of b) old grows.longer sound.below;
        reach = reaches_on gb a b grows sound.reach;
        kept = λ clean opens. sound.kept clean (subst (λ (u : Bool). IsTrue (is_up gh h && u)) usable opens);
      }

  pub goes_reading : IsSound gh gb (opened gh gb h a old) → Grows gb a b → gb.is_usable (disk_of b) ≡ gb.is_usable
      (disk_of a)
      → GoesOn gh gb (opened gh gb h a old) (opened gh gb h b old)
  goes_reading sound grows usable =
      record {
        before = sound;
        after = sound_read sound grows usable;
        opens = λ opens. subst (λ (u : Bool). IsTrue (is_up gh h && u)) usable opens;
        clean = λ now. now;
        spared = grows.spared;
        longer = grows.longer;
      }
