-- What holds through a write behind it, and what is read where it holds.
use Rattle.std.proofs.Common.{◌+◌, ◌≤◌, ℕ, List, length, sym, ◌∙◌, arith}
use Rattle.std.proofs.lemmas.List.{ext_get_or}
use Rattle.sqlite_disk.specs.Disk.{Holds, Torn}
use Rattle.sqlite_disk.specs.declared.Disk.{Ghosts}
use Rattle.body_log.specs.Lasts.{IsExact, Lasts, Spares}

-- a write at an offset leaves what lies below it
pub past : (old new : List ℕ) (end n at : ℕ) (bytes : List ℕ) → at + length bytes ≤ end → Torn end n old new
    → Holds old at bytes → Holds new at bytes
past old new end n at bytes low torn h =
    record {
      within = omega (arith, h.within, torn.no_shorter);
      each = λ i few. torn.below (at + i) (omega (arith, h.within)) (omega arith) ∙ h.each i few;
    }

-- bytes that the file has at an offset are all that it has there
pub exact : (file read : List ℕ) (at : ℕ) → Holds file at read → IsExact file at read
exact file read at h bytes same held =
    ext_get_or 0 _ _ (sym same) λ i low. sym (h.each i low) ∙ held.each i (omega arith)

-- what every crash left, every crash leaves after a call that spares it
pub lasting : {D : Type 0} (g : Ghosts D) (end : ℕ) (old new : D) → Spares g end old new → (at : ℕ) (bytes : List ℕ)
    → at + length bytes ≤ end → Lasts g old at bytes → Lasts g new at bytes
lasting g end old new spared at bytes low it =
    record {
      held = spared.kept at bytes low it.held;
      left = λ c may. let (d, was, keeps) = spared.left c may in keeps at bytes low (it.left d was);
    }
