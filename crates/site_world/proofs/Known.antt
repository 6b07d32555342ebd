-- To add what is held changes nothing.
use Rattle.std.proofs.Common.{◌≡◌, ℕ, List, Some, Bool, true, false, cond, refl, sym, ap, ◌∙◌}
use Rattle.std.specs.BTreeMap.{is_at}
use Rattle.std.specs.Cmp.Lexicographic.{nat_list_cmp_total}
use Rattle.std.specs.FinMap.{get, get-insert}
use Rattle.operation.specs.declared.op.Op.{Op}
use Rattle.operation.specs.Spelling.{digest_of}
use Rattle.site_state.specs.Site.{digest_cmp, Map, with_op, held_at}
use Rattle.site_state.proofs.Maps.{same_sites, tied}

here_again : (m : Map) (o : Op) (d : List ℕ) (b : Bool) → is_at (digest_cmp d) (digest_of o) ≡ b →
    held_at m (digest_of o) ≡ Some o → cond b (Some o) (get m d) ≡ get m d
here_again m o d true is held = sym held ∙ ap (get m) (sym (tied d (digest_of o) is))
here_again m o d false is held = refl

pub known_again : (m : Map) (o : Op) → held_at m (digest_of o) ≡ Some o → with_op m o ≡ m
known_again m o held = same_sites _ _ (λ d. get-insert nat_list_cmp_total m (digest_of o) o d
    ∙ here_again m o d _ refl held)
