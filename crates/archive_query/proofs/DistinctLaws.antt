-- In their order, each once, texts have the same members.
use Rattle.std.proofs.Common.{◌≡◌, ℕ, Bool, List}
use Rattle.std.specs.List.{list_any}
use Rattle.std.specs.Cmp.{both_ways as one_truth}
use Rattle.octets.specs.Texts.{ascending}
use Rattle.octets.proofs.TextLemmas.{in_ascending, ascending_holds}
use Rattle.archive_model.proofs.MemberLaws.{has_any, any_has}

pub any_ascending : (p : List ℕ → Bool) (xs : List (List ℕ)) → list_any p (ascending xs) ≡ list_any p xs
any_ascending p xs = one_truth (list_any p (ascending xs)) (list_any p xs)
    (λ e. let at = any_has p (ascending xs) e in has_any p xs at.0 (ascending_holds at.0 xs at.1) at.2)
    (λ e. let at = any_has p xs e in has_any p (ascending xs) at.0 (in_ascending at.0 xs at.1) at.2)
