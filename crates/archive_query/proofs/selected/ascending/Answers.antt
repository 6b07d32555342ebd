use Rattle.std.proofs.Common.{List, ℕ, ap, sym, ◌∙◌}
use Rattle.std.proofs.lemmas.List.Sorted.{list_any-IsPermutation}
use Rattle.archive_model.specs.Texts.{same}
use Rattle.archive_model.specs.Covered.{is_among}
use Rattle.archive_query.proofs.AmongLaws.{any-map}
use Rattle.archive_query.proofs.selected.ascending.Goals as goal

-- Sorting keeps the members.
pub returns-clause-members : goal.returns-clause-members
returns-clause-members c = λ uid.
    sym (any-map c.sort.new.self.items uid)
    ∙ sym (list_any-IsPermutation (λ u. same u.now uid) c.in_ok-found.found.items c.sort.new.self.items
    c.in_ok-sort.ensures.permutation)
    ∙ any-map c.in_ok-found.found.items uid
    ∙ ap (λ (uids : List (List ℕ)). is_among uids uid) c.in_ok-found.ensures
