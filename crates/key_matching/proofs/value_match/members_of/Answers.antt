use Rattle.std.proofs.Common.{◌++◌, ◌∷◌, [], List, ℕ, map, take, ap, sym, ◌∙◌, append_assoc}
use Rattle.octets.specs.Padding.{trimmed}
use Rattle.key_matching.specs.Matches.{parts}
use Rattle.key_matching.proofs.Parts.{parts_none, parts_some}
use Rattle.key_matching.proofs.value_match.members_of.Goals as goal

-- The last member is what is left.
pub returns-in-None : goal.returns-in-None
returns-in-None c =
    c.in_ok-add_member-in-None.ensures
    ∙ ap (λ (ps : List (List ℕ)). c.loop-members.members.items ++ map trimmed ps)
    (sym (parts_none c.loop-members.rest.now (sym c.in-None.ensures.place)))
    ∙ c.loop-members.invariant

-- The member at the front goes to the others.
pub loop-members-preserved : goal.loop-members-preserved
loop-members-preserved c =
    let held = c.loop-members.members.items in
    let rest = c.loop-members.rest.now in
    let left = c.after-rest.result.now in
    ap (λ (ms : List (List ℕ)). ms ++ map trimmed (parts left)) c.in_ok-add_member-in-Some.ensures
    ∙ append_assoc held (trimmed c.front.result.now ∷ []) (map trimmed (parts left))
    ∙ ap (λ (t : List ℕ). held ++ (trimmed t ∷ map trimmed (parts left))) c.front.ensures
    ∙ ap (λ (r : List ℕ). held ++ (trimmed (take c.in-Some.at rest) ∷ map trimmed (parts r))) c.after-rest.ensures
    ∙ ap (λ (ps : List (List ℕ)). held ++ map trimmed ps)
    (sym (parts_some rest c.in-Some.at (sym c.in-Some.ensures.place)))
    ∙ c.loop-members.invariant
