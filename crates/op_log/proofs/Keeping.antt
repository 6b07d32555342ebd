-- What a file of heads keeps through a group that is added.
use Rattle.std.proofs.Common.{◌≡◌, inl, inr, ℕ, List, [], ◌∷◌, ◌++◌, length, map, All, refl, sym, ◌∙◌, ap, subst, arith}
use Rattle.std.proofs.lemmas.List.{map-append, nil_from_length}
use Rattle.std.proofs.lemmas.List.Elements.{All-append}
use Rattle.std.proofs.Common.{Result, Ok, Err, OnErr, OnOk}
use Rattle.sqlite_disk.specs.declared.Disk.{Ghosts}
use Rattle.head_log.specs.declared.gate.Gate.{Gate}
use Rattle.head_log.specs.Groups.{IsReady, joined}
use Rattle.head_log.specs.Groups.{LeavesEither as LeavesGroups, StandsFor as HasGroups}
use Rattle.head_log.proofs.Laying.{joined_more}
use Rattle.op_log.specs.Heads.{Head, IsSpelled, group_text}
use Rattle.op_log.specs.Kept.{IsKept, StandsFor, settled, with_heads}
use Rattle.op_log.specs.Puts.{LeavesEither}
use Rattle.op_log.specs.Staged.{HasHeads}
use Rattle.op_log.proofs.Fitting.{some_head}
use Rattle.op_log.proofs.Settling.{with_joined}

-- a text of no byte is that of no head
pub no_heads : (heads : List Head) → group_text heads ≡ [] → heads ≡ []
no_heads [] is = refl
no_heads (h ∷ heads) is =
    let some = some_head h (group_text heads) in
    let none = ap length is in
    absurd (omega (arith, some, none))

pub same_heads : (old new : List Head) (text : List ℕ) → HasHeads old new [] text → length text ≡ 0 → new ≡ old
same_heads old new text it none =
    let empty = no_heads it.heads (nil_from_length (group_text it.heads) (ap length (sym it.text_is) ∙ none)) in
    it.new_is ∙ ap (λ (hs : List Head). with_heads old hs) empty

-- the groups with one more, as texts
pub texts_more : (groups : List (List Head)) (heads : List Head) (text : List ℕ) → text ≡ group_text heads
    → map group_text groups ++ text ∷ [] ≡ map group_text (groups ++ heads ∷ [])
texts_more groups heads text is =
    ap (λ (t : List ℕ). map group_text groups ++ t ∷ []) is ∙ sym (map-append group_text groups (heads ∷ []))

-- what the groups with one more come to
settled_more : (groups : List (List Head)) (old new heads : List Head) → settled (joined groups) ≡ old → new ≡ with_heads old heads
    → settled (joined (groups ++ heads ∷ [])) ≡ new
settled_more groups old new heads are is =
    ap settled (joined_more groups heads) ∙ with_joined [] (joined groups) heads ∙ ap (λ (hs : List Head). with_heads hs heads) are ∙ sym is

-- and they are spelled
spelled_more : (groups : List (List Head)) (heads : List Head) → All IsSpelled (joined groups) → All IsSpelled heads
    → All IsSpelled (joined (groups ++ heads ∷ []))
spelled_more groups heads all more =
    subst (λ (hs : List Head). All IsSpelled hs) (sym (joined_more groups heads)) (All-append IsSpelled (joined groups) heads all more)

module _ {H : Type 0} (g : Ghosts H) where
  -- a file that is kept stays so where nothing more is in memory
  pub kept_same : (disk : H) (end : Gate) (old new : List Head) → new ≡ old → IsKept g disk end old → IsKept g disk end new
  kept_same disk end old new same kept = subst (λ (hs : List Head). IsKept g disk end hs) (sym same) kept

  -- and once a group is there, it is kept
  pub kept_more : (disk disk' : H) (end end' : Gate) (old new : List Head) (text : List ℕ) → HasHeads old new [] text
      → ((groups : List (List ℕ)) → IsReady g disk end groups → IsReady g disk' end' (groups ++ text ∷ []))
      → IsKept g disk end old → IsKept g disk' end' new
  kept_more disk disk' end end' old new text it ready kept =
      record {
        groups = kept.groups ++ it.heads ∷ [];
        are = settled_more kept.groups old new it.heads kept.are it.new_is;
        ready = subst (λ (gs : List (List ℕ)). IsReady g disk' end' gs) (texts_more kept.groups it.heads text it.text_is)
            (ready (map group_text kept.groups) kept.ready);
        spelled = spelled_more kept.groups it.heads kept.spelled it.spelled;
      }

  -- a refusal that leaves the file open leaves it so
  pub kept_on : (disk disk' : H) (end end' : Gate) (heads : List Head)
      → ((groups : List (List ℕ)) → IsReady g disk end groups → IsReady g disk' end' groups) → IsKept g disk end heads → IsKept g disk' end' heads
  kept_on disk disk' end end' heads ready kept =
      record { groups = kept.groups; are = kept.are; ready = ready (map group_text kept.groups) kept.ready; spelled = kept.spelled }

  -- a crash leaves what is kept
  pub stands : (disk : H) (end : Gate) (heads : List Head) (c : List ℕ) → IsKept g disk end heads → g.may_leave disk c → StandsFor c heads
  stands disk end heads c kept may =
      record { groups = kept.groups; are = kept.are; laid = inl (end, kept.ready c may); spelled = kept.spelled }

  -- or it with a group
  pub leaves_either : (disk disk' : H) (end : Gate) (old new : List Head) (text : List ℕ) → HasHeads old new [] text
      → ((groups : List (List ℕ)) → IsReady g disk end groups → LeavesGroups g disk' groups text)
      → IsKept g disk end old → LeavesEither g disk' old new
  leaves_either disk disk' end old new text it leaves kept c may =
      elim (leaves (map group_text kept.groups) kept.ready c may) [
        | inl without ↦ inl (record { groups = kept.groups; are = kept.are; laid = without; spelled = kept.spelled })
        | inr with ↦ inr (
            record {
              groups = kept.groups ++ it.heads ∷ [];
              are = settled_more kept.groups old new it.heads kept.are it.new_is;
              laid = subst (λ (gs : List (List ℕ)). HasGroups c gs) (texts_more kept.groups it.heads text it.text_is) with;
              spelled = spelled_more kept.groups it.heads kept.spelled it.spelled;
            }
            )
      ]

-- what holds anyway holds on a refusal
pub on_err : {T E P : Type 0} (r : Result T E) → P → OnErr r P
on_err (Ok x) p = tt
on_err (Err e) p = p

pub on_ok : {T E P : Type 0} (r : Result T E) → P → OnOk r P
on_ok (Ok x) p = p
on_ok (Err e) p = tt
