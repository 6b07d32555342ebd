-- Groups that are added.
use Rattle.std.proofs.Common.{◌≡◌, ◌+◌, ◌<◌, inl, inr, ℕ, List, [], ◌∷◌, ◌++◌, length, map, take, get_or, sym, ◌∙◌, ap, subst}
use Rattle.std.proofs.lemmas.List.{append-nil, map-append}
use Rattle.std.proofs.lemmas.List.Elements.{filter_more}
use Rattle.sqlite_disk.specs.declared.Disk.{Ghosts}
use Rattle.head_log.specs.declared.gate.Gate.{Gate}
use Rattle.head_log.specs.Groups.{IsReady}
use Rattle.head_log.specs.Groups.{LeavesEither as LeavesGroups, StandsFor as HasGroups}
use Rattle.head_log.proofs.Laying.{joined_more}
use Rattle.operation.specs.Parts.{ContentParts}
use Rattle.record_log.specs.Entries.{AreEachTold, AreKept, LeavesEither, StandsFor, entries_text, has_no_note, without_notes}
use Rattle.record_log.proofs.Cutting.{entries_more, none_told, told_more}

-- one content more
some_more : (contents : List ContentParts) (i : ℕ) (c : ContentParts) → i < length contents → c ≡ get_or contents i c
    → without_notes (take (i + 1) contents) ≡ without_notes (take i contents) ++ without_notes (c ∷ [])
some_more contents i c low is =
    filter_more has_no_note contents i c low
    ∙ ap (λ (x : ContentParts). without_notes (take i contents) ++ without_notes (x ∷ [])) (sym is)

-- its entry stands behind those of the others
pub written_more : (contents : List ContentParts) (i : ℕ) (c : ContentParts) (old new : List ℕ) → i < length contents
    → c ≡ get_or contents i c → old ≡ entries_text (without_notes (take i contents))
    → new ≡ old ++ entries_text (without_notes (c ∷ [])) → new ≡ entries_text (without_notes (take (i + 1) contents))
written_more contents i c old new low is were are =
    are ∙ ap (λ (text : List ℕ). text ++ entries_text (without_notes (c ∷ []))) were
    ∙ sym (entries_more (without_notes (take i contents)) (without_notes (c ∷ [])))
    ∙ ap entries_text (sym (some_more contents i c low is))

pub told_one_more : (contents : List ContentParts) (i : ℕ) (c : ContentParts) → i < length contents
    → c ≡ get_or contents i c → AreEachTold (without_notes (take i contents)) → AreEachTold (without_notes (c ∷ []))
    → AreEachTold (without_notes (take (i + 1) contents))
told_one_more contents i c low is told more =
    subst (λ (xs : List ContentParts). AreEachTold xs) (sym (some_more contents i c low is))
    (told_more (without_notes (take i contents)) (without_notes (c ∷ [])) told more)

-- the groups with one more, as texts
texts_more : (groups : List (List ContentParts)) (more : List ContentParts) (text : List ℕ) → text ≡ entries_text more
    → map entries_text groups ++ text ∷ [] ≡ map entries_text (groups ++ more ∷ [])
texts_more groups more text is =
    ap (λ (t : List ℕ). map entries_text groups ++ t ∷ []) is ∙ sym (map-append entries_text groups (more ∷ []))

module _ {D : Type 0} (g : Ghosts D) where
  -- a group that was added is kept behind those from before
  pub kept_more : (old new : D) (end next : Gate) (cs more : List ContentParts) (text : List ℕ) → text ≡ entries_text more
      → AreEachTold more
      → ((groups : List (List ℕ)) → IsReady g old end groups → IsReady g new next (groups ++ text ∷ []))
      → AreKept g old end cs → AreKept g new next (cs ++ more)
  kept_more old new end next cs more text is told added kept =
      record {
        groups = kept.groups ++ more ∷ [];
        are = joined_more kept.groups more ∙ ap (λ (xs : List ContentParts). xs ++ more) kept.are;
        ready = subst (λ (ts : List (List ℕ)). IsReady g new next ts) (texts_more kept.groups more text is)
            (added (map entries_text kept.groups) kept.ready);
        told = told_more cs more kept.told told;
      }

  -- where there is none, all stay
  pub kept_same : (disk : D) (end : Gate) (cs more : List ContentParts) (text : List ℕ) → text ≡ entries_text more
      → length text ≡ 0 → AreKept g disk end cs → AreKept g disk end (cs ++ more)
  kept_same disk end cs more text is none kept =
      let empty = none_told more (ap length (sym is) ∙ none) in
      let same = ap (λ (xs : List ContentParts). cs ++ xs) empty ∙ append-nil cs in
      subst (λ (xs : List ContentParts). AreKept g disk end xs) (sym same) kept

  -- a refusal that leaves the file open leaves it so
  pub kept_on : (old new : D) (end next : Gate) (cs : List ContentParts)
      → ((groups : List (List ℕ)) → IsReady g old end groups → IsReady g new next groups) → AreKept g old end cs
      → AreKept g new next cs
  kept_on old new end next cs ready kept =
      record {
        groups = kept.groups;
        are = kept.are;
        ready = ready (map entries_text kept.groups) kept.ready;
        told = kept.told;
      }

  -- a crash leaves what is kept
  pub stands : (disk : D) (end : Gate) (cs : List ContentParts) (file : List ℕ) → AreKept g disk end cs
      → g.may_leave disk file → StandsFor file cs
  stands disk end cs file kept may =
      record { groups = kept.groups; are = kept.are; laid = inl (end, kept.ready file may); told = kept.told }

  -- or it with a group
  pub leaves_either : (old new : D) (end : Gate) (cs more : List ContentParts) (text : List ℕ) → text ≡ entries_text more
      → AreEachTold more → ((groups : List (List ℕ)) → IsReady g old end groups → LeavesGroups g new groups text)
      → AreKept g old end cs → LeavesEither g new cs (cs ++ more)
  leaves_either old new end cs more text is told leaves kept file may =
      elim (leaves (map entries_text kept.groups) kept.ready file may) [
        | inl without ↦ inl (record { groups = kept.groups; are = kept.are; laid = without; told = kept.told })
        | inr with ↦ inr (
            record {
              groups = kept.groups ++ more ∷ [];
              are = joined_more kept.groups more ∙ ap (λ (xs : List ContentParts). xs ++ more) kept.are;
              laid = subst (λ (ts : List (List ℕ)). HasGroups file ts) (texts_more kept.groups more text is) with;
              told = told_more cs more kept.told told;
            }
            )
      ]

  -- a file that is opened keeps what it stood for
  pub opened : (file : List ℕ) (disk : D) (end : Gate) (cs : List ContentParts)
      → ((groups : List (List ℕ)) → HasGroups file groups → IsReady g disk end groups) → StandsFor file cs
      → AreKept g disk end cs
  opened file disk end cs ready stands =
      record {
        groups = stands.groups;
        are = stands.are;
        ready = ready (map entries_text stands.groups) stands.laid;
        told = stands.told;
      }
