-- What answers find, and where they lie.
use Rattle.std.proofs.Common.{inl, inr, ◌≡◌, ◌⊎◌, ℕ, ◌+◌, ◌<◌, List, [], ◌∷◌, Bool, true, false}
use Rattle.std.proofs.Common.{cond, not, eqb, Option, Some, None, leb, length, refl, sym, ap, subst, ◌∙◌, arith}
use Rattle.std.proofs.lemmas.Bool.{ltb-false, leb-false, and_from, false≢true}
use Rattle.std.proofs.lemmas.List.{length-append}
use Rattle.std.specs.Option.{is_some}
use Rattle.std.specs.Prelude.{get_or, ◌||◌}
use Rattle.std.specs.List.{range_with_len}
use Rattle.octets.specs.Members.{Has}
use Rattle.octets.specs.Texts.{same}
use Rattle.walk_frames.specs.Entries.{EntryParts}
use Rattle.exchange_tree.specs.declared.nodes.TheConstants.{CHILD_COUNT}
use Rattle.exchange_tree.specs.Nodes.{beneath, child}
use Rattle.exchange_tree.specs.Sums.{child_sums}
use Rattle.exchange_tree.specs.Steps.{is_unequal, differing_at, IsFound}
use Rattle.exchange_tree.proofs.Lists.{kept_passes}
use Rattle.exchange_tree.proofs.Steps.{step_finds}
use Rattle.exchange_walk.specs.Answers.{entry_of, told_of, answers_to, all_answers, answer_of}
use Rattle.exchange_walk.specs.Answers.{is_full, root_of}
use Rattle.exchange_walk.specs.Laws.{AnswerFinds, SaidIsTold, EntriesLieBeneath, IsBeneathEntry}
use Rattle.exchange_walk.specs.Laws.{IsToldOf}
use Rattle.exchange_walk.proofs.Lists.{front_fits}
use Rattle.exchange_walk.proofs.Members.{none_in, take_has, flat_has, has_flat, has_map}
use Rattle.exchange_walk.proofs.Told.{digit_has, each_child}
use Rattle.exchange_walk.proofs.Order.{IsAnswerOf, answers_are}

-- ---- entries of an answer

pub is_some_of : (sums : Option (List (List ℕ))) → is_some sums ≡ true
    → (theirs : List (List ℕ)) × (sums ≡ Some theirs)
is_some_of None e = absurd (false≢true e)
is_some_of (Some theirs) e = (theirs, refl)

some_is : (sums : Option (List (List ℕ))) (theirs : List (List ℕ)) → sums ≡ Some theirs → is_some sums ≡ true
some_is sums theirs e = ap is_some e

-- which split an entry of an answer is beneath
pub record Answers (digests : List (List ℕ)) (heard : List EntryParts) (entry : EntryParts) : Type 0 where
  pub split : EntryParts
  pub has : Has heard split
  pub of : IsAnswerOf digests split entry

pub in_answer : (digests : List (List ℕ)) (heard : List EntryParts) (entry : EntryParts)
    → Has (answer_of digests heard) entry → Answers digests heard entry
unfolding answer_of all_answers
in_answer digests heard entry h =
    let found = flat_has (answers_to digests) heard entry (take_has 4096 (all_answers digests heard) entry h) in
    record { split = found.0; has = found.1; of = answers_are digests found.0 entry found.2 }

-- ---- what is found

-- an entry that answers is in an answer that is not full
pub not_left_out : (digests : List (List ℕ)) (heard : List EntryParts) (split entry : EntryParts) → Has heard split
    → Has (answers_to digests split) entry → (is_full digests heard ≡ true) ⊎ Has (answer_of digests heard) entry
unfolding is_full answer_of all_answers
not_left_out digests heard split entry h g = by (is_full digests heard) refl
  where
    by : (b : Bool) → is_full digests heard ≡ b → (is_full digests heard ≡ true) ⊎ Has (answer_of digests heard) entry
    by true e = inl e
    by false e = inr (subst (λ es. Has es entry)
        (sym (front_fits 4096 (all_answers digests heard) (ltb-false 4096 (length (all_answers digests heard)) e)))
        (has_flat (answers_to digests) heard split entry h g))

pub answer_finds : AnswerFinds
answer_finds own theirs heard digest told can tell is alone beneath_split =
    by (not_left_out own heard split (entry_of own (child split.node found.digit)) beneath_split.has answers)
  where
    split : EntryParts
    split = beneath_split.split

    sums : (sums : List (List ℕ)) × (split.sums ≡ Some sums)
    sums = is_some_of split.sums beneath_split.splits

    shallow : length split.node < 63
    shallow = can split beneath_split.has beneath_split.splits

    found : IsFound own theirs split.node digest
    found = step_finds own theirs split.node digest (tell split beneath_split.has beneath_split.splits) is
        (omega (arith, shallow)) beneath_split.within alone

    answers : Has (answers_to own split) (entry_of own (child split.node found.digit))
    answers =
        subst (λ es. Has es (entry_of own (child split.node found.digit)))
        (sym (each_child own split sums.0 sums.1 shallow))
        (has_map (λ digit. entry_of own (child split.node digit)) (differing_at (child_sums own split.node) sums.0)
        found.digit
        (subst (λ ss. Has (differing_at (child_sums own split.node) ss) found.digit)
        (sym (told split sums.0 beneath_split.has sums.1)) found.unequal))

    by : (is_full own heard ≡ true) ⊎ Has (answer_of own heard) (entry_of own (child split.node found.digit))
        → (is_full own heard ≡ true) ⊎ IsBeneathEntry (answer_of own heard) digest
    by (inl full) = inl full
    by (inr has) = inr (record {
      entry = entry_of own (child split.node found.digit);
      has = has;
      within = found.within;
    })

-- ---- what is told

-- what is told of a node as a split are the sums of its children, and it has fewer than 63 digits
told_so : (digests : List (List ℕ)) (node : List ℕ) (sums : List (List ℕ)) → told_of digests node ≡ Some sums
    → (sums ≡ child_sums digests node) × (length node < 63)
told_so digests node sums e = by (leb 63 (length node)) refl (leb (length (beneath node digests)) 16) e
  where
    some : (a b : List (List ℕ)) → Some a ≡ Some b → b ≡ a
    some a b is = cc

    few : (b : Bool) → cond b None (Some (child_sums digests node)) ≡ Some sums → sums ≡ child_sums digests node
    few true is = absurd cc
    few false is = some (child_sums digests node) sums is

    by : (deep : Bool) → leb 63 (length node) ≡ deep → (small : Bool)
        → cond (deep || small) None (Some (child_sums digests node)) ≡ Some sums
        → (sums ≡ child_sums digests node) × (length node < 63)
    by true at small is = absurd cc
    by false at small is = (few small is, leb-false 63 (length node) at)

entry_told : (digests : List (List ℕ)) (node : List ℕ) (entry : EntryParts) (sums : List (List ℕ))
    → entry ≡ entry_of digests node → entry.sums ≡ Some sums
    → (sums ≡ child_sums digests entry.node) × (length entry.node < 63)
entry_told digests node entry sums is told =
    let so = told_so digests node sums (sym (ap (λ (e : EntryParts). e.sums) is) ∙ told) in
    let at : node ≡ entry.node = sym (ap (λ (e : EntryParts). e.node) is) in
    (so.0 ∙ ap (child_sums digests) at, subst (λ (n : List ℕ). length n < 63) at so.1)

pub said_is_told : SaidIsTold
said_is_told = record {
  answer = λ digests heard split sums h e.
      let a = in_answer digests heard split h in
      (entry_told digests (child a.split.node a.of.digit) split sums a.of.is e).0;
  shallow = λ digests heard split h e.
      let a = in_answer digests heard split h in
      let s = is_some_of split.sums e in
      (entry_told digests (child a.split.node a.of.digit) split s.0 a.of.is s.1).1;
  root = λ digests split sums h e. root_told digests split sums h e;
  root_shallow = λ digests split h e. root_short digests split h;
  all = λ digests digest. record {
    split = record { node = []; sums = Some (child_sums digests []) };
    has = inl refl;
    splits = refl;
    within = refl;
  };
}
  where
    some : (a b : List (List ℕ)) → Some a ≡ Some b → b ≡ a
    some a b is = cc

    root_told : (digests : List (List ℕ)) (split : EntryParts) (sums : List (List ℕ)) → Has (root_of digests) split
        → split.sums ≡ Some sums → sums ≡ child_sums digests split.node
    root_told digests split sums (inl at) e =
        some (child_sums digests []) sums (sym (ap (λ (x : EntryParts). x.sums) at) ∙ e)
        ∙ ap (child_sums digests) (sym (ap (λ (x : EntryParts). x.node) at))
    root_told digests split sums (inr h) e = absurd h

    root_short : (digests : List (List ℕ)) (split : EntryParts) → Has (root_of digests) split → length split.node < 63
    root_short digests split (inl at) = omega (arith, ap (λ (x : EntryParts). length x.node) at)
    root_short digests split (inr h) = absurd h

-- ---- where entries lie

pub longer : (node : List ℕ) (digit : ℕ) → length (child node digit) ≡ length node + 1
longer node digit = length-append node (digit ∷ [])

pub entries_lie : EntriesLieBeneath
entries_lie = record {
  children = λ digests heard entry h.
      let a = in_answer digests heard entry h in record {
        split = a.split;
        was_said = a.has;
        splits = some_is a.split.sums a.of.theirs a.of.split;
        digit = a.of.digit;
        small = digit_has (child_sums digests a.split.node) a.of.theirs a.of.digit a.of.differs;
        is = ap (λ (e : EntryParts). e.node) a.of.is;
      };
  deeper = λ said node child. ap length child.is ∙ longer child.split.node child.digit;
}

-- ---- equal sets

same_itself : (text : List ℕ) → same text text ≡ true
same_itself [] = refl
same_itself (n ∷ ns) =
    let one : eqb n n ≡ true = grind arith in
    and_from (eqb n n) (same ns ns) one (same_itself ns)

none_unequal : (sums : List (List ℕ)) (digit : ℕ) → Has (differing_at sums sums) digit → ⊥
unfolding differing_at
none_unequal sums digit h =
    false≢true (sym (ap not (same_itself (get_or sums digit [])))
    ∙ kept_passes (is_unequal sums sums) (range_with_len 0 CHILD_COUNT) digit h)

-- The answer to the sums of an equal set is empty.
pub none_to_equal : (digests : List (List ℕ)) (heard : List EntryParts) → IsToldOf digests heard
    → answer_of digests heard ≡ []
none_to_equal digests heard told = none_in (answer_of digests heard) (λ entry h.
    let a = in_answer digests heard entry h in
    none_unequal (child_sums digests a.split.node) a.of.digit
    (subst (λ ss. Has (differing_at (child_sums digests a.split.node) ss) a.of.digit)
    (told a.split a.of.theirs a.has a.of.split) a.of.differs))
