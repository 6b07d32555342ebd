-- The value of a list of operations, by the laws.
use Rattle.std.proofs.Common.{◌≡◌, ℕ, ◌+◌, ◌<◌, List, [], ◌∷◌, ◌++◌, length, get_or, take, sym, ap, ◌∙◌}
use Rattle.std.specs.Prelude.{Contains, All}
use Rattle.std.proofs.lemmas.List.{take_more}
use Rattle.std.proofs.lemmas.List.Elements.{All-nil, All-cons, All-contains, All-weaker, Contains-push}
use Rattle.std.proofs.lemmas.List.Elements.{Contains-append_left, Contains-append_right}
use Rattle.join_laws.specs.Laws.{JoinLaws, SummaryLaws, summary_of, HasSameMembers}

module _ {V O : Type 0} {IsHeld : V → Type 0} {joined : V → V → V} {nothing : V} {of_one : O → V}
    (laws : JoinLaws IsHeld joined) (more : SummaryLaws IsHeld joined nothing of_one) where
  pub value_held : (ops : List O) → IsHeld (summary_of joined nothing of_one ops)
  value_held [] = more.nothing_held
  value_held (op ∷ ops) = laws.held _ _ (more.one_held op) (value_held ops)

  -- one operation more, at the end
  pub value-push : (ops : List O) (x : O) → summary_of joined nothing of_one (ops ++ x ∷ []) ≡ joined
      (summary_of joined nothing of_one ops) (of_one x)
  value-push [] x = laws.commutative _ _ (more.one_held x) more.nothing_held
  value-push (op ∷ ops) x = ap (joined (of_one op)) (value-push ops x)
      ∙ sym (laws.associative _ _ _ (more.one_held op) (value_held ops) (more.one_held x))

  pub value-take_more : (ops : List O) (i : ℕ) (x : O) → i < length ops → x ≡ get_or ops i x
      → joined (summary_of joined nothing of_one (take i ops)) (of_one x) ≡ summary_of joined nothing
      of_one (take (i + 1) ops)
  value-take_more ops i x within read =
      let longer : take (i + 1) ops ≡ take i ops ++ (x ∷ []) = take_more ops i x within
      ∙ ap (λ y. take i ops ++ (y ∷ [])) (sym read) in
      sym (ap (summary_of joined nothing of_one) longer ∙ value-push (take i ops) x)

  -- what stands between may go first
  swap_front : (a b c : V) → IsHeld a → IsHeld b → IsHeld c → joined a (joined b c) ≡ joined b (joined a c)
  swap_front a b c f g h = sym (laws.associative a b c f g h) ∙ ap (λ v. joined v c) (laws.commutative a b f g)
      ∙ laws.associative b a c g f h

  -- an operation of the list adds nothing to its value
  abbrev IsTaken : List O → O → Type 0
  IsTaken ops x = joined (of_one x) (summary_of joined nothing of_one ops) ≡ summary_of joined nothing of_one ops

  taken_first : (op : O) (ops : List O) → IsTaken (op ∷ ops) op
  taken_first op ops =
      sym (laws.associative _ _ _ (more.one_held op) (more.one_held op) (value_held ops))
      ∙ ap (λ v. joined v (summary_of joined nothing of_one ops)) (laws.idempotent _ (more.one_held op))

  taken_later : (op : O) (ops : List O) (x : O) → IsTaken ops x → IsTaken (op ∷ ops) x
  taken_later op ops x h = swap_front _ _ _ (more.one_held x) (more.one_held op) (value_held ops)
      ∙ ap (joined (of_one op)) h

  all_taken : (ops : List O) → All (IsTaken ops) ops
  all_taken [] = All-nil (IsTaken [])
  all_taken (op ∷ ops) = All-cons (IsTaken (op ∷ ops)) op ops (taken_first op ops)
      (All-weaker (IsTaken ops) (IsTaken (op ∷ ops)) (taken_later op ops) ops (all_taken ops))

  absorbed : (xs ys : List O) → ((op : O) → Contains xs op → Contains ys op)
      → joined (summary_of joined nothing of_one xs) (summary_of joined nothing of_one ys) ≡ summary_of joined nothing
      of_one ys
  absorbed [] ys inside = more.neutral _ (value_held ys)
  absorbed (x ∷ xs) ys inside =
      laws.associative _ _ _ (more.one_held x) (value_held xs) (value_held ys)
      ∙ ap (joined (of_one x)) (absorbed xs ys (λ op h. inside op (Contains-append_right (x ∷ []) xs op h)))
      ∙ All-contains (IsTaken ys) ys x (all_taken ys)
      (inside x (Contains-append_left (x ∷ []) xs x (Contains-push [] x)))

  pub value_same : (xs ys : List O) → HasSameMembers xs ys → summary_of joined nothing of_one xs ≡ summary_of joined
      nothing of_one ys
  value_same xs ys same =
      sym (absorbed ys xs (λ op. (same op).1))
      ∙ laws.commutative _ _ (value_held ys) (value_held xs)
      ∙ absorbed xs ys (λ op. (same op).0)
