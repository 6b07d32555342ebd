-- The records that are added beside a log.
use Rattle.std.proofs.Common.{◌≡◌, ◌≤◌, ◌<◌, ◌+◌, ◌-◌, ℕ, zero, suc, List, [], ◌∷◌, ◌++◌, length, take, drop, inl, inr}
use Rattle.std.proofs.Common.{map, refl, sym, ap, subst, ◌∙◌, append_assoc, get_or, arith}
use Rattle.std.proofs.Math.Seq.{drop-nil, take-length}
use Rattle.std.specs.Prelude.{◌↔◌, None, Some}
use Rattle.std.proofs.lemmas.Option.{same_Some as some_is}
use Rattle.std.proofs.lemmas.List.{append-nil, map-append}
use Rattle.std.proofs.lemmas.List.Elements.{filter-append, filter_map-append}
use Rattle.archive_model.specs.Contents.{contents}
use Rattle.sqlite_disk.specs.declared.Disk.{Ghosts}
use Rattle.operation.specs.declared.op.Op.{Op}
use Rattle.operation.specs.declared.op.Op.TheVariants.{Content as a_content, Correction as a_correction}
use Rattle.operation.specs.Parts.{ContentParts}
use Rattle.records.specs.Parts.{content_in}
use Rattle.records.specs.StandIn.{op_in, stand_in}
use Rattle.record_log.specs.declared.log.RecordLog.{RecordLog}
use Rattle.record_log.specs.Entries.{has_no_note, without_notes}
use Rattle.record_log.specs.Log.{Tells}
use Rattle.op_log.specs.declared.kept.Kept.{Kept}
use Rattle.op_log.specs.declared.kept.Kept.TheVariants.{New, Known}
use Rattle.shelved_site.specs.Told.{AreInOrder, AreOthers, HaveOneDigest, IsBehind, IsNamedBy, IsOther}
use Rattle.shelved_site.specs.Told.{new_among, told_of}

-- ---- contents of operations

-- an operation whose content is this one
pub content_is : (op : Op) (c : ContentParts) → content_in op ≡ Some c → op ≡ a_content c
content_is (a_content d) c e = ap a_content (some_is d c e)
content_is (a_correction k) c e = absurd cc

-- ---- what is told, in the order of operations

-- the others stand behind the first, which has the digest of a content
pub first_behind : (told : List ContentParts) (first c : ContentParts) → 1 ≤ length told → first ≡ get_or told 0 first
    → HaveOneDigest first c → IsBehind told c (take (length told - 1) (drop 1 told))
first_behind [] first c some is digest = absurd (omega (arith, some))
first_behind (x ∷ told) first c some is digest =
    let count : length (x ∷ told) - 1 ≡ length told = omega arith in
    (subst (λ (d : ContentParts). HaveOneDigest d c) is digest, ap (λ (n : ℕ). take n told) count ∙ take-length told)

-- an operation, and those behind it
next_left : (ops : List Op) (i : ℕ) (op : Op) → i < length ops → op ≡ get_or ops i op
    → drop i ops ≡ op ∷ drop (i + 1) ops
next_left [] i op low is = absurd (omega (arith, low))
next_left (x ∷ ops) zero op low is = ap (λ (o : Op). o ∷ ops) (sym is)
next_left (x ∷ ops) (suc i) op low is =
    let on : suc i + 1 ≡ suc (i + 1) = omega arith in
    next_left ops i op (omega (arith, low)) is ∙ ap (λ (k : ℕ). op ∷ drop k (x ∷ ops)) (sym on)

-- behind the last there is none
none_left : (ops : List Op) (i : ℕ) → length ops ≤ i → drop i ops ≡ []
none_left [] i high = drop-nil i
none_left (x ∷ ops) zero high = absurd (omega (arith, high))
none_left (x ∷ ops) (suc i) high = none_left ops i (omega (arith, high))

-- where more are in the order of some operations, fewer are
fewer : (c : ContentParts) (cs : List ContentParts) (ops : List Op) → AreInOrder (c ∷ cs) ops → AreInOrder cs ops
fewer c [] ops order = tt
fewer c (d ∷ cs) [] order = absurd order
fewer c (d ∷ cs) (op ∷ ops) (inl (named, order)) = inr order
fewer c (d ∷ cs) (op ∷ ops) (inr order) = inr (fewer c (d ∷ cs) ops order)

-- behind some operations, what is told is in order where the rest of it is
abbrev pub IsLeft : List ContentParts → List Op → List ContentParts → ℕ → Type 0
IsLeft told ops rest i = AreInOrder told ops ↔ AreInOrder rest (drop i ops)

-- an operation that does not name the first of them is passed
passed : (rest : List ContentParts) (op : Op) (ops : List Op)
    → ((c : ContentParts) (behind : List ContentParts) → rest ≡ c ∷ behind → ¬ IsNamedBy op c)
    → AreInOrder rest (op ∷ ops) ↔ AreInOrder rest ops
passed [] op ops other = (λ order. tt, λ order. tt)
passed (c ∷ rest) op ops other = (on, λ order. inr order)
  where
    on : AreInOrder (c ∷ rest) (op ∷ ops) → AreInOrder (c ∷ rest) ops
    on (inl (named, order)) = elim (other c rest refl named) [ ]
    on (inr order) = order

-- one that names the first of them is taken for it
taken : (rest behind : List ContentParts) (d : ContentParts) (ops : List Op) → IsBehind rest d behind
    → AreInOrder rest (a_content d ∷ ops) ↔ AreInOrder behind ops
taken [] behind d ops none = absurd none
taken (c ∷ rest) behind d ops (digest, same) =
    (on, λ order. inl (digest, subst (λ (cs : List ContentParts). AreInOrder cs ops) same order))
  where
    on : AreInOrder (c ∷ rest) (a_content d ∷ ops) → AreInOrder behind ops
    on (inl (named, order)) = subst (λ (cs : List ContentParts). AreInOrder cs ops) (sym same) order
    on (inr order) = subst (λ (cs : List ContentParts). AreInOrder cs ops) (sym same) (fewer c rest ops order)

module _ (told : List ContentParts) (ops : List Op) (rest : List ContentParts) (i : ℕ) where
  on : (op : Op) (behind : List ContentParts) → i < length ops → op ≡ get_or ops i op
      → (AreInOrder rest (op ∷ drop (i + 1) ops) ↔ AreInOrder behind (drop (i + 1) ops)) → IsLeft told ops rest i
      → IsLeft told ops behind (i + 1)
  on op behind low is step (there, back) =
      let next = next_left ops i op low is in (
        λ order. step.0 (subst (AreInOrder rest) next (there order)),
        λ order. back (subst (AreInOrder rest) (sym next) (step.1 order)),
      )

  -- the next operation names the first that is left
  pub left_taken : (op : Op) (d : ContentParts) (behind : List ContentParts) → i < length ops → op ≡ get_or ops i op
      → op ≡ a_content d → IsBehind rest d behind → IsLeft told ops rest i → IsLeft told ops behind (i + 1)
  left_taken op d behind low at is names left =
      on op behind low at
      (subst (λ (o : Op). AreInOrder rest (o ∷ drop (i + 1) ops) ↔ AreInOrder behind (drop (i + 1) ops)) (sym is)
      (taken rest behind d (drop (i + 1) ops) names)) left

  -- the next operation is another content
  pub left_other : (op : Op) (d : ContentParts) → i < length ops → op ≡ get_or ops i op → op ≡ a_content d
      → IsOther rest d → IsLeft told ops rest i → IsLeft told ops rest (i + 1)
  left_other op d low at is other left =
      on op rest low at
      (subst (λ (o : Op). AreInOrder rest (o ∷ drop (i + 1) ops) ↔ AreInOrder rest (drop (i + 1) ops)) (sym is)
      (passed rest (a_content d) (drop (i + 1) ops) not_named)) left
    where
      not_named : (c : ContentParts) (behind : List ContentParts) → rest ≡ c ∷ behind → ¬ IsNamedBy (a_content d) c
      not_named c behind e named =
          other behind (subst (λ (cs : List ContentParts). IsBehind cs d behind) (sym e) (named, refl))

  -- the next operation is a correction
  pub left_correction : (op : Op) → i < length ops → op ≡ get_or ops i op → content_in op ≡ None → IsLeft told ops rest i
      → IsLeft told ops rest (i + 1)
  left_correction op low at none left = on op rest low at (passed rest op (drop (i + 1) ops) (not_named op none)) left
    where
      not_named : (o : Op) → content_in o ≡ None → (c : ContentParts) (behind : List ContentParts) → rest ≡ c ∷ behind
          → ¬ IsNamedBy o c
      not_named (a_content d) none c behind e named = absurd cc
      not_named (a_correction k) none c behind e named = named

  -- no operation is left
  pub left_none : length ops ≤ i → IsLeft told ops rest i → AreInOrder told ops ↔ (rest ≡ [])
  left_none high (there, back) =
      let none = none_left ops i high in (
        λ order. no_more rest (subst (AreInOrder rest) none (there order)),
        λ e. back (subst (λ (cs : List ContentParts). AreInOrder cs (drop i ops)) (sym e) tt),
      )
    where
      no_more : (cs : List ContentParts) → AreInOrder cs [] → cs ≡ []
      no_more [] order = refl
      no_more (c ∷ cs) order = absurd order

-- ---- what is added of a group

-- of none that is told of, none is new
none_new : (ops : List Op) → new_among ops [] ≡ []
none_new [] = refl
none_new (op ∷ ops) = refl

told_more : (done : List Op) (op : Op) → told_of (done ++ op ∷ []) ≡ told_of done ++ told_of (op ∷ [])
told_more done op =
    ap (λ (ops : List Op). without_notes (contents ops)) (map-append op_in done (op ∷ []))
    ∙ ap without_notes (filter_map-append content_in (map op_in done) (op_in op ∷ []))
    ∙ filter-append has_no_note (contents (map op_in done)) (contents (op_in op ∷ []))

module _ {D : Type 0} (g : Ghosts D) where
  -- the record of a content was added, unless it is a rejection note
  pub one_of : (new : RecordLog D) (op : Op) (x r : ContentParts) (cs : List ContentParts) → op ≡ a_content x
      → r ≡ stand_in x → Tells g new (cs ++ without_notes (r ∷ [])) → Tells g new (cs ++ told_of (op ∷ []))
  one_of new op x r cs of stands tells =
      subst (λ (o : Op). Tells g new (cs ++ told_of (o ∷ []))) (sym of)
      (subst (λ (c : ContentParts). Tells g new (cs ++ without_notes (c ∷ []))) stands tells)

  -- so far those were added of a group that are told to be new, and the others are left
  pub record AreNewAdded (log : RecordLog D) (ops : List Op) (told left : List Kept) (i : ℕ)
      (cs : List ContentParts) : Type 0 where
    pub done : List Op
    pub parts : new_among ops told ≡ done ++ new_among (drop i ops) left
    pub tells : Tells g log (cs ++ told_of done)

  pub none_first : (log : RecordLog D) (ops : List Op) (told left : List Kept) (cs : List ContentParts) → left ≡ told
      → Tells g log cs → AreNewAdded log ops told left 0 cs
  none_first log ops told left cs all tells = record {
    done = [];
    parts = ap (new_among ops) (sym all);
    tells = subst (Tells g log) (sym (append-nil cs)) tells;
  }

  module _ (ops : List Op) (told left rest : List Kept) (i : ℕ) (op : Op) (low : i < length ops)
      (at : op ≡ get_or ops i op) (cs : List ContentParts) where
    next : (is : left ≡ rest) → new_among (drop i ops) left ≡ new_among (op ∷ drop (i + 1) ops) rest
    next is = ap (λ (os : List Op). new_among os left) (next_left ops i op low at)
        ∙ ap (new_among (op ∷ drop (i + 1) ops)) is

  pub new_added : (mid new : RecordLog D) (ops : List Op) (told left rest : List Kept) (i : ℕ) (op : Op)
      (cs : List ContentParts) → i < length ops → op ≡ get_or ops i op → left ≡ New ∷ rest
      → ((ds : List ContentParts) → Tells g mid ds → Tells g new (ds ++ told_of (op ∷ [])))
      → AreNewAdded mid ops told left i cs → AreNewAdded new ops told rest (i + 1) cs
  new_added mid new ops told left rest i op cs low at is step was = record {
    done = was.done ++ op ∷ [];
    parts = was.parts
        ∙ ap (λ (os : List Op). was.done ++ os) (next ops told left (New ∷ rest) i op low at cs is)
        ∙ sym (append_assoc was.done (op ∷ []) (new_among (drop (i + 1) ops) rest));
    tells = subst (Tells g new)
        (append_assoc cs (told_of was.done) (told_of (op ∷ [])) ∙ ap (λ (ds : List ContentParts). cs ++ ds)
        (sym (told_more was.done op)))
        (step (cs ++ told_of was.done) was.tells);
  }

  pub known_passed : (log : RecordLog D) (ops : List Op) (told left rest : List Kept) (i : ℕ) (op : Op)
      (cs : List ContentParts) → i < length ops → op ≡ get_or ops i op → left ≡ Known ∷ rest
      → AreNewAdded log ops told left i cs → AreNewAdded log ops told rest (i + 1) cs
  known_passed log ops told left rest i op cs low at is was = record {
    done = was.done;
    parts = was.parts ∙ ap (λ (os : List Op). was.done ++ os) (next ops told left (Known ∷ rest) i op low at cs is);
    tells = was.tells;
  }

  -- an operation of which nothing is told any more
  pub untold_passed : (log : RecordLog D) (ops : List Op) (told left rest : List Kept) (i : ℕ) (op : Op)
      (cs : List ContentParts) → i < length ops → op ≡ get_or ops i op → left ≡ [] → rest ≡ []
      → AreNewAdded log ops told left i cs → AreNewAdded log ops told rest (i + 1) cs
  untold_passed log ops told left rest i op cs low at is none was = record {
    done = was.done;
    parts = was.parts ∙ ap (λ (os : List Op). was.done ++ os)
        (next ops told left [] i op low at cs is
        ∙ sym (ap (new_among (drop (i + 1) ops)) none ∙ none_new (drop (i + 1) ops)));
    tells = was.tells;
  }

  pub all_added : (log : RecordLog D) (ops : List Op) (told left : List Kept) (i : ℕ) (cs : List ContentParts)
      → length ops ≤ i → AreNewAdded log ops told left i cs → Tells g log (cs ++ told_of (new_among ops told))
  all_added log ops told left i cs high was =
      let all : was.done ≡ new_among ops told =
      sym (was.parts ∙ ap (λ (os : List Op). was.done ++ new_among os left) (none_left ops i high)
      ∙ append-nil was.done) in
      subst (λ (os : List Op). Tells g log (cs ++ told_of os)) all was.tells

-- ---- what is added at a start

module _ {D : Type 0} (g : Ghosts D) (told : List ContentParts) (ops : List Op) (cs : List ContentParts) where
  -- so far those were added that are not told, and the others are left
  pub record AreAdded (log : RecordLog D) (rest : List ContentParts) (i : ℕ) : Type 0 where
    pub done : List ContentParts
    pub tells : Tells g log (cs ++ without_notes done)
    pub others : (later : List ContentParts) → AreOthers rest (drop i ops) later → AreOthers told ops (done ++ later)
    pub left : IsLeft told ops rest i

  pub none_added : (log : RecordLog D) → Tells g log cs → AreAdded log told 0
  none_added log tells = record {
    done = [];
    tells = subst (Tells g log) (sym (append-nil cs)) tells;
    others = λ later are. are;
    left = (λ order. order, λ order. order);
  }

  module _ (rest : List ContentParts) (i : ℕ) (op : Op) (low : i < length ops) (at : op ≡ get_or ops i op) where
    onward : (later : List ContentParts) → AreOthers rest (op ∷ drop (i + 1) ops) later
        → AreOthers rest (drop i ops) later
    onward later are = subst (λ (os : List Op). AreOthers rest os later) (sym (next_left ops i op low at)) are

    -- a content that is told is passed
    pub told_passed : (log : RecordLog D) (d : ContentParts) (behind : List ContentParts) → op ≡ a_content d
        → IsBehind rest d behind → AreAdded log rest i → AreAdded log behind (i + 1)
    told_passed log d behind is names was = record {
      done = was.done;
      tells = was.tells;
      others = λ later are. was.others later (onward later
          (subst (λ (o : Op). AreOthers rest (o ∷ drop (i + 1) ops) later) (sym is) (inl (behind, names, are))));
      left = left_taken told ops rest i op d behind low at is names was.left;
    }

    -- another is added
    pub other_added : (mid new : RecordLog D) (d : ContentParts) → op ≡ a_content d
        → IsOther rest d
        → ((ds : List ContentParts) → Tells g mid ds → Tells g new (ds ++ without_notes (d ∷ [])))
        → AreAdded mid rest i → AreAdded new rest (i + 1)
    other_added mid new d is other step was = record {
      done = was.done ++ d ∷ [];
      tells = subst (Tells g new)
          (append_assoc cs (without_notes was.done) (without_notes (d ∷ []))
          ∙ ap (λ (ds : List ContentParts). cs ++ ds) (sym (filter-append has_no_note was.done (d ∷ []))))
          (step (cs ++ without_notes was.done) was.tells);
      others = λ later are. subst (AreOthers told ops) (sym (append_assoc was.done (d ∷ []) later))
          (was.others (d ∷ later) (onward (d ∷ later)
          (subst (λ (o : Op). AreOthers rest (o ∷ drop (i + 1) ops) (d ∷ later)) (sym is) (inr (later, other, refl, are)))));
      left = left_other told ops rest i op d low at is other was.left;
    }

    -- a correction is passed
    pub correction_passed : (log : RecordLog D) → content_in op ≡ None → AreAdded log rest i → AreAdded log rest (i + 1)
    correction_passed log none was = record {
      done = was.done;
      tells = was.tells;
      others = λ later are. was.others later (onward later (behind op none later are));
      left = left_correction told ops rest i op low at none was.left;
    }
      where
        behind : (o : Op) → content_in o ≡ None → (later : List ContentParts) → AreOthers rest (drop (i + 1) ops) later
            → AreOthers rest (o ∷ drop (i + 1) ops) later
        behind (a_content d) none later are = absurd cc
        behind (a_correction k) none later are = are

  -- no operation is left, and of what is told, which is in order, none either
  pub others_added : (log : RecordLog D) (rest : List ContentParts) (i : ℕ) → length ops ≤ i → AreInOrder told ops
      → AreAdded log rest i
      → (others : List ContentParts) × AreOthers told ops others × Tells g log (cs ++ without_notes others)
  others_added log rest i high order was = (
    was.done,
    subst (AreOthers told ops) (append-nil was.done)
        (was.others [] (subst (λ (os : List Op). AreOthers rest os []) (sym (none_left ops i high))
        ((left_none told ops rest i high was.left).0 order, refl))),
    was.tells,
  )
