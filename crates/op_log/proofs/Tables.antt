-- Tables of contents under their digests.
use denote.Ref.{Bor}
use Rattle.std.specs.Option.{option_copied}
use Rattle.std.proofs.Common.{◌≡◌, ℕ, List, [], ◌∷◌, ◌++◌, ◌⊎◌, Bool, true, false, cond, nat_eq, Option, Some, None, IfSome, inl, inr, refl, sym, ◌∙◌, ap, subst}
use Rattle.std.specs.Map.{lookup}
use Rattle.std.specs.Cmp.Lexicographic.{pointwise, bytes_decides}
use Rattle.octets.specs.Members.{Has}
use Rattle.operation.specs.Parts.{ContentParts}
use Rattle.operation.specs.declared.op.Op.TheVariants.{Content as a_content}
use Rattle.operation.specs.Spelling.{digest_of}
use Rattle.op_log.specs.Readable.{IsTableOf}

-- what is a member is one of more
pub has_front : {X : Type 0} (xs : List X) (y x : X) → Has xs x → Has (xs ++ y ∷ []) x
has_front [] y x has = absurd has
has_front (z ∷ xs) y x (inl same) = inl same
has_front (z ∷ xs) y x (inr has) = inr (has_front xs y x has)

pub has_last : {X : Type 0} (xs : List X) (y : X) → Has (xs ++ y ∷ []) y
has_last [] y = inl refl
has_last (z ∷ xs) y = inr (has_last xs y)

-- and one of more is that, or was one before
pub has_either : {X : Type 0} (xs : List X) (y x : X) → Has (xs ++ y ∷ []) x → Has xs x ⊎ (x ≡ y)
has_either [] y x (inl same) = inr same
has_either [] y x (inr has) = absurd has
has_either (z ∷ xs) y x (inl same) = inl (inl same)
has_either (z ∷ xs) y x (inr has) =
    elim (has_either xs y x has) [
      | inl before ↦ inl (inr before)
      | inr same ↦ inr same
    ]

-- what is found under a key is there
pub looked_up : (entries : List (List ℕ × ContentParts)) (key : List ℕ) (c : ContentParts)
    → lookup (pointwise nat_eq key) entries ≡ Some c → Has entries (key, c)
looked_up [] key c is = absurd cc
looked_up (e ∷ entries) key c is = by (looked_up entries key c) (pointwise nat_eq key e.0) refl is
  where
    by : (lookup (pointwise nat_eq key) entries ≡ Some c → Has entries (key, c)) → (b : Bool) → pointwise nat_eq key e.0 ≡ b
        → cond b (Some e.1) (lookup (pointwise nat_eq key) entries) ≡ Some c → Has (e ∷ entries) (key, c)
    by later true same is =
        let it : e.1 ≡ c = cc in
        inl (λ i. ((bytes_decides key e.0).0 same i, sym it i))
    by later false other is = inr (later is)

-- and what is not found is not
pub not_there : (entries : List (List ℕ × ContentParts)) (key : List ℕ) (c : ContentParts)
    → lookup (pointwise nat_eq key) entries ≡ None → Has entries (key, c) → ⊥
not_there [] key c is has = has
not_there (e ∷ entries) key c is has =
    let (other, none) = split e.1 (pointwise nat_eq key e.0) (lookup (pointwise nat_eq key) entries) is in
    by other (λ later. not_there entries key c none later) has
  where
    split : (v : ContentParts) (b : Bool) (o : Option ContentParts) → cond b (Some v) o ≡ None → (b ≡ false) × (o ≡ None)
    split v true o is = absurd cc
    split v false o is = (refl, is)

    by : pointwise nat_eq key e.0 ≡ false → (Has entries (key, c) → ⊥) → Has (e ∷ entries) (key, c) → ⊥
    by other none (inl same) =
        let yes : pointwise nat_eq key e.0 ≡ true = (bytes_decides key e.0).1 (ap (λ (p : List ℕ × ContentParts). p.0) same) in
        absurd cc
    by other none (inr later) = none later

-- where nothing is there, nothing is found
pub absent_if : (entries : List (List ℕ × ContentParts)) (key : List ℕ) → ((c : ContentParts) → Has entries (key, c) → ⊥)
    → lookup (pointwise nat_eq key) entries ≡ None
absent_if entries key none = by (lookup (pointwise nat_eq key) entries) refl
  where
    by : (o : Option ContentParts) → lookup (pointwise nat_eq key) entries ≡ o → lookup (pointwise nat_eq key) entries ≡ None
    by None is = is
    by (Some c) is = absurd (none c (looked_up entries key c is))

-- what a table answers
pub found_under : (r : Option (Bor ContentParts)) (entries : List (List ℕ × ContentParts)) (digest key : List ℕ) → key ≡ digest
    → option_copied r ≡ lookup (pointwise nat_eq key) entries → IfSome r (λ c. Has entries (digest, c.now))
found_under None entries digest key same is = tt
found_under (Some p) entries digest key same is =
    subst (λ (d : List ℕ). Has entries (d, p.now)) same (looked_up entries key p.now (sym is))

pub none_under : (r : Option (Bor ContentParts)) (entries : List (List ℕ × ContentParts)) (digest key : List ℕ) → key ≡ digest
    → option_copied r ≡ lookup (pointwise nat_eq key) entries → r ≡ None → (c : ContentParts) → Has entries (digest, c) → ⊥
none_under r entries digest key same is none c has =
    not_there entries key c (sym is ∙ ap option_copied none) (subst (λ (d : List ℕ). Has entries (d, c)) (sym same) has)

-- a content is told whose digest another has
pub table_kept : (told : List ContentParts) (entries : List (List ℕ × ContentParts)) (c x : ContentParts) → IsTableOf told entries
    → Has entries (digest_of (a_content c), x) → IsTableOf (told ++ c ∷ []) entries
table_kept told entries c x was there = record {
  own = λ digest k has.
      let it = was.own digest k has in
      (has_front told c k it.0, it.1);
  each = λ k has.
      elim (has_either told c k has) [
        | inl before ↦ was.each k before
        | inr same ↦ (x, subst (λ (y : ContentParts). Has entries (digest_of (a_content y), x)) (sym same) there)
      ];
}

-- a content is taken
pub table_more : (told : List ContentParts) (entries : List (List ℕ × ContentParts)) (digest : List ℕ) (c : ContentParts)
    → digest ≡ digest_of (a_content c) → IsTableOf told entries → IsTableOf (told ++ c ∷ []) (entries ++ (digest, c) ∷ [])
table_more told entries digest c under was = record {
  own = λ d k has.
      elim (has_either entries (digest, c) (d, k) has) [
        | inl before ↦
            let it = was.own d k before in
            (has_front told c k it.0, it.1)
        | inr same ↦
            let it : k ≡ c = ap (λ (p : List ℕ × ContentParts). p.1) same in
            let key : d ≡ digest = ap (λ (p : List ℕ × ContentParts). p.0) same in (
              subst (λ (y : ContentParts). Has (told ++ c ∷ []) y) (sym it) (has_last told c),
              ap (λ (y : ContentParts). digest_of (a_content y)) it ∙ sym under ∙ sym key,
            )
      ];
  each = λ k has.
      elim (has_either told c k has) [
        | inl before ↦
            let (x, there) = was.each k before in
            (x, has_front entries (digest, c) (digest_of (a_content k), x) there)
        | inr same ↦ (
          c,
          subst (λ (d : List ℕ). Has (entries ++ (digest, c) ∷ []) (d, c)) (under ∙ ap (λ (y : ContentParts). digest_of (a_content y)) (sym same))
              (has_last entries (digest, c)),
        )
      ];
}

-- nothing is told
pub no_table : IsTableOf [] []
no_table = record { own = λ d c has. absurd has; each = λ c has. absurd has }
