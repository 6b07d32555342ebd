-- A log as a store.
use Rattle.std.proofs.Common.{◌≡◌, inl, inr, ℕ, List, [], ◌∷◌, subst, sym, refl}
use Rattle.operation.specs.declared.op.Op.{Op}
use Rattle.op_log.specs.Heads.{Head}
use Rattle.op_log.specs.Loaded.{IsOf}
use Rattle.shelved_site.specs.declared.unreadable.Unreadable.{Unreadable}
use Rattle.shelved_site.specs.Readable.{AreParts, IsAny}
use Rattle.shelved_site.specs.Recorded.{AreFoundAs}

-- heads that are parted for a cause are parted
pub any_parts : (Is : Head → Op → Type 0) (Not : Head → Type 0) (heads : List Head) (told : List Unreadable) (ops : List Op)
    → AreParts Is Not heads told ops → AreParts Is IsAny heads told ops
any_parts Is Not [] told ops parts = parts
any_parts Is Not (h ∷ heads) told ops (inl (op, more, is, of, rest)) =
    inl (op, more, is, of, any_parts Is Not heads told more rest)
any_parts Is Not (h ∷ heads) told ops (inr (more, is, amiss, rest)) =
    inr (more, is, tt, any_parts Is Not heads more ops rest)

-- what is found as the operations of heads are these
pub parts_in : (file : List ℕ) (Not : Head → Type 0) (heads : List Head) (told : List Unreadable) (ops others : List Op)
    → AreParts (IsOf file) Not heads told ops → AreFoundAs others ops → AreParts (IsOf file) Not heads told others
parts_in file Not [] told [] [] parts found = parts
parts_in file Not [] told [] (other ∷ others) parts found = absurd found
parts_in file Not [] told (op ∷ ops) others parts found = absurd cc
parts_in file Not (h ∷ heads) told [] others (inl (op, more, is, of, rest)) found = absurd cc
parts_in file Not (h ∷ heads) told (o ∷ ops) [] (inl (op, more, is, of, rest)) found = absurd found
parts_in file Not (h ∷ heads) told (o ∷ ops) (other ∷ others) (inl (op, more, is, of, rest)) (same, found) =
    let first : o ≡ op = cc in
    let behind : ops ≡ more = cc in
    let lawful = subst (λ (x : Op). IsOf file h x) (sym first) of in
    inl (
      other,
      others,
      refl,
      subst (λ (x : Op). IsOf file h x) (sym (same.1 lawful.lawful)) lawful,
      parts_in file Not heads told ops others (subst (λ (xs : List Op). AreParts (IsOf file) Not heads told xs) (sym behind) rest)
          found,
    )
parts_in file Not (h ∷ heads) told ops others (inr (more, is, amiss, rest)) found =
    inr (more, is, amiss, parts_in file Not heads more ops others rest found)
