-- What a load finds of the operations that a log has.
use Rattle.std.proofs.Common.{◌≡◌, List, ℕ, Option, None, Some, IfSome, refl, sym, ◌∙◌, ap}
use Rattle.sqlite_disk.specs.declared.Disk.{Ghosts}
use Rattle.operation.specs.declared.op.Op.{Op}
use Rattle.operation.specs.Reading.{IsOp}
use Rattle.operation.specs.Spelling.{digest_of, hash_of, spelling}
use Rattle.operation.proofs.DigestLaws.{own_digest}
use Rattle.operation.proofs.OutcomeLaws.{spelling_once}
use Rattle.op_log.specs.Heads.{head_of}
use Rattle.op_log.specs.Kept.{Has, first_under}
use Rattle.op_log.specs.Log.{Opened}
use Rattle.op_shelf.specs.Keep.{IsFoundAs}
use Rattle.shelved_site.specs.Keeping.{Holds}
use Rattle.shelved_site.proofs.Holding.{one_digest}
use Rattle.shelved_site.proofs.Keeps.{one_spelling}

module _ {H B : Type 0} (g : Ghosts B) (log : Opened H B) (digest : List ℕ) where
  -- where no head has the digest, nothing is had under it
  none_held : first_under digest log.places ≡ None → (op : Op) → Holds g log op → ¬ (hash_of op ≡ digest)
  none_held none op (own, (at, first, lies), alike) is =
      let named = sym (one_digest op own alike) ∙ is in
      let nowhere : Some (head_of (own, at)) ≡ None = sym first ∙ ap (λ (d : List ℕ). first_under d log.places) named ∙ none in
      absurd cc

  -- what is had under the digest is what is read
  pub read_as : (found : Option Op) → (found ≡ None → first_under digest log.places ≡ None) → IfSome found IsOp
      → ((op : Op) → hash_of op ≡ digest → Has g log.bodies log.bodies_end log.places op
      → IfSome found (λ read. spelling read ≡ spelling op)) → (op : Op) → Holds g log op → hash_of op ≡ digest
      → IsFoundAs found op
  read_as None none lawful spelled op held is = absurd (none_held (none refl) op held is)
  read_as (Some read) none lawful spelled op (own, has, alike) is =
      let same = spelled own (sym (one_digest op own alike) ∙ is) has ∙ sym alike in
      (same, λ lawful'. spelling_once read op lawful lawful' same)

module _ {H B : Type 0} (g : Ghosts B) (log : Opened H B) (digest : List ℕ) (clean : Type 0) (up : clean) where
  -- what was found is had
  pub some_held : (found : Option Op) → IfSome found (λ op. clean → Has g log.bodies log.bodies_end log.places op)
      → IfSome found (Holds g log)
  some_held None has = tt
  some_held (Some op) has = (op, has up, refl)

  -- what is had under the digest is what is found
  pub exact : (found : Option Op) → (found ≡ None → first_under digest log.places ≡ None)
      → IfSome found (λ op. digest_of op ≡ digest) → IfSome found IsOp
      → IfSome found (λ op. clean → Has g log.bodies log.bodies_end log.places op) → (op : Op) → Holds g log op
      → hash_of op ≡ digest → IsFoundAs found op
  exact None none told lawful has op held is = absurd (none_held g log digest (none refl) op held is)
  exact (Some found) none told lawful has op (own, (at, first, lies), alike) is =
      let it = has up in
      let named : hash_of own ≡ hash_of found = sym (one_digest op own alike) ∙ is ∙ sym told ∙ own_digest found lawful in
      let heads : Some (head_of (found, it.0)) ≡ Some (head_of (own, at)) =
      sym it.1 ∙ ap (λ (d : List ℕ). first_under d log.places) (sym named) ∙ first in
      let head : head_of (found, it.0) ≡ head_of (own, at) = cc in
      let same = one_spelling g log.bodies log.bodies_end found own it.0 at head it.2 lies ∙ sym alike in
      (same, λ lawful'. spelling_once found op lawful lawful' same)
