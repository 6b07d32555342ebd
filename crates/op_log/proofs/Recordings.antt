-- Records of the operations of heads.
use Rattle.std.proofs.Common.{◌≡◌, ℕ, zero, suc, List, [], ◌∷◌, ◌++◌, map, Contains, Some, inl, inr, refl, sym, ◌∙◌, ap, subst, arith}
use Rattle.std.proofs.lemmas.List.{map-append}
use Rattle.operation.specs.declared.op.Op.{Op}
use Rattle.operation.specs.Parts.{ContentParts}
use Rattle.operation.specs.Reading.{IsOp}
use Rattle.operation.specs.Spelling.{hash_of}
use Rattle.records.specs.StandIn.{op_in}
use Rattle.op_log.specs.Heads.{Head, head_of}
use Rattle.op_log.specs.Kept.{HasBody, first_under}
use Rattle.op_log.specs.Loaded.{IsOf}
use Rattle.op_log.specs.Recorded.{AreRecordedAs, IsRecordedAs, Records}
use Rattle.op_log.proofs.Lists.{listed, lists_more}

-- one more is recorded
pub records_more : (file : List ℕ) (heads : List Head) (recorded : List Op) (h : Head) (op : Op) → Records file heads recorded
    → IsOf file h op → Records file (heads ++ h ∷ []) (recorded ++ op_in op ∷ [])
records_more file heads recorded h op was it = record {
  ops = was.ops ++ op ∷ [];
  listed = lists_more file heads was.ops h op was.listed it;
  stand = ap (λ (ops : List Op). ops ++ op_in op ∷ []) was.stand ∙ sym (map-append op_in was.ops (op ∷ []));
}

-- one more is recorded, from what was read or from what was told
pub recorded_more : (file : List ℕ) (told : List ContentParts) (heads : List Head) (recorded : List Op) (h : Head) (r : Op)
    → AreRecordedAs file told heads recorded → IsRecordedAs file told h r
    → AreRecordedAs file told (heads ++ h ∷ []) (recorded ++ r ∷ [])
recorded_more file told [] [] h r are it = (it, tt)
recorded_more file told [] (x ∷ recorded) h r are it = absurd are
recorded_more file told (k ∷ heads) [] h r are it = absurd are
recorded_more file told (k ∷ heads) (x ∷ recorded) h r (first, rest) it =
    (first, recorded_more file told heads recorded h r rest it)

-- where nothing is told, all was read
pub all_read : (file : List ℕ) (heads : List Head) (recorded : List Op) → AreRecordedAs file [] heads recorded
    → Records file heads recorded
all_read file [] [] are = record { ops = []; listed = tt; stand = refl }
all_read file [] (r ∷ recorded) are = absurd are
all_read file (h ∷ heads) [] are = absurd are
all_read file (h ∷ heads) (r ∷ recorded) (first, rest) = by first (all_read file heads recorded rest)
  where
    by : IsRecordedAs file [] h r → Records file heads recorded → Records file (h ∷ heads) (r ∷ recorded)
    by (inl (op, of, stands)) later = record {
      ops = op ∷ later.ops;
      listed = (of, later.listed);
      stand = ap (λ (o : Op). o ∷ recorded) stands ∙ ap (λ (os : List Op). op_in op ∷ os) later.stand;
    }
    by (inr (c, among, stands, named)) later = absurd among

-- what stands for one of some operations is among what stands for all
stands_among : (ops : List Op) (op : Op) → Contains ops op → Contains (map op_in ops) (op_in op)
stands_among [] op (n, low, at) = absurd (omega (arith, low))
stands_among (x ∷ ops) op (zero, low, at) = (0, omega arith, ap op_in at)
stands_among (x ∷ ops) op (suc n, low, at) =
    let it = stands_among ops op (n, omega (arith, low), at) in
    (suc it.0, omega (arith, it.1), it.2)

-- what stands for an operation that is there is recorded
pub recorded_of : (file : List ℕ) (heads : List Head) (recorded : List Op) (at : ℕ) (op : Op) → IsOp op
    → Records file heads recorded → first_under (hash_of op) heads ≡ Some (head_of (op, at)) → HasBody file (op, at)
    → Contains recorded (op_in op)
recorded_of file heads recorded at op lawful was first held =
    subst (λ (os : List Op). Contains os (op_in op)) (sym was.stand)
    (stands_among was.ops op (listed file heads was.ops at op lawful was.listed first held))
