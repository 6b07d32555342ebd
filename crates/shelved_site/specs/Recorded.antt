-- The operations of records, which are loaded.
use Rattle.std.specs.Prelude.{◌≡◌, List, [], ◌∷◌, Contains, Some}
use Rattle.operation.specs.declared.op.Op.{Op}
use Rattle.operation.specs.Spelling.{digest_of, hash_of}
use Rattle.op_shelf.specs.Keep.{IsFoundAs}

-- an operation is one of those that a store lists
abbrev pub IsAmongListed : (List Op → Type 0) → Op → Type 0
IsAmongListed lists op = (ops : List Op) × lists ops × Contains ops op

-- one of them has the digest of a record
abbrev pub HasOperation : (List Op → Type 0) → Op → Type 0
HasOperation lists recorded = (op : Op) × IsAmongListed lists op × (hash_of op ≡ digest_of recorded)

-- an operation is whichever of them has the digest of a record: it is spelled so, and is the very one, if that is
-- lawful
abbrev pub IsLoaded : (List Op → Type 0) → Op → Op → Type 0
IsLoaded lists recorded found =
    (op : Op) → IsAmongListed lists op → hash_of op ≡ digest_of recorded → IsFoundAs (Some found) op

-- operations are those of records, one by one
abbrev pub AreLoaded : (List Op → Type 0) → List Op → List Op → Type 0
AreLoaded lists [] [] = Unit {0}
AreLoaded lists [] (found ∷ ops) = ⊥
AreLoaded lists (r ∷ recorded) [] = ⊥
AreLoaded lists (r ∷ recorded) (found ∷ ops) = IsLoaded lists r found × AreLoaded lists recorded ops

-- operations are spelled as others, one by one, and are these, if those are lawful
abbrev pub AreFoundAs : List Op → List Op → Type 0
AreFoundAs [] [] = Unit {0}
AreFoundAs [] (op ∷ ops) = ⊥
AreFoundAs (found ∷ others) [] = ⊥
AreFoundAs (found ∷ others) (op ∷ ops) = IsFoundAs (Some found) op × AreFoundAs others ops
