-- What a test of all operations prints.
use Rattle.std.specs.Prelude.{List, ℕ, [], ◌∷◌, ◌++◌, length, codes}
use Rattle.std.specs.List.{flat_map}
use Rattle.site_simulation.specs.Texts.{line, end_line, message_line}
use Rattle.op_shelf.specs.declared.damaged.Damaged.{Damaged}
use Rattle.op_shelf.specs.declared.damaged.Verified.{Verified}

-- a text, and a hyphen where there is none
abbrev pub or_hyphen : List ℕ → List ℕ
or_hyphen [] = codes "-"
or_hyphen (first ∷ rest) = first ∷ rest

-- an operation that is not the one of its digest: the digest, and the SOP Instance UID that it names
abbrev pub damaged_line : Damaged → List ℕ
damaged_line damaged = line (codes "damaged " ++ (or_hyphen damaged.digest ++ 32 ∷ or_hyphen damaged.instance))

-- how many operations there are, those that are not those of their digests, and how many these are
abbrev pub verify_lines : Verified → List ℕ
verify_lines verified =
    message_line (codes "operations") verified.operations
    ++ (flat_map damaged_line verified.damaged.items ++ end_line (length verified.damaged.items))
