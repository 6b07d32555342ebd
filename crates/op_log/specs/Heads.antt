-- The two parts of an operation's spelling, and its head.
use Rattle.std.specs.Prelude.{◌≡◌, ◌+◌, ◌-◌, ◌<◌, ◌^◌, ℕ, List, [], ◌∷◌, ◌++◌, length, take, drop, refl}
use Rattle.std.specs.Coded.{Coded, code_by, coded×, coded_ℕ, coded_list}
use Rattle.std.specs.Int.{w64, to_le_bytes}
use Rattle.operation.specs.declared.op.Op.{Op}
use Rattle.operation.specs.declared.op.Op.TheVariants.{Content as a_content, Correction as a_correction}
use Rattle.operation.specs.Spelling.{spelling, hash_of}

-- how long the data set is; a correction has none
abbrev pub size_of : Op → ℕ
size_of (a_content c) = length c.body
size_of (a_correction k) = 0

-- the spelling without the data set, which stands at its end
unfoldable pub front_of : Op → List ℕ
front_of op = take (length (spelling op) - size_of op) (spelling op)

-- and the data set
unfoldable pub body_of : Op → List ℕ
body_of op = drop (length (spelling op) - size_of op) (spelling op)

-- how many bytes the data sets of operations have
abbrev pub bodies_long : List Op → ℕ
bodies_long [] = 0
bodies_long (op ∷ ops) = length (body_of op) + bodies_long ops

-- and their heads
abbrev pub heads_long : List Op → ℕ
heads_long [] = 0
heads_long (op ∷ ops) = length (front_of op) + 56 + heads_long ops

-- an operation, and where its data set lies
abbrev pub Entry : Type 0
Entry = Op × ℕ

-- a head: the digest of an operation, its spelling without the data set, where that lies, and how long it is
pub record Head : Type 0 where
  pub digest : List ℕ
  pub front : List ℕ
  pub at : ℕ
  pub size : ℕ

-- a head is stored as its parts
abbrev pub head_code : Coded Head
head_code =
    code_by (List ℕ × (List ℕ × (ℕ × ℕ)))
    (coded× (coded_list coded_ℕ) (coded× (coded_list coded_ℕ) (coded× coded_ℕ coded_ℕ)))
    (λ h. (h.digest, (h.front, (h.at, h.size))))
    (λ p. record { digest = p.0; front = p.1.0; at = p.1.1.0; size = p.1.1.1 })
    (λ _. refl)

-- the head of an entry
abbrev pub head_of : Entry → Head
head_of e = record { digest = hash_of e.0; front = front_of e.0; at = e.1; size = length (body_of e.0) }

-- a number in eight bytes, low byte first
unfoldable pub number_text : ℕ → List ℕ
number_text n = to_le_bytes w64 n

-- a head: how long the front of the spelling is, where the data set lies and how long that is, the digest, and
-- the front
unfoldable pub head_text : Head → List ℕ
head_text h =
    number_text (length h.front) ++ (number_text h.at ++ (number_text h.size ++ (h.digest ++ h.front)))

-- a group: its heads, one behind the other
abbrev pub group_text : List Head → List ℕ
group_text [] = []
group_text (h ∷ heads) = head_text h ++ group_text heads

-- a head has a digest of 32 bytes, and numbers of eight
pub record IsSpelled (h : Head) : Type 0 where
  pub digest : length h.digest ≡ 32
  pub front : length h.front < 2 ^ 64
  pub at : h.at < 2 ^ 64
  pub size : h.size < 2 ^ 64
