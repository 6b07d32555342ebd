-- In which order a side says its frames, from its first to its last.
use Rattle.std.specs.Prelude.{◌≡◌, ◌⊎◌, ℕ, List, [], ◌∷◌, ◌++◌, map}
use Rattle.operation.specs.declared.op.Op.{Op}
use Rattle.site_state.specs.Site.{Map}
use Rattle.exchange_frames.specs.declared.frame.Frame.{Frame}
use Rattle.exchange_frames.specs.declared.frame.Frame.TheVariants.{Have, Want, Give, End, Buckets, Differ, Hello}
use Rattle.exchange.specs.declared.role.Role.{Role}
use Rattle.exchange.specs.declared.role.Role.TheVariants.{Caller, Callee, OldCaller}
use Rattle.exchange.specs.declared.side.Side.{Side}
use Rattle.exchange.specs.declared.side.TheConstants.{OWN_VERSION}
use Rattle.exchange.specs.declared.task.Awaited.TheVariants as awaits
use Rattle.exchange.specs.Course.{Talks}

-- HELLO
abbrev pub IsHello : List Frame → Type 0
IsHello told = told ≡ Hello OWN_VERSION ∷ []

-- BUCKETS, HAVE, a GIVE of each of some operations, END
abbrev pub IsOffer : List Frame → Type 0
IsOffer told =
    (buckets : List (List ℕ)) × (have : List (List ℕ)) × (ops : List Op)
    × (told ≡ Buckets buckets ∷ (Have have ∷ (map (λ op. Give op) ops ++ End ∷ [])))

-- DIFFER, WANT
abbrev pub IsAsking : List Frame → Type 0
IsAsking told = (places : List ℕ) × (want : List (List ℕ)) × (told ≡ Differ places ∷ (Want want ∷ []))

-- one, and then the other
abbrev pub Then : (List Frame → Type 0) → (List Frame → Type 0) → List Frame → Type 0
Then First Second told =
    (first : List Frame) × (second : List Frame) × First first × Second second × (told ≡ first ++ second)

-- the first frame that was heard
abbrev pub BeginsWith : Frame → List Frame → Type 0
BeginsWith frame heard = (more : List Frame) × (heard ≡ frame ∷ more)

-- A caller greets, offers and asks; a callee answers a HELLO, asks and offers. A callee that first hears BUCKETS, and a
-- caller of version 1, say no HELLO.
abbrev pub InOrder : Role → List Frame → List Frame → Type 0
InOrder Caller heard told = Then IsHello (Then IsOffer IsAsking) told
InOrder Callee heard told =
    ((number : ℕ) × BeginsWith (Hello number) heard × Then IsHello (Then IsAsking IsOffer) told)
    ⊎ ((buckets : List (List ℕ)) × BeginsWith (Buckets buckets) heard × Then IsAsking IsOffer told)
InOrder OldCaller heard told = Then IsOffer IsAsking told

-- What a side said that ended is said in this order, and is no other frame.
abbrev pub SaysInOrder : {H : Type 0} → (H → Map) → (H → Type 0) → Type 0
SaysInOrder {H} holds alone =
    (role : Role) (before after : H) (heard told : List Frame) (side : Side)
    → Talks holds alone role before heard told side after → side.awaited ≡ awaits.Nothing → InOrder role heard told
