-- What a join is: the order of joins is free, and so are repeats.
use Rattle.std.specs.Prelude.{◌≡◌, false, ◌↔◌, Option, None, Some, List, [], ◌∷◌, Contains}
use Rattle.std.specs.Ordering.{is_lt}
use Rattle.std.specs.declared.cmp.Ordering.{Ordering}
use Rattle.std.specs.declared.cmp.Ordering.TheVariants.{Equal}

-- what compares equal is one value
abbrev pub IsExact : {T : Type 0} → (T → T → Ordering) → Type 0
IsExact {T} cmp = (x y : T) → cmp x y ≡ Equal → x ≡ y

-- the order does not put x before y
abbrev pub IsNotBelow : {T : Type 0} → (T → T → Ordering) → T → T → Type 0
IsNotBelow cmp x y = is_lt (cmp x y) ≡ false

-- the laws of a join over the values that a type holds
pub record JoinLaws {V : Type 0} (IsHeld : V → Type 0) (joined : V → V → V) : Type 0 where
  pub held : (a b : V) → IsHeld a → IsHeld b → IsHeld (joined a b)
  pub commutative : (a b : V) → IsHeld a → IsHeld b → joined a b ≡ joined b a
  pub associative : (a b c : V) → IsHeld a → IsHeld b → IsHeld c → joined (joined a b) c ≡ joined a (joined b c)
  pub idempotent : (a : V) → IsHeld a → joined a a ≡ a

-- two that may be absent: what is absent adds nothing
abbrev pub joined_options : {V : Type 0} → (V → V → V) → Option V → Option V → Option V
joined_options joined None b = b
joined_options joined (Some x) None = Some x
joined_options joined (Some x) (Some y) = Some (joined x y)

-- what the value was before, where it changed: nothing says that it is the same
abbrev pub IsBefore : {V : Type 0} → V → V → Option V → Type 0
IsBefore old new None = new ≡ old
IsBefore old new (Some before) = before ≡ old

-- the value of a list of operations: those of its operations, joined
abbrev pub summary_of : {V O : Type 0} → (V → V → V) → V → (O → V) → List O → V
summary_of joined nothing of_one [] = nothing
summary_of joined nothing of_one (op ∷ ops) = joined (of_one op) (summary_of joined nothing of_one ops)

-- the laws of the values of lists, beside those of the join
pub record SummaryLaws {V O : Type 0} (IsHeld : V → Type 0) (joined : V → V → V) (nothing : V) (of_one : O → V) : Type 0
  where
    pub nothing_held : IsHeld nothing
    pub one_held : (op : O) → IsHeld (of_one op)
    pub neutral : (a : V) → IsHeld a → joined nothing a ≡ a

-- each has what the other has, in whatever order and however often
abbrev pub HasSameMembers : {O : Type 0} → List O → List O → Type 0
HasSameMembers {O} xs ys = (op : O) → Contains xs op ↔ Contains ys op
