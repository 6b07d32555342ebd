-- What contracts see of a hub's keeper, passes and tokens.
use Rattle.std.specs.Prelude.{ℕ, zero, suc, ◌≡◌, ◌++◌, ◌∷◌, ◌⊎◌, List, [], fold, refl, Option, None, Some}
use Rattle.std.specs.FinMap as finmap
use Rattle.std.specs.Coded.{Coded, code_by, coded×, coded_ℕ, coded_list}
use Rattle.operation.specs.OpCode.{op_code}
use mathlib.Core.List.{IsPrefix}
use Rattle.logbook.specs.Pages.{Book, book_coded}
use Rattle.operation.specs.declared.op.Op.{Op}
use Rattle.operation.specs.declared.taken.Taken.{Taken}
use Rattle.operation.specs.declared.taken.Taken.TheVariants.{New, Known}
use Rattle.operation.specs.Spelling.{digest_of}
use Rattle.site_state.specs.Site.{Map, held_at, IsClash}
use Rattle.site_hub.specs.declared.entry.Entry.{Entry}
use Rattle.site_hub.specs.History.{set_of, entry_of, IsHistory}

-- what is published, and the whole history with what is pending behind it
pub record Desk : Type 0 where
  pub published : List Entry
  pub all : List Entry

-- a pass: its number, the beginning of the history that it has seen, the digests of its own entries, and how often
-- something was refused to it
pub record Seat : Type 0 where
  pub number : ℕ
  pub seen : List Entry
  pub mine : List (List ℕ)
  pub refused : ℕ

-- a token: the history reached, and whether the operation was held before
pub record News : Type 0 where
  pub reached : List Entry
  pub taken : Taken

-- a hub that has no name yet
pub record Unnamed : Type 0 where
  pub book : Book
  pub number : ℕ
  pub opening : Map
  pub passes : ℕ

-- by which proofs tell them apart
abbrev pub unnamed_code : Coded Unnamed
unnamed_code = code_by (Book × (ℕ × (Map × ℕ)))
    (coded× book_coded (coded× coded_ℕ (coded× (finmap.code (coded_list coded_ℕ) op_code) coded_ℕ)))
    (λ u. (u.book, (u.number, (u.opening, u.passes))))
    (λ p. record { book = p.0; number = p.1.0; opening = p.1.1.0; passes = p.1.1.1 }) (λ _. refl)

-- a pass that has seen and stored nothing
abbrev pub new_seat : ℕ → Seat
new_seat number = record { number = number; seen = []; mine = []; refused = 0 }

-- so many new passes, numbered from 1
abbrev pub new_seats : ℕ → List Seat
new_seats zero = []
new_seats (suc n) = new_seats n ++ new_seat (suc n) ∷ []

-- whether an operation was held before
abbrev pub WasHeld : Map → Op → Taken → Type 0
WasHeld m op New = held_at m (digest_of op) ≡ None
WasHeld m op Known = held_at m (digest_of op) ≡ Some op

-- the history at the turn of a pass that has seen this: with what is pending, it begins with that
pub record IsTurn (opening : Map) (before turn : List Entry) : Type 0 where
  pub history : IsHistory opening turn
  pub seen : IsPrefix before turn

-- An operation was taken for a pass: at its turn it was new where it was not held, and its entry comes next.
pub record IsTaken (opening : Map) (before : Seat) (op : Op) (taken : Taken) (later : Seat) : Type 0 where
  pub turn : List Entry
  pub comes : IsTurn opening before.seen turn
  pub held : WasHeld (set_of opening turn) op taken
  pub seen : later.seen ≡ turn ++ entry_of before.number op ∷ []

-- An operation was not taken for a pass: at its turn another one of its digest was held.
pub record IsClashed (opening : Map) (before : Seat) (op : Op) : Type 0 where
  pub turn : List Entry
  pub comes : IsTurn opening before.seen turn
  pub clash : IsClash (set_of opening turn) op

-- a pass afterwards: the same one, which has seen no less and has all of its own
pub record IsLater (before later : Seat) : Type 0 where
  pub number : later.number ≡ before.number
  pub seen : IsPrefix before.seen later.seen
  pub mine : IsPrefix before.mine later.mine

-- a pass as it was, but for how often something was refused to it
pub record HasKept (before later : Seat) : Type 0 where
  pub number : later.number ≡ before.number
  pub seen : later.seen ≡ before.seen
  pub mine : later.mine ≡ before.mine

-- a pass after a look: nothing is its own that was not
pub record HasLooked (before later : Seat) : Type 0 where
  pub number : later.number ≡ before.number
  pub seen : IsPrefix before.seen later.seen
  pub mine : later.mine ≡ before.mine

-- the history stays; what is published stays, or is all of it
pub record HasStayed (before later : Desk) : Type 0 where
  pub all : later.all ≡ before.all
  pub published : (later.published ≡ before.published) ⊎ (later.published ≡ before.all)

-- what readers take, and what the next publish shows them
pub record Two : Type 0 where
  pub published : List Entry
  pub reached : List Entry

-- the history after what is pending, each of which is the history after it
abbrev pub last_of : List Entry → List (List Entry) → List Entry
last_of published pending = fold (λ (_ : List Entry) (item : List Entry). item) published pending

-- the history with an item that is not yet handed on
abbrev pub reached_with : List Entry → Option (List Entry) → List Entry
reached_with reached (Some late) = late
reached_with reached None = reached

-- what is published begins the history, which is what it is after all that is behind it
pub record IsBehind (published reached : List Entry) (late : Option (List Entry)) (all : List Entry) : Type 0 where
  pub whole : reached_with reached late ≡ all
  pub begins : IsPrefix published all
