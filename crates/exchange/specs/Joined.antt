-- What two sides of one exchange hold in the end, where each heard what the other said.
use Rattle.std.specs.Prelude.{◌≡◌, ◌↔◌, ◌≤◌, ℕ, List, Some, true, length, IsTrue}
use Rattle.octets.specs.Members.{Has}
use Rattle.operation.specs.declared.op.Op.{Op}
use Rattle.site_state.specs.Site.{Map, held_at}
use Rattle.site_state.specs.Union.{Agree}
use Rattle.exchange_frames.specs.declared.frame.Frame.{Frame}
use Rattle.exchange_frames.specs.declared.frame.Frame.TheVariants.{Have, Buckets}
use Rattle.exchange_frames.specs.declared.reader.TheConstants.{MOST_DIGESTS}
use Rattle.exchange.specs.declared.version.Version.{Version}
use Rattle.exchange.specs.declared.version.Version.TheVariants.{Two}
use Rattle.exchange.specs.declared.fault.HolderFault.{HolderFault}
use Rattle.exchange.specs.Held.{offered, offered_in, place_of, is_in, IsRecorded, HasGrown}
use Rattle.exchange.specs.Parts.{told_in, IsWhole}
use Rattle.exchange.specs.Buckets.{bucket_list}
use Rattle.exchange.specs.Laws.{BucketsTell}
use Rattle.exchange.specs.declared.role.Role.{Role}
use Rattle.exchange.specs.declared.role.Role.TheVariants.{Caller, Callee, OldCaller}
use Rattle.exchange.specs.declared.role.Ended.{Ended}
use Rattle.exchange.specs.Hearing.{texts}
use Rattle.exchange.specs.RunLaws.{WasCompared, differing}
use Rattle.exchange.specs.Run.{Ends, Exchanged}

-- Both sides of one exchange ended, and the bytes that each wrote are those that the other read.
pub record AreJoined {A B : Type 0} (holds_a : A → Map) (alone_a : A → Type 0)
    (refuses_a : A → A → List ℕ → HolderFault → Type 0) (from_a to_a : Ends A) (ended_a : Ended)
    (holds_b : B → Map) (alone_b : B → Type 0) (refuses_b : B → B → List ℕ → HolderFault → Type 0)
    (from_b to_b : Ends B) (ended_b : Ended) : Type 0 where
  pub caller : Exchanged holds_a alone_a refuses_a Caller from_a to_a ended_a
  pub callee : Exchanged holds_b alone_b refuses_b Callee from_b to_b ended_b
  pub there : texts caller.told ≡ texts callee.heard
  pub back : texts callee.told ≡ texts caller.heard

-- what a side offers whose holder nobody else changes: the caller, which offers first, what it held as the exchange
-- began; the callee, which offers once it was given all, what it holds in the end
abbrev pub lone_offer : Role → Map → Map → Map
lone_offer Caller first last = first
lone_offer Callee first last = last
lone_offer OldCaller first last = first

-- the set that a side offered: its holder had it since the exchange began, and BUCKETS were said of it
pub record WasOffered {H : Type 0} (holds : H → Map) (alone : H → Type 0) (role : Role) (from to : Ends H)
    (told : List Frame) (offer : Map) : Type 0 where
  pub own : IsRecorded offer
  pub since : HasGrown (holds from.holder) offer
  pub until : HasGrown offer (holds to.holder)
  pub said : Has told (Buckets (bucket_list (offered Two offer)))
  pub lone : alone from.holder → offer ≡ lone_offer role (holds from.holder) (holds to.holder)

-- the set of which a HAVE was told, in some places, once another was offered: its holder had it since. One that nobody
-- else changes is the one that was offered. Where the side tells that all fitted, the HAVE has all.
pub record WasTold (version : Version) (lone whole : Type 0) (places : List ℕ) (told : List Frame)
    (offer now had : Map) : Type 0 where
  pub since : HasGrown offer had
  pub until : HasGrown had now
  pub said : Has told (Have (told_in version places had))
  pub fits : whole → length (offered_in version places had) ≤ MOST_DIGESTS
  pub same : lone → had ≡ offer

-- the places in which a set that was compared has other buckets than the one that was offered
abbrev pub places_of : Map → Map → List ℕ
places_of compared offer = differing Two compared (offered Two offer)

-- What is held in these places fits into one HAVE.
abbrev pub AllFits : Map → Map → Map → Type 0
AllFits compared offer had = length (offered_in Two (places_of compared offer) had) ≤ MOST_DIGESTS

-- A digest lies in none of these places, or in one of which the HAVE has all.
abbrev pub IsInPart : Map → Map → Map → List ℕ → Type 0
IsInPart compared offer had digest =
    is_in (places_of compared offer) digest ≡ true
    → IsWhole MOST_DIGESTS (offered_in Two (places_of compared offer) had) (place_of digest)

-- a set has what another has of the digests of which this holds
abbrev pub HoldsPart : (List ℕ → Type 0) → Map → Map → Type 0
HoldsPart Part m n = (digest : List ℕ) (op : Op) → Part digest → held_at m digest ≡ Some op → held_at n digest ≡ Some op

-- What one side offered, what the other side compared with it, and of what a HAVE was told then. Where the exchange
-- of the other is finished it holds in the end what was offered in the places that do not differ, and in those of
-- which the HAVE has all, if unequal digests of a place have unequal buckets in these two sets: so all that was
-- offered, where what is held in the places that differ fits into one HAVE: so it does where either side tells that all
-- fitted. Where it agrees their buckets are equal, and so it does not agree where that does not fit.
pub record WasGained {X Y : Type 0} (holds_x : X → Map) (alone_x : X → Type 0) (from_x to_x : Ends X) (ended_x : Ended)
    (told_x : List Frame) (holds_y : Y → Map) (alone_y : Y → Type 0) (role_y : Role) (from_y to_y : Ends Y)
    (ended_y : Ended) (told_y : List Frame) : Type 0 where
  pub offer : Map
  pub was_offered : WasOffered holds_y alone_y role_y from_y to_y told_y offer
  pub compared : Map
  pub was_compared
      : WasCompared holds_x alone_x Two (offered Two offer) from_x.holder told_x to_x.holder compared
  pub had : Map
  pub was_told : WasTold Two (alone_y from_y.holder) (IsTrue ended_y.whole) (places_of compared offer) told_y offer
      (holds_y to_y.holder) had
  pub part : IsTrue ended_x.finished → BucketsTell (offered Two compared) (offered Two offer)
      → HoldsPart (IsInPart compared offer had) offer (holds_x to_x.holder)
  pub gained : IsTrue ended_x.finished → BucketsTell (offered Two compared) (offered Two offer)
      → AllFits compared offer had → HasGrown offer (holds_x to_x.holder)
  pub fits : IsTrue ended_x.agreed → AllFits compared offer had
  pub came : IsTrue ended_x.whole → AllFits compared offer had
  pub sent : IsTrue ended_y.whole → AllFits compared offer had
  pub agreed : IsTrue ended_x.agreed → bucket_list (offered Two compared) ≡ bucket_list (offered Two offer)

-- A side that is finished holds in the end all that the other side offered, so all that this held as the exchange
-- began, where what differs fits into one HAVE. One side agrees exactly where the other does.
abbrev pub ExchangeGivesAll : {A B : Type 0} → (A → Map) → (A → Type 0) → (A → A → List ℕ → HolderFault → Type 0)
    → (B → Map) → (B → Type 0) → (B → B → List ℕ → HolderFault → Type 0) → Type 0
ExchangeGivesAll {A} {B} holds_a alone_a refuses_a holds_b alone_b refuses_b =
    (from_a to_a : Ends A) (ended_a : Ended) (from_b to_b : Ends B) (ended_b : Ended)
    → (run : AreJoined holds_a alone_a refuses_a from_a to_a ended_a holds_b alone_b refuses_b from_b to_b ended_b)
    → Agree (holds_b to_b.holder) (holds_a to_a.holder)
    → WasGained holds_a alone_a from_a to_a ended_a run.caller.told holds_b alone_b Callee from_b to_b ended_b
    run.callee.told
    × WasGained holds_b alone_b from_b to_b ended_b run.callee.told holds_a alone_a Caller from_a to_a ended_a
    run.caller.told
    × (IsTrue ended_a.agreed ↔ IsTrue ended_b.agreed)

-- Two sides that are finished, and that nobody else changes, hold the same in the end, if unequal digests of a place
-- have unequal buckets in the two pairs of sets that were compared, and what was offered of them fits into one HAVE:
-- what the callee held with what the caller did, and what the caller held with what the callee holds in the end.
abbrev pub ExchangeMakesEqual : {A B : Type 0} → (A → Map) → (A → Type 0) → (A → A → List ℕ → HolderFault → Type 0)
    → (B → Map) → (B → Type 0) → (B → B → List ℕ → HolderFault → Type 0) → Type 0
ExchangeMakesEqual {A} {B} holds_a alone_a refuses_a holds_b alone_b refuses_b =
    (from_a to_a : Ends A) (ended_a : Ended) (from_b to_b : Ends B) (ended_b : Ended)
    → AreJoined holds_a alone_a refuses_a from_a to_a ended_a holds_b alone_b refuses_b from_b to_b ended_b
    → Agree (holds_b to_b.holder) (holds_a to_a.holder) → alone_a from_a.holder → alone_b from_b.holder
    → IsTrue ended_a.finished → IsTrue ended_b.finished
    → BucketsTell (offered Two (holds_b from_b.holder)) (offered Two (holds_a from_a.holder))
    → AllFits (holds_b from_b.holder) (holds_a from_a.holder) (holds_a from_a.holder)
    → BucketsTell (offered Two (holds_a from_a.holder)) (offered Two (holds_b to_b.holder))
    → AllFits (holds_a from_a.holder) (holds_b to_b.holder) (holds_b to_b.holder)
    → holds_a to_a.holder ≡ holds_b to_b.holder
