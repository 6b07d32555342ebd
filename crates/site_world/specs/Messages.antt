-- What sites tell each other, and what each message leads to.
use Rattle.std.specs.Prelude.{◌≡◌, ℕ, zero, suc, ◌+◌, ◌==◌, ◌||◌, Bool}
use Rattle.std.specs.Prelude.{List, [], ◌∷◌, ◌++◌, length, map, Option, Some, None}
use Rattle.std.specs.Prelude.{refl, ◌⊎◌, not, if◌then◌else◌}
use Rattle.std.proofs.Common.{inl, inr}
use Rattle.std.specs.List.{slice_get, list_any, range_with_len}
use Rattle.std.specs.FinMap as finmap
use Rattle.std.specs.Coded.{Coded, code_by, coded×, coded⊎, coded_ℕ, coded_list}
use Rattle.operation.specs.declared.op.Op.{Op}
use Rattle.operation.specs.OpCode.{op_code}
use Rattle.site_state.specs.Site.{Map, ops_of}
use Rattle.exchange.specs.declared.version.Version.{Version}
use Rattle.exchange.specs.declared.version.Version.TheVariants.{One, Two}
use Rattle.exchange.specs.Held.{offered, offered_in, lacked, given}
use Rattle.exchange.specs.Buckets.{bucket_list, unequal}
use Rattle.site_world.specs.declared.message.Message.{Message}
use Rattle.site_world.specs.declared.message.Says.{Says}
use Rattle.site_world.specs.declared.message.Says.TheVariants.{Have, Want, Give, Buckets, Differ}
use Rattle.site_world.specs.declared.message.Reaction.{Reaction}
use Rattle.site_world.specs.declared.message.Reaction.TheVariants.{Asks, Compares, Offers, Gives, Takes}

-- ---- several sites

-- what the sites hold, site 1 first; every message that was sent, message 1 first; and the numbers of the sites that
-- know no corrections of series
pub record WorldState : Type 0 where
  pub sites : List Map
  pub sent : List Message
  pub aged : List ℕ

-- so many sites that hold nothing
abbrev pub new_world : List Map → WorldState
new_world sites = record { sites = sites; sent = []; aged = [] }

-- the message of a number, from 1
abbrev pub message_at : List Message → ℕ → Option Message
message_at sent zero = None
message_at sent (suc i) = slice_get sent i

-- the number of the site that a message is for
abbrev pub site_for : Option Message → ℕ
site_for None = 0
site_for (Some message) = message.to

-- whether a site is old
abbrev pub is_old : List ℕ → ℕ → Bool
is_old old number = list_any (λ other. other == number) old

-- what a site knows
abbrev pub version_at : List ℕ → ℕ → Version
version_at old number = if is_old old number then One else Two

-- what two sites speak with each other
abbrev pub version_between : List ℕ → ℕ → ℕ → Version
version_between old a b = if is_old old a then One else version_at old b

-- whether a message is from a site or for it
abbrev pub is_of : ℕ → Message → Bool
is_of number message = message.from == number || message.to == number

-- whether a message was sent from a site or to it
abbrev pub has_met : List Message → ℕ → Bool
has_met sent number = list_any (is_of number) sent

-- whether a site took something, or a message was sent from it or to it
abbrev pub has_begun : List Message → ℕ → Map → Bool
has_begun sent number m = not (length (ops_of m) == 0) || has_met sent number

-- ---- messages

-- What comes of a message at the site that it is for, which holds this. What the version doesn't speak of is left out.
abbrev pub reaction : Version → Map → Says → Reaction
reaction version m (Have have) = Asks (lacked m have)
reaction version m (Want want) = Gives (given version want m)
reaction version m (Give op) = Takes op
reaction version m (Buckets buckets) = Compares (unequal (bucket_list (offered version m)) buckets)
reaction version m (Differ places) = Offers (offered_in version places m)

abbrev pub message : ℕ → ℕ → Says → Message
message from to says = record { from = from; to = to; says = says }

-- a world with a message more
abbrev pub with_message : WorldState → Message → WorldState
with_message w one = record { sites = w.sites; sent = w.sent ++ (one ∷ []); aged = w.aged }

-- a message for each of some operations
abbrev pub gives : ℕ → ℕ → List Op → List Message
gives from to ops = map (λ op. message from to (Give op)) ops

-- the numbers of so many messages behind some
abbrev pub numbers_behind : List Message → ℕ → List ℕ
numbers_behind sent count = range_with_len (length sent + 1) count

-- the operation that a message gives, if it gives one
abbrev pub gift_of : Says → List Op
gift_of (Have have) = []
gift_of (Want want) = []
gift_of (Give op) = op ∷ []
gift_of (Buckets buckets) = []
gift_of (Differ places) = []

abbrev pub gift_in : Option Message → List Op
gift_in None = []
gift_in (Some message) = gift_of message.says

-- ---- codes

abbrev Digests : Type 0
Digests = List (List ℕ)

abbrev pub says_to : Says → Digests ⊎ (Digests ⊎ (Op ⊎ (Digests ⊎ List ℕ)))
says_to (Have have) = inl have
says_to (Want want) = inr (inl want)
says_to (Give op) = inr (inr (inl op))
says_to (Buckets buckets) = inr (inr (inr (inl buckets)))
says_to (Differ places) = inr (inr (inr (inr places)))

abbrev pub says_from : Digests ⊎ (Digests ⊎ (Op ⊎ (Digests ⊎ List ℕ))) → Says
says_from (inl have) = Have have
says_from (inr (inl want)) = Want want
says_from (inr (inr (inl op))) = Give op
says_from (inr (inr (inr (inl buckets)))) = Buckets buckets
says_from (inr (inr (inr (inr places)))) = Differ places

abbrev pub says_back : (s : Says) → says_from (says_to s) ≡ s
says_back (Have have) = refl
says_back (Want want) = refl
says_back (Give op) = refl
says_back (Buckets buckets) = refl
says_back (Differ places) = refl

abbrev pub digests_code : Coded Digests
digests_code = coded_list (coded_list coded_ℕ)

abbrev pub says_code : Coded Says
says_code =
    code_by (Digests ⊎ (Digests ⊎ (Op ⊎ (Digests ⊎ List ℕ))))
    (coded⊎ digests_code (coded⊎ digests_code (coded⊎ op_code (coded⊎ digests_code (coded_list coded_ℕ)))))
    says_to says_from says_back

abbrev pub message_code : Coded Message
message_code =
    code_by (ℕ × (ℕ × Says)) (coded× coded_ℕ (coded× coded_ℕ says_code)) (λ m. (m.from, (m.to, m.says)))
    (λ p. record { from = p.0; to = p.1.0; says = p.1.1 }) (λ _. refl)

abbrev pub world_code : Coded WorldState
world_code =
    code_by (List Map × (List Message × List ℕ))
    (coded× (coded_list (finmap.code (coded_list coded_ℕ) op_code)) (coded× (coded_list message_code) (coded_list
    coded_ℕ))) (λ w. (w.sites, (w.sent, w.aged))) (λ p. record { sites = p.0; sent = p.1.0; aged = p.1.1 }) (λ _. refl)
