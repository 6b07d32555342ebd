-- The server that the words behind `serve` ask for.
use Rattle.std.specs.Prelude.{ℕ, ◌≡◌, ◌==◌, ◌<◌, ◌⊎◌, nat_eq, length, IsTrue, List, [], ◌∷◌, Option, None, Some, map, option_map, is_some}
use Rattle.std.specs.Prelude.{if◌then◌else◌, unwrap_or, codes}
use Rattle.std.specs.List.{starts_with}
use Rattle.clap.specs.Walk.{Row}
use Rattle.command_words.specs.Networks.{IsNetworkText}
use Rattle.command_words.specs.declared.DeskAt.{DeskAt}
use Rattle.command_words.specs.declared.Serving.{Serving}
use Rattle.command_words.specs.declared.networks.Network.{Network}
use Rattle.command_line.specs.Found.{given_at, text_at, all_at, number_at, short_at, flag_at}

-- how many exchanges are served: none without an address for them
abbrev pub rounds_at : List Row → ℕ
rounds_at rows =
    if is_some (given_at rows (codes "exchange")) then unwrap_or (number_at rows (codes "rounds")) 0 else 0

-- how many are served at once
abbrev pub exchange_workers_at : List Row → ℕ
exchange_workers_at rows =
    if rounds_at rows == 0 then 0 else unwrap_or (short_at rows (codes "exchange-workers")) 2

-- how long a wait for a peer lasts at most
abbrev pub idle_at : List Row → ℕ
idle_at rows = unwrap_or (number_at rows (codes "idle")) 60

-- corrections are asked for where --desk says, of the site that --site says, or of site 0
abbrev pub IsDeskAt : List Row → Option DeskAt → Type 0
IsDeskAt rows None = given_at rows (codes "desk") ≡ None
IsDeskAt rows (Some desk) = (given_at rows (codes "desk") ≡ Some desk.address.now)
    × (desk.site ≡ unwrap_or (short_at rows (codes "site")) 0)

-- each text is that of the network that stands in its place
abbrev pub AreNetworks : List (List ℕ) → List Network → Type 0
AreNetworks [] [] = Unit {0}
AreNetworks (text ∷ texts) (network ∷ networks) = IsNetworkText text network × AreNetworks texts networks
AreNetworks _ _ = ⊥

-- what a server has that its options say once, each of its own option
pub record ServesBy (rows : List Row) (serving : Serving) : Type 0 where
  pub file : serving.file.now ≡ text_at rows (codes "FILE")
  pub listen : serving.listen.now ≡ text_at rows (codes "listen")
  pub workers : serving.workers ≡ unwrap_or (short_at rows (codes "workers")) 8
  pub each : serving.each ≡ number_at rows (codes "each")
  pub exchange : serving.exchange.now ≡ text_at rows (codes "exchange")
  pub rounds : serving.rounds ≡ rounds_at rows
  pub exchange_workers : serving.exchange_workers ≡ exchange_workers_at rows
  pub page : option_map (λ page. page.now) serving.page ≡ given_at rows (codes "page")
  pub desk : IsDeskAt rows serving.desk
  pub every : serving.every ≡ unwrap_or (number_at rows (codes "every")) 60
  pub cache : serving.cache ≡ unwrap_or (number_at rows (codes "cache")) 32
  pub idle : serving.idle ≡ idle_at rows
  pub ends_with_input : serving.ends_with_input ≡ flag_at rows (codes "until-end-of-input")
  pub shows_without : serving.shows_without ≡ flag_at rows (codes "show-without")
  pub is_verbose : serving.is_verbose ≡ flag_at rows (codes "verbose")

-- what a server has of the options that may be given again and again, in their order
pub record HasLists (rows : List Row) (serving : Serving) : Type 0 where
  pub peers : map (λ peer. peer.now) serving.peers.items ≡ all_at rows (codes "peer")
  pub allowed : AreNetworks (all_at rows (codes "allow")) serving.allowed.items
  pub exchange_allowed : AreNetworks (all_at rows (codes "exchange-allow")) serving.exchange_allowed.items
  pub page_allowed : AreNetworks (all_at rows (codes "page-allow")) serving.page_allowed.items
  pub desk_allowed : AreNetworks (all_at rows (codes "desk-allow")) serving.desk_allowed.items
  pub names : map (λ name. name.now) serving.names.items ≡ all_at rows (codes "name")
  pub callers : map (λ caller. caller.now) serving.callers.items ≡ all_at rows (codes "calling")
  pub quality_callers : map (λ caller. caller.now) serving.quality_callers.items
      ≡ all_at rows (codes "quality-calling")
  pub audit_callers : map (λ caller. caller.now) serving.audit_callers.items
      ≡ all_at rows (codes "audit-calling")

-- No exchange comes in, or those that do are of this machine, or of networks that are named.
abbrev pub IsGuarded : Serving → Type 0
IsGuarded serving = (serving.rounds ≡ 0) ⊎ (0 < length serving.exchange_allowed.items)
    ⊎ IsTrue (starts_with nat_eq serving.exchange.now (codes "127."))

-- a server is what the words behind `serve` ask for
pub record ServesAs (rows : List Row) (serving : Serving) : Type 0 where
  pub once : ServesBy rows serving
  pub lists : HasLists rows serving
