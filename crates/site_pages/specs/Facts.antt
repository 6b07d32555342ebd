-- What a server knows of its exchanges with each peer, and tells of itself as rows of its site's page.
use Rattle.std.specs.Prelude.{ℕ, ◌-◌, List, [], ◌∷◌, ◌++◌, Option, Some, None, Bool, ◌||◌, nat_le, codes, cond}
use Rattle.std.specs.Prelude.{length, map}
use Rattle.std.specs.Fmt.{decimal}
use Rattle.std.specs.List.{list_any}
use Rattle.octets.specs.Texts.{same}
use Rattle.archive_page.specs.declared.fact.Fact.{Fact}
use Rattle.site_pages.specs.Meters.{last_agreed}
use Rattle.site_pages.specs.Tally.{more}
use Rattle.site_pages.specs.declared.ends.ExchangeEnd.{ExchangeEnd}
use Rattle.site_pages.specs.declared.ends.ExchangeEnd.TheVariants.{Agreed, NotAgreed, Unfinished, Fault, NotReached}
use Rattle.site_pages.specs.declared.facts.Meeting.{Meeting}
use Rattle.site_pages.specs.declared.meters.Met.{Met}
use Rattle.site_pages.specs.declared.meters.Way.{Way}
use Rattle.site_pages.specs.declared.meters.Way.TheVariants.{Served, Called}

-- how an exchange ended, in words
abbrev pub end_text : ExchangeEnd → List ℕ
end_text Agreed = codes "agreed"
end_text NotAgreed = codes "not agreed"
end_text Unfinished = codes "unfinished"
end_text Fault = codes "broken off"
end_text NotReached = codes "not reached"

-- what came of an exchange: how it ended, what was given and taken, and how long ago
abbrev pub met_text : Met → ℕ → List ℕ
met_text met now =
    end_text met.end ++ codes ", given " ++ decimal met.given ++ codes ", taken " ++ decimal met.taken
    ++ codes ", " ++ decimal (now - met.at) ++ codes " seconds ago"

-- how long ago one agreed last
abbrev pub agreed_text : Option ℕ → ℕ → List ℕ
agreed_text None now = codes "; never agreed"
agreed_text (Some at) now = codes "; agreed " ++ decimal (now - at) ++ codes " seconds ago"

-- what came of the last exchange with a peer, and when one agreed
abbrev pub last_text : Option Met → Option ℕ → ℕ → List ℕ
last_text None agreed now = codes "not called yet"
last_text (Some met) agreed now = met_text met now ++ agreed_text agreed now

-- what a peer is called, by who calls whom
abbrev pub word_of : Way → List ℕ
word_of Called = codes "peer"
word_of Served = codes "caller"

-- what is told of a peer
abbrev pub peer_fact : Way → ℕ → Meeting → Fact
peer_fact way now peer = record {
  what = word_of way ++ codes " " ++ peer.address;
  value = last_text peer.last peer.agreed now;
}

-- for how long the server runs
abbrev pub uptime_fact : ℕ → Fact
uptime_fact now = record { what = codes "uptime"; value = decimal now ++ codes " seconds" }

-- all that it tells of itself
abbrev pub facts_in : List Meeting → List Meeting → ℕ → List Fact
facts_in peers callers now = uptime_fact now ∷ map (peer_fact Called now) peers ++ map (peer_fact Served now) callers

-- a peer, with what came of one exchange more
abbrev pub with_met : Met → Meeting → Meeting
with_met met peer = record {
  address = peer.address;
  last = Some met;
  agreed = last_agreed peer.agreed met.end met.at;
  given = more peer.given met.given;
  taken = more peer.taken met.taken;
}

-- the same, where it was the peer with this address
abbrev pub noted : List ℕ → Met → Meeting → Meeting
noted address met peer = cond (same peer.address address) (with_met met peer) peer

-- a peer with which nothing was exchanged yet
abbrev pub unmet : List ℕ → Meeting
unmet address = record { address = address; last = None; agreed = None; given = 0; taken = 0 }

-- one of the peers has this address
abbrev pub is_among : List ℕ → List Meeting → Bool
is_among address peers = list_any (λ peer. same peer.address address) peers

-- peers, with one more behind them, unless it stands there or 64 do
abbrev pub entered : List ℕ → List Meeting → List Meeting
entered address peers =
    cond (nat_le 64 (length peers) || is_among address peers) peers (peers ++ unmet address ∷ [])

-- callers, with what came of an exchange of the one with this address
abbrev pub called_by : List ℕ → Met → List Meeting → List Meeting
called_by address met callers = map (noted address met) (entered address callers)
