-- What a server has counted since it began.
use Rattle.std.specs.Prelude.{ℕ, ◌-◌, Option, Some, None}
use Rattle.site_pages.specs.Tally.{more, no_tally, sum_of}
use Rattle.site_pages.specs.Ends.{no_associations, no_exchanges, with_association_end, with_exchange_end}
use Rattle.site_pages.specs.declared.tally.Tally.{Tally}
use Rattle.site_pages.specs.declared.ends.AssociationEnd.{AssociationEnd}
use Rattle.site_pages.specs.declared.ends.ExchangeEnd.{ExchangeEnd}
use Rattle.site_pages.specs.declared.ends.ExchangeEnd.TheVariants.{Agreed, NotAgreed, Unfinished, Fault, NotReached}
use Rattle.site_pages.specs.declared.meters.Way.{Way}
use Rattle.site_pages.specs.declared.meters.Way.TheVariants.{Served, Called}
use Rattle.site_pages.specs.declared.meters.Met.{Met}
use Rattle.site_pages.specs.declared.meters.Meters.{Meters}

-- nothing was counted
abbrev pub no_meters : Meters
no_meters = record {
  ends = no_associations;
  asked = no_tally;
  served = no_exchanges;
  called = no_exchanges;
  given = 0;
  unread = 0;
  taken = 0;
  busy = 0;
  agreed = None;
}

-- one thread more serves, or one less
abbrev pub with_begun : Meters → Meters
with_begun meters = record meters { busy = more meters.busy 1 }

abbrev pub with_freed : Meters → Meters
with_freed meters = record meters { busy = meters.busy - 1 }

-- one association more, by how it ended, with all that it asked for
abbrev pub with_association : Meters → AssociationEnd → Tally → Meters
with_association meters end tally =
    record meters { ends = with_association_end meters.ends end; asked = sum_of meters.asked tally }

-- when an exchange agreed last, after one that ended so in this second
abbrev pub last_agreed : Option ℕ → ExchangeEnd → ℕ → Option ℕ
last_agreed before Agreed at = Some at
last_agreed before NotAgreed at = before
last_agreed before Unfinished at = before
last_agreed before Fault at = before
last_agreed before NotReached at = before

-- one exchange more, by who called whom, and how it ended
abbrev pub with_way : Meters → Way → ExchangeEnd → Meters
with_way meters Served end = record meters { served = with_exchange_end meters.served end }
with_way meters Called end = record meters { called = with_exchange_end meters.called end }

-- the same, with what was given, what could not be read, and what was taken
abbrev pub with_exchange : Meters → Way → Met → Meters
with_exchange meters way met = record (with_way meters way met.end) {
  given = more meters.given met.given;
  unread = more meters.unread met.unread;
  taken = more meters.taken met.taken;
  agreed = last_agreed meters.agreed met.end met.at;
}
