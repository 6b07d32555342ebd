-- What associations asked for, and how it was answered.
use Rattle.std.specs.Prelude.{ℕ, ◌+◌, min, Result, Ok, Err}
use Rattle.operation.specs.declared.taken.Taken.{Taken}
use Rattle.operation.specs.declared.taken.Taken.TheVariants as taken
use Rattle.site_pages.specs.declared.tally.StoreStatus.{StoreStatus}
use Rattle.site_pages.specs.declared.tally.StoreStatus.TheVariants as status
use Rattle.site_pages.specs.declared.tally.Tally.{Tally}

-- so many more, as far as a u64 counts
abbrev pub more : ℕ → ℕ → ℕ
more count by = min (count + by) 18446744073709551615

-- nothing was asked
abbrev pub no_tally : Tally
no_tally = record { new = 0; known = 0; refused = 0; finds = 0; rows = 0; gets = 0; images = 0 }

-- how a store with this reply was answered
abbrev pub store_status : {E : Type 0} → Result Taken E → StoreStatus
store_status (Ok taken.New) = status.New
store_status (Ok taken.Known) = status.Known
store_status (Err fault) = status.Refused

-- one store more that was answered so
abbrev pub with_status : Tally → StoreStatus → Tally
with_status tally status.New = record tally { new = more tally.new 1 }
with_status tally status.Known = record tally { known = more tally.known 1 }
with_status tally status.Refused = record tally { refused = more tally.refused 1 }

abbrev pub with_store : {E : Type 0} → Tally → Result Taken E → Tally
with_store tally reply = with_status tally (store_status reply)

-- one find more
abbrev pub with_find : Tally → Tally
with_find tally = record tally { finds = more tally.finds 1 }

-- so many rows more that finds were answered with
abbrev pub with_rows : Tally → ℕ → Tally
with_rows tally rows = record tally { rows = more tally.rows rows }

-- one retrieval more, which was prepared with so many images
abbrev pub with_get : Tally → ℕ → Tally
with_get tally images = record tally { gets = more tally.gets 1; images = more tally.images images }

-- all that is counted in both
abbrev pub sum_of : Tally → Tally → Tally
sum_of a b = record {
  new = more a.new b.new;
  known = more a.known b.known;
  refused = more a.refused b.refused;
  finds = more a.finds b.finds;
  rows = more a.rows b.rows;
  gets = more a.gets b.gets;
  images = more a.images b.images;
}
