-- What a report tells of the operations of a store.
use Rattle.std.specs.Prelude.{◌≡◌, ℕ, List}
use Rattle.operation.specs.declared.op.Op.{Op}
use Rattle.archive_model.specs.Contents.{flagged}
use Rattle.site_state.specs.Site.{Map, ops_of, counts_of}
use Rattle.site_tables.specs.declared.table.Table.{Table}
use Rattle.site_tables.specs.Tables.{IsTable}
use Rattle.shelved_site.specs.Fingerprints.{fingerprint_of}
use Rattle.shelved_site.specs.Sites.{after_recording}
use Rattle.shelved_site.specs.declared.reporting.Report.{Report}

-- the report of a site, of so many of whose operations are corrections of series
abbrev pub reported : Map → ℕ → Report
reported m series = record {
  counts = counts_of (ops_of m);
  series = series;
  flagged = flagged (ops_of m);
  fingerprint = fingerprint_of m;
}

-- the kind of a correction of a series
abbrev pub SERIES_KIND : ℕ
SERIES_KIND = 3

-- the report is that of the site of a store, so many of whose operations are corrections of series
pub record IsReport (lists : List Op → Type 0) (series : ℕ) (report : Report) : Type 0 where
  pub ops : List Op
  pub listed : lists ops
  pub told : report ≡ reported (after_recording ops) series

-- the rows of a table are those of the site of a store
pub record IsTableOf (lists : List Op → Type 0) (table : Table) (rows : List (List (List ℕ))) : Type 0 where
  pub ops : List Op
  pub listed : lists ops
  pub told : IsTable table (ops_of (after_recording ops)) rows
