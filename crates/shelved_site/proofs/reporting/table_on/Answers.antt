use Rattle.std.proofs.Common.{subst}
use Rattle.site_state.specs.Site.{Map, ops_of}
use Rattle.site_tables.specs.Tables.{IsTable}
use Rattle.shelved_site.proofs.reporting.table_on.Goals as goal

-- The rows are those of what can be read of the store.
pub returns-clause-table : goal.returns-clause-table
returns-clause-table g c clean =
    let old = c.args.store.now in
    let told = c.in_ok-site.field-0.unreadable.items in
    let it = c.in_ok-site.ensures.site clean in
    record {
      ops = it.ops;
      listed = g.met.S.Store.read_shows old c.site_on.new.store told it.ops it.listed;
      told = subst (λ (m : Map). IsTable c.args.table (ops_of m) c.in_ok-rows.rows.items) it.took c.in_ok-rows.ensures;
    }
