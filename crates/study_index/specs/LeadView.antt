-- What a lead is seen as.
use Rattle.std.specs.Prelude.{ℕ}
use Rattle.std.specs.Arc.{arc_value}
use Rattle.study_index.specs.declared.leads.Source.{Source}
use Rattle.study_index.specs.declared.leads.Source.TheVariants.{Stored, Given}
use Rattle.study_index.specs.Leads.{Lead, a_lead, stored_lead}

-- one of a content is seen by what the content has
abbrev pub lead_view : ℕ → Source → Lead
lead_view tag (Stored content) = stored_lead content tag
lead_view tag (Given named) = a_lead tag (arc_value named).value (arc_value named).kind (arc_value named).key
