use Rattle.std.proofs.Common.{sym, ap, map, ◌∙◌}
use Rattle.std.specs.List.{list_any}
use Rattle.association_session.specs.declared.deed.Deed.TheVariants.{Send}
use Rattle.association_session.specs.Session.{is_abort}
use Rattle.association_session.proofs.DeedsLaws.{no_abort, any_behind}
use Rattle.association_session.proofs.deeds.Deeds.has_abort.Goals as goal

-- No fragment is one, so a outgoing has it.
pub returns : goal.returns
returns c = c.is_abort_in.ensures
    ∙ sym (any_behind is_abort (map Send c.self.inside.sending) c.self.inside.outgoing.items
    (no_abort c.self.inside.sending c.see_data.ensures)) ∙ ap (list_any is_abort) c.self.view_is
