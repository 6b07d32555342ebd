use Rattle.std.proofs.Common.{ap, sym, ◌∙◌, subst}
use Rattle.site_state.specs.Site.{IsSite, HasTop, HasLawful, of_entries}
use Rattle.site_state.specs.Union.{union}
use Rattle.site_state.proofs.Unions.{union_is_site}
use Rattle.site_state.proofs.Tops.{top_merged}
use Rattle.site_state.proofs.Indexed.{index_merged, index_kept}
use Rattle.site_state.proofs.Lawful.{union_lawful}
use Rattle.site_state.proofs.site.Site.merge.Goals as goal

-- A refusal left the tree and the index as they were.
pub invariant_of-self : goal.invariant_of-self
invariant_of-self c = (
  subst IsSite (sym c.in_err-merge_in.ensures.kept) c.self.invariant.0,
  subst (λ m. HasTop m c.self.inside.top) (sym c.in_err-merge_in.ensures.kept) c.self.invariant.1,
  index_kept _ _ _ _ c.in_err-merge_in.ensures.kept c.in_err-merge_in.ensures.index_kept c.self.invariant.2,
  subst HasLawful (sym c.in_err-merge_in.ensures.kept) c.self.invariant.3,
)

-- Operations, top and index are those of both sites.
pub invariant_of-self-2 : goal.invariant_of-self-2
invariant_of-self-2 c =
    let es = c.self.inside.operations.entries in
    let fs = c.other.inside.operations.entries in
    let both = c.in_ok-merge_in.ensures.merged in (
      subst IsSite (sym both) (union_is_site (of_entries es) (of_entries fs) c.self.invariant.0 c.other.invariant.0),
      top_merged (of_entries es) (of_entries fs) (of_entries c.merge_in.new.tree.entries) c.self.inside.top
          c.other.inside.top c.max-self-inside.result both c.if-do_clash.ensures c.self.invariant.1 c.other.invariant.1
          c.max-self-inside.ensures,
      index_merged (of_entries es) (of_entries fs) (of_entries c.merge_in.new.tree.entries) c.self.inside.index
          c.other.inside.index c.merge_in.new.index both c.if-do_clash.ensures c.self.invariant.2 c.other.invariant.2
          c.in_ok-merge_in.ensures.indexed,
      subst HasLawful (sym both) (union_lawful (of_entries es) (of_entries fs) c.self.invariant.3 c.other.invariant.3),
    )

-- Both trees are in one.
pub returns-clause-merged : goal.returns-clause-merged
returns-clause-merged c =
    let fs = c.other.inside.operations.entries in
    c.in_ok-merge_in.ensures.merged ∙ ap (λ m. union m (of_entries fs)) c.self.view_is ∙ ap (union c.args.self.now)
    c.other.view_is
