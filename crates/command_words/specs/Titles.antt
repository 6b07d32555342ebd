-- The titles by which clients call a site.
use Rattle.std.specs.Prelude.{ℕ, List, [], ◌∷◌, map, codes}
use Rattle.archive_model.specs.declared.view.View.{View}
use Rattle.archive_model.specs.declared.view.View.TheVariants.{Archive, Quality, Audit}
use Rattle.ul_state.specs.declared.titles.Title.{Title}
use Rattle.command_words.specs.Words.{callers_for}
use Rattle.command_words.specs.declared.Serving.{Serving}

-- the title of a view, and who may call it: where nobody is named, any may
abbrev pub title_for : Serving → List ℕ → View → Title View
title_for s text view = record {
  title = text;
  value = view;
  callers = map (λ c. c.now) (callers_for view s.callers.items s.quality_callers.items s.audit_callers.items);
}

abbrev pub titles_for : Serving → List (Title View)
titles_for s =
    title_for s (codes "ARCHIVE") Archive
    ∷ title_for s (codes "QUALITY") Quality
    ∷ title_for s (codes "AUDIT") Audit
    ∷ []
