-- What is listed of the records of a site, with the contents that it holds, is what is prepared.
use Rattle.std.proofs.Common.{◌≡◌, List, [], ◌∷◌, Option, Some, refl, sym, ap, ◌∙◌, map, inl, inr}
use Rattle.std.specs.List.{filter_map, cons_option}
use Rattle.std.specs.Option.{option_map}
use Rattle.octets.specs.Members.{Has}
use Rattle.operation.specs.declared.op.Op.{Op}
use Rattle.operation.specs.declared.op.Op.TheVariants.{Content as a_content}
use Rattle.operation.specs.Parts.{ContentParts}
use Rattle.operation.specs.RecordParts.{ContentRecordParts}
use Rattle.archive_model.specs.declared.view.View.{View}
use Rattle.archive_model.specs.declared.listed.Listed.{Listed}
use Rattle.archive_model.specs.declared.prepared.Prepared.{Prepared}
use Rattle.archive_model.specs.declared.selection.Selection.{Selection}
use Rattle.archive_model.specs.Change.{ChangeParts}
use Rattle.archive_model.specs.Listed.{listed, list_of, with_content}
use Rattle.archive_model.specs.Preparing.{prepared_for, prepared_of}
use Rattle.archive_model.specs.RecordLaws.{KeepTheSame, kept_prepared}
use Rattle.archive_model.specs.Selection.{is_selected, selected}
use Rattle.archive_model.specs.Shown.{shown}
use Rattle.archive_model.proofs.GetLaws.{same_prepared}
use Rattle.archive_model.proofs.Keeping.{map_kept}
use Rattle.archive_model.proofs.MemberLaws.{filter_has}
use Rattle.archive_model.proofs.ModelLaws.{content_has, pick_is_content, shown_are_picks}
use Rattle.site_state.specs.Hidden.{content_held}
use Rattle.site_state.specs.Site.{Map, IsSite, ops_of}
use Rattle.site_state.specs.Whole.{recorded}
use Rattle.site_state.proofs.Lookups.{held_under}
use Rattle.site_state.proofs.Wholes.{records_kept}
use Rattle.archive_query.specs.Loaded.{loaded_of}

-- what is kept of a prepared instance, as it is listed
abbrev relisted : ContentRecordParts × List ChangeParts → Listed
relisted r = record { content = r.0; changes = r.1 }

same_listed : (ops others : List Op) (view : View) (s : Selection) → KeepTheSame ops others
    → list_of view s ops ≡ list_of view s others
unfolding list_of
same_listed ops others view s kept =
    map_kept kept_prepared listed relisted (λ p. refl) (prepared_of view s ops)
    ∙ ap (map relisted) (same_prepared ops others view s kept)
    ∙ sym (map_kept kept_prepared listed relisted (λ p. refl) (prepared_of view s others))

-- the records of operations list the same
pub lists_kept : (m : Map) (view : View) (s : Selection)
    → list_of view s (ops_of (recorded m)) ≡ list_of view s (ops_of m)
lists_kept m view s = same_listed (ops_of (recorded m)) (ops_of m) view s (records_kept m)

-- a content that is held is loaded where it is listed
one_loaded : (m : Map) → IsSite m → (c : ContentParts) → Has (ops_of m) (a_content c)
    → loaded_of m (listed (prepared_for (ops_of m) c)) ≡ Some (prepared_for (ops_of m) c)
one_loaded m site c has =
    ap (λ (r : Option Op). option_map (with_content (listed (prepared_for (ops_of m) c))) (content_held r))
    (held_under m site (a_content c) has)

all_loaded : (m : Map) → IsSite m → (cs : List ContentParts)
    → ((c : ContentParts) → Has cs c → Has (ops_of m) (a_content c))
    → filter_map (loaded_of m) (map listed (map (prepared_for (ops_of m)) cs)) ≡ map (prepared_for (ops_of m)) cs
all_loaded m site [] held = refl
all_loaded m site (c ∷ cs) held =
    ap (λ (r : Option Prepared). cons_option r (filter_map (loaded_of m) (map listed (map (prepared_for (ops_of m))
    cs))))
    (one_loaded m site c (held c (inl refl)))
    ∙ ap (λ (ps : List Prepared). prepared_for (ops_of m) c ∷ ps) (all_loaded m site cs (λ d has. held d (inr has)))

-- what is shown and selected is held
selected_held : (view : View) (s : Selection) (ops : List Op) (c : ContentParts)
    → Has (selected s (shown view ops)) c → Has ops (a_content c)
selected_held view s ops c has =
    let seen = (filter_has (is_selected s) (shown view ops) c has).0 in
    let picked = ((shown_are_picks view ops c).0 seen).0 in
    content_has ops c (pick_is_content c.instance ops c picked).0

pub loaded_are_prepared : (m : Map) → IsSite m → (view : View) (s : Selection)
    → filter_map (loaded_of m) (list_of view s (ops_of m)) ≡ prepared_of view s (ops_of m)
unfolding list_of prepared_of
loaded_are_prepared m site view s =
    all_loaded m site (selected s (shown view (ops_of m))) (selected_held view s (ops_of m))
