-- What is walked, by the walk of one key, and members by their places.
use Rattle.std.proofs.Common.{◌≡◌, ℕ, ◌<◌, List, [], ◌∷◌, length, get_or, Option, Some, None, zero, suc, inl, inr}
use Rattle.std.proofs.Common.{Bool, true, false, refl, sym, ap, ◌∙◌, arith}
use Rattle.std.specs.Prelude.{◌&&◌, ◌||◌, IfSome}
use Rattle.std.specs.BTreeMap.{is_at}
use Rattle.std.specs.BTreeSet.{insert_key}
use mathlib.Core.Bool.{and-false as not_any, or-false as or_none}
use Rattle.octets.specs.Members.{Has}
use Rattle.octets.specs.Texts.{text_cmp}
use Rattle.study_index.specs.Keys.{has}
use Rattle.study_index.specs.Proved.Picks.{text_exact}
use Rattle.study_index.proofs.KeyLaws.{same_key}
use Rattle.study_index.proofs.LeadLaws.{put_in}
use Rattle.study_index.specs.Live.{Text}
use Rattle.study_index.specs.Index.{IndexValue}
use Rattle.study_index.specs.Leads.{LeadWalk}
use Rattle.archive_model.specs.declared.query.Query.{Query}
use Rattle.archive_query.specs.Candidates.{AreByOne, AreChosen}
use Rattle.archive_query.specs.Leads.{IsChosen, AreWalksOf}

-- a walk of one of a query's keys
pub chosen_of : (q : Query) (index : IndexValue) (walks : List (ℕ × LeadWalk)) → AreWalksOf q walks
    → (studies : Option (List Text)) → AreByOne walks index studies → AreChosen q index studies
chosen_of q index walks are studies by_one = record {
  one = by_one.one;
  some = chosen by_one.one by_one.is.some;
  none = λ e. are.none (by_one.is.none e);
  studies_are = by_one.studies_are;
}
  where
    chosen : (r : Option (ℕ × LeadWalk)) → IfSome r (Has walks) → IfSome r (IsChosen q)
    chosen None i = i
    chosen (Some walk) i = are.chosen walk i

-- ---- members by their places

pub has_at : {X : Type 0} (xs : List X) (i : ℕ) (d : X) → i < length xs → Has xs (get_or xs i d)
has_at [] i d within = absurd (omega arith)
has_at (x ∷ xs) zero d within = inl refl
has_at (x ∷ xs) (suc i) d within = inr (has_at xs i d (omega arith))

-- ---- what is put in of some, where it passes a test

passes_none : (p : Text → Bool) (one : Text) → p one ≡ false → (u : Text) → (p u && is_at (text_cmp u) one) ≡ false
passes_none p one out u = by (is_at (text_cmp u) one) refl
  where
    by : (b : Bool) → is_at (text_cmp u) one ≡ b → (p u && b) ≡ false
    by true h = ap (λ b. b && true) (ap p (same_key text_exact u one h) ∙ out)
    by false h = not_any (p u)

passes_one : (p : Text → Bool) (one : Text) → p one ≡ true → (u : Text)
    → (p u && is_at (text_cmp u) one) ≡ is_at (text_cmp u) one
passes_one p one here u = by (is_at (text_cmp u) one) refl
  where
    by : (b : Bool) → is_at (text_cmp u) one ≡ b → (p u && b) ≡ b
    by true h = ap (λ b. b && true) (ap p (same_key text_exact u one h) ∙ here)
    by false h = not_any (p u)

pub none_put : (p : Text → Bool) (one : Text) → p one ≡ false → (u : Text) (b : Bool)
    → b ≡ (b || (p u && is_at (text_cmp u) one))
none_put p one out u b = sym (ap (λ x. b || x) (passes_none p one out u) ∙ or_none b)

pub one_put : (p : Text → Bool) (one : Text) → p one ≡ true → (us : List Text) (u : Text)
    → has text_cmp (insert_key text_cmp us one) u ≡ (has text_cmp us u || (p u && is_at (text_cmp u) one))
one_put p one here us u = put_in us one u ∙ ap (λ x. has text_cmp us u || x) (sym (passes_one p one here u))

-- what one more and the rest bring
pub one_more : (old b d rest : Bool) → ((old || (b && d)) || (b && rest)) ≡ (old || (b && (d || rest)))
one_more true b d rest = refl
one_more false true d rest = refl
one_more false false d rest = refl

pub no_more : (old b : Bool) → old ≡ (old || (b && false))
no_more old b = sym (ap (λ x. old || x) (not_any b) ∙ or_none old)
