-- Which keys have a walk, and what it comes to.
use Rattle.std.proofs.Common.{◌≡◌, ℕ, ◌<◌, Bool, true, false, List, [], ◌∷◌, ◌++◌, refl, sym, subst, ◌∙◌, inl, inr}
use Rattle.std.proofs.Common.{arith}
use Rattle.std.specs.Prelude.{◌&&◌, ◌||◌, ◌==◌, not}
use Rattle.std.proofs.lemmas.Bool.{eqb-true, and_parts as both, not-true as not_true}
use Rattle.dictionary.specs.declared.elements.TheConstants.{ACCESSION_NUMBER, PATIENT_ID, PATIENT_NAME, STUDY_DATE}
use Rattle.dictionary.specs.declared.elements.TheConstants.{STUDY_ID}
use Rattle.octets.specs.Members.{Has}
use Rattle.archive_model.proofs.MemberLaws.{any_has}
use Rattle.key_matching.specs.Matches.{is_universal, is_match_by}
use Rattle.archive_model.specs.declared.asked.Asked.{Asked}
use Rattle.study_index.specs.Live.{Text}
use Rattle.study_index.specs.Leads.{led_tags, LeadWalk, is_walked, IsWithin}
use Rattle.archive_query.specs.Leads.{is_led_tag, is_text_key, is_dates, is_walkable, IsWalkFor, IsChosen}
use Rattle.archive_query.specs.Leads.{AreChosenWalks}
use Rattle.archive_model.specs.declared.query.Query.{Query}

split : (asked : Asked) → is_walkable asked ≡ true → (is_led_tag asked.tag ≡ true) × (is_universal asked.key ≡ false)
    × ((is_text_key asked.matching asked.tag || is_dates asked.matching asked.tag) ≡ true)
split asked w =
    let outer = both (is_led_tag asked.tag && not (is_universal asked.key))
    (is_text_key asked.matching asked.tag || is_dates asked.matching asked.tag) w in
    let inner = both (is_led_tag asked.tag) (not (is_universal asked.key)) outer.0 in
    (inner.0, not_true (is_universal asked.key) inner.1, outer.1)

-- a key that has a walk is one of dates or of text
pub text_or_dates : (asked : Asked) → is_walkable asked ≡ true → is_dates asked.matching asked.tag ≡ false
    → is_text_key asked.matching asked.tag ≡ true
text_or_dates asked w d = by (is_text_key asked.matching asked.tag) (split asked w).2
  where
    by : (b : Bool) → (b || is_dates asked.matching asked.tag) ≡ true → b ≡ true
    by true e = refl
    by false e = sym d ∙ e

-- the attributes from whose values studies are found have small tags
pub led_small : (asked : Asked) → is_walkable asked ≡ true → asked.tag < 4294967295
led_small asked w =
    let at = any_has (λ one. one == asked.tag) led_tags (split asked w).0 in
    let tie : at.0 ≡ asked.tag = eqb-true at.0 asked.tag at.2 in
    omega (arith, tie, small at.0 at.1)
  where
    small : (t : ℕ) → Has led_tags t → t < 4294967295
    small t (inl e) = let f : t ≡ STUDY_DATE = e in omega (arith, f)
    small t (inr (inl e)) = let f : t ≡ ACCESSION_NUMBER = e in omega (arith, f)
    small t (inr (inr (inl e))) = let f : t ≡ PATIENT_NAME = e in omega (arith, f)
    small t (inr (inr (inr (inl e)))) = let f : t ≡ PATIENT_ID = e in omega (arith, f)
    small t (inr (inr (inr (inr (inl e))))) = let f : t ≡ STUDY_ID = e in omega (arith, f)
    small t (inr (inr (inr (inr (inr never))))) = absurd never

-- a walk that comes to what a key matches is one of the key
pub walk_is : (asked : Asked) (walk : LeadWalk) → is_walkable asked ≡ true
    → ((value : Text) → is_match_by asked.matching asked.key value ≡ true → IsWithin (is_walked walk) asked.tag value)
    → IsWalkFor asked walk
walk_is asked walk w all = record {
  tag = (split asked w).0;
  some = (split asked w).1;
  passes = all;
}

-- ---- one walk more

pub chosen_more : (q : Query) (walks : List (ℕ × LeadWalk)) (one : ℕ × LeadWalk) → AreChosenWalks q walks
    → IsChosen q one → AreChosenWalks q (walks ++ one ∷ [])
chosen_more q [] one all is walk (inl e) = subst (IsChosen q) (sym e) is
chosen_more q [] one all is walk (inr h) = absurd h
chosen_more q (w ∷ walks) one all is walk (inl e) = all walk (inl e)
chosen_more q (w ∷ walks) one all is walk (inr h) = chosen_more q walks one (λ x m. all x (inr m)) is walk h

pub some_more : {X : Type 0} (xs : List X) (x : X) → xs ++ x ∷ [] ≡ [] → ⊥
some_more [] x e = absurd cc
some_more (y ∷ xs) x e = absurd cc
