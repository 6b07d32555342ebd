-- What is looked up in the index of a site is what its operations say.
use Rattle.std.proofs.Common.{◌≡◌, ℕ, List, Bool, true, false, Option, Some, None, refl, sym, ap, subst, ◌∙◌}
use Rattle.std.specs.Prelude.{IfSome, ◌||◌}
use Rattle.std.proofs.lemmas.Bool.{and_parts as and_both, and_from as both_and, or_left as first_true}
use Rattle.std.specs.Option.{option_map}
use Rattle.std.proofs.lemmas.Bool.{or_right as second_true}
use Rattle.std.specs.Cmp.{both_ways}
use Rattle.rejection_note.specs.declared.title.NoteTitle.{NoteTitle}
use Rattle.rejection_note.specs.declared.title.NoteTitle.TheVariants.{Quality, Safety, Worklist, Expired}
use Rattle.operation.specs.declared.op.Op.{Op}
use Rattle.operation.specs.declared.op.Op.TheVariants.{Content as a_content}
use Rattle.operation.specs.Parts.{ContentParts, CorrectionParts}
use Rattle.operation.specs.Spelling.{digest_of}
use Rattle.octets.specs.Members.{Has}
use Rattle.archive_model.specs.declared.view.View.{View}
use Rattle.archive_model.specs.View.{hides}
use Rattle.archive_model.specs.Contents.{pick}
use Rattle.archive_model.specs.Covered.{is_covered}
use Rattle.archive_model.specs.Attributes.{corrected}
use Rattle.archive_model.specs.Index.{is_titled}
use Rattle.archive_model.proofs.ModelLaws.{content_has, pick_is_content, covered_by_titles}
use Rattle.study_index.specs.Live.{Pick, pick_at}
use Rattle.study_index.specs.Index.{IndexValue, Fix, fix_of, pick_of}
use Rattle.study_index.specs.Definition.{IsIndexOf}
use Rattle.site_state.specs.Site.{Map, IsSite, held_at, ops_of}
use Rattle.site_state.specs.Hidden.{hides_under, is_hidden, content_held}
use Rattle.site_state.proofs.Indexed.{ops_held}

-- an operation of a site lies under its digest
pub held_under : (m : Map) → IsSite m → (o : Op) → Has (ops_of m) o → held_at m (digest_of o) ≡ Some o
held_under m site o h =
    let there = ops_held m o h in
    let own : there.0 ≡ digest_of o = subst (λ (r : Option Op). IfSome r (λ x. there.0 ≡ digest_of x))
    there.1 (site there.0) in
    ap (held_at m) (sym own) ∙ there.1

-- ---- picks

module _ (m : Map) (index : IndexValue) (site : IsSite m) (is : IsIndexOf (ops_of m) index) (uid : List ℕ) where
  pub none_picked : None ≡ pick_at uid index.picks → None ≡ pick uid (ops_of m)
  none_picked e = by (pick uid (ops_of m)) refl
    where
      by : (r : Option ContentParts) → pick uid (ops_of m) ≡ r → None ≡ r
      by None p = refl
      by (Some c) p = absurd (let f : None ≡ Some (pick_of c) = e ∙ is.picks uid ∙ ap (option_map pick_of) p in cc)

  -- the digest of a pick is that of the content that is picked, which is held
  pub found : (p : Pick) → Some p ≡ pick_at uid index.picks → (c : ContentParts) × (pick uid (ops_of m) ≡ Some c)
      × (held_at m p.digest ≡ Some (a_content c))
  found p e = by (pick uid (ops_of m)) refl
    where
      by : (r : Option ContentParts) → pick uid (ops_of m) ≡ r → (c : ContentParts) × (pick uid (ops_of m) ≡ Some c)
          × (held_at m p.digest ≡ Some (a_content c))
      by None q = absurd (let f : Some p ≡ None = e ∙ is.picks uid ∙ ap (option_map pick_of) q in cc)
      by (Some c) q =
          let f : Some p ≡ Some (pick_of c) = e ∙ is.picks uid ∙ ap (option_map pick_of) q in
          let one : p ≡ pick_of c = cc in (
            c,
            q,
            ap (λ (x : Pick). held_at m x.digest) one ∙ held_under m site (a_content c)
                (content_has (ops_of m) c (pick_is_content uid (ops_of m) c q).0),
          )

  pub is_picked : (p : Pick) → Some p ≡ pick_at uid index.picks → content_held (held_at m p.digest) ≡ pick uid
      (ops_of m)
  is_picked p e = let there = found p e in ap content_held there.2 ∙ sym there.1

-- ---- what is covered

one_of_four : {P : Type 0} (a b c d : Bool) → (((a || b) || c) || d) ≡ true → (a ≡ true → P) → (b ≡ true → P)
    → (c ≡ true → P) → (d ≡ true → P) → P
one_of_four true b c d e f g h k = f refl
one_of_four false true c d e f g h k = g refl
one_of_four false false true d e f g h k = h refl
one_of_four false false false d e f g h k = k e

-- a UID is covered where notes of one of the four titles hide it
pub covered_is : (view : View) (ops : List Op) (uid : List ℕ) → is_hidden view ops uid ≡ is_covered view ops uid
covered_is view ops uid = both_ways _ _ there back
  where
    under : (title : NoteTitle) → hides_under view ops uid title ≡ true → is_covered view ops uid ≡ true
    under title e = let both = and_both (hides view title) (is_titled ops uid title) e in
        (covered_by_titles view ops uid).1 (title, both.1, both.0)

    there : is_hidden view ops uid ≡ true → is_covered view ops uid ≡ true
    there e = one_of_four (hides_under view ops uid Quality) (hides_under view ops uid Safety)
        (hides_under view ops uid Worklist) (hides_under view ops uid Expired) e (under Quality) (under Safety)
        (under Worklist) (under Expired)

    named : (title : NoteTitle) → hides_under view ops uid title ≡ true → is_hidden view ops uid ≡ true
    named Quality e = first_true _ _ (first_true _ _ (first_true _ _ e))
    named Safety e = first_true _ _ (first_true _ _ (second_true _ _ e))
    named Worklist e = first_true _ _ (second_true _ _ e)
    named Expired e = second_true _ _ e

    back : is_covered view ops uid ≡ true → is_hidden view ops uid ≡ true
    back e = let w = (covered_by_titles view ops uid).0 e in
        named w.0 (both_and (hides view w.0) (is_titled ops uid w.0) w.2 w.1)

-- ---- attributes

pub value_is : (own : List ℕ) (r : Option CorrectionParts) (f : Fix) → Some f ≡ option_map fix_of r
    → f.value ≡ corrected own r
value_is own None f e = absurd cc
value_is own (Some k) f e = let one : f ≡ fix_of k = cc in ap (λ (x : Fix). x.value) one

pub own_is : (own : List ℕ) (r : Option CorrectionParts) → None ≡ option_map fix_of r → own ≡ corrected own r
own_is own None e = refl
own_is own (Some k) e = absurd cc
