-- What is given in a round, and what both sides hold then.
use Rattle.std.proofs.Common.{inl, inr, ◌≡◌, ℕ, List, [], ◌∷◌, Bool, true, false, cond, Option, Some, None, refl, sym}
use Rattle.std.proofs.Common.{ap, subst, ◌∙◌}
use Rattle.std.specs.Prelude.{◌⊎◌, filter, IfSome, is_some, not, if◌then◌else◌}
use Rattle.std.specs.Map.{keys_of}
use Rattle.std.specs.BTreeMap.{is_at}
use Rattle.std.specs.FinMap.{entries}
use Rattle.octets.specs.Members.{Has}
use Rattle.archive_model.proofs.MemberLaws.{has_filter, has_filter_map, filter_map_has}
use Rattle.operation.specs.declared.op.Op.{Op}
use Rattle.operation.specs.Spelling.{digest_of}
use Rattle.site_state.specs.Site.{Map, IsSite, held_at, digest_cmp}
use Rattle.site_state.specs.Union.{Agree}
use Rattle.site_state.proofs.Maps.{held, tied, same_sites}
use Rattle.site_state.proofs.Unions.{held_entries}
use Rattle.exchange.specs.declared.version.Version.{Version}
use Rattle.exchange.specs.declared.version.Version.TheVariants.{Two}
use Rattle.exchange.specs.Held.{is_spoken, spoken_of, offered, is_lacking, lacked, if_spoken, given, HasGrown}
use Rattle.exchange.specs.Laws.{IsAnswered, IsRound, RoundGivesAll, RoundsMakeEqual}

-- ---- members

kept_has : (b : Bool) (e : List ℕ × Op) (es : List (List ℕ × Op)) (d : List ℕ) → Has (keys_of es) d
    → Has (keys_of (cond b (e ∷ es) es)) d
kept_has true e es d h = inr h
kept_has false e es d h = h

kept_first : (b : Bool) (e : List ℕ × Op) (es : List (List ℕ × Op)) (d : List ℕ) → b ≡ true → d ≡ e.0
    → Has (keys_of (cond b (e ∷ es) es)) d
kept_first true e es d is at = inl at
kept_first false e es d is at = absurd cc

spoken_either : (version : Version) (d : List ℕ) (op : Op) (e : List ℕ × Op) (es : List (List ℕ × Op)) (b : Bool)
    → is_at (digest_cmp d) e.0 ≡ b → cond b (Some e.1) (held es d) ≡ Some op → is_spoken version op ≡ true
    → (held es d ≡ Some op → Has (spoken_of version es) d) → Has (spoken_of version (e ∷ es)) d
spoken_either version d op e es true at found spoken rest =
    let one : e.1 ≡ op = cc in
    kept_first (is_spoken version e.1) e (filter (λ x. is_spoken version x.1) es) d (ap (is_spoken version) one
    ∙ spoken) (tied d e.0 at)
spoken_either version d op e es false at found spoken rest = kept_has (is_spoken version e.1)
    e (filter (λ x. is_spoken version x.1) es) d (rest found)

spoken_has : (version : Version) (d : List ℕ) (op : Op) (es : List (List ℕ × Op)) → held es d ≡ Some op
    → is_spoken version op ≡ true → Has (spoken_of version es) d
spoken_has version d op [] found spoken = absurd cc
spoken_has version d op (e ∷ es) found spoken = spoken_either version d op e es (is_at (digest_cmp d) e.0) refl found
    spoken (λ there. spoken_has version d op es there spoken)

-- what is held and spoken of is offered
pub offered_has : (version : Version) (m : Map) (d : List ℕ) (op : Op) → held_at m d ≡ Some op → is_spoken version
    op ≡ true → Has (offered version m) d
offered_has version m d op there spoken = spoken_has version d op (entries m) (held_entries m d ∙ there) spoken

-- ---- rounds

-- an operation that is held lies under its digest
pub own_digest : (m : Map) → IsSite m → (d : List ℕ) (op : Op) → held_at m d ≡ Some op → d ≡ digest_of op
own_digest m own d op there = subst (λ (r : Option Op). IfSome r (λ o. d ≡ digest_of o)) there (own d)

spoken_is : (version : Version) (op : Op) → is_spoken version op ≡ true → if_spoken version (Some op) ≡ Some op
spoken_is version op spoken = ap (λ b. if b then Some op else None) spoken

module _ (version : Version) (offering giving asking after : Map) (own : IsSite offering)
    (grown : HasGrown offering giving) (agree : Agree offering after) (have : List (List ℕ))
    (answered : IsAnswered version have asking giving after) (d : List ℕ) (op : Op)
    (there : held_at offering d ≡ Some op) (spoken : is_spoken version op ≡ true) where
  -- what is in a HAVE is held by its receiver in the end
  pub had_is_held : Has have d → (r : Option Op) → held_at asking d ≡ r → held_at after d ≡ Some op
  had_is_held h (Some p) e =
      let kept = answered.grown d p e in
      kept ∙ ap Some (sym (agree d op p there kept))
  had_is_held h None e =
      let wanted = has_filter (is_lacking asking) have d h (ap (λ r. not (is_some r)) e) in
      let gives = has_filter_map (λ x. if_spoken version (held_at giving x)) (lacked asking have) d op
      wanted (ap (if_spoken version) (grown d op there) ∙ spoken_is version op spoken) in
      ap (held_at after) (own_digest offering own d op there) ∙ answered.taken op gives

pub round_gives_all : RoundGivesAll
round_gives_all version offering giving asking after own grown agree answered d op there spoken =
    had_is_held version offering giving asking after own grown agree (offered version offering) answered d op there
    spoken (offered_has version offering d op there spoken) (held_at asking d) refl

pub spoken_some : (r : Option Op) (op : Op) → if_spoken Two r ≡ Some op → r ≡ Some op
spoken_some None op e = absurd cc
spoken_some (Some o) op e = e

-- what a round added was held by the giver
added_was : (from before after : Map) → IsSite from → IsSite after → IsRound from before after → (d : List ℕ) (op : Op)
    → held_at after d ≡ Some op → (held_at before d ≡ Some op) ⊎ (held_at from d ≡ Some op)
added_was from before after own own_after round d op there = by (round.only d op there)
  where
    by : (held_at before d ≡ Some op) ⊎ Has (given Two (lacked before (offered Two from)) from) op
        → (held_at before d ≡ Some op) ⊎ (held_at from d ≡ Some op)
    by (inl e) = inl e
    by (inr h) =
        let made = filter_map_has (λ x. if_spoken Two (held_at from x)) (lacked before (offered Two from)) op h in
        let held_there = spoken_some (held_at from made.0) op made.2 in
        inr (ap (held_at from) (own_digest after own_after d op there ∙ sym (own_digest from own made.0 op held_there))
        ∙ held_there)

pub same_option : (r s : Option Op) → ((op : Op) → r ≡ Some op → s ≡ Some op) → ((op : Op) → s ≡ Some op → r ≡ Some op)
    → r ≡ s
same_option None None there back = refl
same_option None (Some p) there back = back p refl
same_option (Some o) s there back = sym (there o refl)

pub rounds_make_equal : RoundsMakeEqual
rounds_make_equal a b a_after b_after own_a own_b own_after agree agree_after first second = same_sites a_after
    b_after (λ d. same_option (held_at a_after d) (held_at b_after d) (there d) (back d))
  where
    given_first : (d : List ℕ) (op : Op) → held_at a d ≡ Some op → held_at b_after d ≡ Some op
    given_first d op e = round_gives_all Two a a b b_after own_a (λ x o h. h) agree first.answered d op e refl

    there : (d : List ℕ) (op : Op) → held_at a_after d ≡ Some op → held_at b_after d ≡ Some op
    there d op e = by (added_was b_after a a_after own_b own_after second d op e)
      where
        by : (held_at a d ≡ Some op) ⊎ (held_at b_after d ≡ Some op) → held_at b_after d ≡ Some op
        by (inl h) = given_first d op h
        by (inr h) = h

    back : (d : List ℕ) (op : Op) → held_at b_after d ≡ Some op → held_at a_after d ≡ Some op
    back d op e = round_gives_all Two b_after b_after a a_after own_b (λ x o h. h) agree_after second.answered d op e
        refl
