-- What is spelled is read, and what is read is spelled so.
use Rattle.std.proofs.Common.{◌≡◌, ℕ, zero, suc, ◌*◌, ◌<◌, ◌^◌, Bool, true, false, cond, eqb, List, [], ◌∷◌, ◌++◌}
use Rattle.std.proofs.Common.{length, Option, Some, None, refl, sym, ap, subst, ◌∙◌, arith}
use Rattle.std.specs.Option.{option_map}
use Rattle.std.specs.Int.{w16, w32, from_be_bytes, to_be_bytes}
use Rattle.std.specs.Ordering.{nat_cmp}
use Rattle.std.proofs.lemmas.Bool.{ltb-false, le-ltb, eqb-true, eq-eqb as eqb_is}
use Rattle.std.proofs.lemmas.Bool.Decides.{nat_tests}
use Rattle.std.proofs.lemmas.Nat.{be_bytes_2, be_bytes_4, from_be_bytes-to_be_bytes_2, from_be_bytes-to_be_bytes_4}
use Rattle.std.proofs.lemmas.Option.{cond_some as one_passed}
use Rattle.octets.specs.Bytes.{IsBytes}
use Rattle.octets.specs.Texts.{text_cmp}
use Rattle.octets.proofs.ByteLaws.{IsBytes-two, IsBytes-four}
use Rattle.exchange_frames.specs.declared.frame.Frame.{Frame}
use Rattle.exchange_frames.specs.declared.frame.Frame.TheVariants.{Have, Want, Give, End, Buckets, Differ, Hello}
use Rattle.exchange_frames.specs.Spelling.{digests_text, counted_text, code_of, body_text, ascends, AreDigests}
use Rattle.exchange_frames.specs.Spelling.{IsCounted, IsFrame}
use Rattle.exchange_frames.specs.Reading.{cut, counts_too_many, is_long, counted_at, buckets_at, places_at, version_at}
use Rattle.exchange_frames.specs.Reading.{frame_at, IsBodyOf}
use Rattle.exchange_frames.proofs.Lists.{cut_again, text_length, cut_length, cut_whole, cut_text}

eqb_refl : (n : ℕ) → eqb n n ≡ true
eqb_refl n = grind arith

-- both tests were passed
passed : {X : Type 0} (b c : Bool) (x y : X) → cond b (cond c (Some x) None) None ≡ Some y → (b ≡ true) × (c ≡ true)
    × (x ≡ y)
passed true true x y e = (refl, refl, cc)
passed true false x y e = absurd cc
passed false c x y e = absurd cc

passes : {X : Type 0} (b c : Bool) (x : X) → b ≡ true → c ≡ true → cond b (cond c (Some x) None) None ≡ Some x
passes b c x p q = rw (p, q) refl

-- ---- a count, and digests

pub counted_takes : (body : List ℕ) (ds : List (List ℕ)) → IsBytes body → counts_too_many body ≡ false
    → counted_at body ≡ Some ds → (counted_text ds ≡ body) × IsCounted ds
unfolding counted_at
counted_takes (a ∷ b ∷ c ∷ d ∷ rest) ds fits few e =
    let n = from_be_bytes w32 (a ∷ b ∷ c ∷ d ∷ []) in
    let p = passed (eqb (length rest) (32 * n)) (ascends text_cmp (cut n rest)) (cut n rest) ds e in
    let len : length rest ≡ 32 * n = eqb-true _ _ p.0 in
    let front : to_be_bytes w32 (length (cut n rest)) ≡ a ∷ b ∷ c ∷ d ∷ [] =
    be_bytes_4 (a ∷ b ∷ c ∷ d ∷ []) _ refl (IsBytes-four a b c d (fits 0) (fits 1) (fits 2) (fits 3))
    (cut_length n rest)
    in
    let whole : counted_text (cut n rest) ≡ a ∷ b ∷ c ∷ d ∷ rest =
    ap (λ (t : List ℕ). t ++ digests_text (cut n rest)) front ∙ ap (λ (t : List ℕ). a ∷ b ∷ c ∷ d ∷ t)
    (cut_text n rest len)
    in
    let lawful : IsCounted (cut n rest) =
    record {
      short = omega (arith, cut_length n rest, ltb-false _ _ few);
      whole = cut_whole n rest len;
      ascending =
          p.1;
    }
    in
    subst (λ (x : List (List ℕ)). (counted_text x ≡ a ∷ b ∷ c ∷ d ∷ rest) × IsCounted x) p.2 (whole, lawful)
counted_takes _ ds fits few e = absurd cc

pub counted_again : (ds : List (List ℕ)) → IsCounted ds → counted_at (counted_text ds) ≡ Some ds
unfolding counted_at
counted_again ds is =
    rw (from_be_bytes-to_be_bytes_4 (length ds) (omega (arith, is.short)), cut_again ds is.whole)
    (passes (eqb (length (digests_text ds)) (32 * length ds)) (ascends text_cmp ds)
    ds (eqb_is _ _ (text_length ds is.whole)) is.ascending)

pub counted_few : (ds : List (List ℕ)) → IsCounted ds → counts_too_many (counted_text ds) ≡ false
counted_few ds is = rw (from_be_bytes-to_be_bytes_4 (length ds) (omega (arith, is.short))) (le-ltb _ _ is.short)

-- ---- the others

buckets_takes : (body : List ℕ) (ds : List (List ℕ)) → buckets_at body ≡ Some ds → (digests_text ds ≡ body)
    × (length ds ≡ 256) × AreDigests ds
unfolding buckets_at
buckets_takes body ds e =
    let p = one_passed (eqb (length body) (32 * 256)) (cut 256 body) ds e in
    let len : length body ≡ 32 * 256 = eqb-true _ _ p.0 in
    subst (λ (x : List (List ℕ)). (digests_text x ≡ body) × (length x ≡ 256) × AreDigests x)
    p.1 (cut_text 256 body len, cut_length 256 body, cut_whole 256 body len)

one_passes : {X : Type 0} (b : Bool) (x : X) → b ≡ true → cond b (Some x) None ≡ Some x
one_passes b x p = ap (λ (t : Bool). cond t (Some x) None) p

some_is : {X : Type 0} (x y : X) → x ≡ y → Some x ≡ Some y
some_is {X} x y e = ap (λ (t : X). Some t) e

buckets_again : (ds : List (List ℕ)) → length ds ≡ 256 → AreDigests ds → buckets_at (digests_text ds) ≡ Some ds
unfolding buckets_at
buckets_again ds len are =
    one_passes (eqb (length (digests_text ds)) (32 * 256)) (cut 256 (digests_text ds))
    (eqb_is _ _ (text_length ds are ∙ ap (λ (n : ℕ). 32 * n) len))
    ∙ some_is _ _ (ap (λ (n : ℕ). cut n (digests_text ds)) (sym len) ∙ cut_again ds are)

places_takes : (body ps : List ℕ) → IsBytes body → places_at body ≡ Some ps → (to_be_bytes w16 (length ps) ++ ps ≡ body)
    × (length ps < 2 ^ 16) × (ascends nat_cmp ps ≡ true)
unfolding places_at
places_takes (a ∷ b ∷ rest) ps fits e =
    let n = from_be_bytes w16 (a ∷ b ∷ []) in
    let p = passed (eqb (length rest) n) (ascends nat_cmp rest) rest ps e in
    let len : length rest ≡ n = eqb-true _ _ p.0 in
    let front : to_be_bytes w16 (length rest) ≡ a ∷ b ∷ [] = be_bytes_2 (a ∷ b ∷ []) _
    refl (IsBytes-two a b (fits 0) (fits 1)) len in
    subst (λ (x : List ℕ). (to_be_bytes w16 (length x) ++ x ≡ a ∷ b ∷ rest) × (length x < 2 ^ 16)
    × (ascends nat_cmp x ≡ true)) p.2
    (ap (λ (t : List ℕ). t ++ rest) front, omega (arith, len, fits 0, fits 1), p.1)
places_takes [] ps fits e = absurd cc
places_takes (a ∷ []) ps fits e = absurd cc

places_again : (ps : List ℕ) → length ps < 2 ^ 16 → ascends nat_cmp ps ≡ true
    → places_at (to_be_bytes w16 (length ps) ++ ps) ≡ Some ps
unfolding places_at
places_again ps short up =
    rw (from_be_bytes-to_be_bytes_2 (length ps) short) (passes (eqb (length ps) (length ps)) (ascends nat_cmp ps)
    ps (eqb_refl (length ps)) up)

version_takes : (body : List ℕ) (v : ℕ) → IsBytes body → version_at body ≡ Some v → (to_be_bytes w16 v ≡ body)
    × (v < 2 ^ 16)
version_takes (a ∷ b ∷ []) v fits e =
    let n = from_be_bytes w16 (a ∷ b ∷ []) in
    let same : n ≡ v = cc in
    subst (λ (x : ℕ). (to_be_bytes w16 x ≡ a ∷ b ∷ []) × (x < 2 ^ 16)) same
    (be_bytes_2 (a ∷ b ∷ []) n refl (IsBytes-two a b (fits 0) (fits 1)) refl, omega (arith, fits 0, fits 1))
version_takes [] v fits e = absurd cc
version_takes (a ∷ []) v fits e = absurd cc
version_takes (a ∷ b ∷ c ∷ rest) v fits e = absurd cc

version_again : (v : ℕ) → v < 2 ^ 16 → version_at (to_be_bytes w16 v) ≡ Some v
version_again v lt = some_is _ _ (from_be_bytes-to_be_bytes_2 v lt)

-- ---- frames

mapped : {X : Type 0} (g : X → Frame) (o : Option X) (f : Frame) → option_map g o ≡ Some f → (x : X) × (o ≡ Some x)
    × (g x ≡ f)
mapped g (Some x) f e = (x, refl, cc)
mapped g None f e = absurd cc

-- a frame of a known value
abbrev is_of : (f g : Frame) (kind : ℕ) (body : List ℕ) → g ≡ f → IsBodyOf g kind body → IsBodyOf f kind body
is_of f g kind body e is = subst (λ (x : Frame). IsBodyOf x kind body) e is

differs : (a b : ℕ) → b < a → eqb a b ≡ false
differs a b lt = grind (arith, nat_tests)

frame_beyond : (kind : ℕ) (body : List ℕ) → 7 < kind → frame_at kind body ≡ None
unfolding frame_at
frame_beyond kind body lt =
    rw (
      differs kind 1 (omega (arith, lt)),
      differs kind 2 (omega (arith, lt)),
      differs kind 4 (omega (arith, lt)),
      differs kind 5 (omega (arith, lt)),
      differs kind 6 (omega (arith, lt)),
      differs kind 7 lt,
    ) refl

no_frame : (o : Option Frame) (f : Frame) → o ≡ None → o ≡ Some f → ⊥
no_frame o f p q = absurd cc

pub frame_takes : (kind : ℕ) (body : List ℕ) (f : Frame) → IsBytes body → is_long kind body ≡ false
    → frame_at kind body ≡ Some f → IsBodyOf f kind body
unfolding frame_at is_long
frame_takes (suc zero) body f fits few e =
    let m = mapped (λ ds. Have ds) (counted_at body) f e in
    let t = counted_takes body m.0 fits few m.1 in
    is_of f (Have m.0) 1 body m.2 (record { kind_is = refl; body_is = t.0; lawful = t.1 })
frame_takes (suc (suc zero)) body f fits few e =
    let m = mapped (λ ds. Want ds) (counted_at body) f e in
    let t = counted_takes body m.0 fits few m.1 in
    is_of f (Want m.0) 2 body m.2 (record { kind_is = refl; body_is = t.0; lawful = t.1 })
frame_takes (suc (suc (suc (suc zero)))) [] f fits few e =
    let same : End ≡ f = cc in
    is_of f End 4 [] same (record { kind_is = refl; body_is = refl; lawful = tt })
frame_takes (suc (suc (suc (suc zero)))) (b ∷ body) f fits few e = absurd cc
frame_takes (suc (suc (suc (suc (suc zero))))) body f fits few e =
    let m = mapped (λ ds. Buckets ds) (buckets_at body) f e in
    let t = buckets_takes body m.0 m.1 in
    is_of f (Buckets m.0) 5 body m.2 (record { kind_is = refl; body_is = t.0; lawful = (t.1, t.2) })
frame_takes (suc (suc (suc (suc (suc (suc zero)))))) body f fits few e =
    let m = mapped (λ ps. Differ ps) (places_at body) f e in
    let t = places_takes body m.0 fits m.1 in
    is_of f (Differ m.0) 6 body m.2 (record { kind_is = refl; body_is = t.0; lawful = (t.1, t.2) })
frame_takes (suc (suc (suc (suc (suc (suc (suc zero))))))) body f fits few e =
    let m = mapped (λ v. Hello v) (version_at body) f e in
    let t = version_takes body m.0 fits m.1 in
    is_of f (Hello m.0) 7 body m.2 (record { kind_is = refl; body_is = t.0; lawful = t.1 })
frame_takes zero body f fits few e = absurd cc
frame_takes (suc (suc (suc zero))) body f fits few e = absurd cc
frame_takes (suc (suc (suc (suc (suc (suc (suc (suc n)))))))) body f fits few e =
    absurd (no_frame (frame_at (suc (suc (suc (suc (suc (suc (suc (suc n)))))))) body)
    f (frame_beyond (suc (suc (suc (suc (suc (suc (suc (suc n)))))))) body (omega arith)) e)

spelled_again : (f : Frame) → IsFrame f → (code_of f ≡ 3 → ⊥) → frame_at (code_of f) (body_text f) ≡ Some f
unfolding frame_at
spelled_again (Have ds) is other = ap (option_map (λ x. Have x)) (counted_again ds is)
spelled_again (Want ds) is other = ap (option_map (λ x. Want x)) (counted_again ds is)
spelled_again (Give op) is other = absurd (other refl)
spelled_again End is other = refl
spelled_again (Buckets ds) is other = ap (option_map (λ x. Buckets x)) (buckets_again ds is.0 is.1)
spelled_again (Differ ps) is other = ap (option_map (λ x. Differ x)) (places_again ps is.0 is.1)
spelled_again (Hello v) is other = ap (option_map (λ x. Hello x)) (version_again v is)

spelled_few : (f : Frame) → IsFrame f → is_long (code_of f) (body_text f) ≡ false
unfolding is_long
spelled_few (Have ds) is = counted_few ds is
spelled_few (Want ds) is = counted_few ds is
spelled_few (Give op) is = refl
spelled_few End is = refl
spelled_few (Buckets ds) is = refl
spelled_few (Differ ps) is = refl
spelled_few (Hello v) is = refl

-- what a frame's body is read as
pub frame_again : (f : Frame) (kind : ℕ) (body : List ℕ) → IsBodyOf f kind body → (kind ≡ 3 → ⊥)
    → frame_at kind body ≡ Some f
frame_again f kind body is other =
    ap (λ (k : ℕ). frame_at k body) (sym is.kind_is) ∙ ap (frame_at (code_of f)) (sym is.body_is)
    ∙ spelled_again f is.lawful (λ e. other (sym is.kind_is ∙ e))

pub frame_few : (f : Frame) (kind : ℕ) (body : List ℕ) → IsBodyOf f kind body → is_long kind body ≡ false
frame_few f kind body is =
    ap (λ (k : ℕ). is_long k body) (sym is.kind_is) ∙ ap (is_long (code_of f)) (sym is.body_is)
    ∙ spelled_few f is.lawful
