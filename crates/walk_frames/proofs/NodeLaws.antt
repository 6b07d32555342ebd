-- A node that is read is the node that was written, and what was written is read again.
use Rattle.std.proofs.Common.{◌≡◌, ℕ, zero, suc, ◌+◌, ◌*◌, ◌/◌, ◌%◌, ◌≤◌, true, false, ltb, leb, eqb, List}
use Rattle.std.proofs.Common.{[], ◌∷◌, ◌++◌, length, take, drop, get_or, Ok, Err, refl, sym, ap, subst, ◌∙◌, arith}
use Rattle.std.specs.List.{list_all}
use Rattle.std.proofs.lemmas.Bool.{and_parts, and_from, ltb-true, ltb-false, lt-ltb, le-ltb, leb-true, le-leb, eqb-true}
use Rattle.std.proofs.lemmas.Bool.{eq-eqb as eqb_is}
use Rattle.std.proofs.lemmas.List.{take_at, drop_at, take-append-drop, length-append, length-take-le}
use Rattle.std.proofs.lemmas.List.Concat.{flat_map-cons}
use Rattle.octets.specs.Gives.{◌>>=◌}
use Rattle.octets.proofs.ByteLaws.{bind_ok, guard_end, done, ok_is}
use Rattle.exchange_frames.specs.declared.fault.FrameFault.{FrameFault}
use Rattle.exchange_frames.specs.declared.fault.FrameFault.TheVariants.{BadFrame}
use Rattle.walk_frames.specs.Nodes.{is_digit, is_node, node_of, AreDigits, IsNode}
use Rattle.walk_frames.specs.Spelling.{packed, node_text}
use Rattle.walk_frames.specs.Reading.{halves, unpacked, half, digits_at, node_at}
use Rattle.walk_frames.proofs.Readings.{guard_then, OnlyBad, bad_then, bad_cond}

-- ---- digits that are tested

digits_are : (ds : List ℕ) → list_all is_digit ds ≡ true → AreDigits ds
digits_are [] e = tt
digits_are (d ∷ ds) e =
    let p = and_parts (ltb d 16) (list_all is_digit ds) e in
    (ltb-true d 16 p.0, digits_are ds p.1)

digits_pass : (ds : List ℕ) → AreDigits ds → list_all is_digit ds ≡ true
digits_pass [] are = refl
digits_pass (d ∷ ds) are = and_from (ltb d 16) (list_all is_digit ds) (lt-ltb d 16 are.0) (digits_pass ds are.1)

pub node_is : (ds : List ℕ) → is_node ds ≡ true → IsNode ds
node_is ds e =
    let p = and_parts (leb (length ds) 63) (list_all is_digit ds) e in
    record { short = leb-true (length ds) 63 p.0; digits = digits_are ds p.1 }

node_passes : (ds : List ℕ) → IsNode ds → is_node ds ≡ true
node_passes ds is = and_from (leb (length ds) 63) (list_all is_digit ds) (le-leb (length ds) 63 is.short)
    (digits_pass ds is.digits)

-- ---- digits that are packed

unpacked_cons : (b : ℕ) (bs : List ℕ) → unpacked (b ∷ bs) ≡ b / 16 ∷ b % 16 ∷ unpacked bs
unpacked_cons b bs = flat_map-cons halves b bs

pub packed_length : (ds : List ℕ) → length (packed ds) ≡ half (length ds)
packed_length [] = omega arith
packed_length (h ∷ []) = omega arith
packed_length (h ∷ l ∷ ds) = omega (arith, packed_length ds)

-- the digits of bytes that digits fill are those digits
front_again : (ds : List ℕ) → AreDigits ds → take (length ds) (unpacked (packed ds)) ≡ ds
front_again [] are = refl
front_again (h ∷ []) are =
    let same : 16 * h / 16 ≡ h = omega arith in
    ap (take 1) (unpacked_cons (16 * h) []) ∙ ap (λ (n : ℕ). n ∷ []) same
front_again (h ∷ l ∷ ds) are =
    let high : (16 * h + l) / 16 ≡ h = omega (arith, are.1.0) in
    let low : (16 * h + l) % 16 ≡ l = omega (arith, are.1.0) in
    ap (take (suc (suc (length ds)))) (unpacked_cons (16 * h + l) (packed ds))
    ∙ ap (λ (n : ℕ). n ∷ (16 * h + l) % 16 ∷ take (length ds) (unpacked (packed ds))) high
    ∙ ap (λ (n : ℕ). h ∷ n ∷ take (length ds) (unpacked (packed ds))) low
    ∙ ap (λ (t : List ℕ). h ∷ l ∷ t) (front_again ds are.1.1)

-- and what is behind them is 0
behind_again : (ds : List ℕ) → get_or (unpacked (packed ds)) (length ds) 0 ≡ 0
behind_again [] = refl
behind_again (h ∷ []) =
    let none : 16 * h % 16 ≡ 0 = omega arith in
    ap (λ (t : List ℕ). get_or t 1 0) (unpacked_cons (16 * h) []) ∙ none
behind_again (h ∷ l ∷ ds) =
    ap (λ (t : List ℕ). get_or t (suc (suc (length ds))) 0) (unpacked_cons (16 * h + l) (packed ds)) ∙ behind_again ds

-- so many digits of bytes that they fill, behind which 0 stands, fill those bytes
front_takes : (bytes : List ℕ) (depth : ℕ) → length bytes ≡ half depth → get_or (unpacked bytes) depth 0 ≡ 0
    → (packed (take depth (unpacked bytes)) ≡ bytes) × (length (take depth (unpacked bytes)) ≡ depth)
front_takes [] zero long none = (refl, refl)
front_takes (b ∷ bs) zero long none = absurd (omega (arith, long))
front_takes [] (suc zero) long none = absurd (omega (arith, long))
front_takes (b ∷ []) (suc zero) long none =
    let zero_is : b % 16 ≡ 0 = sym (ap (λ (t : List ℕ). get_or t 1 0) (unpacked_cons b [])) ∙ none in
    let byte : 16 * (b / 16) ≡ b = omega (arith, zero_is) in
    let front : take 1 (unpacked (b ∷ [])) ≡ b / 16 ∷ [] = ap (take 1) (unpacked_cons b []) in
    (ap packed front ∙ ap (λ (n : ℕ). n ∷ []) byte, ap length front)
front_takes (b ∷ c ∷ bs) (suc zero) long none = absurd (omega (arith, long))
front_takes [] (suc (suc n)) long none = absurd (omega (arith, long))
front_takes (b ∷ bs) (suc (suc n)) long none =
    let rest : get_or (unpacked bs) n 0 ≡ 0 =
    sym (ap (λ (t : List ℕ). get_or t (suc (suc n)) 0) (unpacked_cons b bs)) ∙ none
    in
    let more = front_takes bs n (omega (arith, long)) rest in
    let byte : 16 * (b / 16) + b % 16 ≡ b = omega arith in
    let front : take (suc (suc n)) (unpacked (b ∷ bs)) ≡ b / 16 ∷ b % 16 ∷ take n (unpacked bs) =
    ap (take (suc (suc n))) (unpacked_cons b bs)
    in (
      ap packed front ∙ ap (λ (m : ℕ). m ∷ packed (take n (unpacked bs))) byte ∙ ap (λ (t : List ℕ). b ∷ t) more.0,
      ap length front ∙ ap (λ (m : ℕ). suc (suc m)) more.1,
    )

-- ---- nodes

-- the node that was read, and what is behind it
read_is : (digits node behind : List ℕ) (x : List ℕ × List ℕ) → digits ≡ node
    → done FrameFault (node, behind) ≡ done FrameFault x → (digits, behind) ≡ x
read_is digits node behind x same e = ap (λ (t : List ℕ). (t, behind)) same ∙ ok_is FrameFault (node, behind) x e

node_takes_rest : (depth : ℕ) (rest : List ℕ) (x : List ℕ × List ℕ) → node_at (depth ∷ rest) ≡ Ok x
    → (depth ∷ rest ≡ node_text x.0 ++ x.1) × IsNode x.0
unfolding node_at digits_at node_of
node_takes_rest depth rest x e =
    let h = half depth in
    let bytes = take h rest in
    let ds = take depth (unpacked bytes) in
    let a = guard_then (ltb (length rest) h) BadFrame (digits_at depth bytes >>= λ digits. node_of digits >>= λ node.
    Ok (node, drop h rest)) x e in
    let b = bind_ok (digits_at depth bytes) (λ digits. node_of digits >>= λ node. Ok (node, drop h rest)) x a.1 in
    let c = bind_ok (node_of b.0) (λ node. Ok (node, drop h rest)) x b.2 in
    let d = guard_end (eqb (get_or (unpacked bytes) depth 0) 0) BadFrame ds b.0 b.1 in
    let n = guard_end (is_node b.0) BadFrame b.0 c.0 c.1 in
    let long : length bytes ≡ h = length-take-le h rest (ltb-false (length rest) h a.0) in
    let f = front_takes bytes depth long (eqb-true (get_or (unpacked bytes) depth 0) 0 d.0) in
    let whole : depth ∷ rest ≡ node_text ds ++ drop h rest =
    ap (λ (t : List ℕ). depth ∷ t) (sym (take-append-drop h rest))
    ∙ ap (λ (t : List ℕ). depth ∷ (t ++ drop h rest)) (sym f.0)
    ∙ ap (λ (m : ℕ). m ∷ (packed ds ++ drop h rest)) (sym f.1)
    in
    let lawful : IsNode ds = subst IsNode (sym d.1) (node_is b.0 n.0) in
    subst (λ (y : List ℕ × List ℕ). (depth ∷ rest ≡ node_text y.0 ++ y.1) × IsNode y.0)
    (read_is ds c.0 (drop h rest) x (d.1 ∙ n.1) c.2) (whole, lawful)

-- What is read of a node is spelled so, and is one.
pub node_takes : (text : List ℕ) (x : List ℕ × List ℕ) → node_at text ≡ Ok x → (text ≡ node_text x.0 ++ x.1)
    × IsNode x.0
unfolding node_at
node_takes [] x e = absurd cc
node_takes (depth ∷ rest) x e = node_takes_rest depth rest x e

digits_again : (ds : List ℕ) → AreDigits ds → digits_at (length ds) (packed ds) ≡ Ok ds
unfolding digits_at
digits_again ds are = rw (eqb_is _ _ (behind_again ds), front_again ds are) refl

one_again : (ds : List ℕ) → IsNode ds → node_of ds ≡ Ok ds
unfolding node_of
one_again ds is = rw (node_passes ds is) refl

-- What is spelled of a node is read again.
pub node_again : (n rest : List ℕ) → IsNode n → node_at (node_text n ++ rest) ≡ Ok (n, rest)
unfolding node_at
node_again n rest is =
    let h = half (length n) in
    let len : length (packed n) ≡ h = packed_length n in
    let fits : h ≤ length (packed n ++ rest) = omega (arith, length-append (packed n) rest, len) in
    let long : ltb (length (packed n ++ rest)) h ≡ false = le-ltb (length (packed n ++ rest)) h fits in
    rw (long, take_at (packed n) rest h len, drop_at (packed n) rest h len, digits_again n is.digits, one_again n is)
    refl

-- ---- faults

node_of_bad : (ds : List ℕ) → OnlyBad (node_of ds)
unfolding node_of
node_of_bad ds = bad_cond (is_node ds) (Ok ds) (Err BadFrame) tt refl

digits_bad : (depth : ℕ) (bytes : List ℕ) → OnlyBad (digits_at depth bytes)
unfolding digits_at
digits_bad depth bytes =
    bad_cond (eqb (get_or (unpacked bytes) depth 0) 0) (Ok (take depth (unpacked bytes))) (Err BadFrame) tt refl

pub node_bad : (text : List ℕ) → OnlyBad (node_at text)
unfolding node_at
node_bad [] = refl
node_bad (depth ∷ rest) =
    let h = half depth in
    bad_cond (ltb (length rest) h) (Err BadFrame)
    (digits_at depth (take h rest) >>= λ digits. node_of digits >>= λ node. Ok (node, drop h rest)) refl
    (bad_then (digits_at depth (take h rest)) (λ digits. node_of digits >>= λ node. Ok (node, drop h rest))
    (digits_bad depth (take h rest))
    (λ digits. bad_then (node_of digits) (λ node. Ok (node, drop h rest)) (node_of_bad digits) (λ node. tt)))
