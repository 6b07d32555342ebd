-- What stands for the operations of a set.
use Rattle.std.proofs.Common.{◌≡◌, ℕ, List, [], ◌∷◌, Bool, true, false, cond, Option, Some, None, refl, sym, ap, ◌∙◌}
use Rattle.std.specs.Prelude.{filter, map}
use Rattle.std.specs.Option.{option_map}
use Rattle.std.specs.Ordering.{eq_by_cmp}
use Rattle.std.specs.Map.{keys_of}
use Rattle.std.specs.FinMap.{entries, entries_sorted, get-insert}
use Rattle.std.specs.Cmp.Lexicographic.{nat_list_cmp_total}
use Rattle.operation.specs.declared.op.Op.{Op}
use Rattle.operation.specs.declared.op.Op.TheVariants.{Content as a_content, Correction as a_correction}
use Rattle.operation.specs.Spelling.{digest_of}
use Rattle.records.specs.StandIn.{op_in}
use Rattle.site_state.specs.Site.{Map, IsSite, held_at, with_op, digest_cmp}
use Rattle.site_state.specs.Whole.{entry_in, recorded}
use Rattle.site_state.proofs.Maps.{same_sites, sorted_entries}
use Rattle.site_state.proofs.Tops.{ascend}
use Rattle.site_state.proofs.Wholes.{recorded_at, missing_kept}
use Rattle.exchange.specs.declared.version.Version.{Version}
use Rattle.exchange.specs.declared.version.Version.TheVariants.{One, Two}
use Rattle.exchange.specs.Held.{is_spoken, spoken_of, offered, offered_in, is_in, lacked, with_op_in, IsRecorded}
use Rattle.exchange.specs.Held.{HasDigests, IsLoaded}
use Rattle.exchange.proofs.Rounds.{own_digest}

-- ---- what is held

some_in : (r : Option Op) (o : Op) → option_map op_in r ≡ Some o → (op : Op) × (r ≡ Some op) × (op_in op ≡ o)
some_in None o e = absurd cc
some_in (Some op) o e = (op, refl, cc)

-- So each stands for an operation of its digest.
pub is_recorded : (m : Map) → IsSite m → IsRecorded (recorded m)
is_recorded m own d o there =
    let at = some_in (held_at m d) o (sym (recorded_at m d) ∙ there) in
    (at.0, (there ∙ ap Some (sym at.2), sym (own_digest m own d at.0 at.1)))

pub site_digests : (m : Map) → IsSite m → HasDigests m
site_digests m own d o there = (o, sym (own_digest m own d o there))

pub recorded_digests : (m : Map) → IsRecorded m → HasDigests m
recorded_digests m own d o there = let at = own d o there in (at.0, at.1.1)

-- ---- what is told of it

-- Whether a version speaks of an operation its bytes do not tell.
pub spoken_in : (version : Version) (op : Op) → is_spoken version (op_in op) ≡ is_spoken version op
spoken_in One (a_content c) = refl
spoken_in One (a_correction k) = refl
spoken_in Two op = refl

keys_in : (es : List (List ℕ × Op)) → keys_of (map entry_in es) ≡ keys_of es
keys_in [] = refl
keys_in (e ∷ es) = ap (λ (ds : List (List ℕ)). e.0 ∷ ds) (keys_in es)

recorded_entries : (m : Map) → entries (recorded m) ≡ map entry_in (entries m)
unfolding recorded
recorded_entries m = sorted_entries (map entry_in (entries m))
    (rw (keys_in (entries m)) (ascend (entries m) (entries_sorted m)))

spoken_entries : (version : Version) (es : List (List ℕ × Op)) → spoken_of version (map entry_in es)
    ≡ spoken_of version es
spoken_entries version [] = refl
spoken_entries version (e ∷ es) =
    ap (λ (b : Bool). keys_of (cond b (entry_in e ∷ rest) rest)) (spoken_in version e.1)
    ∙ by (is_spoken version e.1) (spoken_entries version es)
  where
    rest : List (List ℕ × Op)
    rest = filter (λ x. is_spoken version x.1) (map entry_in es)

    by : (b : Bool) → keys_of rest ≡ spoken_of version es → keys_of (cond b (entry_in e ∷ rest) rest) ≡ keys_of
        (cond b (e ∷ filter (λ x. is_spoken version x.1) es) (filter (λ x. is_spoken version x.1) es))
    by true same = ap (λ (ds : List (List ℕ)). e.0 ∷ ds) same
    by false same = same

-- The same is offered of it.
pub offered_recorded : (version : Version) (m : Map) → offered version (recorded m) ≡ offered version m
offered_recorded version m = ap (spoken_of version) (recorded_entries m) ∙ spoken_entries version (entries m)

pub offered_in_recorded : (version : Version) (places : List ℕ) (m : Map)
    → offered_in version places (recorded m) ≡ offered_in version places m
offered_in_recorded version places m =
    ap (λ (ds : List (List ℕ)). filter (is_in places) ds) (offered_recorded version m)

-- It lacks the same.
pub lacked_recorded : (m : Map) (ds : List (List ℕ)) → lacked (recorded m) ds ≡ lacked m ds
lacked_recorded m ds = λ i. filter (λ d. missing_kept m d i) ds

-- ---- what is loaded, and taken

-- What a set has under a digest is an operation for which stands what it is recorded as.
pub is_loaded : (m : Map) → IsSite m → (d : List ℕ) (r : Option Op) → r ≡ held_at m d → IsLoaded (recorded m) d r
is_loaded m own d None is = recorded_at m d ∙ ap (λ (r : Option Op). option_map op_in r) (sym is)
is_loaded m own d (Some op) is =
    (recorded_at m d ∙ ap (λ (r : Option Op). option_map op_in r) (sym is), sym (own_digest m own d op (sym is)))

-- What stands for one operation more stands beside what stood for the others.
pub recorded_more : (m : Map) (op : Op) → recorded (with_op m op) ≡ with_op_in (recorded m) op
recorded_more m op = same_sites _ _ (λ d.
    recorded_at (with_op m op) d
    ∙ ap (λ (r : Option Op). option_map op_in r) (get-insert nat_list_cmp_total m (digest_of op) op d)
    ∙ by d (eq_by_cmp digest_cmp d (digest_of op))
    ∙ sym (get-insert nat_list_cmp_total (recorded m) (digest_of op) (op_in op) d))
  where
    by : (d : List ℕ) (b : Bool) → option_map op_in (cond b (Some op) (held_at m d))
        ≡ cond b (Some (op_in op)) (held_at (recorded m) d)
    by d true = refl
    by d false = sym (recorded_at m d)
