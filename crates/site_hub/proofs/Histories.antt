-- Histories that grow by one entry.
use Rattle.std.proofs.Common.{◌≡◌, ◌≢◌, ℕ, Bool, true, false, cond, Option, Some, None, List, [], ◌∷◌, ◌++◌, ◌+◌}
use Rattle.std.proofs.Common.{length, Ok, refl, ap, sym, subst, ◌∙◌}
use Rattle.std.specs.Prelude.{IfSome}
use Rattle.std.specs.Cmp.Lexicographic.{nat_list_cmp_total}
use Rattle.std.specs.BTreeMap.{is_at}
use Rattle.std.specs.FinMap.{get, get-insert}
use Rattle.std.proofs.lemmas.Option.{same_Some as some_is}
use Rattle.operation.specs.declared.op.Op.{Op}
use Rattle.operation.specs.declared.op.Op.TheVariants.{Content as a_content, Correction as a_correction}
use Rattle.operation.specs.Spelling.{digest_of}
use Rattle.records.specs.StandIn.{IsOpIn, op_in}
use Rattle.study_index.specs.Definition.{IsLawful}
use Rattle.operation.specs.declared.taken.Taken.{Taken}
use Rattle.operation.specs.declared.taken.Taken.TheVariants.{New, Known}
use Rattle.site_state.specs.Site.{Map, IsSite, HasLawful, HasNoOther, digest_cmp, with_op, held_at, ops_of, IsClash, Takes}
use Rattle.site_state.proofs.Maps.{tied}
use Rattle.site_state.proofs.Same.{of_ops, taking_adds}
use Rattle.site_hub.proofs.Fronts.{one_more}
use mathlib.Core.List.{IsPrefix}
use Rattle.octets.specs.Members.{Has}
use Rattle.site_hub.specs.declared.entry.Entry.{Entry}
use Rattle.site_hub.specs.declared.entry.Logged.{Logged}
use Rattle.site_hub.specs.History.{set_of, logged_of, HasNoClash, AreKept, IsHistory}
use Rattle.site_hub.specs.Hub.{WasHeld}

-- one entry more adds its operation
pub set_of_more : (opening : Map) (log : List Entry) (e : Entry) → set_of opening (log ++ e ∷ []) ≡ with_op
    (set_of opening log) e.op
set_of_more opening [] e = refl
set_of_more opening (f ∷ log) e = set_of_more (with_op opening f.op) log e

-- and its digest
pub logged_of_more : (log : List Entry) (e : Entry) → logged_of (log ++ e ∷ []) ≡ logged_of log
    ++ (record { pass = e.pass; digest = digest_of e.op }) ∷ []
logged_of_more [] e = refl
logged_of_more (f ∷ log) e = ap (λ (ls : List Logged). (record { pass = f.pass; digest = digest_of f.op }) ∷ ls)
    (logged_of_more log e)

-- what a site takes, new or known, is added
pub taken_is_added : (m n : Map) (o p : Op) (taken : Taken) → Takes m o (Ok taken) n → o ≡ p → n ≡ with_op m p
taken_is_added m n o p taken takes same = taking_adds m n o taken takes ∙ ap (λ x. with_op m x) same

-- a copy that takes the entry that comes next stands for the history that the entry ends
pub absorbed : (opening m n : Map) (old new before : List Entry) (e : Entry) → n ≡ with_op m e.op → m ≡ set_of opening
    old
    → IsPrefix old new → length new ≡ length old + 1 → new ≡ before ++ e ∷ [] → n ≡ set_of opening new
absorbed opening m n old new before e adds is pre len ends =
    let same : new ≡ old ++ e ∷ [] = ends ∙ one_more old before e (subst (IsPrefix old) ends pre)
    (subst (λ (l : List Entry). length l ≡ length old + 1) ends len) in
    adds ∙ ap (λ s. with_op s e.op) is ∙ sym (set_of_more opening old e) ∙ ap (set_of opening) (sym same)

-- another operation under the digest of this one is a clash
pub clash : (m : Map) (o other : Op) (d : List ℕ) → d ≡ digest_of o → held_at m d ≡ Some other → other ≢ o → IsClash m o
clash m o other d own held differs = (other, subst (λ k. held_at m k ≡ Some other) own held, differs)

-- ---- what every history keeps

-- an operation that was taken clashes with nothing
pub none_other : (m : Map) (o : Op) (taken : Taken) → WasHeld m o taken → HasNoOther m (digest_of o) o
none_other m o New was x held = absurd (let e : None ≡ Some x = sym was ∙ held in cc)
none_other m o Known was x held = some_is x o (sym held ∙ was)

clashless_more : (m : Map) (log : List Entry) (e : Entry) → HasNoClash m log
    → HasNoOther (set_of m log) (digest_of e.op) e.op
    → HasNoClash m (log ++ e ∷ [])
clashless_more m [] e free none = (none, tt)
clashless_more m (f ∷ log) e free none = (free.0, clashless_more (with_op m f.op) log e free.1 none)

kept_more : (log : List Entry) (e : Entry) → AreKept log → IsLawful e.op → AreKept (log ++ e ∷ [])
kept_more [] e kept lawful = (lawful, tt)
kept_more (f ∷ log) e kept lawful = (kept.0, kept_more log e kept.1 lawful)

kept_front : (log rest : List Entry) → AreKept (log ++ rest) → AreKept log
kept_front [] rest kept = tt
kept_front (e ∷ log) rest kept = (kept.0, kept_front log rest kept.1)

-- one entry more
pub history_more : (opening : Map) (log : List Entry) (e : Entry) → IsHistory opening log
    → HasNoOther (set_of opening log) (digest_of e.op) e.op → IsLawful e.op
    → IsHistory opening (log ++ e ∷ [])
history_more opening log e history none lawful = record {
  opened = history.opened;
  lawful = history.lawful;
  clashless = clashless_more opening log e history.clashless none;
  kept = kept_more log e history.kept lawful;
}

clashless_front : (m : Map) (log rest : List Entry) → HasNoClash m (log ++ rest) → HasNoClash m log
clashless_front m [] rest free = tt
clashless_front m (e ∷ log) rest free = (free.0, clashless_front (with_op m e.op) log rest free.1)

-- a beginning of it
pub history_front : (opening : Map) (xs ys : List Entry) → IsPrefix xs ys → IsHistory opening ys → IsHistory opening xs
history_front opening xs ys pre history = record {
  opened = history.opened;
  lawful = history.lawful;
  clashless = clashless_front opening xs pre.0 (subst (HasNoClash opening) (sym pre.1) history.clashless);
  kept = kept_front xs pre.0 (subst AreKept (sym pre.1) history.kept);
}

-- what is held stays held
abbrev pub StaysHeld : Map → Map → Type 0
StaysHeld m n = (d : List ℕ) (o : Op) → held_at m d ≡ Some o → held_at n d ≡ Some o

with_stays : (m : Map) (o : Op) → HasNoOther m (digest_of o) o → StaysHeld m (with_op m o)
with_stays m o none d x held = get-insert nat_list_cmp_total m (digest_of o) o d
    ∙ by (is_at (digest_cmp d) (digest_of o)) refl
  where
    by : (b : Bool) → is_at (digest_cmp d) (digest_of o) ≡ b → cond b (Some o) (get m d) ≡ Some x
    by true is = ap Some (sym (none x (subst (λ k. held_at m k ≡ Some x) (tied d (digest_of o) is) held)))
    by false is = held

all_stay : (m : Map) (log : List Entry) → HasNoClash m log → StaysHeld m (set_of m log)
all_stay m [] free d x held = held
all_stay m (e ∷ log) free d x held = all_stay (with_op m e.op) log free.1 d
    x (with_stays m e.op free.0 d x held)

stays_on : (m : Map) (xs ys : List Entry) → HasNoClash m (xs ++ ys) → StaysHeld (set_of m xs) (set_of m (xs ++ ys))
stays_on m [] ys free = all_stay m ys free
stays_on m (x ∷ xs) ys free = stays_on (with_op m x.op) xs ys free.1

-- what a beginning of a history holds is held after it
pub stays : (opening : Map) (xs ys : List Entry) → IsHistory opening ys → IsPrefix xs ys
    → StaysHeld (set_of opening xs) (set_of opening ys)
stays opening xs ys history pre =
    subst (λ (log : List Entry). StaysHeld (set_of opening xs) (set_of opening log)) pre.1
    (stays_on opening xs pre.0 (subst (HasNoClash opening) (sym pre.1) history.clashless))

with_is_site : (m : Map) (o : Op) → IsSite m → IsSite (with_op m o)
with_is_site m o site d = subst (λ (r : Option Op). IfSome r (λ x. d ≡ digest_of x))
    (sym (get-insert nat_list_cmp_total m (digest_of o) o d)) (by (is_at (digest_cmp d) (digest_of o)) refl)
  where
    by : (b : Bool) → is_at (digest_cmp d) (digest_of o) ≡ b → IfSome (cond b (Some o) (get m d)) (λ x. d ≡ digest_of x)
    by true is = tied d (digest_of o) is
    by false is = site d

all_are_site : (m : Map) (log : List Entry) → IsSite m → IsSite (set_of m log)
all_are_site m [] site = site
all_are_site m (e ∷ log) site = all_are_site (with_op m e.op) log (with_is_site m e.op site)

-- what is held after a history lies under its own digest
pub history_is_site : (opening : Map) (log : List Entry) → IsHistory opening log → IsSite (set_of opening log)
history_is_site opening log history = all_are_site opening log history.opened

-- a recorded operation keeps true what every operation of a site does
pub recorded_is_lawful : (op : Op) → IsOpIn op → IsLawful op
recorded_is_lawful (a_content c) is = is
recorded_is_lawful (a_correction k) is = is.lawful

-- and stands for itself
pub lawful_itself : (op : Op) → IsLawful op → op_in op ≡ op
lawful_itself (a_content c) is = ap a_content is.stands
lawful_itself (a_correction k) is = refl

with_is_lawful : (m : Map) (o : Op) → HasLawful m → IsLawful o → HasLawful (with_op m o)
with_is_lawful m o all is d = subst (λ (r : Option Op). IfSome r IsLawful)
    (sym (get-insert nat_list_cmp_total m (digest_of o) o d)) (by (is_at (digest_cmp d) (digest_of o)))
  where
    by : (b : Bool) → IfSome (cond b (Some o) (get m d)) IsLawful
    by true = is
    by false = all d

all_are_lawful : (m : Map) (log : List Entry) → HasLawful m → AreKept log → HasLawful (set_of m log)
all_are_lawful m [] all kept = all
all_are_lawful m (e ∷ log) all kept = all_are_lawful (with_op m e.op) log (with_is_lawful m e.op all kept.0) kept.1

held_lawful : (m : Map) → ((o : Op) → Has (ops_of m) o → IsLawful o) → HasLawful m
held_lawful m all d = by (held_at m d) refl
  where
    by : (r : Option Op) → held_at m d ≡ r → IfSome r IsLawful
    by None is = tt
    by (Some o) is = all o (of_ops m d o is)

-- each operation that is held after a history keeps true what every operation of a site does
pub history_is_lawful : (opening : Map) (log : List Entry) → IsHistory opening log → HasLawful (set_of opening log)
history_is_lawful opening log history =
    all_are_lawful opening log (held_lawful opening history.lawful) history.kept
