-- What is told of a site that took what stands for some operations is told of one that took these.
use Rattle.std.proofs.Common.{◌≡◌, ◌+◌, ℕ, List, [], ◌∷◌, Bool, true, false, cond, Option, Some, Result, Ok}
use Rattle.std.proofs.Common.{Err, map, refl, sym, ap, ◌∙◌}
use Rattle.std.specs.Prelude.{◌==◌, ◌||◌, if◌then◌else◌}
use Rattle.std.specs.BTreeMap.{is_at}
use Rattle.std.specs.Cmp.Lexicographic.{nat_list_cmp_total}
use Rattle.std.specs.FinMap.{empty, get-empty, get-insert}
use Rattle.std.specs.Option.{option_map}
use Rattle.sha2.specs.Sha256.{sha256}
use Rattle.operation.specs.declared.op.Op.{Op}
use Rattle.operation.specs.declared.op.Op.TheVariants.{Content as a_content, Correction as a_correction}
use Rattle.operation.specs.declared.target.Target.{Target}
use Rattle.operation.specs.declared.target.Target.TheVariants.{Study, Patient, Series}
use Rattle.operation.specs.Parts.{CorrectionParts}
use Rattle.operation.specs.Spelling.{digest_of}
use Rattle.records.specs.StandIn.{op_in}
use Rattle.records.proofs.StandInLaws.{digest_kept}
use Rattle.site_state.specs.Site.{Map, digest_cmp, held_at, ops_of, with_op, top_counter_of}
use Rattle.site_state.specs.Laws.{holding, after_taking}
use Rattle.site_state.specs.Whole.{recorded}
use Rattle.site_state.proofs.Maps.{same_sites}
use Rattle.site_state.proofs.Wholes.{recorded_at, recorded_ops, counts_kept, digests_kept, flagged_kept, top_kept}
use Rattle.site_hub.specs.declared.fault.HubFault.{HubFault}
use Rattle.site_hub.specs.declared.fault.HubFault.TheVariants.{StampsSpent, BadCorrection}
use Rattle.site_hub.specs.Stamps.{LAST_COUNTER, made_with, may_be_made}
use Rattle.shelved_site.specs.Corrections.{is_of, is_known}
use Rattle.shelved_site.specs.Fingerprints.{digests_text, fingerprint_of}
use Rattle.shelved_site.specs.RecordLaws.{HoldsTheirRecords, ReportsTheSame, IsFollowedByTheSame, KnowsTheSame}
use Rattle.shelved_site.specs.Reports.{reported}

-- ---- what is held

push : (b : Bool) (o : Op) (r : Option Op)
    → cond b (Some (op_in o)) (option_map op_in r) ≡ option_map op_in (cond b (Some o) r)
push true o r = refl
push false o r = refl

-- what stands for one operation more is taken under its digest
recorded_with : (m : Map) (o : Op) → with_op (recorded m) (op_in o) ≡ recorded (with_op m o)
recorded_with m o = same_sites _ _ (λ q.
    get-insert nat_list_cmp_total (recorded m) (digest_of (op_in o)) (op_in o) q
    ∙ ap (λ (d : List ℕ). cond (is_at (digest_cmp q) d) (Some (op_in o)) (held_at (recorded m) q)) (digest_kept o)
    ∙ ap (cond (is_at (digest_cmp q) (digest_of o)) (Some (op_in o))) (recorded_at m q)
    ∙ push (is_at (digest_cmp q) (digest_of o)) o (held_at m q)
    ∙ ap (option_map op_in) (sym (get-insert nat_list_cmp_total m (digest_of o) o q))
    ∙ sym (recorded_at (with_op m o) q))

recorded_holding : (m : Map) (ops : List Op) → holding (recorded m) (map op_in ops) ≡ recorded (holding m ops)
recorded_holding m [] = refl
recorded_holding m (o ∷ ops) =
    ap (λ (s : Map). holding s (map op_in ops)) (recorded_with m o)
    ∙ recorded_holding (with_op m o) ops

recorded_empty : recorded empty ≡ empty
recorded_empty = same_sites _ _ (λ d.
    recorded_at empty d ∙ ap (option_map op_in) (get-empty digest_cmp d) ∙ sym (get-empty digest_cmp d))

pub their_records : HoldsTheirRecords
their_records ops =
    ap (λ (s : Map). holding s (map op_in ops)) (sym recorded_empty) ∙ recorded_holding empty ops

-- ---- what is told of it

same_fingerprint : (m : Map) → fingerprint_of (recorded m) ≡ fingerprint_of m
unfolding fingerprint_of
same_fingerprint m = ap (λ (digests : List (List ℕ)). sha256 (digests_text digests)) (digests_kept m)

same_report : (m : Map) (series : ℕ) → reported (recorded m) series ≡ reported m series
same_report m series =
    let counts = counts_kept m in
    let flags = flagged_kept m in
    let hashed = same_fingerprint m in
    λ i. record { counts = counts i; series = series; flagged = flags i; fingerprint = hashed i }

pub same_reports : ReportsTheSame
same_reports ops series =
    ap (λ (m : Map). reported m series) (their_records ops)
    ∙ same_report (after_taking ops) series

-- the correction that comes next, behind this counter
abbrev next_behind : ℕ → Target → ℕ → List ℕ → ℕ → Result CorrectionParts HubFault
next_behind number target tag value top =
    if may_be_made number target tag value then (
    if top == LAST_COUNTER then Err StampsSpent
    else Ok (made_with (top + 1) number target tag value))
    else Err BadCorrection

pub same_next : IsFollowedByTheSame
same_next ops number target tag value =
    ap (next_behind number target tag value)
    (ap (λ (m : Map). top_counter_of (ops_of m)) (their_records ops)
    ∙ top_kept (after_taking ops))

of_target : (target : Target) (o : Op) → is_of target (op_in o) ≡ is_of target o
of_target (Study key) (a_content c) = refl
of_target (Patient key) (a_content c) = refl
of_target (Series key) (a_content c) = refl
of_target target (a_correction k) = refl

any_of_target : (target : Target) (ops : List Op) → is_known target (map op_in ops) ≡ is_known target ops
any_of_target target [] = refl
any_of_target target (o ∷ ops) =
    let first = of_target target o in
    let others = any_of_target target ops in
    λ i. first i || others i

pub same_known : KnowsTheSame
same_known ops target =
    ap (is_known target) (ap ops_of (their_records ops) ∙ recorded_ops (after_taking ops))
    ∙ any_of_target target (ops_of (after_taking ops))
