-- What holders answer, and what a site is as one.
use Rattle.std.proofs.Common.{◌≡◌, Bool, true, false, cond, Some, None, Ok, Err, refl, sym, ap, ◌∙◌}
use Rattle.std.specs.Prelude.{⊤}
use Rattle.std.specs.FinMap.{get-insert}
use Rattle.std.specs.Option.{option_map}
use Rattle.std.specs.Cmp.{tied_itself}
use Rattle.std.specs.Cmp.Lexicographic.{nat_list_cmp_total}
use Rattle.std.specs.Ordering.{is_eq, eq_by_cmp}
use Rattle.operation.specs.declared.op.Op.{Op}
use Rattle.operation.specs.declared.taken.Taken.{Taken}
use Rattle.operation.specs.declared.taken.Taken.TheVariants.{New, Known}
use Rattle.operation.specs.Spelling.{digest_of}
use Rattle.records.specs.StandIn.{op_in}
use Rattle.site_state.specs.Site.{Map, IsSite, held_at, digest_cmp, Takes}
use Rattle.site_state.specs.Whole.{recorded}
use Rattle.site_state.proofs.Maps.{tied}
use Rattle.site_state.proofs.Wholes.{recorded_at, unheld}
use Rattle.exchange.specs.declared.fault.HolderFault.{HolderFault}
use Rattle.exchange.specs.Held.{Looks, TakesIn, HasGrown, with_op_in}
use Rattle.exchange.proofs.Recorded.{recorded_more, is_recorded}

-- what follows from an answer is answered of the same set
pub turned : {H : Type 0} {holds : H → Map} {alone : H → Type 0} {before after : H} {P Q : Map → Type 0}
    → Looks holds alone before after P → ((m : Map) → P m → Q m) → Looks holds alone before after Q
turned look gives = record {
  had = look.had;
  was_had = look.was_had;
  answers = gives look.had look.answers;
  stays =
      look.stays;
}

-- a site answers of what stands for its operations
pub of_site : (m : Map) {P : Map → Type 0} → IsSite m → P (recorded m)
    → Looks (λ (s : Map). recorded s) (λ _. ⊤) m m P
of_site m own answers = record {
  had = recorded m;
  was_had = record { since = λ digest op e. e; until = λ digest op e. e; own = is_recorded m own };
  answers = answers;
  stays = λ _. (tt, refl);
}

-- what stands for an operation that was put in is there
pub put_is_there : (m : Map) (op : Op) → held_at (with_op_in m op) (digest_of op) ≡ Some (op_in op)
put_is_there m op =
    get-insert nat_list_cmp_total m (digest_of op) (op_in op) (digest_of op)
    ∙ ap (λ r. cond (is_eq r) (Some (op_in op)) (held_at m (digest_of op)))
    (tied_itself nat_list_cmp_total (digest_of op))

-- and what was there is there still, if nothing was under its digest
pub grown_by : (m : Map) (op : Op) → held_at m (digest_of op) ≡ None → HasGrown m (with_op_in m op)
grown_by m op none digest other there = get-insert nat_list_cmp_total m (digest_of op) (op_in op) digest
    ∙ by (eq_by_cmp digest_cmp digest (digest_of op)) refl
  where
    by : (b : Bool) → eq_by_cmp digest_cmp digest (digest_of op) ≡ b
        → cond b (Some (op_in op)) (held_at m digest) ≡ Some other
    by true e = absurd (let at : digest ≡ digest_of op = tied digest (digest_of op) e in
        let gone : Some other ≡ None = sym there ∙ ap (held_at m) at ∙ none in cc)
    by false e = there

-- a site takes as a holder does
pub site_takes : (before after : Map) (op : Op) (taken : Taken) → Takes before op (Ok taken) after
    → TakesIn (λ (s : Map). recorded s) (λ _. ⊤) before op (Ok taken) after
site_takes before after op New takes =
    let more : recorded after ≡ with_op_in (recorded before) op = ap recorded takes.1 ∙ recorded_more before op in
    let none = unheld before (digest_of op) takes.0 in
    record {
      grown = λ digest other there. ap (λ (m : Map). held_at m digest) more
          ∙ grown_by (recorded before) op none digest other there;
      held = ap (λ (m : Map). held_at m (digest_of op)) more ∙ put_is_there (recorded before) op;
      new = λ _. none;
      stays = λ _. (tt, (none, more));
    }
site_takes before after op Known takes =
    let there = recorded_at before (digest_of op) ∙ ap (λ r. option_map op_in r) takes.0 in
    let same = ap recorded takes.1 in
    record {
      grown = λ digest other had. ap (λ (m : Map). held_at m digest) same ∙ had;
      held = ap (λ (m : Map). held_at m (digest_of op)) same ∙ there;
      new = λ e. absurd cc;
      stays = λ _. (tt, (there, same));
    }

-- and refuses as one
pub site_refuses : (before after : Map) (op : Op) (fault : HolderFault) → after ≡ before
    → TakesIn (λ (s : Map). recorded s) (λ _. ⊤) before op (Err fault) after
site_refuses before after op fault is =
    let same = ap recorded is in
    record {
      grown = λ digest other had. ap (λ (m : Map). held_at m digest) same ∙ had;
      held = tt;
      new = λ e. absurd cc;
      stays = λ _. (tt, same);
    }
