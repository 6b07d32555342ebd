-- What a site gains of what was put on a shelf, and what it tells as a holder.
use Rattle.std.proofs.Common.{◌≡◌, ◌⊎◌, inl, inr, ℕ, List, Bool, true, false, cond, Some, Result, Ok, Err}
use Rattle.std.proofs.Common.{IfErr, refl, sym, ap, subst, ◌∙◌}
use Rattle.std.specs.Prelude.{⊤}
use Rattle.std.specs.FinMap.{get-insert, insert}
use Rattle.std.specs.Cmp.Lexicographic.{nat_list_cmp_total}
use Rattle.std.specs.Ordering.{eq_by_cmp}
use Rattle.std.proofs.lemmas.Option.{same_Some as some_is}
use Rattle.operation.specs.declared.op.Op.{Op}
use Rattle.operation.specs.declared.taken.Taken.{Taken}
use Rattle.operation.specs.declared.taken.Taken.TheVariants.{New, Known}
use Rattle.operation.specs.Spelling.{digest_of, hash_of}
use Rattle.records.specs.StandIn.{op_in}
use Rattle.study_index.specs.Definition.{IsLawful, AreLawful}
use Rattle.site_state.specs.Site.{Map, IsSite, IsClash, Takes, held_at, with_op, digest_cmp, ops_of}
use Rattle.site_state.proofs.Maps.{tied}
use Rattle.site_state.proofs.Same.{of_ops}
use Rattle.site_hub.proofs.Histories.{lawful_itself}
use Rattle.exchange.specs.declared.fault.HolderFault.{HolderFault}
use Rattle.exchange.specs.declared.fault.HolderFault.TheVariants.{Refused}
use Rattle.exchange.specs.Held.{IsRecorded, IsLoaded, Looks, TakesIn, TakesAlone, with_op_in}
use Rattle.exchange.proofs.Holdings.{put_is_there, grown_by}
use Rattle.exchange.proofs.Rounds.{own_digest}
use Rattle.op_shelf.specs.declared.fault.ShelfFault.{ShelfFault}
use Rattle.hub_exchange.specs.Putting.{StandsForOne, GainsOnly, HaveGoneOn, RefusesOnShelf, RefusesToRecord}
use Rattle.hub_exchange.specs.Putting.{RefusesRecord, HasFound, RefusesLoadOnShelf}

-- ---- what it gains

-- a site that stays gains nothing
pub gains_same : (these : Op → Type 0) (before after : Map) → after ≡ before → GainsOnly these before after
gains_same these before after same digest op held = inl (sym (ap (λ (m : Map). held_at m digest) same) ∙ held)

gains_trans : (these : Op → Type 0) (first mid last : Map) → GainsOnly these first mid → GainsOnly these mid last
    → GainsOnly these first last
gains_trans these first mid last one two digest op held =
    elim (two digest op held) as (λ _. (held_at first digest ≡ Some op) ⊎ StandsForOne these digest op)
    [ inl there ↦ one digest op there | inr new ↦ inr new ]

-- what is one of these is one of those
gains_weaker : (these those : Op → Type 0) (before after : Map) → ((op : Op) → these op → those op)
    → GainsOnly these before after → GainsOnly those before after
gains_weaker these those before after all gains digest op held =
    elim (gains digest op held) as (λ _. (held_at before digest ≡ Some op) ⊎ StandsForOne those digest op)
    [ inl there ↦ inl there | inr new ↦ inr (new.0, new.1, new.2, all new.0 new.3) ]

-- what stands for one operation more, which is one of these
gains_one : (these : Op → Type 0) (m : Map) (op : Op) → digest_of op ≡ hash_of op → these op
    → GainsOnly these m (with_op_in m op)
gains_one these m op own is digest held there =
    by (eq_by_cmp digest_cmp digest (digest_of op)) refl
    (sym (get-insert nat_list_cmp_total m (digest_of op) (op_in op) digest) ∙ there)
  where
    by : (b : Bool) → eq_by_cmp digest_cmp digest (digest_of op) ≡ b
        → cond b (Some (op_in op)) (held_at m digest) ≡ Some held
        → (held_at m digest ≡ Some held) ⊎ StandsForOne these digest held
    by true at same = inr (op, some_is (op_in op) held same, sym (tied digest (digest_of op) at ∙ own), is)
    by false at same = inl same

-- what a site that nobody else changes takes
pub gains_taken : (these : Op → Type 0) (before after : Map) (op : Op) (answer : Result Taken HolderFault)
    → TakesAlone before op answer after → digest_of op ≡ hash_of op → these op → GainsOnly these before after
gains_taken these before after op (Ok New) takes own is =
    subst (λ (m : Map). GainsOnly these before m) (sym takes.1) (gains_one these before op own is)
gains_taken these before after op (Ok Known) takes own is = gains_same these before after takes.1
gains_taken these before after op (Err fault) takes own is = gains_same these before after takes

-- what the site refused, which changes nothing
pub refused_on_shelf : {K : Type 0} (these : K → Type 0) (refuses : K → K → Op → ShelfFault → Type 0)
    (before after : Map) (op : Op) (answer : Result Taken HolderFault) → TakesAlone before op answer after
    → IfErr answer (RefusesToRecord before op) → IfErr answer (RefusesOnShelf these refuses before after op)
refused_on_shelf these refuses before after op (Ok taken) takes why = tt
refused_on_shelf these refuses before after op (Err fault) takes why = record { same = takes; why = inr why }

-- a set with the record of an operation
pub with_record : (m : Map) (op recorded : Op) → recorded ≡ op_in op → digest_of (op_in op) ≡ digest_of op
    → with_op m recorded ≡ with_op_in m op
with_record m op recorded is same = λ i. insert m ((ap digest_of is ∙ same) i) (is i)

-- what a site takes of a record it takes of the operation
pub record_taken : (before after : Map) (op recorded : Op) (taken : Taken) → recorded ≡ op_in op
    → digest_of (op_in op) ≡ digest_of op → Takes before recorded (Ok taken) after
    → TakesAlone before op (Ok taken) after
record_taken before after op recorded New is same takes =
    (ap (held_at before) (sym (ap digest_of is ∙ same)) ∙ takes.0, takes.1 ∙ with_record before op recorded is same)
record_taken before after op recorded Known is same takes =
    (ap (held_at before) (sym (ap digest_of is ∙ same)) ∙ takes.0 ∙ ap Some is, takes.1)

-- a clash with the record is one with what stands for the operation
pub record_clashes : (before : Map) (op recorded : Op) → recorded ≡ op_in op → IsClash before recorded
    → RefusesToRecord before op Refused
record_clashes before op recorded is clash = inl (subst (IsClash before) is clash)

module _ {K : Type 0} (is_up : K → Type 0) (lasts : K → Op → Type 0) (lasted : Op → Type 0) (first : Map) where
  -- nothing has happened yet
  pub begun : (site : Map) (shelf : K) → site ≡ first → ((op : Op) → lasted op → lasts shelf op)
      → HaveGoneOn is_up lasts lasted first site shelf
  begun site shelf same all = record { kept = λ _. all; gains = λ _. gains_same (lasts shelf) first site same }

  -- a look changes nothing
  pub looked : (mid last : Map) (shelf : K) → last ≡ mid → HaveGoneOn is_up lasts lasted first mid shelf
      → HaveGoneOn is_up lasts lasted first last shelf
  looked mid last shelf same was =
      subst (λ (m : Map). HaveGoneOn is_up lasts lasted first m shelf) (sym same) was

  -- the shelf was asked to keep an operation, and what the site gained lasts on it then
  pub asked : (mid last : Map) (old new : K) → HaveGoneOn is_up lasts lasted first mid old → (is_up new → is_up old)
      → (is_up new → (op : Op) → lasts old op → lasts new op) → (is_up new → GainsOnly (lasts new) mid last)
      → HaveGoneOn is_up lasts lasted first last new
  asked mid last old new was up kept gains = record {
    kept = λ now op it. kept now op (was.kept (up now) op it);
    gains = λ now. gains_trans (lasts new) first mid last
        (gains_weaker (lasts old) (lasts new) first mid (kept now) (was.gains (up now))) (gains now);
  }

  -- the shelf was asked, and the site took nothing
  pub spared : (mid : Map) (old new : K) → HaveGoneOn is_up lasts lasted first mid old → (is_up new → is_up old)
      → (is_up new → (op : Op) → lasts old op → lasts new op) → HaveGoneOn is_up lasts lasted first mid new
  spared mid old new was up kept = asked mid mid old new was up kept (λ _. gains_same (lasts new) mid mid refl)

-- ---- what it tells

-- what a site holds lies under its digest, and stands for itself
pub lawful_recorded : (m : Map) → IsSite m → ((digest : List ℕ) (held : Op) → held_at m digest ≡ Some held → IsLawful held)
    → IsRecorded m
lawful_recorded m own lawful digest held there = (
  held,
  (
    there ∙ ap Some (sym (lawful_itself held (lawful digest held there))),
    sym (own_digest m own digest held there),
  ),
)

-- so what it answers it answers of this
pub of_records : (m : Map) {P : Map → Type 0} → IsSite m → AreLawful (ops_of m) → P m
    → Looks (λ (s : Map). s) (λ _. ⊤) m m P
of_records m own lawful answers = record {
  had = m;
  was_had = record {
    since = λ digest op e. e;
    until = λ digest op e. e;
    own = lawful_recorded m own (λ digest held there. lawful held (of_ops m digest held there));
  };
  answers = answers;
  stays = λ _. (tt, refl);
}

-- an operation is loaded for which stands what is held under its digest
pub stands_loaded : (m : Map) (digest : List ℕ) (held op : Op) → held_at m digest ≡ Some held → op_in op ≡ held
    → digest_of op ≡ digest → IsLoaded m digest (Some op)
stands_loaded m digest held op there is named = (there ∙ ap Some (sym is), named)

-- no operation of the record came of the shelf
pub load_refused_on_shelf : {K : Type 0} (these : K → Type 0) (is_up : K → Type 0) (holds : K → Op → Type 0)
    (refuses : K → K → List ℕ → ShelfFault → Type 0) (m : Map) (digest : List ℕ) (held : Op) (fault : HolderFault)
    → held_at m digest ≡ Some held → RefusesRecord these refuses (HasFound is_up holds) held digest fault
    → RefusesLoadOnShelf these is_up holds refuses m m digest fault
load_refused_on_shelf these is_up holds refuses m digest held fault there why =
    record { same = refl; held = held; there = there; why = why }

-- a site that nobody else changes takes as a holder does
pub alone_takes : (before after : Map) (op : Op) (answer : Result Taken HolderFault) → TakesAlone before op answer after
    → TakesIn (λ (s : Map). s) (λ _. ⊤) before op answer after
alone_takes before after op (Ok New) takes = record {
  grown = λ digest other there. ap (λ (m : Map). held_at m digest) takes.1
      ∙ grown_by before op takes.0 digest other there;
  held = ap (λ (m : Map). held_at m (digest_of op)) takes.1 ∙ put_is_there before op;
  new = λ _. takes.0;
  stays = λ _. (tt, takes);
}
alone_takes before after op (Ok Known) takes = record {
  grown = λ digest other there. ap (λ (m : Map). held_at m digest) takes.1 ∙ there;
  held = ap (λ (m : Map). held_at m (digest_of op)) takes.1 ∙ takes.0;
  new = λ e. absurd cc;
  stays = λ _. (tt, takes);
}
alone_takes before after op (Err fault) takes = record {
  grown = λ digest other there. ap (λ (m : Map). held_at m digest) takes ∙ there;
  held = tt;
  new = λ e. absurd cc;
  stays = λ _. (tt, takes);
}
