-- What a holder keeps where it refuses.
use Rattle.std.proofs.Common.{◌≡◌, ◌≢◌, inl, inr, Option, Some, None, Result, Ok, Err, refl, sym, ap, subst, ◌∙◌}
use Rattle.operation.specs.declared.op.Op.{Op}
use Rattle.operation.specs.declared.taken.Taken.{Taken}
use Rattle.site_state.specs.Site.{Map, held_at}
use Rattle.site_state.proofs.Maps.{same_sites}
use Rattle.exchange.specs.declared.fault.ExchangeFault.{ExchangeFault}
use Rattle.exchange.specs.declared.fault.ExchangeFault.TheVariants as exchanges
use Rattle.exchange.specs.declared.fault.HolderFault.{HolderFault}
use Rattle.exchange.specs.declared.fault.HolderFault.TheVariants as holders
use Rattle.exchange.specs.Fault.{of_holder, IsRefusal}
use Rattle.exchange.specs.Held.{HasGrown, Looks, TakesIn}
use Rattle.exchange.specs.Round.{RoundState, refusal_of, by_holder, TakesAsked, MemoryOr}
use Rattle.exchange.proofs.Rounds.{same_option}
use Rattle.exchange.specs.Course.{Idles}

-- who only looks changes nothing
pub idles_of : {H : Type 0} {holds : H → Map} {alone : H → Type 0} {before after : H} {P : Map → Type 0}
    → Looks holds alone before after P → Idles holds alone before after
idles_of look = record {
  grown = λ digest op e. look.was_had.until digest op (look.was_had.since digest op e);
  stays = look.stays;
}

-- two sets that each have what the other has are one
pub grown_both : (m n : Map) → HasGrown m n → HasGrown n m → m ≡ n
grown_both m n there back = same_sites m n
    (λ d. same_option (held_at m d) (held_at n d) (λ op e. there d op e) (λ op e. back d op e))

-- A holder that nobody else changes tells of what it held.
pub looked_same : {H : Type 0} {holds : H → Map} {alone : H → Type 0} {before after : H} {P : Map → Type 0}
    → (look : Looks holds alone before after P) → alone before → look.had ≡ holds before
looked_same {holds = holds} {before = before} look lone =
    grown_both look.had (holds before)
    (λ d op e. ap (λ (m : Map). held_at m d) (sym (look.stays lone).1) ∙ look.was_had.until d op e) look.was_had.since

pub idles_same : {H : Type 0} (holds : H → Map) (alone : H → Type 0) (before after : H) → after ≡ before
    → Idles holds alone before after
idles_same {H = H} holds alone before after is = subst (λ (h : H). Idles holds alone before h) (sym is)
    (record { grown = λ digest op e. e; stays = λ here. (here, refl) })

-- a refused take
refused_take : {H : Type 0} (holds : H → Map) (alone : H → Type 0) (before after : H) (op : Op)
    (reply : Result Taken HolderFault) (fault : ExchangeFault) → Err fault ≡ by_holder reply
    → TakesIn holds alone before op reply after → Idles holds alone before after
refused_take holds alone before after op (Ok taken) fault e takes = absurd cc
refused_take holds alone before after op (Err cause) fault e takes = record {
  grown = takes.grown;
  stays = takes.stays;
}

abbrev pub told : (X : Type 0) → ExchangeFault → Result X ExchangeFault
told X fault = Err fault

-- What a holder refused to tell is told as that.
pub refused_is : (X : Type 0) (P : HolderFault → Type 0) (cause : HolderFault) → P cause
    → told X (of_holder cause) ≡ told X exchanges.Refused → IsRefusal P
refused_is X P cause is e = (cause, is, cc)

pub refused_or : (X : Type 0) (P : HolderFault → Type 0) (cause : HolderFault) → MemoryOr P cause
    → told X (of_holder cause) ≡ told X exchanges.Refused → IsRefusal P
refused_or X P holders.Memory is e = absurd cc
refused_or X P holders.Refused (inl is) e = absurd cc
refused_or X P holders.Refused (inr is) e = (holders.Refused, is, refl)
refused_or X P holders.Unreadable (inl is) e = absurd cc
refused_or X P holders.Unreadable (inr is) e = (holders.Unreadable, is, refl)

-- What was given and not taken leaves what the holder has.
pub untaken : {H : Type 0} (holds : H → Map) (alone : H → Type 0) (before after : H) (op : Op) (round : RoundState)
    (fault : ExchangeFault) (r : Option ExchangeFault) → refusal_of round op ≡ r
    → (refusal_of round op ≢ None → after ≡ before)
    → (refusal_of round op ≡ None → TakesAsked holds alone before op (Err fault) after)
    → Idles holds alone before after
untaken holds alone before after op round fault None e other taken =
    let t = taken e in refused_take holds alone before after op t.reply fault t.answered t.takes
untaken holds alone before after op round fault (Some f) e other taken =
    idles_same holds alone before after (other (λ none. let clash : Some f ≡ None = sym e ∙ none in absurd cc))
