-- One fragment: its fault, and what it leads to.
use Rattle.std.proofs.Common.{◌≡◌, ◌≢◌, ℕ, Bool, true, false, cond, List, [], ◌++◌, Option, Some, None, Result, Ok, Err}
use Rattle.std.proofs.Common.{sym, ap, subst, ◌∙◌}
use Rattle.std.specs.Prelude.{IfOk, IfErr}
use Rattle.pdu.specs.declared.pdv.Pdv.{Pdv}
use Rattle.pdu.specs.declared.context.Context.{Context}
use Rattle.dimse.specs.declared.message.Message.{Message}
use Rattle.dimse.specs.declared.fault.DimseFault.{DimseFault}
use Rattle.dimse.specs.declared.fault.DimseFault.TheVariants.{BadContext, Interleaved, BadCommand, TooLong, Memory}
use Rattle.dimse.specs.declared.fault.DimseFault.TheVariants.{Failed as HasFailed}
use Rattle.dimse.specs.declared.assembler.Stage.{Stage}
use Rattle.dimse.specs.declared.assembler.Stage.TheVariants.{Between, InCommand, InDataSet, Failed}
use Rattle.dimse.specs.Refusal.{IsRefusal}
use Rattle.dimse.specs.Assembly.{Assembly, fault_of, AdvancesCommand, EndsNoCommand, IsRefusalAt, LeadsTo, IsCause}
use Rattle.dimse.specs.Assembly.{Feeds}

abbrev pub refusal : DimseFault → Result (Option Message) DimseFault
refusal f = Err f

pub refused_at : {X : Type 0} (text : List ℕ) (p : Pdv) (r : Result X DimseFault) → p.last ≡ true
    → IfErr r (IsRefusal (text ++ p.fragment)) → IfErr r (IsRefusalAt (InCommand 0 text) p)
refused_at text p (Ok x) last refused = tt
refused_at text p (Err BadCommand) last refused = (last, refused)
refused_at text p (Err Memory) last refused = tt
refused_at text p (Err BadContext) last refused = refused
refused_at text p (Err Interleaved) last refused = refused
refused_at text p (Err TooLong) last refused = refused
refused_at text p (Err HasFailed) last refused = refused

-- what the first fragment of a command set leads to
pub leads_between : (text : List ℕ) (p : Pdv) (r : Result (Option Message × Stage) DimseFault) → text ≡ []
    → IfOk r (λ x. AdvancesCommand text p x.0 x.1) → IfErr r (IsRefusalAt (InCommand 0 text) p) → LeadsTo Between p r
leads_between text p (Ok x) none taken refused = subst (λ (t : List ℕ). AdvancesCommand t p x.0 x.1) none taken
leads_between text p (Err BadCommand) none taken refused = subst (λ (t : List ℕ). EndsNoCommand (InCommand 0 t) p) none
    refused
leads_between text p (Err Memory) none taken refused = tt
leads_between text p (Err BadContext) none taken refused = refused
leads_between text p (Err Interleaved) none taken refused = refused
leads_between text p (Err TooLong) none taken refused = refused
leads_between text p (Err HasFailed) none taken refused = refused

pub not_failed : (contexts : List Context) (stage : Stage) (p : Pdv) → fault_of contexts stage p ≡ None → stage ≢ Failed
unfolding fault_of
not_failed contexts Between p none is = cc
not_failed contexts (InCommand context text) p none is = cc
not_failed contexts (InDataSet context command text) p none is = cc
not_failed contexts Failed p none is = cc

-- A command set is read only where the fragment has none of the other faults.
not_read : (a b c : Bool) → cond a (Some BadContext) (cond b (Some Interleaved) (cond c (Some TooLong) None)) ≡ Some
    BadCommand → ⊥
not_read true b c e = cc
not_read false true c e = cc
not_read false false true e = cc
not_read false false false e = cc

not_bad_command : (contexts : List Context) (stage : Stage) (p : Pdv) → fault_of contexts stage p ≡ Some BadCommand → ⊥
unfolding fault_of
not_bad_command contexts Between p e = not_read _ _ _ e
not_bad_command contexts (InCommand context text) p e = not_read _ _ _ e
not_bad_command contexts (InDataSet context command text) p e = not_read _ _ _ e
not_bad_command contexts Failed p e = cc

-- Want of memory is no fault that a fragment has.
not_said : (a b c : Bool) → cond a (Some BadContext) (cond b (Some Interleaved) (cond c (Some TooLong) None)) ≡ Some
    Memory → ⊥
not_said true b c e = cc
not_said false true c e = cc
not_said false false true e = cc
not_said false false false e = cc

no_memory : (contexts : List Context) (stage : Stage) (p : Pdv) → fault_of contexts stage p ≡ Some Memory → ⊥
unfolding fault_of
no_memory contexts Between p e = not_said _ _ _ e
no_memory contexts (InCommand context text) p e = not_said _ _ _ e
no_memory contexts (InDataSet context command text) p e = not_said _ _ _ e
no_memory contexts Failed p e = cc

pub not_memory : (contexts : List Context) (stage : Stage) (p : Pdv) (f : DimseFault) → fault_of contexts stage p ≡ Some
    f → refusal f ≡ refusal Memory → ⊥
not_memory contexts stage p f fault is = no_memory contexts stage p (fault ∙ same_refusal f Memory is)
  where
    same_refusal : (f g : DimseFault) → refusal f ≡ refusal g → Some f ≡ Some g
    same_refusal f g e = cc

pub is_cause : (old : Assembly) (p : Pdv) (f : DimseFault) → fault_of old.contexts old.stage p ≡ Some f
    → IsCause old p f
is_cause old p BadCommand e = absurd (not_bad_command old.contexts old.stage p e)
is_cause old p Memory e = tt
is_cause old p BadContext e = e
is_cause old p Interleaved e = e
is_cause old p TooLong e = e
is_cause old p HasFailed e = e

pub same_fault : (f g : DimseFault) → Some f ≡ Some g → refusal f ≡ refusal g
same_fault f g e = cc

-- a fragment with a fault
pub feeds_refused : (old : Assembly) (contexts : List Context) (stage after : Stage) (p : Pdv) (f : DimseFault)
    → record { contexts = contexts; stage = stage } ≡ old → after ≡ Failed → fault_of contexts stage p ≡ Some f
    → Feeds old p (Err f) (record { contexts = contexts; stage = after })
feeds_refused old contexts stage after p f was failing fault =
    let here : fault_of old.contexts old.stage p ≡ Some f = subst (λ (a : Assembly). fault_of a.contexts a.stage
    p ≡ Some f) was fault in
    record {
      contexts = ap (λ (a : Assembly). a.contexts) was;
      refused = λ g other. same_fault f g (sym here ∙ other);
      cause = is_cause old p f here;
      failing = failing;
      faultless = tt;
      taken = tt;
    }
