-- However the texts were cut, the answers are the same.
use Rattle.std.proofs.Common.{◌≡◌, ◌≢◌, ℕ, Bool, true, false, not, cond, ltb, List, [], ◌∷◌, ◌++◌, length}
use Rattle.std.proofs.Common.{Option, Some, None, Result, Ok, Err, refl, sym, ap, subst, ◌∙◌, append_assoc}
use Rattle.std.proofs.Common.{length-append, arith}
use Rattle.std.specs.Prelude.{MatchBool, ◌==◌, ◌&&◌}
use Rattle.std.proofs.lemmas.Bool.{and_parts as and_true, and_from as both_true, not-true as not_true, both_ways}
use Rattle.pdu.specs.declared.pdv.Pdv.{Pdv}
use Rattle.pdu.specs.declared.context.Context.{Context}
use Rattle.dimse.specs.declared.command.Command.{Command}
use Rattle.dimse.specs.declared.message.Message.{Message}
use Rattle.dimse.specs.declared.fault.DimseFault.{DimseFault}
use Rattle.dimse.specs.declared.fault.DimseFault.TheVariants.{BadContext, Interleaved, BadCommand, TooLong, Memory}
use Rattle.dimse.specs.declared.fault.DimseFault.TheVariants.{Failed as HasFailed}
use Rattle.dimse.specs.declared.assembler.Stage.{Stage}
use Rattle.dimse.specs.declared.assembler.Stage.TheVariants.{Between, InCommand, InDataSet, Failed}
use Rattle.dimse.specs.Command.{Spells}
use Rattle.dimse.specs.Assembly.{Assembly, fault_of, Closes, Advances, EndsNoCommand}
use Rattle.dimse.specs.Assembly.{IsCause, Feeds}
use Rattle.dimse.specs.Messages.{Run, fresh, messages, first_fault, HadMemory}
use Rattle.dimse.specs.Texts.{same_flag, go_together, as_one, before_texts, texts_in}
use Rattle.dimse.proofs.StepLaws.{refusal, same_fault}
use Rattle.dimse.proofs.RunLaws.{Faultless, faultless_parts, same_number, refused_again, run_ends}
use Rattle.dimse.proofs.SpelledLaws.{spelled_is_answered, where_false}

abbrev Answer : Type 0
Answer = Result (Option Message) DimseFault

-- ---- two fragments of one text

pub record Together (p q : Pdv) : Type 0 where
  pub goes_on : p.last ≡ false
  pub context : p.context ≡ q.context
  pub kind : p.command ≡ q.command

same_kind : (a b : Bool) → same_flag a b ≡ true → a ≡ b
same_kind true true e = refl
same_kind true false e = absurd cc
same_kind false false e = refl
same_kind false true e = absurd cc

together : (p q : Pdv) → go_together p q ≡ true → Together p q
together p q e =
    let t = and_true (not p.last) (p.context == q.context && same_flag p.command q.command) e in
    let s = and_true (p.context == q.context) (same_flag p.command q.command) t.1 in
    record {
      goes_on = not_true p.last t.0;
      context = same_number p.context q.context s.0;
      kind = same_kind p.command
          q.command s.1;
    }

-- ---- a first fragment that is refused

three_faults : (a b c d : Bool) (f : DimseFault) → (c ≡ true → d ≡ true) → cond (not a) (Some BadContext)
    (cond (not b) (Some Interleaved) (cond c (Some TooLong) None)) ≡ Some f → cond (not a) (Some BadContext)
    (cond (not b) (Some Interleaved) (cond d (Some TooLong) None)) ≡ Some f
three_faults false b c d f longer e = e
three_faults true false c d f longer e = e
three_faults true true true d f longer e = rw (longer refl) e
three_faults true true false d f longer e = absurd cc

still_over : (limit : ℕ) (text fragment rest : List ℕ) → ltb limit (length (text ++ fragment)) ≡ true
    → ltb limit (length (text ++ (fragment ++ rest))) ≡ true
still_over limit text fragment rest e = grind (
  arith,
  e,
  length-append text fragment,
  length-append
      text (fragment ++ rest),
  length-append fragment rest,
)

abbrev value : ℕ → Bool → Bool → List ℕ → Pdv
value context command last fragment = record { context = context; command = command; last = last; fragment = fragment }

-- A fault that a fragment has before it is kept is one of each longer fragment.
fault_stays : (contexts : List Context) (stage : Stage) (context : ℕ) (command last other : Bool)
    (fragment rest : List ℕ) (f : DimseFault) → fault_of contexts stage (value context command last fragment) ≡ Some f
    → fault_of contexts stage (value context command other (fragment ++ rest)) ≡ Some f
unfolding fault_of
fault_stays contexts Between context command last other fragment rest f e = three_faults _ _ _ _
    f (still_over _ [] fragment rest) e
fault_stays contexts (InCommand k text) context command last other fragment rest f e = three_faults _ _ _ _
    f (still_over _ text fragment rest) e
fault_stays contexts (InDataSet k c text) context command last other fragment rest f e = three_faults _ _ _ _
    f (still_over _ text fragment rest) e
fault_stays contexts Failed context command last other fragment rest f e = e

fault_of_both : (contexts : List Context) (stage : Stage) (p q : Pdv) (f : DimseFault) → Together p q
    → fault_of contexts stage p ≡ Some f → fault_of contexts stage (as_one p q) ≡ Some f
fault_of_both contexts stage p q f t e =
    let here : fault_of contexts stage (value q.context p.command p.last p.fragment) ≡ Some f =
    subst (λ (k : ℕ). fault_of contexts stage (value k p.command p.last p.fragment) ≡ Some f) t.context e in
    let there : fault_of contexts stage (value q.context q.command p.last p.fragment) ≡ Some f =
    subst (λ (b : Bool). fault_of contexts stage (value q.context b p.last p.fragment) ≡ Some f) t.kind here in
    fault_stays contexts stage q.context q.command p.last q.last p.fragment q.fragment f there

-- A fragment that is not the last ends no command set.
not_ended : (stage : Stage) (p q : Pdv) → Together p q → EndsNoCommand stage p → ⊥
not_ended Between p q t ends = both_ways p.last t.goes_on ends.0
not_ended (InCommand k text) p q t ends = both_ways p.last t.goes_on ends.0
not_ended (InDataSet k c text) p q t ends = ends
not_ended Failed p q t ends = ends

-- A cause of a fault in a fragment that is not the last is one in the longer fragment.
cause_of_both : (a : Assembly) (p q : Pdv) (f : DimseFault) → Together p q → IsCause a p f → IsCause a (as_one p q) f
cause_of_both a p q BadContext t cause = fault_of_both a.contexts a.stage p q BadContext t cause
cause_of_both a p q Interleaved t cause = fault_of_both a.contexts a.stage p q Interleaved t cause
cause_of_both a p q TooLong t cause = fault_of_both a.contexts a.stage p q TooLong t cause
cause_of_both a p q HasFailed t cause = fault_of_both a.contexts a.stage p q HasFailed t cause
cause_of_both a p q Memory t cause = tt
cause_of_both a p q BadCommand t cause = absurd (not_ended a.stage p q t cause.1)

-- ---- a first fragment that is taken

-- What the second leads to is what both lead to.
record LeadsAsOne (contexts : List Context) (stage mid : Stage) (p q : Pdv) : Type 0 where
  fault : fault_of contexts mid q ≡ fault_of contexts stage (as_one p q)
  takes : (m : Option Message) (next : Stage) → Advances mid q m next → Advances stage (as_one p q) m next
  ends : EndsNoCommand mid q → EndsNoCommand stage (as_one p q)

same_faults : (a b c d e : Bool) → b ≡ true → c ≡ true → d ≡ e → cond (not a) (Some BadContext)
    (cond (not b) (Some Interleaved) (cond d (Some TooLong) None)) ≡ cond (not a) (Some BadContext)
    (cond (not c) (Some Interleaved) (cond e (Some TooLong) None))
same_faults a b c d e p q r = rw (p, q, r) refl

same_test : (m n : ℕ) → m ≡ n → (m == n) ≡ true
same_test m n e = grind (arith, e)

regrouped : (limit : ℕ) (text fragment rest : List ℕ) → ltb limit (length ((text ++ fragment) ++ rest)) ≡ ltb
    limit (length (text ++ (fragment ++ rest)))
regrouped limit text fragment rest = ap (λ (t : List ℕ). ltb limit (length t)) (append_assoc text fragment rest)

command_goes_on : (contexts : List Context) (k : ℕ) (text : List ℕ) (p q : Pdv) → Together p q
    → Faultless contexts (InCommand k text) p → LeadsAsOne contexts (InCommand k text)
    (InCommand p.context (text ++ p.fragment)) p q
unfolding fault_of
command_goes_on contexts k text p q t f =
    let place = and_true p.command (p.context == k) f.place in
    let here : q.command ≡ true = sym t.kind ∙ place.0 in
    let whole = append_assoc text p.fragment q.fragment in
    record {
      fault = same_faults _ _ _ _ _ (both_true q.command (q.context == p.context)
          here (same_test q.context p.context (sym t.context))) (both_true q.command (q.context == k)
          here (same_test q.context k (sym t.context ∙ same_number p.context k place.1)))
          (regrouped _ text p.fragment q.fragment);
      takes = λ m next h. subst (λ (s : List ℕ). MatchBool q.last (Closes q.context s m next)
          ((m ≡ None) × (next ≡ InCommand q.context s))) whole h;
      ends = λ h. subst (λ (s : List ℕ). (q.last ≡ true) × ((c : Command) → Spells s c → ⊥)) whole h;
    }

data_goes_on : (contexts : List Context) (k : ℕ) (c : Command) (text : List ℕ) (p q : Pdv) → Together p q
    → Faultless contexts (InDataSet k c text) p → LeadsAsOne contexts (InDataSet k c text)
    (InDataSet p.context c (text ++ p.fragment)) p q
unfolding fault_of
data_goes_on contexts k c text p q t f =
    let place = and_true (not p.command) (p.context == k) f.place in
    let here : not q.command ≡ true = ap not (sym t.kind) ∙ place.0 in
    let whole = append_assoc text p.fragment q.fragment in
    record {
      fault = same_faults _ _ _ _ _ (both_true (not q.command) (q.context == p.context)
          here (same_test q.context p.context (sym t.context))) (both_true (not q.command) (q.context == k)
          here (same_test q.context k (sym t.context ∙ same_number p.context k place.1)))
          (regrouped _ text p.fragment q.fragment);
      takes = λ m next h. subst (λ (s : List ℕ). MatchBool
          q.last ((m ≡ Some (record { context = q.context; command = c; body = Some s })) × (next ≡ Between))
          ((m ≡ None) × (next ≡ InDataSet q.context c s))) whole h;
      ends = λ h. h;
    }

first_goes_on : (contexts : List Context) (p q : Pdv) → Together p q → Faultless contexts Between p
    → LeadsAsOne contexts Between (InCommand p.context p.fragment) p q
unfolding fault_of
first_goes_on contexts p q t f =
    let here : q.command ≡ true = sym t.kind ∙ f.place in
    record {
      fault = same_faults _ _ _ _ _ (both_true q.command (q.context == p.context)
          here (same_test q.context p.context (sym t.context))) here refl;
      takes = λ m next h. h;
      ends = λ h. h;
    }

-- A fragment that is taken and not the last ends no message, and what comes behind it goes on its text.
taken_goes_on : (contexts : List Context) (stage mid : Stage) (p q : Pdv) (m : Option Message) → Together p q
    → Faultless contexts stage p → Advances stage p m mid → (m ≡ None) × LeadsAsOne contexts stage mid p q
taken_goes_on contexts Between mid p q m t f takes =
    let h = where_false p.last _ _ t.goes_on takes in
    (h.0, subst (λ (s : Stage). LeadsAsOne contexts Between s p q) (sym h.1) (first_goes_on contexts p q t f))
taken_goes_on contexts (InCommand k text) mid p q m t f takes =
    let h = where_false p.last _ _ t.goes_on takes in (
      h.0,
      subst (λ (s : Stage). LeadsAsOne contexts (InCommand k text) s p q) (sym h.1)
          (command_goes_on contexts k text p q t f),
    )
taken_goes_on contexts (InDataSet k c text) mid p q m t f takes =
    let h = where_false p.last _ _ t.goes_on takes in (
      h.0,
      subst (λ (s : Stage). LeadsAsOne contexts (InDataSet k c text) s p q) (sym h.1)
          (data_goes_on contexts k c text p q t f),
    )
taken_goes_on contexts Failed mid p q m t f takes = absurd takes

-- ---- two fragments are as one

cause_as_one : (contexts : List Context) (stage mid : Stage) (p q : Pdv) (f : DimseFault) → LeadsAsOne contexts stage
    mid p q → IsCause (record { contexts = contexts; stage = mid }) q f
    → IsCause (record { contexts = contexts; stage = stage }) (as_one p q) f
cause_as_one contexts stage mid p q BadContext l cause = sym l.fault ∙ cause
cause_as_one contexts stage mid p q Interleaved l cause = sym l.fault ∙ cause
cause_as_one contexts stage mid p q TooLong l cause = sym l.fault ∙ cause
cause_as_one contexts stage mid p q HasFailed l cause = sym l.fault ∙ cause
cause_as_one contexts stage mid p q Memory l cause = tt
cause_as_one contexts stage mid p q BadCommand l cause = (sym l.fault ∙ cause.0, l.ends cause.1)

-- The answer to the second is the answer to both.
fed_as_one : (a mid b : Assembly) (p q : Pdv) (r : Answer) → mid.contexts ≡ a.contexts → LeadsAsOne a.contexts a.stage
    mid.stage p q → Feeds mid q r b → Feeds a (as_one p q) r b
fed_as_one a mid b p q (Ok m) same l fed =
    let none : fault_of a.contexts mid.stage q ≡ None = subst (λ (cs : List Context). fault_of cs mid.stage q ≡ None)
    same fed.faultless in
    record {
      contexts = fed.contexts ∙ same;
      refused = λ f e. absurd (apart f _ (sym l.fault ∙ none) e);
      cause = tt;
      failing = tt;
      faultless = sym l.fault ∙ none;
      taken = l.takes m b.stage fed.taken;
    }
  where
    apart : (f : DimseFault) (o : Option DimseFault) → o ≡ None → o ≡ Some f → ⊥
    apart f o is other = cc
fed_as_one a mid b p q (Err g) same l fed = record {
  contexts = fed.contexts ∙ same;
  refused = λ f e. fed.refused f (subst (λ (cs : List Context). fault_of cs mid.stage q ≡ Some f) (sym same)
      (l.fault ∙ e));
  cause = cause_as_one a.contexts a.stage mid.stage p q g
      l (subst (λ (cs : List Context). IsCause (record { contexts = cs; stage = mid.stage }) q g) same fed.cause);
  failing = fed.failing;
  faultless = tt;
  taken = tt;
}

-- The first fault of a fragment that is not the last is that of both.
told_of_both : (a : Assembly) (p q : Pdv) (f g : DimseFault) → f ≢ Memory → Together p q → IsCause a p f
    → fault_of a.contexts a.stage (as_one p q) ≡ Some g → refusal f ≡ refusal g
told_of_both a p q BadContext g other t cause e = same_fault BadContext
    g (sym (fault_of_both a.contexts a.stage p q BadContext t cause) ∙ e)
told_of_both a p q Interleaved g other t cause e = same_fault Interleaved
    g (sym (fault_of_both a.contexts a.stage p q Interleaved t cause) ∙ e)
told_of_both a p q TooLong g other t cause e = same_fault TooLong
    g (sym (fault_of_both a.contexts a.stage p q TooLong t cause) ∙ e)
told_of_both a p q HasFailed g other t cause e = same_fault HasFailed
    g (sym (fault_of_both a.contexts a.stage p q HasFailed t cause) ∙ e)
told_of_both a p q Memory g other t cause e = absurd (other refl)
told_of_both a p q BadCommand g other t cause e = absurd (not_ended a.stage p q t cause.1)

-- A fault of the first is the fault of both, and the second changes nothing.
refused_as_one : (a mid b : Assembly) (p q : Pdv) (f : DimseFault) → f ≢ Memory → Together p q → Feeds a p (refusal f)
    mid → b.contexts ≡ mid.contexts → b.stage ≡ Failed → Feeds a (as_one p q) (refusal f) b
refused_as_one a mid b p q f other t fed same failed = record {
  contexts = same ∙ fed.contexts;
  refused = λ g e. told_of_both a p q f g other t fed.cause e;
  cause = cause_of_both a p q f t fed.cause;
  failing = failed;
  faultless = tt;
  taken = tt;
}

-- ---- runs

-- a run over these fragments that answers the same messages and the same fault
record Retold (a : Assembly) (ps : List Pdv) (rs : List Answer) : Type 0 where
  answers : List Answer
  end : Assembly
  run : Run a ps answers end
  memory : HadMemory answers
  told : messages answers ≡ messages rs
  fault : first_fault answers ≡ first_fault rs

not_memory_fault : (f : DimseFault) → refusal f ≢ refusal Memory → f ≢ Memory
not_memory_fault f other e = other (ap refusal e)

told_none : (m : Option Message) (rs : List Answer) → m ≡ None → messages rs ≡ messages (Ok m ∷ rs)
told_none None rs e = refl
told_none (Some m) rs e = absurd cc

told_failed : (r : Answer) (rs : List Answer) → r ≡ refusal HasFailed → messages rs ≡ messages (r ∷ rs)
told_failed (Ok m) rs e = absurd cc
told_failed (Err f) rs e = refl

as_one_run : (a : Assembly) (p q : Pdv) (ps : List Pdv) (rs : List Answer) (b : Assembly) → Together p q
    → Run a (p ∷ q ∷ ps) rs b → HadMemory rs → Retold a (as_one p q ∷ ps) rs
as_one_run a p q ps [] b t run memory = absurd run
as_one_run a p q ps (r ∷ []) b t run memory = absurd run.2
as_one_run a p q ps (Ok m ∷ s ∷ rs) b t run memory =
    let fed = run.1 in
    let second = run.2 in
    let on = taken_goes_on a.contexts a.stage run.0.stage p q m t (faultless_parts a.contexts a.stage p fed.faultless)
    fed.taken in
    record {
      answers = s ∷ rs;
      end = b;
      run = (second.0, fed_as_one a run.0 second.0 p q s fed.contexts on.1 second.1, second.2);
      memory = memory.1;
      told = told_none m (s ∷ rs) on.0;
      fault = refl;
    }
as_one_run a p q ps (Err f ∷ s ∷ rs) b t run memory =
    let fed = run.1 in
    let second = run.2 in
    let failed = refused_again run.0 q s second.0 fed.failing second.1 in
    record {
      answers = refusal f ∷ rs;
      end = b;
      run = (
        second.0,
        refused_as_one a run.0 second.0 p q f (not_memory_fault f memory.0) t fed second.1.contexts
            failed.1,
        second.2,
      );
      memory = (memory.0, memory.1.1);
      told = told_failed s rs failed.0;
      fault = refl;
    }

-- one fragment more in front of texts
joined_run : (a : Assembly) (p : Pdv) (ts : List Pdv) (rs : List Answer) (b : Assembly) → Run a (p ∷ ts) rs b
    → HadMemory rs → Retold a (before_texts p ts) rs
joined_run a p [] rs b run memory = record {
  answers = rs;
  end = b;
  run = run;
  memory = memory;
  told = refl;
  fault =
      refl;
}
joined_run a p (t ∷ ts) rs b run memory = by_test (go_together p t) refl
  where
    by_test : (test : Bool) → go_together p t ≡ test → Retold a (cond test (as_one p t ∷ ts) (p ∷ t ∷ ts)) rs
    by_test true is = as_one_run a p t ts rs b (together p t is) run memory
    by_test false is = record { answers = rs; end = b; run = run; memory = memory; told = refl; fault = refl }

told_more : (r : Answer) (rs ss : List Answer) → messages rs ≡ messages ss → messages (r ∷ rs) ≡ messages (r ∷ ss)
told_more (Ok None) rs ss e = e
told_more (Ok (Some m)) rs ss e = ap (λ (ms : List Message). m ∷ ms) e
told_more (Err f) rs ss e = e

fault_more : (r : Answer) (rs ss : List Answer) → first_fault rs ≡ first_fault ss → first_fault (r ∷ rs) ≡ first_fault
    (r ∷ ss)
fault_more (Ok m) rs ss e = e
fault_more (Err f) rs ss e = refl

-- Each text as one fragment is answered as its fragments are.
texts_run : (a : Assembly) (ps : List Pdv) (rs : List Answer) (b : Assembly) → Run a ps rs b → HadMemory rs
    → Retold a (texts_in ps) rs
texts_run a [] [] b run memory = record { answers = []; end = b; run = run; memory = memory; told = refl; fault = refl }
texts_run a [] (r ∷ rs) b run memory = absurd run
texts_run a (p ∷ ps) [] b run memory = absurd run
texts_run a (p ∷ ps) (r ∷ rs) b run memory =
    let rest = texts_run run.0 ps rs b run.2 memory.1 in
    let joined = joined_run a p (texts_in ps) (r ∷ rest.answers) rest.end (run.0, run.1, rest.run)
    (memory.0, rest.memory) in
    record {
      answers = joined.answers;
      end = joined.end;
      run = joined.run;
      memory = joined.memory;
      told = joined.told ∙ told_more r rest.answers rs rest.told;
      fault = joined.fault ∙ fault_more r rest.answers rs rest.fault;
    }

pub no_memory_told : (rs : List Answer) → HadMemory rs → first_fault rs ≢ Some Memory
no_memory_told [] memory e = cc
no_memory_told (Ok m ∷ rs) memory e = no_memory_told rs memory.1 e
no_memory_told (Err f ∷ rs) memory e = memory.0 (same_fault f Memory e)

pub same_however_cut : (contexts : List Context) (ps qs : List Pdv) (b d : Assembly) (rs ss : List Answer)
    → texts_in ps ≡ texts_in qs → Run (fresh contexts) ps rs b → HadMemory rs → Run (fresh contexts) qs ss d
    → HadMemory ss → (messages rs ≡ messages ss) × (first_fault rs ≡ first_fault ss)
same_however_cut contexts ps qs b d rs ss same run memory other_run other_memory =
    let one = texts_run (fresh contexts) ps rs b run memory in
    let two = texts_run (fresh contexts) qs ss d other_run other_memory in
    let ends = run_ends (fresh contexts) [] (texts_in ps) one.answers one.end refl one.run in
    let again = subst (λ (ts : List Pdv). Run (fresh contexts) ts two.answers two.end) (sym same) two.run in
    let told = spelled_is_answered contexts (texts_in ps) two.end two.answers (messages one.answers)
    (first_fault one.answers) again two.memory ends (no_memory_told one.answers one.memory) in
    (sym one.told ∙ sym told.0 ∙ two.told, sym one.fault ∙ sym told.1 ∙ two.fault)

-- ---- a text that is cut once more is the same text

together_again : (p q : Pdv) → Together p q → go_together p q ≡ true
together_again p q t = rw (t.goes_on, t.context, t.kind)
    (both_true (q.context == q.context) (same_flag q.command q.command) (same_test q.context q.context refl)
    (same_itself q.command))
  where
    same_itself : (b : Bool) → same_flag b b ≡ true
    same_itself true = refl
    same_itself false = refl

kept_cut : (p q : Pdv) (ts : List Pdv) → Together p q → before_texts p (before_texts q ts) ≡ before_texts (as_one p q)
    ts
kept_cut p q [] t = rw (together_again p q t) refl
kept_cut p q (u ∷ us) t = by_test (go_together q u) refl
  where
    behind : Together q u → Together p (as_one q u)
    behind s = record { goes_on = t.goes_on; context = t.context ∙ s.context; kind = t.kind ∙ s.kind }

    by_test : (test : Bool) → go_together q u ≡ test → before_texts p (cond test (as_one q u ∷ us) (q ∷ u ∷ us)) ≡ cond
        test (as_one (as_one p q) u ∷ us) (as_one p q ∷ u ∷ us)
    by_test true is = rw (together_again p (as_one q u) (behind (together q u is)))
        (ap (λ (s : List ℕ). value u.context u.command u.last s ∷ us)
        (sym (append_assoc p.fragment q.fragment u.fragment)))
    by_test false is = rw (together_again p q t) refl

-- A fragment that is cut in two leaves the texts as they are.
pub texts_stay : (before behind : List Pdv) (p q : Pdv) → p.last ≡ false → p.context ≡ q.context → p.command ≡ q.command
    → texts_in (before ++ p ∷ q ∷ behind) ≡ texts_in (before ++ as_one p q ∷ behind)
texts_stay [] behind p q goes_on context kind = kept_cut p q (texts_in behind)
    (record { goes_on = goes_on; context = context; kind = kind })
texts_stay (r ∷ before) behind p q goes_on context kind = ap (before_texts r) (texts_stay before behind p q goes_on
    context kind)
