-- What the fragments spell is what an assembler answers, where memory did not run out.
use Rattle.std.proofs.Common.{◌≡◌, ◌≢◌, ℕ, ◌≤◌, Bool, true, false, List, [], ◌∷◌, ◌++◌, length, Option, Some, None}
use Rattle.std.proofs.Common.{Result, Ok, Err, refl, sym, ap, subst, ◌∙◌, append_assoc, append-nil, length-append}
use Rattle.std.proofs.Common.{arith}
use Rattle.std.specs.Prelude.{IfSome, MatchBool, MatchOption, ◌==◌}
use Rattle.std.proofs.lemmas.Bool.{le-ltb, both_ways}
use Rattle.pdu.specs.declared.pdv.Pdv.{Pdv}
use Rattle.pdu.specs.declared.context.Context.{Context}
use Rattle.dimse.specs.declared.command.Command.{Command}
use Rattle.dimse.specs.declared.message.Message.{Message}
use Rattle.dimse.specs.declared.fault.DimseFault.{DimseFault}
use Rattle.dimse.specs.declared.fault.DimseFault.TheVariants.{BadContext, Interleaved, BadCommand, TooLong, Memory}
use Rattle.dimse.specs.declared.fault.DimseFault.TheVariants.{Failed as HasFailed}
use Rattle.dimse.specs.declared.assembler.Stage.{Stage}
use Rattle.dimse.specs.declared.assembler.Stage.TheVariants.{Between, InCommand, InDataSet, Failed}
use Rattle.dimse.specs.declared.command.TheConstants.{LONGEST_COMMAND}
use Rattle.octets.specs.declared.limits.TheConstants.{LONGEST_DATA_SET}
use Rattle.dimse.specs.Command.{Spells, announces}
use Rattle.dimse.specs.Assembly.{Assembly, accepts, fault_of, Closes, AdvancesCommand, Advances, EndsNoCommand, IsCause}
use Rattle.dimse.specs.Assembly.{Feeds}
use Rattle.dimse.specs.Messages.{IsOf, Opens, Joins, IsTaken, Holds, Splits, Run, fresh, messages, first_fault, Ends}
use Rattle.dimse.specs.Messages.{HadMemory}
use Rattle.dimse.proofs.CommandLaws.{one_command}
use Rattle.dimse.proofs.StepLaws.{refusal}
use Rattle.dimse.proofs.RunLaws.{Faultless, faultless_is, with_body, no_more}

abbrev Answer : Type 0
Answer = Result (Option Message) DimseFault

abbrev at : List Context → Stage → Assembly
at contexts stage = record { contexts = contexts; stage = stage }

abbrev listed : Option Message → List Message
listed None = []
listed (Some m) = m ∷ []

-- ---- fragments that are passed over

-- What a run leaves for what comes behind these fragments.
record Left (c : Assembly) (more : List Pdv) (ms : List Message) (rs : List Answer) (b : Assembly) : Type 0 where
  rest : List Answer
  run : Run c more rest b
  memory : HadMemory rest
  told : messages rs ≡ ms ++ messages rest
  fault : first_fault rs ≡ first_fault rest

-- Any run over these fragments answers these messages and goes on from c.
abbrev Passes : Assembly → List Pdv → List Message → Assembly → Type 0
Passes a ps ms c = (more : List Pdv) (rs : List Answer) (b : Assembly) → Run a (ps ++ more) rs b → HadMemory rs
    → Left c more ms rs b

passes_none : (a : Assembly) → Passes a [] [] a
passes_none a more rs b run memory = record { rest = rs; run = run; memory = memory; told = refl; fault = refl }

passes_then : (a c d : Assembly) (ps qs : List Pdv) (ms ns : List Message) → Passes a ps ms c → Passes c qs ns d
    → Passes a (ps ++ qs) (ms ++ ns) d
passes_then a c d ps qs ms ns first second more rs b run memory =
    let one = first (qs ++ more) rs b (subst (λ (t : List Pdv). Run a t rs b) (append_assoc ps qs more) run) memory in
    let two = second more one.rest b one.run one.memory in
    record {
      rest = two.rest;
      run = two.run;
      memory = two.memory;
      told = one.told ∙ ap (λ (t : List Message). ms ++ t) two.told ∙ sym (append_assoc ms ns (messages two.rest));
      fault = one.fault ∙ two.fault;
    }

-- a fragment that leads to one thing alone
record Leads (a : Assembly) (p : Pdv) (m : Option Message) (next : Stage) : Type 0 where
  none : fault_of a.contexts a.stage p ≡ None
  only : (n : Option Message) (s : Stage) → Advances a.stage p n s → (n ≡ m) × (s ≡ next)
  read : EndsNoCommand a.stage p → ⊥

no_fault : (f : DimseFault) (o : Option DimseFault) → o ≡ None → o ≡ Some f → ⊥
no_fault f o a b = cc

cause_is : (a : Assembly) (p : Pdv) (m : Option Message) (next : Stage) (f : DimseFault) → Leads a p m next
    → IsCause a p f → refusal f ≢ refusal Memory → ⊥
cause_is a p m next Memory leads cause other = other refl
cause_is a p m next BadCommand leads cause other = leads.read cause.1
cause_is a p m next BadContext leads cause other = no_fault BadContext _ leads.none cause
cause_is a p m next Interleaved leads cause other = no_fault Interleaved _ leads.none cause
cause_is a p m next TooLong leads cause other = no_fault TooLong _ leads.none cause
cause_is a p m next HasFailed leads cause other = no_fault HasFailed _ leads.none cause

told_message : (n m : Option Message) (rs : List Answer) → n ≡ m → messages (Ok n ∷ rs) ≡ listed m ++ messages rs
told_message None m rs e = subst (λ (o : Option Message). messages rs ≡ listed o ++ messages rs) e refl
told_message (Some n) m rs e = subst (λ (o : Option Message). n ∷ messages rs ≡ listed o ++ messages rs) e refl

passes_one : (a : Assembly) (p : Pdv) (m : Option Message) (next : Stage) → Leads a p m next → Passes a (p ∷ [])
    (listed m) (at a.contexts next)
passes_one a p m next leads more [] b run memory = absurd run
passes_one a p m next leads more (Ok n ∷ rs) b run memory =
    let is = leads.only n run.0.stage run.1.taken in
    let here : run.0 ≡ at a.contexts next = ap (λ (cs : List Context). at cs run.0.stage) run.1.contexts
    ∙ ap (λ (s : Stage). at a.contexts s) is.1 in
    record {
      rest = rs;
      run = subst (λ (c : Assembly). Run c more rs b) here run.2;
      memory = memory.1;
      told =
          told_message n m rs is.0;
      fault = refl;
    }
passes_one a p m next leads more (Err f ∷ rs) b run memory = absurd (cause_is a p m next f leads run.1.cause memory.0)

-- ---- fragments of a command set

-- the command set that is begun on this context has this text so far
abbrev IsAt : ℕ → List ℕ → Stage → Type 0
IsAt context text Between = text ≡ []
IsAt context text (InCommand k t) = (k ≡ context) × (t ≡ text)
IsAt context text (InDataSet k c t) = ⊥
IsAt context text Failed = ⊥

-- a fragment that goes on it
record GoesOn (contexts : List Context) (context : ℕ) (text : List ℕ) (stage : Stage) (p : Pdv) : Type 0 where
  at_text : IsAt context text stage
  of_context : p.context ≡ context
  of_command : p.command ≡ true
  accepted : accepts contexts context ≡ true
  short : length (text ++ p.fragment) ≤ LONGEST_COMMAND

same : (m n : ℕ) → m ≡ n → (m == n) ≡ true
same m n e = grind (arith, e)

goes_faultless : (contexts : List Context) (context : ℕ) (text : List ℕ) (stage : Stage) (p : Pdv)
    → GoesOn contexts context text stage p → Faultless contexts stage p
goes_faultless contexts context text Between p g = record {
  accepted = rw g.of_context g.accepted;
  place = g.of_command;
  room = le-ltb _ _ (subst (λ (t : List ℕ). length (t ++ p.fragment) ≤ LONGEST_COMMAND) g.at_text g.short);
}
goes_faultless contexts context text (InCommand k t) p g = record {
  accepted = rw g.of_context g.accepted;
  place = rw g.of_command (same p.context k (g.of_context ∙ sym g.at_text.0));
  room = le-ltb _ _ (subst (λ (t : List ℕ). length (t ++ p.fragment) ≤ LONGEST_COMMAND) (sym g.at_text.1) g.short);
}
goes_faultless contexts context text (InDataSet k c t) p g = absurd g.at_text
goes_faultless contexts context text Failed p g = absurd g.at_text

goes_advances : (contexts : List Context) (context : ℕ) (text : List ℕ) (stage : Stage) (p : Pdv) (n : Option Message)
    (s : Stage) → GoesOn contexts context text stage p → Advances stage p n s → AdvancesCommand text p n s
goes_advances contexts context text Between p n s g takes = subst (λ (t : List ℕ). AdvancesCommand t p n s)
    (sym g.at_text) takes
goes_advances contexts context text (InCommand k t) p n s g takes = subst (λ (t : List ℕ). AdvancesCommand t p n s)
    g.at_text.1 takes
goes_advances contexts context text (InDataSet k c t) p n s g takes = absurd g.at_text
goes_advances contexts context text Failed p n s g takes = absurd g.at_text

goes_ends : (contexts : List Context) (context : ℕ) (text : List ℕ) (stage : Stage) (p : Pdv) → GoesOn contexts context
    text stage p → EndsNoCommand stage p → (p.last ≡ true) × ((c : Command) → Spells (text ++ p.fragment) c → ⊥)
goes_ends contexts context text Between p g ends =
    (ends.0, subst (λ (t : List ℕ). (c : Command) → Spells (t ++ p.fragment) c → ⊥) (sym g.at_text) ends.1)
goes_ends contexts context text (InCommand k t) p g ends =
    (ends.0, subst (λ (t : List ℕ). (c : Command) → Spells (t ++ p.fragment) c → ⊥) g.at_text.1 ends.1)
goes_ends contexts context text (InDataSet k c t) p g ends = absurd g.at_text
goes_ends contexts context text Failed p g ends = absurd g.at_text

pub where_false : (b : Bool) (P Q : Type 0) → b ≡ false → MatchBool b P Q → Q
where_false true P Q e h = absurd cc
where_false false P Q e h = h

where_true : (b : Bool) (P Q : Type 0) → b ≡ true → MatchBool b P Q → P
where_true true P Q e h = h
where_true false P Q e h = absurd cc

-- one that is not the last
open_leads : (contexts : List Context) (context : ℕ) (text : List ℕ) (stage : Stage) (p : Pdv) → GoesOn contexts context
    text stage p → p.last ≡ false → Leads (at contexts stage) p None (InCommand context (text ++ p.fragment))
open_leads contexts context text stage p g not_last = record {
  none = faultless_is contexts stage p (goes_faultless contexts context text stage p g);
  only = λ n s takes.
      let t = where_false p.last _ _ not_last (goes_advances contexts context text stage p n s g takes) in
      (t.0, t.1 ∙ ap (λ (k : ℕ). InCommand k (text ++ p.fragment)) g.of_context);
  read = λ ends. let last = (goes_ends contexts context text stage p g ends).0 in both_ways p.last not_last last;
}

-- what a whole command set ends, and leaves
abbrev ended : ℕ → Command → Bool → Option Message
ended context c true = None
ended context c false = Some (record { context = context; command = c; body = None })

abbrev left : ℕ → Command → Bool → Stage
left context c true = InDataSet context c []
left context c false = Between

no_body : (context : ℕ) (c : Command) (m : Message) → m.context ≡ context → m.command ≡ c → m.body ≡ None
    → m ≡ record { context = context; command = c; body = None }
no_body context c m e f g = let h : record { context = m.context; command = m.command; body = m.body } ≡ record
    { context = context; command = c; body = None } = cc in h

closes_one : (context : ℕ) (text : List ℕ) (c : Command) (b : Bool) (n : Option Message) (s : Stage) → announces c ≡ b
    → Spells text c → Closes context text n s → (n ≡ ended context c b) × (s ≡ left context c b)
closes_one context text c true None s is spells closes = (
  refl,
  closes.3 ∙ ap (λ (d : Command). InDataSet context d [])
      (one_command text closes.0 c closes.1 spells),
)
closes_one context text c false None s is spells closes =
    absurd (apart closes.0 c (one_command text closes.0 c closes.1 spells) closes.2 is)
  where
    apart : (d c : Command) → d ≡ c → announces d ≡ true → announces c ≡ false → ⊥
    apart d c e p q = cc
closes_one context text c true (Some m) s is spells closes =
    absurd (apart m.command c (one_command text m.command c closes.1 spells) closes.2 is)
  where
    apart : (d c : Command) → d ≡ c → announces d ≡ false → announces c ≡ true → ⊥
    apart d c e p q = cc
closes_one context text c false (Some m) s is spells closes = (
  ap (λ (x : Message). Some x) (no_body context c m closes.0 (one_command text m.command c closes.1 spells)
      closes.3),
  closes.4,
)

-- one that is the last
last_leads : (contexts : List Context) (context : ℕ) (text : List ℕ) (stage : Stage) (p : Pdv) (c : Command) (b : Bool)
    → GoesOn contexts context text stage p → p.last ≡ true → Spells (text ++ p.fragment) c → announces c ≡ b
    → Leads (at contexts stage) p (ended context c b) (left context c b)
last_leads contexts context text stage p c b g last spells is = record {
  none = faultless_is contexts stage p (goes_faultless contexts context text stage p g);
  only = λ n s takes.
      closes_one context (text ++ p.fragment) c b n s is spells (subst (λ (k : ℕ). Closes k (text ++ p.fragment) n s)
      g.of_context (where_true p.last _ _ last (goes_advances contexts context text stage p n s g takes)));
  read = λ ends. (goes_ends contexts context text stage p g ends).1 c spells;
}

-- ---- whole texts

length_rest : (text fragment rest : List ℕ) (limit : ℕ) → length (text ++ (fragment ++ rest)) ≤ limit
    → length (text ++ fragment) ≤ limit
length_rest text fragment rest limit le = omega (
  arith,
  le,
  length-append text (fragment ++ rest),
  length-append text
      fragment,
  length-append fragment rest,
)

regroup : (text fragment rest whole : List ℕ) → whole ≡ fragment ++ rest → text ++ whole ≡ (text ++ fragment) ++ rest
regroup text fragment rest whole e = ap (λ (t : List ℕ). text ++ t) e ∙ sym (append_assoc text fragment rest)

goes_on : (contexts : List Context) (context : ℕ) (text : List ℕ) (stage : Stage) (p : Pdv) (rest whole : List ℕ)
    → IsAt context text stage → IsOf context true p → accepts contexts context ≡ true → whole ≡ p.fragment ++ rest
    → length (text ++ whole) ≤ LONGEST_COMMAND → GoesOn contexts context text stage p
goes_on contexts context text stage p rest whole here is accepted parts short = record {
  at_text = here;
  of_context = is.0;
  of_command = is.1;
  accepted = accepted;
  short = length_rest text p.fragment rest LONGEST_COMMAND (subst (λ (t : List ℕ). length (text ++ t) ≤ LONGEST_COMMAND)
      parts short);
}

goes_last : (contexts : List Context) (context : ℕ) (text : List ℕ) (stage : Stage) (p : Pdv) (whole : List ℕ)
    → IsAt context text stage → IsOf context true p → accepts contexts context ≡ true → whole ≡ p.fragment
    → length (text ++ whole) ≤ LONGEST_COMMAND → GoesOn contexts context text stage p
goes_last contexts context text stage p whole here is accepted parts short = record {
  at_text = here;
  of_context = is.0;
  of_command = is.1;
  accepted = accepted;
  short = subst (λ (t : List ℕ). length (text ++ t) ≤ LONGEST_COMMAND) parts short;
}

-- the fragments of a command set, none of them the last
command_opens : (contexts : List Context) (context : ℕ) (text : List ℕ) (ps : List Pdv) (more : List ℕ)
    → Opens context true ps more → accepts contexts context ≡ true → length (text ++ more) ≤ LONGEST_COMMAND
    → Passes (at contexts (InCommand context text)) ps [] (at contexts (InCommand context (text ++ more)))
command_opens contexts context text [] more opens accepted short =
    subst (λ (t : List ℕ). Passes (at contexts (InCommand context text)) [] [] (at contexts (InCommand context t)))
    (sym (append-nil text) ∙ ap (λ (t : List ℕ). text ++ t) (sym opens))
    (passes_none (at contexts (InCommand context text)))
command_opens contexts context text (p ∷ ps) more opens accepted short =
    let g = goes_on contexts context text (InCommand context text) p opens.2 more (refl, refl) opens.0 accepted opens.3
    short in
    let one = passes_one (at contexts (InCommand context text)) p None (InCommand context (text ++ p.fragment))
    (open_leads contexts context text (InCommand context text) p g opens.1) in
    let whole = regroup text p.fragment opens.2 more opens.3 in
    let rest = command_opens contexts context (text ++ p.fragment) ps opens.2 opens.4 accepted
    (subst (λ (t : List ℕ). length t ≤ LONGEST_COMMAND) whole short) in
    subst (λ (t : List ℕ). Passes (at contexts (InCommand context text)) (p ∷ ps) []
    (at contexts (InCommand context t))) (sym whole)
    (passes_then (at contexts (InCommand context text)) (at contexts (InCommand context (text ++ p.fragment)))
    (at contexts (InCommand context ((text ++ p.fragment) ++ opens.2))) (p ∷ []) ps [] [] one rest)

-- the fragments of a command set, up to the last
command_joins : (contexts : List Context) (context : ℕ) (text : List ℕ) (stage : Stage) (ps : List Pdv) (more : List ℕ)
    (c : Command) (b : Bool) → IsAt context text stage → Joins context true ps more → accepts contexts context ≡ true
    → length (text ++ more) ≤ LONGEST_COMMAND → Spells (text ++ more) c → announces c ≡ b
    → Passes (at contexts stage) ps (listed (ended context c b)) (at contexts (left context c b))
command_joins contexts context text stage [] more c b here joins accepted short spells is = absurd joins
command_joins contexts context text stage (p ∷ []) more c b here joins accepted short spells is =
    let g = goes_last contexts context text stage p more here joins.0 accepted joins.2 short in
    passes_one (at contexts stage) p (ended context c b) (left context c b) (last_leads contexts context text stage p c
    b g joins.1 (subst (λ (t : List ℕ). Spells (text ++ t) c) joins.2 spells) is)
command_joins contexts context text stage (p ∷ q ∷ ps) more c b here joins accepted short spells is =
    let g = goes_on contexts context text stage p joins.2 more here joins.0 accepted joins.3 short in
    let one = passes_one (at contexts stage) p None (InCommand context (text ++ p.fragment))
    (open_leads contexts context text stage p g joins.1) in
    let whole = regroup text p.fragment joins.2 more joins.3 in
    let rest = command_joins contexts context (text ++ p.fragment) (InCommand context (text ++ p.fragment)) (q ∷ ps)
    joins.2 c b (refl, refl) joins.4 accepted (subst (λ (t : List ℕ). length t ≤ LONGEST_COMMAND) whole short)
    (subst (λ (t : List ℕ). Spells t c) whole spells) is in
    passes_then (at contexts stage) (at contexts (InCommand context (text ++ p.fragment)))
    (at contexts (left context c b)) (p ∷ []) (q ∷ ps) [] (listed (ended context c b)) one rest

-- the first of several fragments of a command set, and those behind it
command_begins : (contexts : List Context) (context : ℕ) (ps : List Pdv) (text : List ℕ) → ps ≢ [] → Opens context true
    ps text → accepts contexts context ≡ true → length text ≤ LONGEST_COMMAND → Passes (at contexts Between) ps []
    (at contexts (InCommand context text))
command_begins contexts context [] text some opens accepted short = absurd (some refl)
command_begins contexts context (p ∷ ps) text some opens accepted short =
    let g = goes_on contexts context [] Between p opens.2 text refl opens.0 accepted opens.3 short in
    let one = passes_one (at contexts Between) p None (InCommand context p.fragment)
    (open_leads contexts context [] Between p g opens.1) in
    let rest = command_opens contexts context p.fragment ps opens.2 opens.4 accepted
    (subst (λ (t : List ℕ). length t ≤ LONGEST_COMMAND) opens.3 short) in
    subst (λ (t : List ℕ). Passes (at contexts Between) (p ∷ ps) [] (at contexts (InCommand context t))) (sym opens.3)
    (passes_then (at contexts Between) (at contexts (InCommand context p.fragment))
    (at contexts (InCommand context (p.fragment ++ opens.2))) (p ∷ []) ps [] [] one rest)

-- ---- fragments of a data set

-- a fragment that goes on the data set of this command
record GoesOnData (contexts : List Context) (context : ℕ) (text : List ℕ) (p : Pdv) : Type 0 where
  of_context : p.context ≡ context
  of_data : p.command ≡ false
  accepted : accepts contexts context ≡ true
  short : length (text ++ p.fragment) ≤ LONGEST_DATA_SET

data_faultless : (contexts : List Context) (context : ℕ) (c : Command) (text : List ℕ) (p : Pdv) → GoesOnData contexts
    context text p → Faultless contexts (InDataSet context c text) p
data_faultless contexts context c text p g = record {
  accepted = rw g.of_context g.accepted;
  place = rw g.of_data (same p.context context g.of_context);
  room = le-ltb _ _ g.short;
}

data_open_leads : (contexts : List Context) (context : ℕ) (c : Command) (text : List ℕ) (p : Pdv) → GoesOnData contexts
    context text p → p.last ≡ false → Leads (at contexts (InDataSet context c text)) p
    None (InDataSet context c (text ++ p.fragment))
data_open_leads contexts context c text p g not_last = record {
  none = faultless_is contexts (InDataSet context c text) p (data_faultless contexts context c text p g);
  only = λ n s takes.
      let t = where_false p.last _ _ not_last takes in
      (t.0, t.1 ∙ ap (λ (k : ℕ). InDataSet k c (text ++ p.fragment)) g.of_context);
  read = λ ends. ends;
}

data_last_leads : (contexts : List Context) (context : ℕ) (c : Command) (text : List ℕ) (p : Pdv) → GoesOnData contexts
    context text p → p.last ≡ true → Leads (at contexts (InDataSet context c text))
    p (Some (with_body context c (text ++ p.fragment))) Between
data_last_leads contexts context c text p g last = record {
  none = faultless_is contexts (InDataSet context c text) p (data_faultless contexts context c text p g);
  only = λ n s takes.
      let t = where_true p.last _ _ last takes in
      (t.0 ∙ ap (λ (k : ℕ). Some (with_body k c (text ++ p.fragment))) g.of_context, t.1);
  read = λ ends. ends;
}

data_opens : (contexts : List Context) (context : ℕ) (c : Command) (text : List ℕ) (ps : List Pdv) (more : List ℕ)
    → Opens context false ps more → accepts contexts context ≡ true → length (text ++ more) ≤ LONGEST_DATA_SET
    → Passes (at contexts (InDataSet context c text)) ps [] (at contexts (InDataSet context c (text ++ more)))
data_opens contexts context c text [] more opens accepted short =
    subst (λ (t : List ℕ). Passes (at contexts (InDataSet context c text)) [] [] (at contexts (InDataSet context c t)))
    (sym (append-nil text) ∙ ap (λ (t : List ℕ). text ++ t) (sym opens))
    (passes_none (at contexts (InDataSet context c text)))
data_opens contexts context c text (p ∷ ps) more opens accepted short =
    let g : GoesOnData contexts context text p = record {
      of_context = opens.0.0;
      of_data = opens.0.1;
      accepted =
          accepted;
      short = length_rest text p.fragment opens.2 LONGEST_DATA_SET
          (subst (λ (t : List ℕ). length (text ++ t) ≤ LONGEST_DATA_SET) opens.3 short);
    } in
    let one = passes_one (at contexts (InDataSet context c text)) p None (InDataSet context c (text ++ p.fragment))
    (data_open_leads contexts context c text p g opens.1) in
    let whole = regroup text p.fragment opens.2 more opens.3 in
    let rest = data_opens contexts context c (text ++ p.fragment) ps opens.2 opens.4 accepted
    (subst (λ (t : List ℕ). length t ≤ LONGEST_DATA_SET) whole short) in
    subst (λ (t : List ℕ). Passes (at contexts (InDataSet context c text)) (p ∷ ps) []
    (at contexts (InDataSet context c t))) (sym whole)
    (passes_then (at contexts (InDataSet context c text)) (at contexts (InDataSet context c (text ++ p.fragment)))
    (at contexts (InDataSet context c ((text ++ p.fragment) ++ opens.2))) (p ∷ []) ps [] [] one rest)

data_joins : (contexts : List Context) (context : ℕ) (c : Command) (text : List ℕ) (ps : List Pdv) (more : List ℕ)
    → Joins context false ps more → accepts contexts context ≡ true → length (text ++ more) ≤ LONGEST_DATA_SET
    → Passes (at contexts (InDataSet context c text)) ps (with_body context c (text ++ more) ∷ []) (at contexts Between)
data_joins contexts context c text [] more joins accepted short = absurd joins
data_joins contexts context c text (p ∷ []) more joins accepted short =
    let g : GoesOnData contexts context text p = record {
      of_context = joins.0.0;
      of_data = joins.0.1;
      accepted =
          accepted;
      short = subst (λ (t : List ℕ). length (text ++ t) ≤ LONGEST_DATA_SET) joins.2 short;
    } in
    subst (λ (t : List ℕ). Passes (at contexts (InDataSet context c text)) (p ∷ [])
    (with_body context c (text ++ t) ∷ []) (at contexts Between)) (sym joins.2)
    (passes_one (at contexts (InDataSet context c text)) p (Some (with_body context c (text ++ p.fragment)))
    Between (data_last_leads contexts context c text p g joins.1))
data_joins contexts context c text (p ∷ q ∷ ps) more joins accepted short =
    let g : GoesOnData contexts context text p = record {
      of_context = joins.0.0;
      of_data = joins.0.1;
      accepted =
          accepted;
      short = length_rest text p.fragment joins.2 LONGEST_DATA_SET
          (subst (λ (t : List ℕ). length (text ++ t) ≤ LONGEST_DATA_SET) joins.3 short);
    } in
    let one = passes_one (at contexts (InDataSet context c text)) p None (InDataSet context c (text ++ p.fragment))
    (data_open_leads contexts context c text p g joins.1) in
    let whole = regroup text p.fragment joins.2 more joins.3 in
    let rest = data_joins contexts context c (text ++ p.fragment) (q ∷ ps) joins.2 joins.4 accepted
    (subst (λ (t : List ℕ). length t ≤ LONGEST_DATA_SET) whole short) in
    subst (λ (t : List ℕ). Passes (at contexts (InDataSet context c text)) (p ∷ q ∷ ps) (with_body context c t ∷ [])
    (at contexts Between)) (sym whole)
    (passes_then (at contexts (InDataSet context c text)) (at contexts (InDataSet context c (text ++ p.fragment)))
    (at contexts Between) (p ∷ []) (q ∷ ps) [] (with_body context c ((text ++ p.fragment) ++ joins.2) ∷ []) one
    rest)

-- ---- messages

message_is : (m : Message) (body : Option (List ℕ)) → m.body ≡ body
    → m ≡ record { context = m.context; command = m.command; body = body }
message_is m body e = let h : record { context = m.context; command = m.command; body = m.body } ≡ record
    { context = m.context; command = m.command; body = body } = cc in h

-- the fragments of a message
message_passes : (contexts : List Context) (front : List Pdv) (m : Message) (body : Option (List ℕ))
    (t : IsTaken contexts front m) → m.body ≡ body
    → MatchOption body ((announces m.command ≡ false) × (t.message.of_data ≡ [])) (λ b. (announces m.command ≡ true)
    × Joins m.context false t.message.of_data b) → IfSome body (λ b. length b ≤ LONGEST_DATA_SET)
    → Passes (fresh contexts) front (m ∷ []) (fresh contexts)
message_passes contexts front m None t none is short =
    let s = t.message in
    let command = command_joins contexts m.context [] Between s.of_command s.text m.command false refl s.joined
    t.accepted t.short_command s.spelled is.0 in
    let whole : front ≡ s.of_command = s.parts ∙ ap (λ (ps : List Pdv). s.of_command ++ ps) is.1
    ∙ append-nil s.of_command in
    subst (λ (ps : List Pdv). Passes (fresh contexts) ps (m ∷ []) (fresh contexts)) (sym whole)
    (subst (λ (n : Message). Passes (fresh contexts) s.of_command (n ∷ []) (fresh contexts))
    (sym (message_is m None none)) command)
message_passes contexts front m (Some b) t some is short =
    let s = t.message in
    let command = command_joins contexts m.context [] Between s.of_command s.text m.command true refl s.joined
    t.accepted t.short_command s.spelled is.0 in
    let data_set = data_joins contexts m.context m.command [] s.of_data b is.1 t.accepted short in
    let both = passes_then (fresh contexts) (at contexts (InDataSet m.context m.command [])) (fresh contexts)
    s.of_command s.of_data [] (with_body m.context m.command b ∷ []) command data_set in
    subst (λ (ps : List Pdv). Passes (fresh contexts) ps (m ∷ []) (fresh contexts)) (sym s.parts)
    (subst (λ (n : Message). Passes (fresh contexts) (s.of_command ++ s.of_data) (n ∷ []) (fresh contexts))
    (sym (message_is m (Some b) some)) both)

taken_passes : (contexts : List Context) (front : List Pdv) (m : Message) → IsTaken contexts front m
    → Passes (fresh contexts) front (m ∷ []) (fresh contexts)
taken_passes contexts front m t = message_passes contexts front m m.body t refl t.message.body t.short_body

-- less than a message
held_passes : (contexts : List Context) (stage : Stage) (pdvs : List Pdv) → Holds contexts stage pdvs
    → Passes (fresh contexts) pdvs [] (at contexts stage)
held_passes contexts Between pdvs holds = subst (λ (ps : List Pdv). Passes (fresh contexts) ps [] (fresh contexts))
    (sym holds) (passes_none (fresh contexts))
held_passes contexts (InCommand context text) pdvs h = command_begins contexts context pdvs text h.some h.opened
    h.accepted h.short
held_passes contexts (InDataSet context c text) pdvs h =
    let command = command_joins contexts context [] Between h.of_command h.whole c true refl h.joined h.accepted
    h.short_command h.spelled h.announced in
    let data_set = data_opens contexts context c [] h.of_data text h.opened h.accepted h.short in
    subst (λ (ps : List Pdv). Passes (fresh contexts) ps [] (at contexts (InDataSet context c text))) (sym h.parts)
    (passes_then (fresh contexts) (at contexts (InDataSet context c [])) (at contexts (InDataSet context c text))
    h.of_command h.of_data [] [] command data_set)
held_passes contexts Failed pdvs holds = absurd holds

splits_pass : (contexts : List Context) (pdvs : List Pdv) (ms : List Message) (stage : Stage) → Splits contexts pdvs ms
    stage → Passes (fresh contexts) pdvs ms (at contexts stage)
splits_pass contexts pdvs [] stage splits = held_passes contexts stage pdvs splits
splits_pass contexts pdvs (m ∷ ms) stage splits =
    subst (λ (ps : List Pdv). Passes (fresh contexts) ps (m ∷ ms) (at contexts stage)) (sym splits.2)
    (passes_then (fresh contexts) (fresh contexts) (at contexts stage) splits.0 splits.1 (m ∷ [])
    ms (taken_passes contexts splits.0 m splits.3) (splits_pass contexts splits.1 ms stage splits.4))

-- ---- whole runs

-- a cause is told
told_fault : (a : Assembly) (p : Pdv) (f : DimseFault) (r : Answer) (next : Assembly) → IsCause a p f → f ≢ Memory
    → r ≢ refusal Memory → Feeds a p r next → r ≡ refusal f
told_fault a p BadContext r next cause other memory fed = fed.refused BadContext cause
told_fault a p Interleaved r next cause other memory fed = fed.refused Interleaved cause
told_fault a p TooLong r next cause other memory fed = fed.refused TooLong cause
told_fault a p HasFailed r next cause other memory fed = fed.refused HasFailed cause
told_fault a p Memory r next cause other memory fed = absurd (other refl)
told_fault a p BadCommand r next cause other memory fed = by_answer r cause memory fed
  where
    told : (stage : Stage) (n : Option Message) (s : Stage) → EndsNoCommand stage p → Advances stage p n s → ⊥
    told Between n s ends takes = closes n s ends.1 (where_true p.last _ _ ends.0 takes)
      where
        closes : (n : Option Message) (s : Stage) → ((c : Command) → Spells ([] ++ p.fragment) c → ⊥)
            → Closes p.context ([] ++ p.fragment) n s → ⊥
        closes None s none t = none t.0 t.1
        closes (Some m) s none t = none m.command t.1
    told (InCommand context text) n s ends takes = closes n s ends.1 (where_true p.last _ _ ends.0 takes)
      where
        closes : (n : Option Message) (s : Stage) → ((c : Command) → Spells (text ++ p.fragment) c → ⊥)
            → Closes p.context (text ++ p.fragment) n s → ⊥
        closes None s none t = none t.0 t.1
        closes (Some m) s none t = none m.command t.1
    told (InDataSet context c text) n s ends takes = ends
    told Failed n s ends takes = ends

    by_answer : (r : Answer) → IsCause a p BadCommand → r ≢ refusal Memory → Feeds a p r next → r ≡ refusal BadCommand
    by_answer (Ok n) cause memory fed = absurd (told a.stage n next.stage cause.1 fed.taken)
    by_answer (Err BadCommand) cause memory fed = refl
    by_answer (Err Memory) cause memory fed = absurd (memory refl)
    by_answer (Err BadContext) cause memory fed = absurd (no_fault BadContext _ cause.0 fed.cause)
    by_answer (Err Interleaved) cause memory fed = absurd (no_fault Interleaved _ cause.0 fed.cause)
    by_answer (Err TooLong) cause memory fed = absurd (no_fault TooLong _ cause.0 fed.cause)
    by_answer (Err HasFailed) cause memory fed = absurd (no_fault HasFailed _ cause.0 fed.cause)

-- at a cause the run tells it, and no message comes behind it
ends_here : (a : Assembly) (p : Pdv) (after : List Pdv) (rs : List Answer) (b : Assembly) (f : DimseFault)
    → IsCause a p f → f ≢ Memory → HadMemory rs → Run a (p ∷ after) rs b → (messages rs ≡ [])
    × (first_fault rs ≡ Some f)
ends_here a p after [] b f cause other memory run = absurd run
ends_here a p after (Ok n ∷ rs) b f cause other memory run =
    absurd (apart n (told_fault a p f (Ok n) run.0 cause other memory.0 run.1))
  where
    apart : (n : Option Message) → Ok n ≡ refusal f → ⊥
    apart n e = cc
ends_here a p after (Err g ∷ rs) b f cause other memory run = (
  no_more run.0 after rs b run.1.failing run.2,
  same_fault
      g (told_fault a p f (Err g) run.0 cause other memory.0 run.1),
)
  where
    same_fault : (g : DimseFault) → refusal g ≡ refusal f → Some g ≡ Some f
    same_fault g e = cc

nothing_left : (a : Assembly) (rs : List Answer) (b : Assembly) → Run a [] rs b → (messages rs ≡ [])
    × (first_fault rs ≡ None)
nothing_left a [] b run = (refl, refl)
nothing_left a (r ∷ rs) b run = absurd run

memory_is : (f : DimseFault) → Some f ≢ Some Memory → f ≢ Memory
memory_is f other e = other (ap (λ (g : DimseFault). Some g) e)

pub spelled_is_answered : (contexts : List Context) (pdvs : List Pdv) (b : Assembly) (rs : List Answer)
    (ms : List Message) (o : Option DimseFault) → Run (fresh contexts) pdvs rs b → HadMemory rs → Ends contexts pdvs ms
    o → o ≢ Some Memory → (messages rs ≡ ms) × (first_fault rs ≡ o)
spelled_is_answered contexts pdvs b rs ms None run memory ends other =
    let left = splits_pass contexts pdvs ms ends.0 ends.1 [] rs b (rw append-nil run) memory in
    let end = nothing_left (at contexts ends.0) left.rest b left.run in
    (left.told ∙ ap (λ (t : List Message). ms ++ t) end.0 ∙ append-nil ms, left.fault ∙ end.1)
spelled_is_answered contexts pdvs b rs ms (Some f) run memory ends other =
    let left = splits_pass contexts ends.0 ms ends.3 ends.5 (ends.2 ∷ ends.1) rs
    b (subst (λ (ps : List Pdv). Run (fresh contexts) ps rs b) ends.4 run) memory in
    let end = ends_here (at contexts ends.3) ends.2 ends.1 left.rest b f ends.6 (memory_is f other) left.memory left.run
    in
    (left.told ∙ ap (λ (t : List Message). ms ++ t) end.0 ∙ append-nil ms, left.fault ∙ end.1)
