-- Every text comes to a command or to none, and all fragments come to messages and perhaps a fault.
use Rattle.std.proofs.Common.{◌≡◌, ◌≢◌, ℕ, ◌<◌, zero, suc, Bool, true, false, List, [], ◌∷◌, ◌++◌}
use Rattle.std.proofs.Common.{length, drop, Option, Some, None, Result, Ok, Err, refl, sym, ap, subst, ◌∙◌, ◌⊎◌, inl}
use Rattle.std.proofs.Common.{inr, arith}
use Rattle.std.specs.Prelude.{MatchBool}
use Rattle.std.specs.List.{list_all}
use Rattle.std.proofs.lemmas.List.{drop_at}
use Rattle.std.proofs.lemmas.List.Concat.{flat_map-cons}
use Rattle.std.proofs.lemmas.Bool.{both_ways}
use Rattle.octets.specs.Bytes.{IsBytes}
use Rattle.octets.proofs.ByteLaws.{IsBytes-drop, IsBytes-tail}
use Rattle.pdu.specs.declared.pdv.Pdv.{Pdv}
use Rattle.pdu.specs.declared.context.Context.{Context}
use Rattle.dimse.specs.declared.command.Command.{Command}
use Rattle.dimse.specs.declared.message.Message.{Message}
use Rattle.dimse.specs.declared.fault.DimseFault.{DimseFault}
use Rattle.dimse.specs.declared.fault.DimseFault.TheVariants.{BadCommand, Memory}
use Rattle.dimse.specs.declared.assembler.Stage.{Stage}
use Rattle.dimse.specs.declared.assembler.Stage.TheVariants.{Between, InCommand, InDataSet, Failed}
use Rattle.dictionary.specs.declared.commands.TheConstants.{AFFECTED_SOP_CLASS_UID, COMMAND_FIELD, MESSAGE_ID}
use Rattle.dictionary.specs.declared.commands.TheConstants.{MESSAGE_ID_BEING_RESPONDED_TO, PRIORITY}
use Rattle.dictionary.specs.declared.commands.TheConstants.{COMMAND_DATA_SET_TYPE, STATUS, AFFECTED_SOP_INSTANCE_UID}
use Rattle.dictionary.specs.declared.commands.TheConstants.{NUMBER_OF_REMAINING_SUBOPERATIONS}
use Rattle.dictionary.specs.declared.commands.TheConstants.{NUMBER_OF_COMPLETED_SUBOPERATIONS}
use Rattle.dictionary.specs.declared.commands.TheConstants.{NUMBER_OF_FAILED_SUBOPERATIONS}
use Rattle.dictionary.specs.declared.commands.TheConstants.{NUMBER_OF_WARNING_SUBOPERATIONS}
use Rattle.dimse.specs.Elements.{Element, element_text, text_of, AreElements, element_at}
use Rattle.dimse.specs.Command.{is_lawful, number_of, uid_of, is_complete, Says, SpellsElements, Spells, announces}
use Rattle.dimse.specs.Assembly.{Assembly, text_so_far, fault_of, AdvancesCommand, Advances, EndsNoCommand}
use Rattle.dimse.specs.Assembly.{Feeds}
use Rattle.dimse.specs.Messages.{Run, fresh, messages, first_fault, Ends, HadMemory}
use Rattle.dimse.specs.Texts.{AreFragments}
use Rattle.dimse.proofs.ElementLaws.{TakesElement, element_takes, element_again}
use Rattle.dimse.proofs.TextLaws.{Front, takes_shorter, one_front, not_empty}
use Rattle.dimse.proofs.CommandLaws.{said, same_command}
use Rattle.dimse.proofs.StepLaws.{refusal, feeds_refused, not_failed, not_memory}
use Rattle.dimse.proofs.RunLaws.{run_ends}
use Rattle.dimse.proofs.CutLaws.{no_memory_told}

-- ---- elements

-- The text spells elements that may stand behind this tag.
abbrev Elements : Option ℕ → List ℕ → List Element → Type 0
Elements previous text es = AreElements previous es × (text ≡ text_of es)

-- Some elements do, or none.
abbrev HasElements : Option ℕ → List ℕ → Type 0
HasElements previous text = ((es : List Element) × Elements previous text es)
    ⊎ ((es : List Element) → Elements previous text es → ⊥)

behind_bytes : (e : Element) (text rest : List ℕ) → text ≡ element_text e ++ rest → IsBytes text → IsBytes rest
behind_bytes e text rest is bytes =
    subst IsBytes (ap (drop (length (element_text e))) is ∙ drop_at (element_text e) rest (length (element_text e))
    refl) (IsBytes-drop (length (element_text e)) text bytes)

first_of : (previous : Option ℕ) (e : Element) (text rest : List ℕ) → TakesElement previous text e rest
    → HasElements (Some e.tag) rest → HasElements previous text
first_of previous e text rest takes (inl some) =
    inl (
      e ∷ some.0,
      (
        (takes.0, some.1.0),
        takes.1 ∙ ap (λ (t : List ℕ). element_text e ++ t) some.1.1
            ∙ sym (flat_map-cons element_text e some.0),
      ),
    )
first_of previous e text rest takes (inr none) = inr no
  where
    no : (es : List Element) → Elements previous text es → ⊥
    no [] is = not_empty e rest (sym is.1 ∙ takes.1)
    no (f ∷ es) is =
        let both = one_front previous e f rest (text_of es) takes.0 is.0.0 (sym takes.1 ∙ is.1
        ∙ flat_map-cons element_text f es) in
        none es (subst (λ (d : Element). AreElements (Some d.tag) es) (sym both.0) is.0.1, both.1)

none_at : (previous : Option ℕ) (b : ℕ) (text : List ℕ) (fault : DimseFault) → element_at previous (b ∷ text) ≡ Err
    fault → HasElements previous (b ∷ text)
none_at previous b text fault refused = inr no
  where
    no : (es : List Element) → Elements previous (b ∷ text) es → ⊥
    no [] is = absurd (let e = is.1 in cc)
    no (f ∷ es) is =
        let read : element_at previous (b ∷ text) ≡ Ok (f, text_of es) = ap (element_at previous)
        (is.1 ∙ flat_map-cons element_text f es) ∙ element_again previous f (text_of es) is.0.0 in
        absurd (let both : Ok (f, text_of es) ≡ Err fault = sym read ∙ refused in cc)

-- what is read at the front, and the elements behind it
abbrev Shorter : ℕ → Type 0
Shorter n = (previous : Option ℕ) (rest : List ℕ) → length rest < n → IsBytes rest → HasElements previous rest

by_read : (n : ℕ) (previous : Option ℕ) (b : ℕ) (text : List ℕ) (r : Result Front DimseFault) → length (b ∷ text) < suc
    n → IsBytes (b ∷ text) → element_at previous (b ∷ text) ≡ r → Shorter n → HasElements previous (b ∷ text)
by_read n previous b text (Ok x) short bytes is more =
    let takes = element_takes previous (b ∷ text) x bytes is in
    let shorter = takes_shorter x.0 (b ∷ text) x.1 takes.1 in
    first_of previous x.0 (b ∷ text) x.1 takes (more (Some x.0.tag) x.1 (omega (arith, short, shorter))
    (behind_bytes x.0 (b ∷ text) x.1 takes.1 bytes))
by_read n previous b text (Err fault) short bytes is more = none_at previous b text fault is

has_elements : (n : ℕ) (previous : Option ℕ) (text : List ℕ) → length text < n → IsBytes text → HasElements previous
    text
has_elements zero previous text short bytes = absurd (omega (arith, short))
has_elements (suc n) previous [] short bytes = inl ([], (tt, refl))
has_elements (suc n) previous (b ∷ text) short bytes =
    by_read n previous b text (element_at previous (b ∷ text)) short bytes refl (λ o rest less octets. has_elements n o
    rest less octets)

-- ---- what elements say

abbrev SaysSome : List Element → Type 0
SaysSome es = ((c : Command) × Says es c) ⊎ ((c : Command) → Says es c → ⊥)

abbrev made : List Element → ℕ → ℕ → Command
made es field data_set_type = record {
  affected_class = uid_of es AFFECTED_SOP_CLASS_UID;
  field = field;
  message_id = number_of es MESSAGE_ID;
  responded_to = number_of es MESSAGE_ID_BEING_RESPONDED_TO;
  priority = number_of es PRIORITY;
  data_set_type = data_set_type;
  status = number_of es STATUS;
  affected_instance = uid_of es AFFECTED_SOP_INSTANCE_UID;
  remaining = number_of es NUMBER_OF_REMAINING_SUBOPERATIONS;
  completed = number_of es NUMBER_OF_COMPLETED_SUBOPERATIONS;
  failed = number_of es NUMBER_OF_FAILED_SUBOPERATIONS;
  warning = number_of es NUMBER_OF_WARNING_SUBOPERATIONS;
}

no_number : (o p : Option ℕ) (n : ℕ) → o ≡ None → o ≡ Some n → ⊥
no_number o p n none some = cc

one_number : (o : Option ℕ) (m n : ℕ) → o ≡ Some m → o ≡ Some n → m ≡ n
one_number o m n p q = cc

says_made : (es : List Element) (field data_set_type : ℕ) (c : Command) → number_of es COMMAND_FIELD ≡ Some field
    → number_of es COMMAND_DATA_SET_TYPE ≡ Some data_set_type → Says es c → c ≡ made es field data_set_type
says_made es field data_set_type c f d s =
    same_command c (made es field data_set_type) (sym s.affected_class) (one_number (number_of es COMMAND_FIELD) c.field
    field s.field f) (sym s.message_id) (sym s.responded_to) (sym s.priority)
    (one_number (number_of es COMMAND_DATA_SET_TYPE) c.data_set_type data_set_type s.data_set_type d) (sym s.status)
    (sym s.affected_instance) (sym s.remaining) (sym s.completed) (sym s.failed) (sym s.warning)

says_some : (es : List Element) → SaysSome es
says_some es = by_lawful (list_all is_lawful es) refl
  where
    by_complete : (field data_set_type : ℕ) (b : Bool) → list_all is_lawful es ≡ true
        → number_of es COMMAND_FIELD ≡ Some field → number_of es COMMAND_DATA_SET_TYPE ≡ Some data_set_type
        → is_complete (made es field data_set_type) ≡ b → SaysSome es
    by_complete field data_set_type true lawful f d whole = inl (
      made es field data_set_type,
      record {
        lawful = lawful;
        affected_class = refl;
        field = f;
        message_id = refl;
        responded_to = refl;
        priority = refl;
        data_set_type = d;
        status = refl;
        affected_instance = refl;
        remaining = refl;
        completed = refl;
        failed = refl;
        warning = refl;
        complete = whole;
      },
    )
    by_complete field data_set_type false lawful f d lacks =
        inr (λ c s. both_ways (is_complete c) (ap is_complete (says_made es field data_set_type c f d s)
        ∙ lacks) s.complete)

    by_type : (field : ℕ) (o : Option ℕ) → list_all is_lawful es ≡ true → number_of es COMMAND_FIELD ≡ Some field
        → number_of es COMMAND_DATA_SET_TYPE ≡ o → SaysSome es
    by_type field None lawful f d = inr (λ c s. no_number (number_of es COMMAND_DATA_SET_TYPE) None c.data_set_type d
        s.data_set_type)
    by_type field (Some data_set_type) lawful f d = by_complete field data_set_type
        (is_complete (made es field data_set_type)) lawful f d refl

    by_field : (o : Option ℕ) → list_all is_lawful es ≡ true → number_of es COMMAND_FIELD ≡ o → SaysSome es
    by_field None lawful f = inr (λ c s. no_number (number_of es COMMAND_FIELD) None c.field f s.field)
    by_field (Some field) lawful f = by_type field (number_of es COMMAND_DATA_SET_TYPE) lawful f refl

    by_lawful : (b : Bool) → list_all is_lawful es ≡ b → SaysSome es
    by_lawful true is = by_field (number_of es COMMAND_FIELD) is refl
    by_lawful false is = inr (λ c s. both_ways (list_all is_lawful es) is s.lawful)

-- ---- texts

-- The text spells a command, or none does.
pub has_outcome : (text : List ℕ) → IsBytes text → ((c : Command) × Spells text c) ⊎ ((c : Command) → Spells text c → ⊥)
has_outcome text bytes = by_elements (has_elements (suc (length text)) None text (omega arith) bytes)
  where
    by_command : (es : List Element) → SpellsElements text es → SaysSome es → ((c : Command) × Spells text c)
        ⊎ ((c : Command) → Spells text c → ⊥)
    by_command es is (inl some) = inl (some.0, (es, is, some.1))
    by_command es is (inr none) = inr (λ c spells. none c (said text es c is spells))

    by_elements : HasElements None text → ((c : Command) × Spells text c) ⊎ ((c : Command) → Spells text c → ⊥)
    by_elements (inl some) = by_command some.0 some.1 (says_some some.0)
    by_elements (inr none) = inr (λ c spells. none spells.0 spells.1)

-- ---- one fragment

abbrev Answer : Type 0
Answer = Result (Option Message) DimseFault

-- an answer to a fragment, which is no want of memory
record Fed (a : Assembly) (p : Pdv) : Type 0 where
  answer : Answer
  next : Assembly
  feeds : Feeds a p answer next
  memory : answer ≢ refusal Memory
  bytes : IsBytes (text_so_far next.stage)

no_bytes : IsBytes []
no_bytes = λ i. omega arith

both_bytes : (xs ys : List ℕ) → IsBytes xs → IsBytes ys → IsBytes (xs ++ ys)
both_bytes [] ys one two i = two i
both_bytes (x ∷ xs) ys one two zero = one zero
both_bytes (x ∷ xs) ys one two (suc i) = both_bytes xs ys (IsBytes-tail x xs one) two i

no_fault : (o : Option DimseFault) (f : DimseFault) → o ≡ None → o ≡ Some f → ⊥
no_fault o f none some = cc

taken : (a : Assembly) (p : Pdv) (m : Option Message) (next : Stage) → fault_of a.contexts a.stage p ≡ None
    → Advances a.stage p m next → IsBytes (text_so_far next) → Fed a p
taken a p m next none takes bytes = record {
  answer = Ok m;
  next = record { contexts = a.contexts; stage = next };
  feeds = record {
    contexts = refl;
    refused = λ f e. absurd (no_fault _ f none e);
    cause = tt;
    failing = tt;
    faultless = none;
    taken = takes;
  };
  memory = λ e. cc;
  bytes = bytes;
}

bad_command : (a : Assembly) (p : Pdv) → fault_of a.contexts a.stage p ≡ None → EndsNoCommand a.stage p → Fed a p
bad_command a p none ends = record {
  answer = Err BadCommand;
  next = record { contexts = a.contexts; stage = Failed };
  feeds = record {
    contexts = refl;
    refused = λ f e. absurd (no_fault _ f none e);
    cause = (none, ends);
    failing = refl;
    faultless = tt;
    taken = tt;
  };
  memory = λ e. cc;
  bytes = no_bytes;
}

-- a fragment of a command set behind this text
record ComesTo (text : List ℕ) (p : Pdv) : Type 0 where
  message : Option Message
  stage : Stage
  takes : AdvancesCommand text p message stage
  bytes : IsBytes (text_so_far stage)

comes_to : (text : List ℕ) (p : Pdv) → IsBytes (text ++ p.fragment) → ComesTo text p
    ⊎ ((p.last ≡ true) × ((c : Command) → Spells (text ++ p.fragment) c → ⊥))
comes_to text p bytes = by_last p.last refl
  where
    kept : (b : Bool) (P Q : Type 0) → b ≡ true → P → MatchBool b P Q
    kept true P Q is h = h
    kept false P Q is h = absurd cc

    left : (b : Bool) (P Q : Type 0) → b ≡ false → Q → MatchBool b P Q
    left true P Q is h = absurd cc
    left false P Q is h = h

    by_announced : (c : Command) (b : Bool) → p.last ≡ true → Spells (text ++ p.fragment) c → announces c ≡ b
        → ComesTo text p
    by_announced c true last spells is = record {
      message = None;
      stage = InDataSet p.context c [];
      takes = kept p.last _ _ last (c, spells, is, refl);
      bytes = no_bytes;
    }
    by_announced c false last spells is = record {
      message = Some (record { context = p.context; command = c; body = None });
      stage = Between;
      takes = kept p.last _ _ last (refl, spells, is, refl, refl);
      bytes = no_bytes;
    }

    by_text : p.last ≡ true → ((c : Command) × Spells (text ++ p.fragment) c)
        ⊎ ((c : Command) → Spells (text ++ p.fragment) c → ⊥) → ComesTo text p
        ⊎ ((p.last ≡ true) × ((c : Command) → Spells (text ++ p.fragment) c → ⊥))
    by_text last (inl some) = inl (by_announced some.0 (announces some.0) last some.1 refl)
    by_text last (inr none) = inr (last, none)

    by_last : (b : Bool) → p.last ≡ b → ComesTo text p
        ⊎ ((p.last ≡ true) × ((c : Command) → Spells (text ++ p.fragment) c → ⊥))
    by_last true is = by_text is (has_outcome (text ++ p.fragment) bytes)
    by_last false is = inl (record {
      message = None;
      stage = InCommand p.context (text ++ p.fragment);
      takes = left p.last _ _ is (refl, refl);
      bytes = bytes;
    })

-- a fragment of the data set of this command
data_comes_to : (contexts : List Context) (k : ℕ) (c : Command) (text : List ℕ) (p : Pdv) → IsBytes (text ++ p.fragment)
    → fault_of contexts (InDataSet k c text) p ≡ None → Fed (record { contexts = contexts; stage = InDataSet k c text })
    p
data_comes_to contexts k c text p bytes none = by_last p.last refl
  where
    a : Assembly
    a = record { contexts = contexts; stage = InDataSet k c text }

    by_last : (b : Bool) → p.last ≡ b → Fed (record { contexts = contexts; stage = InDataSet k c text }) p
    by_last true is = taken (record { contexts = contexts; stage = InDataSet k c text })
        p (Some (record { context = p.context; command = c; body = Some (text ++ p.fragment) })) Between
        none (rw is (refl, refl)) no_bytes
    by_last false is = taken (record { contexts = contexts; stage = InDataSet k c text }) p
        None (InDataSet p.context c (text ++ p.fragment)) none (rw is (refl, refl)) bytes

faultless_fed : (contexts : List Context) (stage : Stage) (p : Pdv) → IsBytes (text_so_far stage) → IsBytes p.fragment
    → fault_of contexts stage p ≡ None → Fed (record { contexts = contexts; stage = stage }) p
faultless_fed contexts Between p so_far bytes none = by_outcome (comes_to [] p bytes)
  where
    by_outcome : ComesTo [] p ⊎ ((p.last ≡ true) × ((c : Command) → Spells ([] ++ p.fragment) c → ⊥))
        → Fed (record { contexts = contexts; stage = Between }) p
    by_outcome (inl o) = taken (record { contexts = contexts; stage = Between }) p o.message o.stage none o.takes
        o.bytes
    by_outcome (inr ends) = bad_command (record { contexts = contexts; stage = Between }) p none ends
faultless_fed contexts (InCommand k text) p so_far bytes none =
    by_outcome (comes_to text p (both_bytes text p.fragment so_far bytes))
  where
    by_outcome : ComesTo text p ⊎ ((p.last ≡ true) × ((c : Command) → Spells (text ++ p.fragment) c → ⊥))
        → Fed (record { contexts = contexts; stage = InCommand k text }) p
    by_outcome (inl o) = taken (record { contexts = contexts; stage = InCommand k text }) p o.message o.stage none
        o.takes o.bytes
    by_outcome (inr ends) = bad_command (record { contexts = contexts; stage = InCommand k text }) p none ends
faultless_fed contexts (InDataSet k c text) p so_far bytes none = data_comes_to contexts k c text
    p (both_bytes text p.fragment so_far bytes) none
faultless_fed contexts Failed p so_far bytes none = absurd (not_failed contexts Failed p none refl)

-- Each fragment has an answer.
fed : (a : Assembly) (p : Pdv) → IsBytes (text_so_far a.stage) → IsBytes p.fragment → Fed a p
fed a p so_far bytes = by_fault (fault_of a.contexts a.stage p) refl
  where
    by_fault : (o : Option DimseFault) → fault_of a.contexts a.stage p ≡ o → Fed a p
    by_fault None none = faultless_fed a.contexts a.stage p so_far bytes none
    by_fault (Some f) fault = record {
      answer = refusal f;
      next = record { contexts = a.contexts; stage = Failed };
      feeds = feeds_refused a a.contexts a.stage Failed p f refl refl fault;
      memory = not_memory a.contexts a.stage p f fault;
      bytes = no_bytes;
    }

-- ---- all fragments

record Answered (a : Assembly) (ps : List Pdv) : Type 0 where
  answers : List Answer
  end : Assembly
  run : Run a ps answers end
  memory : HadMemory answers

answered : (a : Assembly) (ps : List Pdv) → IsBytes (text_so_far a.stage) → AreFragments ps → Answered a ps
answered a [] so_far bytes = record { answers = []; end = a; run = refl; memory = tt }
answered a (p ∷ ps) so_far bytes =
    let one = fed a p so_far bytes.0 in
    let more = answered one.next ps one.bytes bytes.1 in
    record {
      answers = one.answer ∷ more.answers;
      end = more.end;
      run = (one.next, one.feeds, more.run);
      memory =
          (one.memory, more.memory);
    }

-- Any fragments are messages and less than one more, or have a first fault behind messages.
pub comes_to_an_end : (contexts : List Context) (ps : List Pdv) → AreFragments ps → (ms : List Message)
    × (o : Option DimseFault) × (o ≢ Some Memory) × Ends contexts ps ms o
comes_to_an_end contexts ps bytes =
    let run = answered (fresh contexts) ps no_bytes bytes in (
      messages run.answers,
      first_fault run.answers,
      no_memory_told run.answers run.memory,
      run_ends (fresh contexts) []
          ps run.answers run.end refl run.run,
    )
