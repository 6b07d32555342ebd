-- What an assembler answers is what the fragments spell.
use Rattle.std.proofs.Common.{◌≡◌, ◌≢◌, ℕ, ◌≤◌, Bool, true, false, not, cond, List, [], ◌∷◌, ◌++◌, length, Option, Some}
use Rattle.std.proofs.Common.{None, Result, Ok, Err, refl, sym, ap, subst, ◌∙◌, append_assoc, append-nil, arith, lit≤}
use Rattle.std.specs.Prelude.{OnErr, All, MatchBool, ◌==◌}
use Rattle.std.specs.List.{AllByRecursion}
use Rattle.std.proofs.lemmas.List.Elements.{All-from_recursion}
use Rattle.std.proofs.lemmas.Bool.{ltb-false, and_parts as and_true, not-true as not_true}
use Rattle.pdu.specs.declared.pdv.Pdv.{Pdv}
use Rattle.pdu.specs.declared.context.Context.{Context}
use Rattle.dimse.specs.declared.command.Command.{Command}
use Rattle.dimse.specs.declared.message.Message.{Message}
use Rattle.dimse.specs.declared.fault.DimseFault.{DimseFault}
use Rattle.dimse.specs.declared.fault.DimseFault.TheVariants.{BadContext, Interleaved, TooLong, Failed as HasFailed}
use Rattle.dimse.specs.declared.assembler.Stage.{Stage}
use Rattle.dimse.specs.declared.assembler.Stage.TheVariants.{Between, InCommand, InDataSet, Failed}
use Rattle.dimse.specs.declared.command.TheConstants.{LONGEST_COMMAND}
use Rattle.octets.specs.declared.limits.TheConstants.{LONGEST_DATA_SET}
use Rattle.dimse.specs.Command.{announces}
use Rattle.dimse.specs.Assembly.{Assembly, accepts, has_place, text_so_far, limit_of, is_over, fault_of, Closes}
use Rattle.dimse.specs.Assembly.{Advances, Feeds}
use Rattle.dimse.specs.Messages.{IsOf, Opens, Joins, IsBody, IsTaken, BeginsDataSet, Holds, Run, messages, first_fault}
use Rattle.dimse.specs.Messages.{Ends}

-- ---- a fragment without a fault

pub record Faultless (contexts : List Context) (stage : Stage) (p : Pdv) : Type 0 where
  pub accepted : accepts contexts p.context ≡ true
  pub place : has_place stage p ≡ true
  pub room : is_over stage p ≡ false

three_tests : (a b c : Bool) → cond (not a) (Some BadContext)
    (cond (not b) (Some Interleaved) (cond c (Some TooLong) None)) ≡ None → (a ≡ true) × (b ≡ true) × (c ≡ false)
three_tests true true false e = (refl, refl, refl)
three_tests true true true e = absurd cc
three_tests true false c e = absurd cc
three_tests false b c e = absurd cc

pub faultless_parts : (contexts : List Context) (stage : Stage) (p : Pdv) → fault_of contexts stage p ≡ None
    → Faultless contexts stage p
unfolding fault_of
faultless_parts contexts Between p e = let t = three_tests _ _ _ e in record { accepted = t.0; place = t.1; room = t.2 }
faultless_parts contexts (InCommand context text) p e = let t = three_tests _ _ _ e in
    record { accepted = t.0; place = t.1; room = t.2 }
faultless_parts contexts (InDataSet context command text) p e = let t = three_tests _ _ _ e in
    record { accepted = t.0; place = t.1; room = t.2 }
faultless_parts contexts Failed p e = absurd cc

pub faultless_is : (contexts : List Context) (stage : Stage) (p : Pdv) → Faultless contexts stage p
    → fault_of contexts stage p ≡ None
unfolding fault_of
faultless_is contexts Between p f = rw (f.accepted, f.place, f.room) refl
faultless_is contexts (InCommand context text) p f = rw (f.accepted, f.place, f.room) refl
faultless_is contexts (InDataSet context command text) p f = rw (f.accepted, f.place, f.room) refl
faultless_is contexts Failed p f = absurd (let e = f.place in cc)

pub same_number : (m n : ℕ) → (m == n) ≡ true → m ≡ n
same_number m n e = grind (arith, e)

-- ---- one fragment more

pub opens_more : (context : ℕ) (command : Bool) (ps : List Pdv) (text : List ℕ) (p : Pdv) → Opens context command ps
    text → IsOf context command p → p.last ≡ false → Opens context command (ps ++ p ∷ []) (text ++ p.fragment)
opens_more context command [] text p o is l = (
  is,
  l,
  [],
  ap (λ (t : List ℕ). t ++ p.fragment) o
      ∙ sym (append-nil p.fragment),
  refl,
)
opens_more context command (q ∷ ps) text p o is l = (
  o.0,
  o.1,
  o.2 ++ p.fragment,
  ap (λ (t : List ℕ). t ++ p.fragment)
      o.3 ∙ append_assoc q.fragment o.2 p.fragment,
  opens_more context command ps o.2 p o.4 is l,
)

pub joins_last : (context : ℕ) (command : Bool) (ps : List Pdv) (text : List ℕ) (p : Pdv) → Opens context command ps
    text → IsOf context command p → p.last ≡ true → Joins context command (ps ++ p ∷ []) (text ++ p.fragment)
joins_last context command [] text p o is l = (is, l, ap (λ (t : List ℕ). t ++ p.fragment) o)
joins_last context command (q ∷ []) text p o is l = (
  o.0,
  o.1,
  o.2 ++ p.fragment,
  ap (λ (t : List ℕ). t ++ p.fragment)
      o.3 ∙ append_assoc q.fragment o.2 p.fragment,
  joins_last context command [] o.2 p o.4 is l,
)
joins_last context command (q ∷ r ∷ ps) text p o is l = (
  o.0,
  o.1,
  o.2 ++ p.fragment,
  ap (λ (t : List ℕ). t ++ p.fragment) o.3 ∙ append_assoc q.fragment o.2 p.fragment,
  joins_last context command (r ∷ ps) o.2 p o.4 is l,
)

pub not_nil : (ps : List Pdv) (p : Pdv) → ps ++ p ∷ [] ≢ []
not_nil [] p e = cc
not_nil (q ∷ ps) p e = cc

-- ---- what is held after a fragment that is taken

-- The message that it ends, where it ends one, is that of the fragments, and the next begins behind it;
-- else they go on.
abbrev pub Keeps : List Context → List Pdv → Option Message → Stage → Type 0
Keeps contexts pdvs None stage = Holds contexts stage pdvs
Keeps contexts pdvs (Some m) stage = IsTaken contexts pdvs m × (stage ≡ Between)

room_is : (stage : Stage) (p : Pdv) → is_over stage p ≡ false → length (text_so_far stage ++ p.fragment) ≤ limit_of
    stage
room_is stage p e = ltb-false _ _ e

same_message : (m n : Message) → m.context ≡ n.context → m.command ≡ n.command → m.body ≡ n.body → m ≡ n
same_message m n a b c = let e : again m ≡ again n = cc in e
  where
    again : Message → Message
    again m = record { context = m.context; command = m.command; body = m.body }

-- a whole command set
closed : (contexts : List Context) (context : ℕ) (text : List ℕ) (pdvs : List Pdv) (m : Option Message) (next : Stage)
    → Joins context true pdvs text → accepts contexts context ≡ true → length text ≤ LONGEST_COMMAND
    → Closes context text m next → Keeps contexts pdvs m next
closed contexts context text pdvs None next joins accepted short closes =
    subst (λ (s : Stage). Holds contexts s pdvs) (sym closes.3) (record {
      of_command = pdvs;
      of_data = [];
      whole = text;
      parts = sym (append-nil pdvs);
      joined = joins;
      spelled = closes.1;
      announced = closes.2;
      opened = refl;
      accepted = accepted;
      short_command = short;
      short = lit≤ tt;
    })
closed contexts context text pdvs (Some m) next joins accepted short closes = (
  record {
    message = record {
      of_command = pdvs;
      of_data = [];
      text = text;
      parts = sym (append-nil pdvs);
      joined = subst (λ (k : ℕ). Joins k true pdvs text) (sym closes.0) joins;
      spelled = closes.1;
      body = no_body m closes.3 closes.2;
    };
    accepted = rw closes.0 accepted;
    short_command = short;
    short_body = rw closes.3 tt;
  },
  closes.4,
)
  where
    no_body : (m : Message) → m.body ≡ None → announces m.command ≡ false → IsBody m []
    no_body m none not = rw none (not, refl)

command_taken : (contexts : List Context) (text : List ℕ) (pdvs : List Pdv) (p : Pdv) (m : Option Message)
    (next : Stage) (last : Bool) → p.last ≡ last → Opens p.context true pdvs text → p.command ≡ true
    → accepts contexts p.context ≡ true → length (text ++ p.fragment) ≤ LONGEST_COMMAND
    → MatchBool last (Closes p.context (text ++ p.fragment) m next)
    ((m ≡ None) × (next ≡ InCommand p.context (text ++ p.fragment))) → Keeps contexts (pdvs ++ p ∷ []) m next
command_taken contexts text pdvs p m next true l opens command accepted short takes =
    closed contexts p.context (text ++ p.fragment) (pdvs ++ p ∷ []) m next (joins_last p.context true pdvs text p
    opens (refl, command) l) accepted short takes
command_taken contexts text pdvs p m next false l opens command accepted short takes =
    subst (λ (a : Option Message). Keeps contexts (pdvs ++ p ∷ []) a next) (sym takes.0)
    (subst (λ (s : Stage). Holds contexts s (pdvs ++ p ∷ [])) (sym takes.1)
    (record {
      some = not_nil pdvs p;
      opened = opens_more p.context true pdvs text p opens (refl, command) l;
      accepted =
          accepted;
      short = short;
    }))

abbrev pub with_body : ℕ → Command → List ℕ → Message
with_body context c text = record { context = context; command = c; body = Some text }

data_taken : (contexts : List Context) (c : Command) (text : List ℕ) (pdvs : List Pdv) (p : Pdv) (m : Option Message)
    (next : Stage) (last : Bool) → p.last ≡ last → BeginsDataSet contexts p.context c text pdvs → p.command ≡ false
    → length (text ++ p.fragment) ≤ LONGEST_DATA_SET
    → MatchBool last ((m ≡ Some (with_body p.context c (text ++ p.fragment))) × (next ≡ Between))
    ((m ≡ None) × (next ≡ InDataSet p.context c (text ++ p.fragment))) → Keeps contexts (pdvs ++ p ∷ []) m next
data_taken contexts c text pdvs p m next true l b command short takes =
    subst (λ (a : Option Message). Keeps contexts (pdvs ++ p ∷ []) a next) (sym takes.0) (
      record {
        message = record {
          of_command = b.of_command;
          of_data = b.of_data ++ p ∷ [];
          text = b.whole;
          parts = ap (λ (t : List Pdv). t ++ p ∷ []) b.parts ∙ append_assoc b.of_command b.of_data (p ∷ []);
          joined = b.joined;
          spelled = b.spelled;
          body = (b.announced, joins_last p.context false b.of_data text p b.opened (refl, command) l);
        };
        accepted = b.accepted;
        short_command = b.short_command;
        short_body = short;
      },
      takes.1,
    )
data_taken contexts c text pdvs p m next false l b command short takes =
    subst (λ (a : Option Message). Keeps contexts (pdvs ++ p ∷ []) a next) (sym takes.0)
    (subst (λ (s : Stage). Holds contexts s (pdvs ++ p ∷ [])) (sym takes.1) (record {
      of_command = b.of_command;
      of_data = b.of_data ++ p ∷ [];
      whole = b.whole;
      parts = ap (λ (t : List Pdv). t ++ p ∷ []) b.parts ∙ append_assoc b.of_command b.of_data (p ∷ []);
      joined = b.joined;
      spelled = b.spelled;
      announced = b.announced;
      opened = opens_more p.context false b.of_data text p b.opened (refl, command) l;
      accepted = b.accepted;
      short_command = b.short_command;
      short = short;
    }))

opens_none : (context : ℕ) (pdvs : List Pdv) → pdvs ≡ [] → Opens context true pdvs []
opens_none context [] none = refl
opens_none context (p ∷ pdvs) none = absurd cc

pub step_keeps : (contexts : List Context) (stage : Stage) (pdvs : List Pdv) (p : Pdv) (m : Option Message)
    (next : Stage) → Holds contexts stage pdvs → Faultless contexts stage p → Advances stage p m next
    → Keeps contexts (pdvs ++ p ∷ []) m next
step_keeps contexts Between pdvs p m next holds f takes =
    command_taken contexts [] pdvs p m next p.last refl (opens_none p.context pdvs holds) f.place f.accepted
    (room_is Between p f.room) takes
step_keeps contexts (InCommand context text) pdvs p m next holds f takes =
    let t = and_true p.command (p.context == context) f.place in
    let here : p.context ≡ context = same_number p.context context t.1 in
    command_taken contexts text pdvs p m next p.last refl (subst (λ (k : ℕ). Opens k true pdvs text) (sym here)
    holds.opened) t.0 f.accepted (room_is (InCommand context text) p f.room) takes
step_keeps contexts (InDataSet context c text) pdvs p m next holds f takes =
    let t = and_true (not p.command) (p.context == context) f.place in
    let here : p.context ≡ context = same_number p.context context t.1 in
    data_taken contexts c text pdvs p m next p.last refl (subst (λ (k : ℕ). BeginsDataSet contexts k c text pdvs)
    (sym here) holds) (not_true p.command t.0) (room_is (InDataSet context c text) p f.room) takes
step_keeps contexts Failed pdvs p m next holds f takes = absurd holds

-- ---- runs

pub failed_fault : (contexts : List Context) (p : Pdv) → fault_of contexts Failed p ≡ Some HasFailed
unfolding fault_of
failed_fault contexts p = refl

-- after a fault there is no message
pub no_more : (a : Assembly) (ps : List Pdv) (rs : List (Result (Option Message) DimseFault)) (b : Assembly)
    → a.stage ≡ Failed → Run a ps rs b → messages rs ≡ []
no_more a [] [] b failed run = refl
no_more a [] (r ∷ rs) b failed run = absurd run
no_more a (p ∷ ps) [] b failed run = absurd run
no_more a (p ∷ ps) (Ok m ∷ rs) b failed run =
    let told : Ok m ≡ Err HasFailed = run.1.refused HasFailed (rw failed (failed_fault a.contexts p)) in absurd cc
no_more a (p ∷ ps) (Err f ∷ rs) b failed run = no_more run.0 ps rs b run.1.failing run.2

-- a message in front
ends_more : (contexts : List Context) (front behind : List Pdv) (m : Message) (ms : List Message)
    (o : Option DimseFault) → IsTaken contexts front m → Ends contexts behind ms o → Ends contexts (front ++ behind)
    (m ∷ ms) o
ends_more contexts front behind m ms None taken ends = (ends.0, (front, behind, refl, taken, ends.1))
ends_more contexts front behind m ms (Some f) taken ends = (
  front ++ ends.0,
  ends.1,
  ends.2,
  ends.3,
  ap (λ (t : List Pdv). front ++ t) ends.4
      ∙ sym (append_assoc front ends.0 (ends.2 ∷ ends.1)),
  (front, ends.0, refl, taken, ends.5),
  ends.6,
)

pub run_ends : (a : Assembly) (before ps : List Pdv) (rs : List (Result (Option Message) DimseFault)) (b : Assembly)
    → Holds a.contexts a.stage before → Run a ps rs b → Ends a.contexts (before ++ ps) (messages rs) (first_fault rs)
run_ends a before [] [] b holds run = (a.stage, rw append-nil holds)
run_ends a before [] (r ∷ rs) b holds run = absurd run
run_ends a before (p ∷ ps) [] b holds run = absurd run
run_ends a before (p ∷ ps) (Ok None ∷ rs) b holds run =
    let fed = run.1 in
    let keeps = step_keeps a.contexts a.stage before p None run.0.stage holds (faultless_parts a.contexts a.stage p
    fed.faultless) fed.taken in
    let more = run_ends run.0 (before ++ p ∷ []) ps rs
    b (subst (λ (cs : List Context). Holds cs run.0.stage (before ++ p ∷ [])) (sym fed.contexts) keeps) run.2 in
    subst (λ (t : List Pdv). Ends a.contexts t (messages rs) (first_fault rs)) (append_assoc before (p ∷ []) ps)
    (subst (λ (cs : List Context). Ends cs ((before ++ p ∷ []) ++ ps) (messages rs) (first_fault rs)) fed.contexts
    more)
run_ends a before (p ∷ ps) (Ok (Some m) ∷ rs) b holds run =
    let fed = run.1 in
    let keeps = step_keeps a.contexts a.stage before p (Some m) run.0.stage holds (faultless_parts a.contexts a.stage p
    fed.faultless) fed.taken in
    let more = run_ends run.0 [] ps rs b (subst (λ (s : Stage). Holds run.0.contexts s []) (sym keeps.1) refl) run.2 in
    subst (λ (t : List Pdv). Ends a.contexts t (m ∷ messages rs) (first_fault rs)) (append_assoc before (p ∷ []) ps)
    (ends_more a.contexts (before ++ p ∷ []) ps m (messages rs) (first_fault rs)
    keeps.0 (subst (λ (cs : List Context). Ends cs ps (messages rs) (first_fault rs)) fed.contexts more))
run_ends a before (p ∷ ps) (Err f ∷ rs) b holds run =
    let none = no_more run.0 ps rs b run.1.failing run.2 in
    subst (λ (ms : List Message). Ends a.contexts (before ++ p ∷ ps) ms (Some f)) (sym none)
    (before, ps, p, a.stage, refl, holds, run.1.cause)

-- after a fault each answer is Failed
pub all_refused : (a b : Assembly) (ps : List Pdv) (rs : List (Result (Option Message) DimseFault)) → a.stage ≡ Failed
    → Run a ps rs b → AllByRecursion (λ r. r ≡ Err HasFailed) rs × (b ≡ a)
all_refused a b [] [] failed run = (tt, run)
all_refused a b [] (r ∷ rs) failed run = absurd run
all_refused a b (p ∷ ps) [] failed run = absurd run
all_refused a b (p ∷ ps) (r ∷ rs) failed run =
    let told : r ≡ Err HasFailed = run.1.refused HasFailed (rw failed (failed_fault a.contexts p)) in
    let still : run.0.stage ≡ Failed = where_told r told run.1.failing in
    let rest = all_refused run.0 b ps rs still run.2 in
    let here : run.0 ≡ a = ap (λ (cs : List Context). record { contexts = cs; stage = run.0.stage }) run.1.contexts
    ∙ ap (λ (s : Stage). record { contexts = a.contexts; stage = s }) (still ∙ sym failed) in
    ((told, rest.0), rest.1 ∙ here)
  where
    where_told : {P : Type 0} (r : Result (Option Message) DimseFault) → r ≡ Err HasFailed → OnErr r P → P
    where_told (Ok m) told h = absurd cc
    where_told (Err f) told h = h

-- after a fault the next answer is Failed, and it stays so
pub refused_again : (a : Assembly) (p : Pdv) (r : Result (Option Message) DimseFault) (b : Assembly) → a.stage ≡ Failed
    → Feeds a p r b → (r ≡ Err HasFailed) × (b.stage ≡ Failed)
refused_again a p r b failed fed =
    let told : r ≡ Err HasFailed = fed.refused HasFailed (rw failed (failed_fault a.contexts p)) in
    (told, still r told fed.failing)
  where
    still : {P : Type 0} (r : Result (Option Message) DimseFault) → r ≡ Err HasFailed → OnErr r P → P
    still (Ok m) told h = absurd cc
    still (Err f) told h = h

pub refused_after : (a b : Assembly) (ps : List Pdv) (rs : List (Result (Option Message) DimseFault)) → a.stage ≡ Failed
    → Run a ps rs b → All (λ r. r ≡ Err HasFailed) rs × (b ≡ a)
refused_after a b ps rs failed run =
    let all = all_refused a b ps rs failed run in
    (All-from_recursion (λ r. r ≡ Err HasFailed) rs all.0, all.1)
