-- After a run each site is what it held, with what was taken at it.
use Rattle.std.proofs.Common.{◌≡◌, ◌≢◌, ℕ, suc, zero, List, [], ◌∷◌, ◌++◌, Option, Some, None, Ok, Err, Result, Bool}
use Rattle.std.proofs.Common.{true, false, cond, refl, sym, ap, ◌∙◌, slice_set, ◌==◌}
use Rattle.std.specs.Prelude.{MatchBool, not}
use Rattle.std.specs.List.{slice_get}
use Rattle.std.specs.Option.{option_map}
use Rattle.std.proofs.lemmas.Bool.{eqb-true, eqb-false, false≢true}
use Rattle.operation.specs.declared.op.Op.{Op}
use Rattle.operation.specs.declared.op.Op.TheVariants.{Correction as a_correction}
use Rattle.operation.specs.declared.stamp.Stamp.{Stamp}
use Rattle.operation.specs.declared.target.Target.{Target}
use Rattle.operation.specs.Corrections.{is_correction}
use Rattle.operation.specs.declared.taken.Taken.{Taken}
use Rattle.std.proofs.lemmas.List.{append-nil}
use Rattle.std.proofs.Common.{append_assoc, subst}
use Rattle.site_state.specs.Site.{Map, with_op, ops_of, top_counter_of}
use Rattle.site_state.specs.Laws.{holding}
use Rattle.exchange.specs.declared.version.Version.{Version}
use Rattle.site_world.specs.declared.fault.WorldFault.{WorldFault}
use Rattle.site_world.specs.declared.fault.WorldFault.TheVariants.{NoSite, NoMessage}
use Rattle.site_world.specs.declared.fault.WorldFault.TheVariants.{BadCorrection, StampsSpent, OldSite}
use Rattle.site_world.specs.declared.step.Step.{Step}
use Rattle.site_world.specs.declared.step.Step.TheVariants.{Take, Correct, Offer, Buckets, Deliver, Old, Look, Get}
use Rattle.site_world.specs.declared.step.Seen.{Seen}
use Rattle.site_world.specs.declared.step.Seen.TheVariants.{Took, Stamped, Offered, Wanted, Gave, Differs, Has, Aged}
use Rattle.site_world.specs.declared.step.Seen.TheVariants.{Rows, Sent}
use Rattle.site_world.specs.declared.message.Message.{Message}
use Rattle.site_world.specs.declared.message.Says.{Says}
use Rattle.site_world.specs.declared.message.Says.TheVariants.{Have, Want, Give, Buckets as says_buckets, Differ}
use Rattle.site_world.specs.Messages.{WorldState, message_at, site_for, version_at, version_between, has_begun, gift_of}
use Rattle.site_world.specs.Messages.{gift_in, message, reaction}
use Rattle.site_world.specs.Steps.{only, is_refused_memory, site_at, with_site, bring, brought, site_of, told}
use Rattle.site_world.specs.Steps.{told_at, told_of_taking, told_of_stamping, told_of_sending, taken_in, made_at}
use Rattle.site_world.specs.Steps.{told_of_reaction, told_of_message}
use Rattle.site_world.specs.Steps.{LAST_COUNTER, on_site, seen_by, sent_also, after, absent, Happens}
use Rattle.site_world.specs.Runs.{Run, if_took, took, taken_at, MessagesStay}

-- ---- one operation, brought to one site

same_place : (xs : List Map) (i : ℕ) (b m : Map) → slice_get xs i ≡ Some b → slice_get (slice_set xs i m) i ≡ Some m
same_place [] i b m e = absurd cc
same_place (x ∷ xs) zero b m e = refl
same_place (x ∷ xs) (suc i) b m e = same_place xs i b m e

other_place : (xs : List Map) (i j : ℕ) (m : Map) → i ≢ j → slice_get (slice_set xs i m) j ≡ slice_get xs j
other_place [] i j m apart = refl
other_place (x ∷ xs) zero zero m apart = absurd (apart refl)
other_place (x ∷ xs) zero (suc j) m apart = refl
other_place (x ∷ xs) (suc i) zero m apart = refl
other_place (x ∷ xs) (suc i) (suc j) m apart = other_place xs i j m (λ e. apart (ap suc e))

same_site : (sites : List Map) (n : ℕ) (b m : Map) → site_at sites n ≡ Some b → site_at (with_site sites n m) n ≡ Some m
same_site sites zero b m e = absurd cc
same_site sites (suc i) b m e = same_place sites i b m e

other_site : (sites : List Map) (k n : ℕ) (m : Map) → k ≢ n → site_at (with_site sites k m) n ≡ site_at sites n
other_site sites zero n m apart = refl
other_site sites (suc i) zero m apart = refl
other_site sites (suc i) (suc j) m apart = other_place sites i j m (λ e. apart (ap suc e))

mapped_same : (r : Option Map) → r ≡ option_map (λ m. m) r
mapped_same None = refl
mapped_same (Some m) = refl

-- the operation that was brought, if one was
abbrev pub these : Option Op → List Op
these None = []
these (Some op) = op ∷ []

-- The site of the number has the operation, and each other site is as it was.
brought_here : (sites : List Map) (k n : ℕ) (op : Op) (b : Bool) (r : Option Map) → (k == n) ≡ b → site_at sites k ≡ r
    → site_at (bring sites k r op) n ≡ option_map (λ m. holding m (cond b (op ∷ []) [])) (site_at sites n)
brought_here sites k n op true None is at =
    let here = ap (site_at sites) (eqb-true k n is) in
    sym here ∙ at ∙ ap (option_map (λ m. with_op m op)) (sym at ∙ here)
brought_here sites k n op true (Some m) is at =
    let here = eqb-true k n is in
    ap (site_at (with_site sites k (with_op m op))) (sym here)
    ∙ same_site sites k m (with_op m op) at
    ∙ ap (option_map (λ m. with_op m op)) (sym at ∙ ap (site_at sites) here)
brought_here sites k n op false None is at = mapped_same _
brought_here sites k n op false (Some m) is at =
    other_site sites k n (with_op m op) (λ e. eqb-false k n is e) ∙ mapped_same _

not_here : (b : Bool) (r : Option Map) → r ≡ option_map (λ m. holding m (cond b [] [])) r
not_here true r = mapped_same r
not_here false r = mapped_same r

pub one_brought : (sites : List Map) (k n : ℕ) (op : Option Op)
    → site_at (brought sites k op) n ≡ option_map (λ m. holding m (cond (k == n) (these op) [])) (site_at sites n)
one_brought sites k n None = not_here (k == n) (site_at sites n)
one_brought sites k n (Some op) = brought_here sites k n op (k == n) (site_at sites k) refl refl

-- ---- what a step took, as its answer names it, is what it brought

-- A refused step took nothing.
pub refused_took : (sent : List Message) (step : Step) (fault : WorldFault) → took sent step (Err fault) ≡ []
refused_took sent (Take n op) fault = refl
refused_took sent (Correct n target tag value) fault = refl
refused_took sent (Offer from to) fault = refl
refused_took sent (Buckets from to) fault = refl
refused_took sent (Deliver number) fault = refl
refused_took sent (Old n) fault = refl
refused_took sent (Look n view query) fault = refl
refused_took sent (Get n view selection accepts) fault = refl

by_taking : (op : Op) (r : Result Taken WorldFault)
    → if_took (told_of_taking op r).seen (op ∷ []) ≡ these (told_of_taking op r).brings
by_taking op (Ok taken) = refl
by_taking op (Err fault) = refl

by_stamping : (sent : List Message) (n : ℕ) (target : Target) (tag : ℕ) (value : List ℕ) (stamp : Stamp)
    (r : Result Taken WorldFault)
    → let op = a_correction (record { target = target; tag = tag; value = value; stamp = stamp }) in
    took sent (Correct n target tag value) (told_of_stamping stamp op r).seen ≡ these (told_of_stamping stamp op
    r).brings
by_stamping sent n target tag value stamp (Ok taken) = refl
by_stamping sent n target tag value stamp (Err fault) = refl

by_correcting : (sent : List Message) (version : Version) (n : ℕ) (m : Map) (target : Target) (tag : ℕ)
    (value : List ℕ) (is_bad is_spent : Bool)
    → let made = made_at n m target tag value in
    let tells = told_of_stamping made.stamp (a_correction made) (taken_in version m (a_correction made)) in
    let told = cond is_bad (only (Err BadCorrection)) (cond is_spent (only (Err StampsSpent)) tells) in
    took sent (Correct n target tag value) told.seen ≡ these told.brings
by_correcting sent version n m target tag value true is_spent = refl
by_correcting sent version n m target tag value false true = refl
by_correcting sent version n m target tag value false false =
    let made = made_at n m target tag value in
    by_stamping sent n target tag value made.stamp (taken_in version m (a_correction made))

-- What a message says is brought where it gives an operation.
by_saying : (w : WorldState) (m : Map) (from to : ℕ) (says : Says)
    → let t = told_of_reaction w m from to (reaction (version_between w.aged from to) m says) in
    if_took t.seen (gift_of says) ≡ these t.brings
by_saying w m from to (Have have) = refl
by_saying w m from to (Want want) = refl
by_saying w m from to (Give op) = by_taking op (taken_in (version_at w.aged to) m op)
by_saying w m from to (says_buckets buckets) = refl
by_saying w m from to (Differ places) = refl

by_message : (w : WorldState) (m : Map) (r : Option Message)
    → if_took (told_of_message w m r).seen (gift_in r) ≡ these (told_of_message w m r).brings
by_message w m None = refl
by_message w m (Some one) = by_saying w m one.from one.to one.says

by_opening : (w : WorldState) (from to : ℕ) (says : Says) (r : Option Map)
    → [] ≡ these (on_site NoSite r (λ _. told_of_sending Offered w.sent (message from to says))).brings
by_opening w from to says None = refl
by_opening w from to says (Some m) = refl

by_aging : (n : ℕ) (b : Bool)
    → [] ≡ these (cond b (only (Err OldSite)) (record {
      seen = Ok Aged;
      brings = None;
      sends = [];
      ages = Some
          n;
    })).brings
by_aging n true = refl
by_aging n false = refl

pub told_took : (w : WorldState) (m : Map) (step : Step)
    → took w.sent step (told_at w m step).seen ≡ these (told_at w m step).brings
told_took w m (Take n op) = by_taking op (taken_in (version_at w.aged n) m op)
told_took w m (Correct n target tag value) =
    by_correcting w.sent (version_at w.aged n) n m target tag value (not (is_correction (made_at n m target tag value)))
    (top_counter_of (ops_of m) == LAST_COUNTER)
told_took w m (Offer from to) = by_opening w from to _ (site_at w.sites to)
told_took w m (Buckets from to) = by_opening w from to _ (site_at w.sites to)
told_took w m (Deliver number) = by_message w m (message_at w.sent number)
told_took w m (Old n) = by_aging n (has_begun w.sent n m)
told_took w m (Look n view query) = refl
told_took w m (Get n view selection accepts) = refl

at_site : (w : WorldState) (step : Step) (r : Option Map)
    → took w.sent step (on_site (absent step) r (λ m. told_at w m step)).seen ≡ these (on_site (absent step) r (λ m.
    told_at w m step)).brings
at_site w step None = refused_took w.sent step (absent step)
at_site w step (Some m) = told_took w m step

-- A step that memory refused took nothing.
pub memory_took : (sent : List Message) (step : Step) (answer : Result Seen WorldFault)
    → is_refused_memory answer ≡ true → took sent step answer ≡ []
memory_took sent step (Ok seen) e = absurd (false≢true e)
memory_took sent step (Err fault) e = refused_took sent step fault

by_memory : (b : Bool) (old new : WorldState) (step : Step) (answer : Result Seen WorldFault) (n : ℕ)
    → is_refused_memory answer ≡ b → MatchBool b (new ≡ old) ((answer ≡ seen_by old step) × (new ≡ after old step))
    → site_at new.sites n ≡ option_map (λ m. holding m (cond (site_of old.sent step == n) (took old.sent step answer)
    [])) (site_at old.sites n)
by_memory true old new step answer n is same =
    ap (λ w. site_at w.sites n) same ∙ not_here (site_of old.sent step == n) (site_at old.sites n)
    ∙ ap (λ ops. option_map (λ m. holding m (cond (site_of old.sent step == n) ops [])) (site_at old.sites n))
    (sym (memory_took old.sent step answer is))
by_memory false old new step answer n is (seen, now) =
    let took_it = at_site old step (site_at old.sites (site_of old.sent step)) in
    ap (λ w. site_at w.sites n) now ∙ one_brought old.sites (site_of old.sent step) n (told old step).brings
    ∙ ap (λ ops. option_map (λ m. holding m (cond (site_of old.sent step == n) ops [])) (site_at old.sites n))
    (sym took_it ∙ ap (took old.sent step) (sym seen))

-- After a step each site has what the step took there.
pub step_took : (old new : WorldState) (step : Step) (answer : Result Seen WorldFault) (n : ℕ)
    → Happens old step answer new
    → site_at new.sites n ≡ option_map (λ m. holding m (cond (site_of old.sent step == n) (took old.sent step answer)
    [])) (site_at old.sites n)
step_took old new step answer n happens = by_memory (is_refused_memory answer) old new step answer n refl happens

-- ---- messages stay

-- a list that begins with another
abbrev pub Front : List Message → List Message → Type 0
Front front all = (more : List Message) × (all ≡ front ++ more)

pub front_itself : (sent : List Message) → Front sent sent
front_itself sent = ([], sym (append-nil sent))

pub front_front : (a b c : List Message) → Front a b → Front b c → Front a c
front_front a b c (x, one) (y, two) = (
  x ++ y,
  two ∙ ap (λ (t : List Message). t ++ y) one ∙ append_assoc a x y,
)

pub also_front : (sent more : List Message) → Front sent (sent_also sent more)
also_front sent [] = front_itself sent
also_front sent (one ∷ more) = (one ∷ more, refl)

stays_by : (b : Bool) (old new : WorldState) (step : Step) (answer : Result Seen WorldFault)
    → MatchBool b (new ≡ old) ((answer ≡ seen_by old step) × (new ≡ after old step)) → Front old.sent new.sent
stays_by true old new step answer same = subst (λ w. Front old.sent w.sent) (sym same) (front_itself old.sent)
stays_by false old new step answer did =
    subst (λ w. Front old.sent w.sent) (sym did.1) (also_front old.sent (told old step).sends)

-- A step leaves every message where it is.
pub step_stays : (old new : WorldState) (step : Step) (answer : Result Seen WorldFault) → Happens old step answer new
    → Front old.sent new.sent
step_stays old new step answer happens = stays_by (is_refused_memory answer) old new step answer happens

pub run_stays : (old new : WorldState) (steps : List Step) (answers : List (Result Seen WorldFault))
    → Run old steps answers new → MessagesStay old new
run_stays old new [] [] same = subst (λ w. Front old.sent w.sent) (sym same) (front_itself old.sent)
run_stays old new [] (a ∷ answers) run = absurd run
run_stays old new (s ∷ steps) [] run = absurd run
run_stays old new (s ∷ steps) (a ∷ answers) (mid, first, rest) =
    front_front old.sent mid.sent new.sent (step_stays old mid s a first) (run_stays mid new steps answers rest)

place_stays : (front more : List Message) (i : ℕ) (one : Message) → slice_get front i ≡ Some one
    → slice_get (front ++ more) i ≡ Some one
place_stays [] more i one e = absurd cc
place_stays (x ∷ front) more zero one e = e
place_stays (x ∷ front) more (suc i) one e = place_stays front more i one e

pub message_stays : (front all : List Message) (number : ℕ) (one : Message) → Front front all
    → message_at front number ≡ Some one → message_at all number ≡ Some one
message_stays front all zero one begins e = absurd cc
message_stays front all (suc i) one (more, is) e = ap (λ (t : List Message). slice_get t i) is
    ∙ place_stays front more i one e

neither : (b c : Bool) (xs ys : List Op) → xs ≡ [] → ys ≡ [] → cond b xs [] ≡ cond c ys []
neither true true xs ys e f = e ∙ sym f
neither true false xs ys e f = e
neither false true xs ys e f = sym f
neither false false xs ys e f = refl

pub nothing_took : (answer : Result Seen WorldFault) → if_took answer [] ≡ []
nothing_took (Ok (Took taken)) = refl
nothing_took (Ok (Stamped stamp)) = refl
nothing_took (Ok (Offered number)) = refl
nothing_took (Ok (Wanted number)) = refl
nothing_took (Ok (Gave numbers)) = refl
nothing_took (Ok (Differs number)) = refl
nothing_took (Ok (Has number)) = refl
nothing_took (Ok Aged) = refl
nothing_took (Ok (Rows rows)) = refl
nothing_took (Ok (Sent sendings)) = refl
nothing_took (Err fault) = refl

-- what a delivery took, whichever message is under its number later
by_number : (front all : List Message) (n number : ℕ) (answer : Result Seen WorldFault) (r : Option Message)
    → Front front all → message_at front number ≡ r → (r ≡ None → if_took answer (gift_in (message_at all number)) ≡ [])
    → cond (site_for (message_at all number) == n) (if_took answer (gift_in (message_at all number))) []
    ≡ cond (site_for (message_at front number) == n) (if_took answer (gift_in (message_at front number))) []
by_number front all n number answer (Some one) begins is none =
    ap (λ r. cond (site_for r == n) (if_took answer (gift_in r)) [])
    (message_stays front all number one begins is ∙ sym is)
by_number front all n number answer None begins is none =
    neither (site_for (message_at all number) == n) (site_for (message_at front number) == n) _ _ (none refl)
    (ap (λ r. if_took answer (gift_in r)) is ∙ nothing_took answer)

refused_gave : (answer : Result Seen WorldFault) (ops : List Op) → is_refused_memory answer ≡ true
    → if_took answer ops ≡ []
refused_gave (Ok seen) ops e = absurd (false≢true e)
refused_gave (Err fault) ops e = refl

-- Where there is no such message nothing is taken.
gone : (b : Bool) (old new : WorldState) (number : ℕ) (answer : Result Seen WorldFault) (ops : List Op)
    → is_refused_memory answer ≡ b
    → MatchBool b (new ≡ old) ((answer ≡ seen_by old (Deliver number)) × (new ≡ after old (Deliver number)))
    → message_at old.sent number ≡ None → if_took answer ops ≡ []
gone true old new number answer ops is same none = refused_gave answer ops is
gone false old new number answer ops is did none =
    ap (λ a. if_took a ops) (did.0 ∙ ap
    (λ r. (on_site NoMessage (site_at old.sites (site_for r)) (λ m. told_at old m (Deliver number))).seen) none)

-- So what a step took is known by the messages that were sent later too.
pub took_later : (old new : WorldState) (step : Step) (answer : Result Seen WorldFault) (all : List Message) (n : ℕ)
    → Happens old step answer new → Front old.sent all
    → cond (site_of all step == n) (took all step answer) [] ≡ cond (site_of old.sent step == n) (took old.sent step
    answer) []
took_later old new (Take k op) answer all n happens begins = refl
took_later old new (Correct k target tag value) answer all n happens begins = refl
took_later old new (Offer from to) answer all n happens begins = refl
took_later old new (Buckets from to) answer all n happens begins = refl
took_later old new (Deliver number) answer all n happens begins =
    by_number old.sent all n number answer (message_at old.sent number) begins refl
    (gone (is_refused_memory answer) old new number answer _ refl happens)
took_later old new (Old k) answer all n happens begins = refl
took_later old new (Look k view query) answer all n happens begins = refl
took_later old new (Get k view selection accepts) answer all n happens begins = refl

-- ---- runs

pub holding-append : (m : Map) (xs ys : List Op) → holding m (xs ++ ys) ≡ holding (holding m xs) ys
holding-append m [] ys = refl
holding-append m (x ∷ xs) ys = holding-append (with_op m x) xs ys

mapped_twice : (xs ys : List Op) (r : Option Map)
    → option_map (λ m. holding m ys) (option_map (λ m. holding m xs) r) ≡ option_map (λ m. holding m (xs ++ ys)) r
mapped_twice xs ys None = refl
mapped_twice xs ys (Some m) = ap Some (sym (holding-append m xs ys))

-- After a run each site has what was taken there, by all messages that were sent in it and later.
pub run_took : (old new : WorldState) (steps : List Step) (answers : List (Result Seen WorldFault))
    (all : List Message) → Run old steps answers new → Front new.sent all → (n : ℕ)
    → site_at new.sites n ≡ option_map (λ m. holding m (taken_at all n steps answers)) (site_at old.sites n)
run_took old new [] [] all same begins n = ap (λ w. site_at w.sites n) same ∙ mapped_same _
run_took old new [] (a ∷ answers) all run begins n = absurd run
run_took old new (s ∷ steps) [] all run begins n = absurd run
run_took old new (s ∷ steps) (a ∷ answers) all (mid, first, rest) begins n =
    let since = front_front mid.sent new.sent all (run_stays mid new steps answers rest) begins in
    let from = front_front old.sent mid.sent all (step_stays old mid s a first) since in
    run_took mid new steps answers all rest begins n
    ∙ ap (option_map (λ m. holding m (taken_at all n steps answers))) (step_took old mid s a n first)
    ∙ mapped_twice (cond (site_of old.sent s == n) (took old.sent s a) []) (taken_at all n steps answers) (site_at
    old.sites n)
    ∙ ap (λ (ops : List Op). option_map (λ m. holding m (ops ++ taken_at all n steps answers)) (site_at old.sites n))
    (sym (took_later old mid s a all n first from))
