-- What a message gives is held by the site that it is from, and old sites hold nothing that they do not know.
use Rattle.std.proofs.Common.{◌≡◌, ℕ, List, [], ◌∷◌, ◌++◌, Option, Some, None, Ok, Err, Result, Bool}
use Rattle.std.proofs.Common.{true, false, cond, refl, sym, ap, subst, ◌∙◌, inl, inr, ◌⊎◌}
use Rattle.std.specs.Prelude.{MatchBool, replicate}
use Rattle.std.specs.FinMap.{empty}
use Rattle.octets.specs.Members.{Has}
use Rattle.archive_model.proofs.MemberLaws.{filter_map_has, map_has}
use Rattle.operation.specs.declared.op.Op.{Op}
use Rattle.operation.specs.Spelling.{digest_of}
use Rattle.site_state.specs.Site.{Map, IsSite, held_at}
use Rattle.site_state.proofs.Ascending.{taken_is_site}
use Rattle.exchange.specs.declared.version.Version.{Version}
use Rattle.exchange.specs.Held.{is_spoken, if_spoken, given}
use Rattle.exchange.proofs.Rounds.{own_digest}
use Rattle.site_world.specs.declared.fault.WorldFault.{WorldFault}
use Rattle.site_world.specs.declared.fault.WorldFault.TheVariants.{NoSite, OldSite}
use Rattle.site_world.specs.declared.step.Step.{Step}
use Rattle.site_world.specs.declared.step.Step.TheVariants.{Take, Correct, Offer, Buckets, Deliver, Old, Look, Get}
use Rattle.site_world.specs.declared.step.Seen.{Seen}
use Rattle.site_world.specs.declared.step.Seen.TheVariants.{Offered, Aged}
use Rattle.site_world.specs.declared.message.Message.{Message}
use Rattle.site_world.specs.declared.message.Says.{Says}
use Rattle.site_world.specs.declared.message.Says.TheVariants.{Have, Want, Give, Buckets as says_buckets, Differ}
use Rattle.site_world.specs.Messages.{WorldState, new_world, message_at, site_for, version_at, version_between}
use Rattle.site_world.specs.Messages.{message, gives, reaction, has_begun}
use Rattle.site_world.specs.Steps.{only, is_refused_memory, site_at, site_of, told, told_at, on_site, absent, seen_by}
use Rattle.site_world.specs.Steps.{sent_also, after, Happens, taken_in, made_at, told_of_message, told_of_reaction}
use Rattle.site_world.specs.Steps.{told_of_sending}
use Rattle.site_world.specs.Runs.{Run, taken_at}
use Rattle.site_world.proofs.Taken.{front_itself}
use Rattle.site_world.proofs.Worlds.{plain_taking, plain_correcting, run_more}
use Rattle.site_world.proofs.Alike.{by_site, new_holds}
use Rattle.site_world.proofs.Rounds.{Later, step_later}

-- ---- worlds that a run of a new world comes to

pub record Reached (w : WorldState) : Type 0 where
  pub count : ℕ
  pub steps : List Step
  pub answers : List (Result Seen WorldFault)
  pub run : Run (new_world (replicate count empty)) steps answers w

-- Each operation lies under its own digest there.
pub own_sites : (w : WorldState) → Reached w → (n : ℕ) (m : Map) → site_at w.sites n ≡ Some m → IsSite m
own_sites w r n m at =
    subst IsSite (sym (by_site (new_world (replicate r.count empty)) w r.steps r.answers w.sent n m _ (new_holds r.count
    n) refl r.run (front_itself w.sent) at).0) (taken_is_site (taken_at w.sent n r.steps r.answers))

pub reached_more : (w v : WorldState) (step : Step) (answer : Result Seen WorldFault) → Reached w → Happens w step
    answer v → Reached v
reached_more w v step answer r happens = record {
  count = r.count;
  steps = r.steps ++ (step ∷ []);
  answers = r.answers ++ (answer ∷ []);
  run = run_more (new_world (replicate r.count empty)) r.steps r.answers w v step answer r.run happens;
}

-- ---- gifts

-- an operation is held at a site
abbrev pub HoldsIt : WorldState → ℕ → Op → Type 0
HoldsIt w n op = (k : Map) × (site_at w.sites n ≡ Some k) × (held_at k (digest_of op) ≡ Some op)

-- of these messages each that gives an operation is from a site that holds it
abbrev pub AreHeld : WorldState → List Message → Type 0
AreHeld w sent = (a b : ℕ) (op : Op) → Has sent (message a b (Give op)) → HoldsIt w a op

spoken_some : (version : Version) (r : Option Op) (op : Op) → if_spoken version r ≡ Some op → r ≡ Some op
spoken_some version None op e = absurd cc
spoken_some version (Some o) op e = by (is_spoken version o) e
  where
    by : (b : Bool) → cond b (Some o) None ≡ Some op → Some o ≡ Some op
    by true e = e
    by false e = absurd cc

-- what two messages say that are one
saying : (a b x y : ℕ) (says other : Says) → message a b says ≡ message x y other → says ≡ other
saying a b x y says other e = ap (λ (m : Message). m.says) e

one_gift : (o op : Op) → Give op ≡ Give o → op ≡ o
one_gift o op e = cc

gift_is : (x y a b : ℕ) (o op : Op) → message a b (Give op) ≡ message x y (Give o) → (a ≡ x) × (op ≡ o)
gift_is x y a b o op e = (ap (λ (m : Message). m.from) e, one_gift o op (saying a b x y (Give op) (Give o) e))

nothing_sent : (w : WorldState) (sends : List Message) → sends ≡ [] → AreHeld w sends
nothing_sent w sends none a b op has = absurd (subst (λ (t : List Message). Has t (message a b (Give op))) none has)

-- A WANT is answered by what is held.
given_held : (w : WorldState) (m : Map) (version : Version) (want : List (List ℕ)) (x y : ℕ) → IsSite m
    → site_at w.sites x ≡ Some m → AreHeld w (gives x y (given version want m))
given_held w m version want x y own at a b op has =
    let sent = map_has (λ o. message x y (Give o)) (given version want m) (message a b (Give op)) has in
    let is = gift_is x y a b sent.0 op sent.2 in
    let made = filter_map_has (λ d. if_spoken version (held_at m d)) want op
    (subst (Has (given version want m)) (sym is.1) sent.1) in
    let there = spoken_some version (held_at m made.0) op made.2 in (
      m,
      ap (site_at w.sites) is.0 ∙ at,
      ap (held_at m) (sym (own_digest m own made.0 op there)) ∙ there,
    )

saying_held : (w : WorldState) (m : Map) (from to : ℕ) (says : Says) → IsSite m → site_at w.sites to ≡ Some m
    → AreHeld w (told_of_reaction w m from to (reaction (version_between w.aged from to) m says)).sends
saying_held w m from to (Have have) own at a b op (inl e) = absurd (let f = saying a b _ _ (Give op) _ e in cc)
saying_held w m from to (Have have) own at a b op (inr has) = absurd has
saying_held w m from to (Want want) own at a b op has = given_held w m _ want to from own at a b op has
saying_held w m from to (Give o) own at a b op has =
    nothing_sent w _ (plain_taking o (taken_in (version_at w.aged to) m o)).0 a b op has
saying_held w m from to (says_buckets buckets) own at a b op (inl e) =
    absurd (let f = saying a b _ _ (Give op) _ e in cc)
saying_held w m from to (says_buckets buckets) own at a b op (inr has) = absurd has
saying_held w m from to (Differ places) own at a b op (inl e) = absurd (let f = saying a b _ _ (Give op) _ e in cc)
saying_held w m from to (Differ places) own at a b op (inr has) = absurd has

offer_held : (w : WorldState) (from to : ℕ) (have : List (List ℕ)) (r : Option Map)
    → AreHeld w (on_site NoSite r (λ _. told_of_sending Offered w.sent (message from to (Have have)))).sends
offer_held w from to have None a b op has = absurd has
offer_held w from to have (Some x) a b op (inl e) = absurd (let f = saying a b _ _ (Give op) _ e in cc)
offer_held w from to have (Some x) a b op (inr has) = absurd has

-- an opening with its buckets
abbrev pub with_buckets : ℕ → ℕ → List (List ℕ) → Message
with_buckets from to buckets = message from to (says_buckets buckets)

buckets_held : (w : WorldState) (from to : ℕ) (buckets : List (List ℕ)) (r : Option Map)
    → AreHeld w (on_site NoSite r (λ _. told_of_sending Offered w.sent (with_buckets from to buckets))).sends
buckets_held w from to buckets None a b op has = absurd has
buckets_held w from to buckets (Some x) a b op (inl e) = absurd (let f = saying a b _ _ (Give op) _ e in cc)
buckets_held w from to buckets (Some x) a b op (inr has) = absurd has

aging_held : (w : WorldState) (n : ℕ) (b : Bool) → AreHeld w (cond b (only (Err OldSite)) (record {
  seen = Ok Aged;
  brings = None;
  sends = [];
  ages = Some n;
})).sends
aging_held w n true a b op has = absurd has
aging_held w n false a b op has = absurd has

at_held : (w : WorldState) (m : Map) (step : Step) → IsSite m → site_at w.sites (site_of w.sent step) ≡ Some m
    → AreHeld w (told_at w m step).sends
at_held w m (Take n op) own at = nothing_sent w _ (plain_taking op (taken_in (version_at w.aged n) m op)).0
at_held w m (Correct n target tag value) own at =
    nothing_sent w _ (plain_correcting (version_at w.aged n) m (made_at n m target tag value)).0
at_held w m (Offer from to) own at = offer_held w from to _ (site_at w.sites to)
at_held w m (Buckets from to) own at = buckets_held w from to _ (site_at w.sites to)
at_held w m (Deliver number) own at = by (message_at w.sent number) refl
  where
    by : (r : Option Message) → message_at w.sent number ≡ r → AreHeld w (told_of_message w m r).sends
    by None is = nothing_sent w [] refl
    by (Some one) is =
        saying_held w m one.from one.to one.says own (ap (site_at w.sites) (sym (ap site_for is)) ∙ at)
at_held w m (Old n) own at = aging_held w n (has_begun w.sent n m)
at_held w m (Look n view query) own at = nothing_sent w [] refl
at_held w m (Get n view selection accepts) own at = nothing_sent w [] refl

told_held : (w : WorldState) (step : Step) → Reached w → AreHeld w (told w step).sends
told_held w step reached = by (site_at w.sites (site_of w.sent step)) refl
  where
    by : (r : Option Map) → site_at w.sites (site_of w.sent step) ≡ r
        → AreHeld w (on_site (absent step) r (λ m. told_at w m step)).sends
    by None at = nothing_sent w [] refl
    by (Some m) at = at_held w m step (own_sites w reached _ m at) at

either_has : (xs ys : List Message) (x : Message) → Has (xs ++ ys) x → Has xs x ⊎ Has ys x
either_has [] ys x has = inr has
either_has (y ∷ xs) ys x (inl e) = inl (inl e)
either_has (y ∷ xs) ys x (inr has) = elim (either_has xs ys x has) [ inl h ↦ inl (inr h) | inr h ↦ inr h ]

also_has : (sent more : List Message) (x : Message) → Has (sent_also sent more) x → Has sent x ⊎ Has more x
also_has sent [] x has = inl has
also_has sent (one ∷ more) x has = either_has sent (one ∷ more) x has

-- What a site held it holds later.
pub held_later : (w v : WorldState) (n : ℕ) (op : Op) → Later w v → HoldsIt w n op → HoldsIt v n op
held_later w v n op later (k, at, there) =
    let grown = later.grown n k at in
    (grown.0, grown.1, grown.2 (digest_of op) op there)

after_held : (w : WorldState) (step : Step) → Reached w → AreHeld w w.sent → AreHeld w (after w step).sent
after_held w step reached held a b op has =
    elim (also_has w.sent (told w step).sends (message a b (Give op)) has) [
      | inl h ↦ held a b op h
      | inr h ↦ told_held w step reached a b op h
    ]

held_by : (c : Bool) (w v : WorldState) (step : Step) (answer : Result Seen WorldFault) → Reached w → AreHeld w w.sent
    → MatchBool c (v ≡ w) ((answer ≡ seen_by w step) × (v ≡ after w step)) → AreHeld w v.sent
held_by true w v step answer reached held same = subst (λ (x : WorldState). AreHeld w x.sent) (sym same) held
held_by false w v step answer reached held did =
    subst (λ (x : WorldState). AreHeld w x.sent) (sym did.1) (after_held w step reached held)

-- a world that a run of a new world comes to, in which each site that gives holds what it gives
pub record Honest (w : WorldState) : Type 0 where
  pub reached : Reached w
  pub held : AreHeld w w.sent

pub step_honest : (w v : WorldState) (step : Step) (answer : Result Seen WorldFault) → Honest w
    → Happens w step answer v → Honest v
step_honest w v step answer honest happens = record {
  reached = reached_more w v step answer honest.reached happens;
  held = λ a b op has. held_later w v a op (step_later w v step answer happens)
      (held_by (is_refused_memory answer) w v step answer honest.reached honest.held happens a b op has);
}

pub run_honest : (w v : WorldState) (steps : List Step) (answers : List (Result Seen WorldFault)) → Honest w
    → Run w steps answers v → Honest v
run_honest w v [] [] honest same = subst Honest (sym same) honest
run_honest w v [] (a ∷ answers) honest run = absurd run
run_honest w v (s ∷ steps) [] honest run = absurd run
run_honest w v (s ∷ steps) (a ∷ answers) honest (mid, first, rest) =
    run_honest mid v steps answers (step_honest w mid s a honest first) rest

pub new_honest : (count : ℕ) → Honest (new_world (replicate count empty))
new_honest count = record {
  reached = record { count = count; steps = []; answers = []; run = refl };
  held = λ a b op has. absurd has;
}
