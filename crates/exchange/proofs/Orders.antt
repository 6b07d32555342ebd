-- In which order a side says its frames.
use Rattle.std.proofs.Common.{inl, inr, ◌≡◌, ℕ, List, [], ◌∷◌, ◌++◌, Option, Some, None, refl, sym}
use Rattle.std.proofs.Common.{ap, subst, ◌∙◌, append-nil}
use Rattle.std.specs.Prelude.{◌⊎◌, ⊤}
use Rattle.operation.specs.declared.op.Op.{Op}
use Rattle.site_state.specs.Site.{Map}
use Rattle.exchange_frames.specs.declared.frame.Frame.{Frame}
use Rattle.exchange_frames.specs.declared.frame.Frame.TheVariants.{Have, Want, Give, End, Buckets, Differ, Hello}
use Rattle.exchange.specs.declared.version.Version.{Version}
use Rattle.exchange.specs.Held.{version_of, offered}
use Rattle.exchange.specs.Parts.{told_in}
use Rattle.exchange.specs.Buckets.{bucket_list}
use Rattle.exchange.specs.declared.role.Role.{Role}
use Rattle.exchange.specs.declared.role.Role.TheVariants.{Caller, Callee, OldCaller}
use Rattle.exchange.specs.declared.side.Side.{Side}
use Rattle.exchange.specs.declared.side.TheConstants.{OWN_VERSION}
use Rattle.exchange.specs.declared.task.Awaited.{Awaited}
use Rattle.exchange.specs.declared.task.Awaited.TheVariants as awaits
use Rattle.exchange.specs.declared.task.Task.{Task}
use Rattle.exchange.specs.declared.task.Task.TheVariants as tasks
use Rattle.exchange.specs.Tasks.{task_for, greeted_by, opened_by, ended_by}
use Rattle.exchange.specs.Course.{gifts_of, next_after_gifts, Does, DoesAll, SetsOut}
use Rattle.exchange.specs.Order.{IsOffer, IsAsking, Then, InOrder, SaysInOrder}
use Rattle.exchange.proofs.Turns.{Fits, fits}

-- ---- what is awaited where a task is done, and by whom

abbrev pub Leads : Role → Awaited → Task → Type 0
Leads role awaited tasks.Refuse = ⊤
Leads role awaited (tasks.Begin version) = (awaited ≡ awaits.Greeting) × (role ≡ Caller)
Leads role awaited (tasks.Meet version) = (awaited ≡ awaits.Greeting) × (role ≡ Callee)
Leads role awaited (tasks.Compare buckets) =
    (awaited ≡ awaits.Buckets) ⊎ ((awaited ≡ awaits.Greeting) × (role ≡ Callee))
Leads role awaited (tasks.Offer places) = awaited ≡ awaits.Differ
Leads role awaited (tasks.Ask have) = awaited ≡ awaits.Have
Leads role awaited (tasks.Give want) = awaited ≡ awaits.Want
Leads role awaited (tasks.Take op) = awaited ≡ awaits.Give
Leads role awaited tasks.Show = (awaited ≡ awaits.Give) × (role ≡ Callee)
Leads role awaited tasks.Rest = (awaited ≡ awaits.Give) × ((role ≡ Caller) ⊎ (role ≡ OldCaller))

greeted_leads : (role : Role) (version : Option Version) → Leads role awaits.Greeting (greeted_by version role)
greeted_leads role None = tt
greeted_leads Caller (Some version) = (refl, refl)
greeted_leads Callee (Some version) = (refl, refl)
greeted_leads OldCaller (Some version) = tt

opened_leads : (role : Role) (buckets : List (List ℕ)) → Leads role awaits.Greeting (opened_by role buckets)
opened_leads Caller buckets = tt
opened_leads Callee buckets = inr (refl, refl)
opened_leads OldCaller buckets = tt

ended_leads : (role : Role) → Leads role awaits.Give (ended_by role)
ended_leads Caller = (refl, inl refl)
ended_leads Callee = (refl, refl)
ended_leads OldCaller = (refl, inr refl)

leads : (awaited : Awaited) (frame : Frame) (role : Role) → Leads role awaited (task_for awaited frame role)
leads awaits.Greeting (Have x) role = tt
leads awaits.Greeting (Want x) role = tt
leads awaits.Greeting (Give x) role = tt
leads awaits.Greeting End role = tt
leads awaits.Greeting (Buckets x) role = opened_leads role x
leads awaits.Greeting (Differ x) role = tt
leads awaits.Greeting (Hello x) role = greeted_leads role (version_of x)
leads awaits.Differ (Have x) role = tt
leads awaits.Differ (Want x) role = tt
leads awaits.Differ (Give x) role = tt
leads awaits.Differ End role = tt
leads awaits.Differ (Buckets x) role = tt
leads awaits.Differ (Differ x) role = refl
leads awaits.Differ (Hello x) role = tt
leads awaits.Want (Have x) role = tt
leads awaits.Want (Want x) role = refl
leads awaits.Want (Give x) role = tt
leads awaits.Want End role = tt
leads awaits.Want (Buckets x) role = tt
leads awaits.Want (Differ x) role = tt
leads awaits.Want (Hello x) role = tt
leads awaits.Buckets (Have x) role = tt
leads awaits.Buckets (Want x) role = tt
leads awaits.Buckets (Give x) role = tt
leads awaits.Buckets End role = tt
leads awaits.Buckets (Buckets x) role = inl refl
leads awaits.Buckets (Differ x) role = tt
leads awaits.Buckets (Hello x) role = tt
leads awaits.Have (Have x) role = refl
leads awaits.Have (Want x) role = tt
leads awaits.Have (Give x) role = tt
leads awaits.Have End role = tt
leads awaits.Have (Buckets x) role = tt
leads awaits.Have (Differ x) role = tt
leads awaits.Have (Hello x) role = tt
leads awaits.Give (Have x) role = tt
leads awaits.Give (Want x) role = tt
leads awaits.Give (Give x) role = refl
leads awaits.Give End role = ended_leads role
leads awaits.Give (Buckets x) role = tt
leads awaits.Give (Differ x) role = tt
leads awaits.Give (Hello x) role = tt
leads awaits.Nothing (Have x) role = tt
leads awaits.Nothing (Want x) role = tt
leads awaits.Nothing (Give x) role = tt
leads awaits.Nothing End role = tt
leads awaits.Nothing (Buckets x) role = tt
leads awaits.Nothing (Differ x) role = tt
leads awaits.Nothing (Hello x) role = tt

-- ---- what is said from where a side is to its end

-- behind WANT, and behind END
AfterAsk : Role → List Frame → Type 0
AfterAsk Caller told = told ≡ []
AfterAsk Callee told = IsOffer told
AfterAsk OldCaller told = told ≡ []

AfterGive : Role → List Frame → Type 0
AfterGive Caller told = IsAsking told
AfterGive Callee told = told ≡ []
AfterGive OldCaller told = IsAsking told

abbrev SaidAsk : Role → List Frame → Type 0
SaidAsk role told =
    (places : List ℕ) × (want : List (List ℕ)) × (rest : List Frame) × (told ≡ Differ places ∷ (Want want ∷ rest))
    × AfterAsk role rest

abbrev SaidOffer : Role → List Frame → Type 0
SaidOffer role told =
    (have : List (List ℕ)) × (ops : List Op) × (rest : List Frame) × (told ≡ Have have ∷ (gifts_of ops ++ rest))
    × AfterGive role rest

abbrev Opens : Role → List Frame → List Frame → Type 0
Opens Caller heard told =
    (buckets : List (List ℕ)) × (rest : List Frame) × (told ≡ Buckets buckets ∷ rest) × SaidOffer Caller rest
Opens Callee heard told =
    ((number : ℕ) × (more : List Frame) × (rest : List Frame) × (heard ≡ Hello number ∷ more)
    × (told ≡ Hello OWN_VERSION ∷ rest) × SaidAsk Callee rest)
    ⊎ ((buckets : List (List ℕ)) × (more : List Frame) × (heard ≡ Buckets buckets ∷ more) × SaidAsk Callee told)
Opens OldCaller heard told = ⊤

abbrev Says : Role → Awaited → List Frame → List Frame → Type 0
Says role awaits.Greeting heard told = Opens role heard told
Says role awaits.Differ heard told = SaidOffer role told
Says role awaits.Want heard told =
    (ops : List Op) × (rest : List Frame) × (told ≡ gifts_of ops ++ rest) × AfterGive role rest
Says role awaits.Buckets heard told = SaidAsk role told
Says role awaits.Have heard told =
    (want : List (List ℕ)) × (rest : List Frame) × (told ≡ Want want ∷ rest) × AfterAsk role rest
Says role awaits.Give heard told = AfterAsk role told
Says role awaits.Nothing heard told = told ≡ []

after_gifts : (role : Role) (heard rest : List Frame) → Says role (next_after_gifts role) heard rest
    → AfterGive role rest
unfolding AfterAsk AfterGive
after_gifts Caller heard rest (places, want, more, is, none) =
    (places, want, is ∙ ap (λ (l : List Frame). Differ places ∷ (Want want ∷ l)) none)
after_gifts Callee heard rest none = none
after_gifts OldCaller heard rest (places, want, more, is, none) =
    (places, want, is ∙ ap (λ (l : List Frame). Differ places ∷ (Want want ∷ l)) none)

rested : (role : Role) → (role ≡ Caller) ⊎ (role ≡ OldCaller) → (told : List Frame) → told ≡ [] → AfterAsk role told
unfolding AfterAsk
rested role (inl is) told none = subst (λ (r : Role). AfterAsk r told) (sym is) none
rested role (inr is) told none = subst (λ (r : Role). AfterAsk r told) (sym is) none

-- the callee's offer, behind END
shown : (buckets : List (List ℕ)) (told rest : List Frame) → told ≡ Buckets buckets ∷ rest → SaidOffer Callee rest
    → AfterAsk Callee told
unfolding AfterAsk AfterGive
shown buckets told rest is (have, ops, more, said, none) = (
  buckets,
  have,
  ops,
  is ∙ ap (λ (l : List Frame). Buckets buckets ∷ l) said
      ∙ ap (λ (l : List Frame). Buckets buckets ∷ (Have have ∷ (gifts_of ops ++ l))) none
      ∙ ap (λ (l : List Frame). Buckets buckets ∷ (Have have ∷ l)) (append-nil (gifts_of ops)),
)

module _ {H : Type 0} (holds : H → Map) (alone : H → Type 0) (s : Side) (h : H) (frame : Frame) (heard : List Frame)
    (first rest told : List Frame) (mid : Side) (k : H) (whole : told ≡ first ++ rest)
    (later : Says mid.role mid.awaited heard rest) where
  -- what is said first, with what is said later
  begun : (x : Frame) → first ≡ x ∷ [] → told ≡ x ∷ rest
  begun x is = whole ∙ ap (λ (l : List Frame). l ++ rest) is

  at : (awaited : Awaited) → s.awaited ≡ awaited → Says s.role awaited (frame ∷ heard) told
      → Says s.role s.awaited (frame ∷ heard) told
  at awaited is = subst (λ (a : Awaited). Says s.role a (frame ∷ heard) told) (sym is)

  by : (role : Role) → s.role ≡ role → Says role awaits.Greeting (frame ∷ heard) told
      → Says s.role awaits.Greeting (frame ∷ heard) told
  by role is = subst (λ (r : Role). Says r awaits.Greeting (frame ∷ heard) told) (sym is)

  next : (task : Task) → Leads s.role s.awaited task → Fits s.role s.awaited task frame
      → Does holds alone task s h first mid k → Says s.role s.awaited (frame ∷ heard) told
  next tasks.Refuse lead fit does = absurd does
  next (tasks.Begin version) lead fit does =
      let then = subst (λ (x : Side). Says x.role x.awaited heard rest) does.0 later in
      at awaits.Greeting lead.0 (by Caller lead.1 (
        bucket_list (offered version does.1.had),
        rest,
        begun _ does.1.answers,
        subst (λ (r : Role). SaidOffer r rest) lead.1 then,
      ))
  next (tasks.Meet version) lead fit does =
      let then = subst (λ (x : Side). Says x.role x.awaited heard rest) does.0 later in
      at awaits.Greeting lead.0 (by Callee lead.1 (inl (
        fit.0,
        heard,
        rest,
        ap (λ (f : Frame). f ∷ heard) fit.1,
        begun _ does.1,
        subst (λ (r : Role). SaidAsk r rest) lead.1 then,
      )))
  next (tasks.Compare buckets) lead fit does = asked lead
    where
      then : Says s.role awaits.Have heard rest
      then = subst (λ (x : Side). Says x.role x.awaited heard rest) does.same later

      asks : SaidAsk s.role told
      asks = (
        does.places,
        then.0,
        then.1,
        begun _ does.says ∙ ap (λ (l : List Frame). Differ does.places ∷ l) then.2,
        then.3,
      )

      asked : (s.awaited ≡ awaits.Buckets) ⊎ ((s.awaited ≡ awaits.Greeting) × (s.role ≡ Callee))
          → Says s.role s.awaited (frame ∷ heard) told
      asked (inl is) = at awaits.Buckets is asks
      asked (inr is) = at awaits.Greeting is.0 (by Callee is.1 (inr (
        buckets,
        heard,
        ap (λ (f : Frame). f ∷ heard) fit.0,
        subst (λ (r : Role). SaidAsk r told) is.1 asks,
      )))
  next (tasks.Offer places) lead fit does =
      let then = subst (λ (x : Side). Says x.role x.awaited heard rest) does.0 later in
      let have = told_in s.round.version places does.1.had in
      at awaits.Differ lead (
        have,
        then.0,
        then.1,
        begun _ does.1.answers.0 ∙ ap (λ (l : List Frame). Have have ∷ l) then.2,
        then.3,
      )
  next (tasks.Ask have) lead fit does =
      let then = subst (λ (x : Side). Says x.role x.awaited heard rest) does.same later in
      at awaits.Have lead (does.want, rest, begun _ does.says, then)
  next (tasks.Give want) lead fit does =
      let then = subst (λ (x : Side). Says x.role x.awaited heard rest) does.same later in
      at awaits.Want lead (
        does.ops,
        rest,
        whole ∙ ap (λ (l : List Frame). l ++ rest) does.says,
        after_gifts s.role heard rest then,
      )
  next (tasks.Take op) lead fit does =
      let then = subst (λ (x : Side). Says x.role x.awaited heard rest) does.same later in
      let here = subst (λ (a : Awaited). Says s.role a heard rest) lead then in
      at awaits.Give lead (subst (λ (l : List Frame). AfterAsk s.role l)
      (sym (whole ∙ ap (λ (l : List Frame). l ++ rest) does.says)) here)
  next tasks.Show lead fit does =
      let then = subst (λ (x : Side). Says x.role x.awaited heard rest) does.0 later in
      at awaits.Give lead.0 (subst (λ (r : Role). AfterAsk r told) (sym lead.1)
      (shown _ told rest (begun _ does.1.answers) (subst (λ (r : Role). SaidOffer r rest) lead.1 then)))
  next tasks.Rest lead fit does =
      let then = subst (λ (x : Side). Says x.role x.awaited heard rest) does.0 later in
      at awaits.Give lead.0 (rested s.role lead.1 told
      (whole ∙ ap (λ (l : List Frame). l ++ rest) does.1 ∙ then))

says_all : {H : Type 0} (holds : H → Map) (alone : H → Type 0) (s : Side) (h : H) (heard told : List Frame) (t : Side)
    (k : H) → DoesAll holds alone s h heard told t k → t.awaited ≡ awaits.Nothing → Says s.role s.awaited heard told
says_all holds alone s h [] told t k d over =
    subst (λ (a : Awaited). Says s.role a [] told) (sym over ∙ ap (λ (x : Side). x.awaited) d.1) d.0
says_all holds alone s h (f ∷ heard) told t k d over =
    next holds alone s h f heard d.0 d.1 told d.2 d.3 d.6 (says_all holds alone d.2 d.3 heard d.1 t k d.5 over)
    (task_for s.awaited f s.role) (leads s.awaited f s.role) (fits s.awaited f s.role) d.4

-- ---- the whole order

offer_asking : (buckets : List (List ℕ)) (told rest : List Frame) → told ≡ Buckets buckets ∷ rest
    → (have : List (List ℕ)) (ops : List Op) (more : List Frame) → rest ≡ Have have ∷ (gifts_of ops ++ more)
    → IsAsking more → Then IsOffer IsAsking told
offer_asking buckets told rest is have ops more said asks = (
  Buckets buckets ∷ (Have have ∷ gifts_of ops),
  more,
  (buckets, have, ops, refl),
  asks,
  is ∙ ap (λ (l : List Frame). Buckets buckets ∷ l) said,
)

asking_offer : (told : List Frame) → SaidAsk Callee told → Then IsAsking IsOffer told
unfolding AfterAsk
asking_offer told (places, want, rest, is, offers) =
    (Differ places ∷ (Want want ∷ []), rest, (places, want, refl), offers, is)

in_order : {H : Type 0} (holds : H → Map) (alone : H → Type 0) (role : Role) (before mid : H)
    (heard first rest told : List Frame) (from : Side) → SetsOut holds alone role before first from mid
    → Says from.role from.awaited heard rest → told ≡ first ++ rest → InOrder role heard told
unfolding AfterGive
in_order holds alone Caller before mid heard first rest told from out says whole =
    let opens = subst (λ (x : Side). Says x.role x.awaited heard rest) out.0 says in (
      Hello OWN_VERSION ∷ [],
      rest,
      refl,
      offer_asking opens.0 rest opens.1 opens.2 opens.3.0 opens.3.1 opens.3.2 opens.3.3 opens.3.4,
      whole ∙ ap (λ (l : List Frame). l ++ rest) out.1,
    )
in_order holds alone Callee before mid heard first rest told from out says whole =
    order (subst (λ (x : Side). Says x.role x.awaited heard rest) out.0 says)
  where
    all : told ≡ rest
    all = whole ∙ ap (λ (l : List Frame). l ++ rest) out.1

    order : Opens Callee heard rest → InOrder Callee heard told
    order (inl (number, more, behind, heard_is, said, asks)) = inl (
      number,
      (more, heard_is),
      (Hello OWN_VERSION ∷ [], behind, refl, asking_offer behind asks, all ∙ said),
    )
    order (inr (buckets, more, heard_is, asks)) = inr (
      buckets,
      (more, heard_is),
      asking_offer told (subst (λ (l : List Frame). SaidAsk Callee l) (sym all) asks),
    )
in_order holds alone OldCaller before mid heard first rest told from out says whole =
    let offers = subst (λ (x : Side). Says x.role x.awaited heard rest) out.0 says in
    offer_asking _ told rest (whole ∙ ap (λ (l : List Frame). l ++ rest) out.1.answers)
    offers.0 offers.1 offers.2 offers.3 offers.4

pub says_in_order : {H : Type 0} (holds : H → Map) (alone : H → Type 0) → SaysInOrder holds alone
says_in_order holds alone role before after heard told side talk over =
    in_order holds alone role before talk.mid heard talk.first talk.rest told talk.from talk.sets_out
    (says_all holds alone talk.from talk.mid heard talk.rest side after talk.goes_on over) talk.told_is
