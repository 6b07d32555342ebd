-- What a body says is what it has, and the other way round.
use Rattle.std.proofs.Common.{◌≡◌, ◌≢◌, ℕ, ◌≤◌, Bool, false, cond, ltb, eqb, List, [], ◌∷◌, ◌++◌, length, take, drop}
use Rattle.std.proofs.Common.{length-append, length-drop, None, Result, Ok, Err, refl, sym, ap, subst, ◌∙◌, arith, ◌⊎◌}
use Rattle.std.proofs.Common.{inl, inr}
use Rattle.std.specs.Prelude.{map}
use Rattle.std.specs.Int.{w16, from_be_bytes}
use Rattle.std.proofs.lemmas.Bool.{cases_lt, ltb-false, le-ltb}
use Rattle.std.proofs.lemmas.List.{take_at, drop_at, take-append-drop, length-take, drop-drop}
use Rattle.octets.specs.Gives.{◌>>=◌}
use Rattle.octets.proofs.ByteLaws.{bind_ok, guard_ok, guard_end, ok_is}
use Rattle.pdu.specs.declared.header.TheConstants.{OPENING_LENGTH}
use Rattle.pdu.specs.declared.item.TheConstants.{APPLICATION_CONTEXT, PROPOSED_CONTEXT, ANSWERED_CONTEXT}
use Rattle.pdu.specs.declared.item.TheConstants.{USER_INFORMATION}
use Rattle.pdu.specs.declared.fault.PduFault.{PduFault}
use Rattle.pdu.specs.declared.fault.PduFault.TheVariants.{BadItem}
use Rattle.pdu.specs.declared.user.UserInformation.{UserInformation}
use Rattle.pdu.specs.declared.context.ProposedContext.{ProposedContext}
use Rattle.pdu.specs.declared.context.AnsweredContext.{AnsweredContext}
use Rattle.pdu.specs.declared.opening.Opening.{Opening}
use Rattle.pdu.specs.declared.request.Request.{Request}
use Rattle.pdu.specs.declared.accept.Accept.{Accept}
use Rattle.pdu.specs.declared.reject.Reject.{Reject}
use Rattle.pdu.specs.declared.pdv.Pdv.{Pdv}
use Rattle.pdu.specs.declared.value.Pdu.{Pdu}
use Rattle.pdu.specs.declared.value.Pdu.TheVariants.{AssociateRq, AssociateAc, AssociateRj, PData, ReleaseRq, ReleaseRp}
use Rattle.pdu.specs.declared.value.Pdu.TheVariants.{Abort}
use Rattle.pdu.specs.Header.{header_fault}
use Rattle.pdu.specs.Grammar.{contents_of, IsUid, IsUser, IsProposal, IsAnswer, are_distinct, BeginsOpening, IsRequest}
use Rattle.pdu.specs.Grammar.{IsAccept, BeginsPdv, IsBody, code_of}
use Rattle.pdu.specs.Reading.{pieces_of, item_at, pdv_at, each_at, sole_at, uid_at, user_at, proposal_at, answer_at}
use Rattle.pdu.specs.Reading.{opening_at, request_in, request_at, accept_in, accept_at, data_at, reject_at, abort_at}
use Rattle.pdu.specs.Reading.{body_at}
use Rattle.pdu.proofs.Pieces.{FoundIn, AgainIn, pieces-found, pieces-again, each-found, each-again, sole-found}
use Rattle.pdu.proofs.Pieces.{sole-again}
use Rattle.pdu.proofs.Items.{item-found, item-again, item-shorter, pdv-found, pdv-again, pdv-shorter}
use Rattle.pdu.proofs.Values.{uid-found, uid-again, user-found, user-again, proposal-found, proposal-again}
use Rattle.pdu.proofs.Values.{answer-found, answer-again}

-- ---- openings

abbrev opening : ℕ → List ℕ → List ℕ → List ℕ → Opening
opening version called calling reserved = record {
  version = version;
  called = called;
  calling = calling;
  reserved =
      reserved;
}

twice : (xs : List ℕ) → drop 16 (drop 16 xs) ≡ drop 32 xs
twice xs = drop-drop 16 16 xs

thrice : (xs : List ℕ) → drop 32 (drop 32 xs) ≡ drop 64 xs
thrice xs = drop-drop 32 32 xs

four_parts : (xs : List ℕ) → xs ≡ take 16 xs ++ (take 16 (drop 16 xs) ++ (take 32 (drop 32 xs) ++ drop 64 xs))
four_parts xs =
    sym (take-append-drop 16 xs) ∙ ap (λ (t : List ℕ). take 16 xs ++ t) (
    sym (take-append-drop 16 (drop 16 xs)) ∙ ap (λ (t : List ℕ). take 16 (drop 16 xs) ++ t) (
    twice xs ∙ sym (take-append-drop 32 (drop 32 xs)) ∙ ap (λ (t : List ℕ). take 32 (drop 32 xs) ++ t) (thrice xs)))

pub opening-found : (text : List ℕ) (o : Opening) → opening_at text ≡ Ok o
    → BeginsOpening o text (drop OPENING_LENGTH text)
unfolding opening_at
opening-found (v ∷ w ∷ r ∷ s ∷ rest) o e =
    let made = opening (from_be_bytes w16 (v ∷ w ∷ [])) (take 16 rest) (take 16 (drop 16 rest)) (take 32 (drop 32 rest))
    in
    let g = guard_ok (ltb (length rest) 64) BadItem made o e in
    let long : 64 ≤ length rest = ltb-false _ _ g.0 in
    subst (λ x. BeginsOpening x (v ∷ w ∷ r ∷ s ∷ rest) (drop 64 rest)) g.1 (record {
      high = v;
      low = w;
      a = r;
      b = s;
      version = refl;
      called = omega (arith, long, length-take 16 rest);
      calling = omega (arith, long, length-take 16 (drop 16 rest), length-drop 16 rest);
      reserved = omega (arith, long, length-take 32 (drop 32 rest), length-drop 32 rest);
      parts = ap (λ (t : List ℕ). v ∷ w ∷ r ∷ s ∷ t) (four_parts rest);
    })
opening-found _ o e = absurd cc

read_opening : (version high low a b : ℕ) (p q s rest : List ℕ) → from_be_bytes w16 (high ∷ low ∷ []) ≡ version
    → length p ≡ 16 → length q ≡ 16 → length s ≡ 32
    → (opening_at (high ∷ low ∷ a ∷ b ∷ (p ++ (q ++ (s ++ rest)))) ≡ Ok (opening version p q s))
    × (drop 64 (p ++ (q ++ (s ++ rest))) ≡ rest)
unfolding opening_at
read_opening version high low a b p q s rest is lp lq ls =
    let all = p ++ (q ++ (s ++ rest)) in
    let long : ltb (length all) 64 ≡ false =
    le-ltb _ _ (omega (
      arith,
      lp,
      lq,
      ls,
      length-append p (q ++ (s ++ rest)),
      length-append q (s ++ rest),
      length-append s rest,
    )) in
    let one : drop 16 all ≡ q ++ (s ++ rest) = drop_at p (q ++ (s ++ rest)) 16 lp in
    let two : drop 32 all ≡ s ++ rest = sym (twice all) ∙ ap (drop 16) one ∙ drop_at q (s ++ rest) 16 lq in
    let three : drop 64 all ≡ rest = sym (thrice all) ∙ ap (drop 32) two ∙ drop_at s rest 32 ls in
    let first : take 16 all ≡ p = take_at p (q ++ (s ++ rest)) 16 lp in
    let second : take 16 (drop 16 all) ≡ q = ap (take 16) one ∙ take_at q (s ++ rest) 16 lq in
    let third : take 32 (drop 32 all) ≡ s = ap (take 32) two ∙ take_at s rest 32 ls in (
      ap (λ (t : Bool). cond t (Err BadItem) (Ok (opening (from_be_bytes w16 (high ∷ low ∷ [])) (take 16 all)
          (take 16 (drop 16 all)) (take 32 (drop 32 all))))) long
          ∙ ap (λ (n : ℕ). Ok (opening n (take 16 all) (take 16 (drop 16 all)) (take 32 (drop 32 all)))) is
          ∙ ap (λ (t : List ℕ). Ok (opening version t (take 16 (drop 16 all)) (take 32 (drop 32 all)))) first
          ∙ ap (λ (t : List ℕ). Ok (opening version p t (take 32 (drop 32 all)))) second
          ∙ ap (λ (t : List ℕ). Ok (opening version p q t)) third,
      three,
    )

pub opening-again : (o : Opening) (text rest : List ℕ) → BeginsOpening o text rest → (opening_at text ≡ Ok o)
    × (drop OPENING_LENGTH text ≡ rest)
opening-again o text rest h =
    let r = read_opening o.version h.high h.low h.a h.b o.called o.calling o.reserved rest h.version h.called h.calling
    h.reserved in
    (ap opening_at h.parts ∙ r.0, ap (drop OPENING_LENGTH) h.parts ∙ r.1)

-- ---- requests

abbrev request : Opening → List ℕ → List ProposedContext → UserInformation → Request
request o context contexts user = record {
  opening = o;
  application_context = context;
  contexts = contexts;
  user =
      user;
}

abbrev request_ids : List ProposedContext → Bool
request_ids contexts = are_distinct (map (λ c. c.id) contexts)

pub request-found : FoundIn request_at IsRequest
unfolding request_at request_in
request-found body v e =
    let o = bind_ok (opening_at body) (λ o. pieces_of item_at (drop OPENING_LENGTH body) >>= λ items. request_in o
    items) v e in
    let i = bind_ok (pieces_of item_at (drop OPENING_LENGTH body)) (λ items. request_in o.0 items) v o.2 in
    let a = bind_ok (sole_at uid_at (contents_of APPLICATION_CONTEXT i.0))
    (λ context. each_at proposal_at (contents_of PROPOSED_CONTEXT i.0) >>= λ contexts. sole_at
    user_at (contents_of USER_INFORMATION i.0) >>= λ user. cond (request_ids contexts)
    (Ok (request o.0 context contexts user)) (Err BadItem)) v i.2 in
    let c = bind_ok (each_at proposal_at (contents_of PROPOSED_CONTEXT i.0))
    (λ contexts. sole_at user_at (contents_of USER_INFORMATION i.0) >>= λ user. cond (request_ids contexts)
    (Ok (request o.0 a.0 contexts user)) (Err BadItem)) v a.2 in
    let u = bind_ok (sole_at user_at (contents_of USER_INFORMATION i.0))
    (λ user. cond (request_ids c.0) (Ok (request o.0 a.0 c.0 user)) (Err BadItem)) v c.2 in
    let g = guard_end (request_ids c.0) BadItem (request o.0 a.0 c.0 u.0) v u.2 in
    subst (λ r. IsRequest r body) g.1 (record {
      text = drop OPENING_LENGTH body;
      opening = opening-found body o.0 o.1;
      items = i.0;
      filled = pieces-found item_at _ item-found (drop OPENING_LENGTH body) i.0 i.1;
      application_context = sole-found uid_at IsUid uid-found _ a.0 a.1;
      contexts = each-found proposal_at IsProposal proposal-found _ c.0 c.1;
      distinct = g.0;
      user = sole-found user_at IsUser user-found _ u.0 u.1;
    })

pub request-again : AgainIn request_at IsRequest
unfolding request_at request_in
request-again v body h =
    let o = opening-again v.opening body h.text h.opening in
    let i = ap (pieces_of item_at) o.1 ∙ pieces-again item_at _ item-shorter item-again h.items h.text h.filled in
    let a = sole-again uid_at IsUid uid-again v.application_context _ h.application_context in
    let c = each-again proposal_at IsProposal proposal-again v.contexts _ h.contexts in
    let u = sole-again user_at IsUser user-again v.user _ h.user in
    rw (o.0, i, a, c, u, h.distinct) refl

-- ---- accepts

abbrev accept : Opening → List ℕ → List AnsweredContext → UserInformation → Accept
accept o context contexts user = record { opening = o; application_context = context; contexts = contexts; user = user }

abbrev accept_ids : List AnsweredContext → Bool
accept_ids contexts = are_distinct (map (λ c. c.id) contexts)

pub accept-found : FoundIn accept_at IsAccept
unfolding accept_at accept_in
accept-found body v e =
    let o = bind_ok (opening_at body) (λ o. pieces_of item_at (drop OPENING_LENGTH body) >>= λ items. accept_in o items)
    v e in
    let i = bind_ok (pieces_of item_at (drop OPENING_LENGTH body)) (λ items. accept_in o.0 items) v o.2 in
    let a = bind_ok (sole_at uid_at (contents_of APPLICATION_CONTEXT i.0))
    (λ context. each_at answer_at (contents_of ANSWERED_CONTEXT i.0) >>= λ contexts. sole_at
    user_at (contents_of USER_INFORMATION i.0) >>= λ user. cond (accept_ids contexts)
    (Ok (accept o.0 context contexts user)) (Err BadItem)) v i.2 in
    let c = bind_ok (each_at answer_at (contents_of ANSWERED_CONTEXT i.0))
    (λ contexts. sole_at user_at (contents_of USER_INFORMATION i.0) >>= λ user. cond (accept_ids contexts)
    (Ok (accept o.0 a.0 contexts user)) (Err BadItem)) v a.2 in
    let u = bind_ok (sole_at user_at (contents_of USER_INFORMATION i.0))
    (λ user. cond (accept_ids c.0) (Ok (accept o.0 a.0 c.0 user)) (Err BadItem)) v c.2 in
    let g = guard_end (accept_ids c.0) BadItem (accept o.0 a.0 c.0 u.0) v u.2 in
    subst (λ r. IsAccept r body) g.1 (record {
      text = drop OPENING_LENGTH body;
      opening = opening-found body o.0 o.1;
      items = i.0;
      filled = pieces-found item_at _ item-found (drop OPENING_LENGTH body) i.0 i.1;
      application_context = sole-found uid_at IsUid uid-found _ a.0 a.1;
      contexts = each-found answer_at IsAnswer answer-found _ c.0 c.1;
      distinct = g.0;
      user = sole-found user_at IsUser user-found _ u.0 u.1;
    })

pub accept-again : AgainIn accept_at IsAccept
unfolding accept_at accept_in
accept-again v body h =
    let o = opening-again v.opening body h.text h.opening in
    let i = ap (pieces_of item_at) o.1 ∙ pieces-again item_at _ item-shorter item-again h.items h.text h.filled in
    let a = sole-again uid_at IsUid uid-again v.application_context _ h.application_context in
    let c = each-again answer_at IsAnswer answer-again v.contexts _ h.contexts in
    let u = sole-again user_at IsUser user-again v.user _ h.user in
    rw (o.0, i, a, c, u, h.distinct) refl

-- ---- bodies of every type

data_found : (body : List ℕ) (vs : List Pdv) → data_at body ≡ Ok vs → IsBody (PData vs) body
unfolding data_at
data_found body vs e =
    let p = bind_ok (pieces_of pdv_at body) (λ values. cond (eqb (length values) 0) (Err BadItem) (Ok values)) vs e in
    let g = guard_ok (eqb (length p.0) 0) BadItem p.0 vs p.2 in
    subst (λ us. IsBody (PData us) body) g.1 (
      λ z. some (length p.0) g.0 z,
      pieces-found pdv_at BeginsPdv pdv-found body
          p.0 p.1,
    )
  where
    some : (n : ℕ) → eqb n 0 ≡ false → n ≡ 0 → ⊥
    some n e z = grind (arith, e, z)

data_again : (body : List ℕ) (vs : List Pdv) → IsBody (PData vs) body → data_at body ≡ Ok vs
unfolding data_at
data_again body vs (some, fill) =
    let p = pieces-again pdv_at BeginsPdv pdv-shorter pdv-again vs body fill in
    rw (p, test (length vs) some) refl
  where
    test : (n : ℕ) → n ≢ 0 → eqb n 0 ≡ false
    test n some = grind (arith, some)

reject_found : (body : List ℕ) (r : Reject) → reject_at body ≡ Ok r → IsBody (AssociateRj r) body
reject_found (reserved ∷ result ∷ source ∷ reason ∷ []) r e =
    let made : Reject = record { result = result; source = source; reason = reason } in
    subst (λ x. IsBody (AssociateRj x) (reserved ∷ result ∷ source ∷ reason ∷ [])) (ok_is PduFault made r e)
    (reserved, refl)
reject_found _ r e = absurd cc

abort_found : (body : List ℕ) (p : Pdu) → abort_at body ≡ Ok p → (code_of p ≡ 7) × IsBody p body
abort_found (a ∷ b ∷ source ∷ reason ∷ []) p e =
    subst (λ x. (code_of x ≡ 7) × IsBody x (a ∷ b ∷ source ∷ reason ∷ [])) (ok_is PduFault (Abort source reason) p e)
    (refl, (a, b, refl))
abort_found _ p e = absurd cc

fixed_length : (code size : ℕ) → header_fault code size ≡ None → (code ≡ 5) ⊎ (code ≡ 6) → size ≡ 4
fixed_length code size e which = grind (arith, e, which)

-- a type with a lawful length is one of seven
known_type : (code size : ℕ) → header_fault code size ≡ None → (1 ≤ code) × (code ≤ 7)
known_type code size e = (grind (arith, e), grind (arith, e))

at_type : (k : ℕ) (body : List ℕ) (p : Pdu) → header_fault k (length body) ≡ None → body_at k body ≡ Ok p → (k ≡ 1)
    ⊎ ((k ≡ 2) ⊎ ((k ≡ 3) ⊎ ((k ≡ 4) ⊎ ((k ≡ 5) ⊎ ((k ≡ 6) ⊎ (k ≡ 7)))))) → (code_of p ≡ k) × IsBody p body
unfolding body_at
at_type k body p lawful e (inl is) =
    let r = bind_ok (request_at body) (λ r. Ok (AssociateRq r)) p (subst (λ n. body_at n body ≡ Ok p) is e) in
    subst (λ x. (code_of x ≡ k) × IsBody x body) (ok_is PduFault (AssociateRq r.0) p r.2)
    (sym is, request-found body r.0 r.1)
at_type k body p lawful e (inr (inl is)) =
    let r = bind_ok (accept_at body) (λ r. Ok (AssociateAc r)) p (subst (λ n. body_at n body ≡ Ok p) is e) in
    subst (λ x. (code_of x ≡ k) × IsBody x body) (ok_is PduFault (AssociateAc r.0) p r.2)
    (sym is, accept-found body r.0 r.1)
at_type k body p lawful e (inr (inr (inl is))) =
    let r = bind_ok (reject_at body) (λ r. Ok (AssociateRj r)) p (subst (λ n. body_at n body ≡ Ok p) is e) in
    subst (λ x. (code_of x ≡ k) × IsBody x body) (ok_is PduFault (AssociateRj r.0) p r.2)
    (sym is, reject_found body r.0 r.1)
at_type k body p lawful e (inr (inr (inr (inl is)))) =
    let r = bind_ok (data_at body) (λ r. Ok (PData r)) p (subst (λ n. body_at n body ≡ Ok p) is e) in
    subst (λ x. (code_of x ≡ k) × IsBody x body) (ok_is PduFault (PData r.0) p r.2) (sym is, data_found body r.0 r.1)
at_type k body p lawful e (inr (inr (inr (inr (inl is))))) =
    subst (λ x. (code_of x ≡ k) × IsBody x body) (ok_is PduFault ReleaseRq p (subst (λ n. body_at n body ≡ Ok p) is e))
    (sym is, fixed_length k (length body) lawful (inl is))
at_type k body p lawful e (inr (inr (inr (inr (inr (inl is)))))) =
    subst (λ x. (code_of x ≡ k) × IsBody x body) (ok_is PduFault ReleaseRp p (subst (λ n. body_at n body ≡ Ok p) is e))
    (sym is, fixed_length k (length body) lawful (inr is))
at_type k body p lawful e (inr (inr (inr (inr (inr (inr is)))))) =
    let a = abort_found body p (subst (λ n. body_at n body ≡ Ok p) is e) in
    (a.0 ∙ sym is, a.1)

which_of : (k : ℕ) → 1 ≤ k → k ≤ 7 → (k ≡ 1) ⊎ ((k ≡ 2) ⊎ ((k ≡ 3) ⊎ ((k ≡ 4) ⊎ ((k ≡ 5) ⊎ ((k ≡ 6) ⊎ (k ≡ 7))))))
which_of k low high =
    elim (cases_lt k 2) [
      | inl a ↦ inl (omega (arith, a, low))
      | inr a ↦
          elim (cases_lt k 3) [
            | inl b ↦ inr (inl (omega (arith, a, b)))
            | inr b ↦
                elim (cases_lt k 4) [
                  | inl c ↦ inr (inr (inl (omega (arith, b, c))))
                  | inr c ↦
                      elim (cases_lt k 5) [
                        | inl d ↦ inr (inr (inr (inl (omega (arith, c, d)))))
                        | inr d ↦
                            elim (cases_lt k 6) [
                              | inl e ↦ inr (inr (inr (inr (inl (omega (arith, d, e))))))
                              | inr e ↦
                                  elim (cases_lt k 7) [
                                    | inl f ↦ inr (inr (inr (inr (inr (inl (omega (arith, e, f)))))))
                                    | inr f ↦ inr (inr (inr (inr (inr (inr (omega (arith, f, high)))))))
                                  ]
                            ]
                      ]
                ]
          ]
    ]

-- what is read of a body, the body has
pub body-found : (code : ℕ) (body : List ℕ) (p : Pdu) → header_fault code (length body) ≡ None → body_at code body ≡ Ok
    p → (code_of p ≡ code) × IsBody p body
body-found code body p lawful e =
    let k = known_type code (length body) lawful in
    at_type code body p lawful e (which_of code k.0 k.1)

-- what a body has, is read of it
pub body-again : (p : Pdu) (body : List ℕ) → IsBody p body → body_at (code_of p) body ≡ Ok p
unfolding body_at
body-again (AssociateRq r) body is = ap (λ (x : Result Request PduFault). x >>= λ r. Ok (AssociateRq r))
    (request-again r body is)
body-again (AssociateAc a) body is = ap (λ (x : Result Accept PduFault). x >>= λ r. Ok (AssociateAc r))
    (accept-again a body is)
body-again (AssociateRj r) body (reserved, parts) = ap (λ (t : List ℕ). reject_at t >>= λ r. Ok (AssociateRj r)) parts
body-again (PData vs) body is = ap (λ (x : Result (List Pdv) PduFault). x >>= λ r. Ok (PData r)) (data_again body vs is)
body-again ReleaseRq body is = refl
body-again ReleaseRp body is = refl
body-again (Abort source reason) body (a, b, parts) = ap abort_at parts
