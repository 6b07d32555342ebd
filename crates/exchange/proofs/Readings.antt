-- A header and a body that are read one after the other.
use Rattle.std.proofs.Common.{inl, inr, ◌≡◌, ◌≤◌, ◌<◌, ◌+◌, ℕ, List, [], ◌∷◌, ◌++◌, length, slice_index, Option, Some}
use Rattle.std.proofs.Common.{None, Ok}
use Rattle.std.proofs.Common.{refl, sym, ap, subst, arith}
use Rattle.std.specs.Int.{w32, from_be_bytes}
use Rattle.std.specs.Io.KnownBytes.{Consumes}
use Rattle.std.proofs.KnownBytes.{Consumes-trans}
use Rattle.std.proofs.lemmas.List.{length-append}
use Rattle.octets.specs.Gives.{Told}
use Rattle.exchange_frames.specs.declared.fault.FrameFault.{FrameFault}
use Rattle.exchange_frames.specs.declared.fault.FrameFault.TheVariants as frames
use Rattle.exchange_frames.specs.Fault.{is_memory}
use Rattle.exchange_frames.specs.Header.{HeaderParts, header_fault, header_at, header_text, or_fault}
use Rattle.exchange_frames.specs.Reading.{HasFault}
use Rattle.exchange.specs.declared.fault.ExchangeFault.{ExchangeFault}
use Rattle.exchange.specs.declared.fault.ExchangeFault.TheVariants.{BadFrame, TooLong, Stranger, Io, Memory, Turns}
use Rattle.exchange.specs.declared.fault.ExchangeFault.TheVariants.{Refused}
use Rattle.exchange.specs.Fault.{of_frame}
use Rattle.exchange.specs.Hearing.{Stopped, WhyStopped, UnheardBody, WhyBodyUnheard, Unheard, WhyUnheard}

why_body : (r1 : Option (List ℕ)) (header : HeaderParts) (text : List ℕ) (wanted : ℕ) (fault : ExchangeFault)
    → wanted ≡ header.length → WhyStopped r1 text wanted fault → WhyBodyUnheard r1 header text fault
why_body r1 header text wanted BadFrame is why = inl (subst (λ (n : ℕ). length text < n) is why.0, why.1)
why_body r1 header text wanted TooLong is why = absurd why
why_body r1 header text wanted Stranger is why = absurd why
why_body r1 header text wanted Io is why = subst (λ (n : ℕ). length text < n) is why
why_body r1 header text wanted Memory is why = tt
why_body r1 header text wanted Turns is why = subst (λ (n : ℕ). length text < n) is why
why_body r1 header text wanted Refused is why = absurd why

-- The bytes of a body did not all come.
pub body_stopped : (r0 r1 : Option (List ℕ)) (header : HeaderParts) (wanted reads : ℕ) (fault : ExchangeFault)
    → wanted ≡ header.length → Stopped r0 r1 wanted reads fault → UnheardBody r0 r1 reads header fault
body_stopped r0 r1 header wanted reads fault is s = record {
  body = s.text;
  read = s.read;
  why = why_body r1 header s.text wanted fault is s.why;
  turns = s.turns;
}

-- They came, and are no frame.
pub body_faulty : (r0 r1 : Option (List ℕ)) (header : HeaderParts) (body : List ℕ) (reads : ℕ) (fault : FrameFault)
    → Consumes r0 r1 body → length body ≡ header.length → Told is_memory fault (HasFault header.kind body)
    → UnheardBody r0 r1 reads header (of_frame fault)
body_faulty r0 r1 header body reads frames.BadFrame read long told = record {
  body = body;
  read = read;
  why = inr (long, told);
  turns = λ e. absurd cc;
}
body_faulty r0 r1 header body reads frames.TooLong read long told = record {
  body = body;
  read = read;
  why = (long, told);
  turns = λ e. absurd cc;
}
body_faulty r0 r1 header body reads frames.Memory read long told = record {
  body = body;
  read = read;
  why = tt;
  turns = λ e. absurd cc;
}

or_none : (r : Option FrameFault) (p h : HeaderParts) → Ok h ≡ or_fault r p → (r ≡ None) × (h ≡ p)
or_none None p h e = (refl, cc)
or_none (Some f) p h e = absurd cc

-- a header that was read has no fault
pub lawful_header : (bytes : List ℕ) (h : HeaderParts) → Ok h ≡ header_at bytes
    → header_fault h.kind h.length ≡ None
lawful_header bytes h e =
    let n = from_be_bytes w32 (slice_index bytes 1 ∷ slice_index bytes 2 ∷ slice_index bytes 3 ∷ slice_index bytes 4
    ∷ [])
    in
    let p = or_none (header_fault (slice_index bytes 0) n) (record { kind = slice_index bytes 0; length = n }) h e in
    subst (λ (x : HeaderParts). header_fault x.kind x.length ≡ None) (sym p.1) p.0

module _ (r2 : Option (List ℕ)) (h : HeaderParts) (none : header_fault h.kind h.length ≡ None) (body : List ℕ) where
  whole_why : (fault : ExchangeFault) → WhyBodyUnheard r2 h body fault → WhyUnheard r2 (header_text h ++ body) fault
  whole_why BadFrame (inl p) = inl (inr (h, body, refl, none, p.0), p.1)
  whole_why BadFrame (inr p) = inr (inr (h, body, refl, p.0, p.1))
  whole_why TooLong p = inr (h, body, refl, p.0, p.1)
  whole_why Stranger p = absurd p
  whole_why Io p = inr (h, body, refl, none, p)
  whole_why Memory p = tt
  whole_why Turns p = inr (h, body, refl, none, p)
  whole_why Refused p = absurd p

-- A header was read, and behind it no body of a frame.
pub body_unheard : (r0 r1 r2 : Option (List ℕ)) (head : List ℕ) (h : HeaderParts) (reads mid : ℕ)
    (fault : ExchangeFault) → Consumes r0 r1 head → header_text h ≡ head → header_fault h.kind h.length ≡ None
    → reads ≤ mid + length head → UnheardBody r1 r2 mid h fault → Unheard r0 r2 reads fault
body_unheard r0 r1 r2 head h reads mid fault read is none many u = record {
  text = header_text h ++ u.body;
  read = Consumes-trans r0 r1 r2 (header_text h) u.body (rw is read) u.read;
  why = whole_why r2 h none u.body fault u.why;
  turns = λ e. omega (arith, many, u.turns e, ap (λ (t : List ℕ). length t) is, length-append (header_text h) u.body);
}
