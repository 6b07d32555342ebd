use Rattle.std.proofs.Common.{rules, ◌≡◌, ◌++◌, ◌∷◌, [], ℕ, List, map, take, true, inl, refl, subst, sym, ap, ◌∙◌}
use Rattle.operation.specs.declared.op.Op.{Op}
use Rattle.operation.specs.Spelling.{digest_of, hash_of}
use Rattle.records.specs.StandIn.{op_in}
use Rattle.op_log.specs.Fetched.{under}
use Rattle.op_log.specs.Heads.{Head}
use Rattle.op_log.specs.Loaded.{IsOf}
use Rattle.op_log.specs.Recorded.{AreRecordedAs}
use Rattle.op_log.specs.Places.{head_by}
use Rattle.op_log.specs.Verified.{digests_of}
use Rattle.op_log.proofs.Fetches.{same_at}
use Rattle.op_log.proofs.Lists.{at_among, told_more}
use Rattle.op_log.proofs.Recordings.{recorded_more}
use Rattle.op_log.proofs.TestedBodies.{take_more}
use Rattle.op_log.proofs.recording.record_at.Goals as goal

-- What was read has another digest than the head, so no operation is that of the head.
pub returns-then-not-has_digest-clause-damaged : goal.returns-then-not-has_digest-clause-damaged
returns-then-not-has_digest-clause-damaged c file h at it n told =
    let mine = same_at c.args.places.now c.args.index (head_by c.in-Some.bytes.now c.in-Some.place.now) h c.in-Some.ensures.found at in
    record {
      head = h;
      among = at_among c.args.places.now c.args.index h at;
      place = sym (ap (λ (k : Head). k.at) mine) ∙ search rules;
      none = λ other of.
          let same : hash_of c.args.op.now ≡ c.of.result = ap hash_of (it.only other of) ∙ sym (ap (λ (k : Head). k.digest) of.head)
          ∙ sym (ap (λ (k : Head). k.digest) mine) ∙ sym c.of.ensures in
          let yes : c.has_digest.result ≡ true = c.has_digest.ensures.hash.1 same in
          let no = c.if-not-has_digest.true in
          absurd cc;
    }

-- One digest more is told.
pub returns-clause-told : goal.returns-clause-told
returns-clause-told c was =
    let heads = c.args.places.now in
    let h = head_by c.in-Some.bytes.now c.in-Some.place.now in
    let yes : c.has_digest.result ≡ true = cc in
    let more = take_more heads c.args.index h c.in-Some.ensures.found in
    let items = c.in_ok-push.ensures.items ∙ ap (λ (o : Op). c.args.recorded.now.items ++ o ∷ []) c.in_ok-made.ensures.stands in
    ap (λ (ops : List Op). map digest_of ops) items
    ∙ told_more (take c.args.index heads) c.args.recorded.now.items h (op_in c.args.op.now) was
    (c.of-2.ensures.digest ∙ c.has_digest.ensures.own.0 yes ∙ c.of.ensures)
    ∙ ap digests_of (sym more)

-- One operation more is recorded.
pub returns-clause-all : goal.returns-clause-all
returns-clause-all c file told h at it was =
    let heads = c.args.places.now in
    let mine = same_at c.args.places.now c.args.index (head_by c.in-Some.bytes.now c.in-Some.place.now) h c.in-Some.ensures.found at in
    let yes : c.has_digest.result ≡ true = cc in
    let more = take_more heads c.args.index h at in
    let items = c.in_ok-push.ensures.items ∙ ap (λ (o : Op). c.args.recorded.now.items ++ o ∷ []) c.in_ok-made.ensures.stands in
    let digest : hash_of c.args.op.now ≡ h.digest = c.has_digest.ensures.hash.0 yes ∙ c.of.ensures ∙ ap (λ (k : Head). k.digest) mine in
    let own = subst (λ (d : List ℕ). IsOf file (under d h) c.args.op.now) digest it.own in
    subst (λ (hs : List Head). AreRecordedAs file told hs c.push.new.self.items) (sym more)
    (subst (λ (ops : List Op). AreRecordedAs file told (take c.args.index heads ++ h ∷ []) ops) (sym items)
    (recorded_more file told (take c.args.index heads) c.args.recorded.now.items h (op_in c.args.op.now) was (inl (c.args.op.now, own, refl))))
