use Rattle.std.proofs.Common.{rules, ◌≡◌, List, ℕ, true, sym, subst, ap, ◌∙◌}
use Rattle.operation.specs.Spelling.{hash_of}
use Rattle.op_log.specs.Heads.{Head, head_of}
use Rattle.op_log.specs.Places.{head_by}
use Rattle.op_log.proofs.loading.load_at.Goals as goal

-- The head has the digest of the operation.
pub returns-in_err-read-clause-damaged : goal.returns-in_err-read-clause-damaged
returns-in_err-read-clause-damaged g c clean op lawful head has n told =
    let place = c.args.place.now in
    let own = subst (λ (d : List ℕ). head_by d place ≡ head_of (op, place.at)) (ap (λ (h : Head). h.digest) head) head in
    c.read_at.ensures.damaged clean op lawful own has n (search rules)

-- What was read is the operation, which has the digest.
pub returns-then-not-has_digest-clause-damaged : goal.returns-then-not-has_digest-clause-damaged
returns-then-not-has_digest-clause-damaged g c clean op lawful head has n told =
    let place = c.args.place.now in
    let digest = ap (λ (h : Head). h.digest) head in
    let own = subst (λ (d : List ℕ). head_by d place ≡ head_of (op, place.at)) digest head in
    let same = c.of-op.ensures ∙ c.in_ok-read.ensures.exact clean op lawful own has in
    let yes : c.has_digest.result ≡ true = c.has_digest.ensures.hash.1 (ap hash_of same ∙ sym digest) in
    let no = c.if-not-has_digest.true in
    absurd cc

-- What was read is the operation.
pub returns-clause-exact : goal.returns-clause-exact
returns-clause-exact g c clean op lawful head has =
    let place = c.args.place.now in
    let own = subst (λ (d : List ℕ). head_by d place ≡ head_of (op, place.at)) (ap (λ (h : Head). h.digest) head) head in
    c.of-op.ensures ∙ c.in_ok-read.ensures.exact clean op lawful own has
