use Rattle.std.proofs.Common.{◌≡◌, ◌++◌, List, ℕ, nat_eq, subst, sym, ap, ◌∙◌}
use Rattle.std.specs.Cmp.Lexicographic.{pointwise}
use Rattle.sha2.specs.Sha256.{sha256}
use Rattle.sqlite_disk.specs.Disk.{Holds}
use Rattle.body_log.specs.Log.{disk_of}
use Rattle.op_log.proofs.TestedBodies.{bytes_are}
use Rattle.op_log.proofs.verifying.is_whole.Goals as goal

-- What was read are the bytes that the head leads to.
pub returns-clause-exact : goal.returns-clause-exact
returns-clause-exact g c clean =
    let file = g.B.Disk.seen (disk_of c.args.bodies.now) in
    let place = c.args.place.now in
    let body = c.in_ok-body.body.items in
    let read = bytes_are file place.at place.size body c.in_ok-body.ensures.size
    (λ some. subst (λ (f : List ℕ). Holds f place.at body) c.body_at.ensures.seen (c.in_ok-body.ensures.held clean some)) in
    let sum = c.as_slice-2.ensures ∙ c.sum_of-sum.ensures ∙ ap (λ (front : List ℕ). sha256 (front ++ c.deref.result.now)) c.as_slice.ensures
    ∙ ap (λ (bytes : List ℕ). sha256 (place.front ++ bytes)) (c.deref.ensures.value ∙ read) in
    let digest = c.as_slice-3.ensures ∙ c.as_bytes.ensures in
    let told : c.eq.result ≡ pointwise nat_eq c.as_slice-2.result.now c.as_slice-3.result.now = c.eq.ensures in
    told ∙ λ i. pointwise nat_eq (sum i) (digest i)

-- And they were tested against the digest.
pub returns-clause-bytes : goal.returns-clause-bytes
returns-clause-bytes g c clean =
    let place = c.args.place.now in
    let body = c.in_ok-body.body.items in
    let sum = c.as_slice-2.ensures ∙ c.sum_of-sum.ensures ∙ ap (λ (front : List ℕ). sha256 (front ++ c.deref.result.now)) c.as_slice.ensures
    ∙ ap (λ (bytes : List ℕ). sha256 (place.front ++ bytes)) c.deref.ensures.value in
    let digest = c.as_slice-3.ensures ∙ c.as_bytes.ensures in
    let told : c.eq.result ≡ pointwise nat_eq c.as_slice-2.result.now c.as_slice-3.result.now = c.eq.ensures in
    record {
      body = body;
      size = c.in_ok-body.ensures.size;
      held = λ some. subst (λ (f : List ℕ). Holds f place.at body) c.body_at.ensures.seen (c.in_ok-body.ensures.held clean some);
      is = sym (told ∙ λ i. pointwise nat_eq (sum i) (digest i));
    }
