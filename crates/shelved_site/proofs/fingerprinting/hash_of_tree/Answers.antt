use Rattle.std.proofs.Common.{ap, ◌∙◌}
use Rattle.sha2.specs.Sha256.{sha256}
use Rattle.shelved_site.proofs.Hashed.{none_hashed, next_hashed, all_hashed, entries_text}
use Rattle.shelved_site.proofs.fingerprinting.hash_of_tree.Goals as goal

-- None was hashed.
pub loop-digest-init : goal.loop-digest-init
loop-digest-init c = none_hashed _ _ c.new-hasher.ensures

-- One digest more was.
pub loop-digest-preserved : goal.loop-digest-preserved
loop-digest-preserved c = next_hashed _ _ c.in-Some.digest.now c.in-Some._op.now _ _ _ c.loop-digest.invariant
    c.in-Some.ensures.steps c.feed.ensures

-- All were.
pub returns : goal.returns
returns c =
    let was = c.loop-digest.invariant in
    let all = all_hashed _ _ _ was c.in-None.ensures.steps.0 ∙ ap entries_text
    (c.into_iter-digest-iterator.ensures.into_iter_gives ∙ c.iter-digest-items.ensures.rest) in
    c.of.ensures ∙ c.finalize.ensures was.fed was.holds ∙ ap sha256 all
