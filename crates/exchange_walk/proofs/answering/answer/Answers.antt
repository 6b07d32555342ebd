use Rattle.std.proofs.Common.{◌≡◌, ltb, length, take, ap, ◌∙◌, arith}
use Rattle.walk_frames.specs.Walks.{stand_apart}
use Rattle.exchange_walk.specs.Answers.{all_answers, is_full}
use Rattle.exchange_walk.proofs.Lists.{front_short, front_longer}
use Rattle.exchange_walk.proofs.Order.{answer_apart}
use Rattle.exchange_walk.proofs.Walks.{cut}
use Rattle.exchange_walk.proofs.answering.answer.Goals as goal

-- The entries that are left are no more than a walk has.
pub walk_of-requires-clause-short : goal.walk_of-requires-clause-short
walk_of-requires-clause-short c = omega (
  arith,
  ap length c.truncate.ensures.items,
  front_short 4096 c.in_ok-entries.entries.items,
)

-- They stand apart.
pub walk_of-requires-clause-apart : goal.walk_of-requires-clause-apart
walk_of-requires-clause-apart c =
    ap stand_apart (c.truncate.ensures.items
    ∙ cut c.args.digests.now c.args.heard.now c.in_ok-entries.entries.items
    (c.in_ok-entries.ensures ∙ ap (λ ds. take 4097 (all_answers ds c.entries.result.now)) c.of-site.ensures
    ∙ ap (λ es. take 4097 (all_answers c.args.digests.now es)) c.entries.ensures.value))
    ∙ answer_apart c.args.digests.now c.args.heard.now c.entries.ensures.lawful.apart

-- They are the answer.
pub returns-clause-walk : goal.returns-clause-walk
returns-clause-walk c =
    c.walk_of.ensures ∙ c.truncate.ensures.items
    ∙ cut c.args.digests.now c.args.heard.now c.in_ok-entries.entries.items
    (c.in_ok-entries.ensures ∙ ap (λ ds. take 4097 (all_answers ds c.entries.result.now)) c.of-site.ensures
    ∙ ap (λ es. take 4097 (all_answers c.args.digests.now es)) c.entries.ensures.value)

-- One entry more shows that there are more.
pub returns-clause-full : goal.returns-clause-full
unfolding is_full
returns-clause-full c =
    let long : c.len-is_full.result ≡ length c.in_ok-entries.entries.items = omega (arith, c.len-is_full.ensures) in
    ap (λ n. ltb 4096 n) (long ∙ ap length (c.in_ok-entries.ensures
    ∙ ap (λ ds. take 4097 (all_answers ds c.entries.result.now)) c.of-site.ensures
    ∙ ap (λ es. take 4097 (all_answers c.args.digests.now es)) c.entries.ensures.value))
    ∙ front_longer 4096 (all_answers c.args.digests.now c.args.heard.now)
