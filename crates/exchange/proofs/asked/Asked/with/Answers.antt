use Rattle.std.proofs.Common.{Bool, List, ℕ, ap, ◌∙◌, length, replicate, false, cond, Some, ◌++◌}
use Rattle.exchange.specs.Asked.{asked_of}
use Rattle.exchange.specs.Round.{asked_in, is_among}
use Rattle.exchange.proofs.Askings.{more_asked}
use Rattle.exchange.proofs.asked.Asked.with.Goals as goal

-- What was asked for last is found first.
pub returns : goal.returns
returns c = λ digest.
    let want = c.args.want.now in
    let old = c.self.inside in
    let told = c.in_ok-flags.ensures ∙ ap (λ n. replicate n false ++ c.as_slice.result.now) c.len.ensures
    ∙ ap (λ gs. replicate (length want) false ++ gs) c.as_slice.ensures.value in
    ap (λ (ds : List (List ℕ)). asked_in digest (asked_of ds c.in_ok-flags.flags.items)) c.in_ok-digests.ensures
    ∙ ap (λ (gs : List Bool). asked_in digest (asked_of (want ++ old.digests) gs)) told
    ∙ more_asked digest want old.digests old.flags.items
    ∙ ap (λ asked. cond (is_among digest want) (Some false) (asked_in digest asked)) c.self.view_is
