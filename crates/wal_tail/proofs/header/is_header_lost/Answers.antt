use Rattle.std.proofs.Common.{ap, sym, subst, ◌∙◌, not, arith, rules}
use Rattle.std.proofs.lemmas.Bool.{not-true}
use Rattle.sqlite_wal.specs.Format.{IsSigned}
use Rattle.wal_tail.specs.Header.{is_reset}
use Rattle.wal_tail.proofs.header.is_header_lost.Goals as goal

-- It is signed.
pub returns-then-is_signed : goal.returns-then-is_signed
returns-then-is_signed c = (
  λ no. absurd cc,
  λ lost. absurd (lost.unsigned (subst IsSigned c.head_of-head.ensures.head (c.is_signed.ensures.0 c.if-is_signed.true))),
)

-- It is not signed: what counts is whether it was being emptied.
pub returns : goal.returns
returns c =
    let reset = c.is_reset.ensures ∙ ap is_reset c.head_of-head.ensures.head in (
      λ settled. record {
        long = omega arith;
        unsigned = λ signed. search (signed, rules);
        settled = sym reset ∙ not-true _ settled;
      },
      λ lost. ap not (reset ∙ lost.settled),
    )
