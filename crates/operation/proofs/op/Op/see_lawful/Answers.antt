use Rattle.std.proofs.Common.{◌≡◌, sym, subst}
use Rattle.operation.specs.Spelling.{digest_of, hash_of}
use Rattle.operation.specs.declared.op.Op.{Op}
use Rattle.operation.specs.declared.op.Op.TheVariants.{Content as a_content, Correction as a_correction}
use Rattle.operation.proofs.DigestLaws.{own_digest}
use Rattle.operation.proofs.op.Op.see_lawful.Goals as goal

-- Each is lawful, so its digest is its hash.
pub returns-in-Content-clause-digest : goal.returns-in-Content-clause-digest
returns-in-Content-clause-digest c =
    subst (λ (op : Op). digest_of op ≡ hash_of op) (sym c.in-Content.is)
    (own_digest (a_content c.in-Content.content) c.body.ensures.content)

pub returns-in-Correction-clause-digest : goal.returns-in-Correction-clause-digest
returns-in-Correction-clause-digest c =
    subst (λ (op : Op). digest_of op ≡ hash_of op) (sym c.in-Correction.is)
    (own_digest (a_correction c.in-Correction.correction) c.stamp.ensures.correction)
