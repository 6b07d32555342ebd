use Rattle.std.proofs.Common.{◌≡◌, [], List, All, slice_index_or, subst}
use Rattle.std.proofs.lemmas.List.Elements.{All-head}
use Rattle.operation.specs.declared.op.Op.{Op}
use Rattle.op_shelf.specs.declared.kept.Kept.TheVariants.{New, Known}
use Rattle.op_shelf.specs.Keep.{GainsAll}
use Rattle.shelved_site.specs.Keeping.{Holds, Lasts, log_of}
use Rattle.shelved_site.proofs.Same.{find_known, gain_new}
use Rattle.shelved_site.proofs.keeping.KeptLogKeep.put_digested.Goals as goal

-- It is a group of one.
pub returns-in-len1-up-clause-new : goal.returns-in-len1-up-clause-new
returns-in-len1-up-clause-new g c up told =
    let old = log_of c.args.self.now in
    let new = log_of c.put_many.new.self in
    let kepts = c.in_ok-put_many.field-0.items in
    let all = subst (λ (ops : List Op). GainsAll (Holds g.B.Disk old) (Holds g.B.Disk new) ops kepts) c.from_ref.ensures.value (c.in_ok-put_many.ensures.put up) in
    let first : slice_index_or c.as_slice.result.now 0 New ≡ New = cc in
    gain_new (Holds g.B.Disk old) (Holds g.B.Disk new) c.args.op.now c.as_slice.result.now kepts c.as_slice.ensures.value all first

-- And so it is where it was known.
pub returns-in-len1-up-clause-known : goal.returns-in-len1-up-clause-known
returns-in-len1-up-clause-known g c up told =
    let old = log_of c.args.self.now in
    let new = log_of c.put_many.new.self in
    let kepts = c.in_ok-put_many.field-0.items in
    let all = subst (λ (ops : List Op). GainsAll (Holds g.B.Disk old) (Holds g.B.Disk new) ops kepts) c.from_ref.ensures.value (c.in_ok-put_many.ensures.put up) in
    let first : slice_index_or c.as_slice.result.now 0 New ≡ Known = cc in
    find_known (Holds g.B.Disk old) (Holds g.B.Disk new) c.args.op.now c.as_slice.result.now kepts c.as_slice.ensures.value all first

-- What is told of each of the group is told of it.
pub returns-in-len1-up-clause-durable : goal.returns-in-len1-up-clause-durable
returns-in-len1-up-clause-durable g c up =
    let new = log_of c.put_many.new.self in
    All-head (Lasts g.H.Disk g.B.Disk new) c.args.op.now []
    (subst (λ (ops : List Op). All (Lasts g.H.Disk g.B.Disk new) ops) c.from_ref.ensures.value (c.in_ok-put_many.ensures.durable up))
