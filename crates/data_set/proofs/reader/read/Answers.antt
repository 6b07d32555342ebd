use Rattle.std.proofs.Common.{ap, Ok}
use Rattle.std.proofs.lemmas.Result.{err_from_is_err_and}
use Rattle.data_set.proofs.Sets.{whole, whole_fault, spelled_once, fault_or_spelled, spells_none, this_fault}
use Rattle.data_set.proofs.Kept.{spelled_set}
use Rattle.data_set.proofs.reader.read.Goals as goal

-- A text with a fault spells nothing.
pub returns-in_err-elements-clause-only : goal.returns-in_err-elements-clause-only
returns-in_err-elements-clause-only c =
    let p = err_from_is_err_and c.from_residual.result c.from_residual.ensures.1 in
    let told = whole_fault c.args.syntax c.args.text.now c.in_err-elements.field-0.0 c.in_err-elements.ensures.exact in
    rw (p.1, p.2) (spells_none c.args.syntax c.args.text.now c.in_err-elements.field-0.0 told)

-- The fault of the elements is that of the text.
pub returns-in_err-elements-clause-fault : goal.returns-in_err-elements-clause-fault
returns-in_err-elements-clause-fault c =
    let p = err_from_is_err_and c.from_residual.result c.from_residual.ensures.1 in
    rw (p.1, p.2) (whole_fault c.args.syntax c.args.text.now c.in_err-elements.field-0.0
    c.in_err-elements.ensures.exact)

-- A text has one fault, and this is it.
pub returns-in_err-elements-clause-faulty : goal.returns-in_err-elements-clause-faulty
returns-in_err-elements-clause-faulty c =
    let p = err_from_is_err_and c.from_residual.result c.from_residual.ensures.1 in
    let told = whole_fault c.args.syntax c.args.text.now c.in_err-elements.field-0.0 c.in_err-elements.ensures.exact in
    rw (p.1, p.2) (this_fault c.args.syntax c.args.text.now c.in_err-elements.field-0.0 told)

-- The elements were read, so they are those of a set.
pub of-requires : goal.of-requires
of-requires c = spelled_set c.args.syntax c.args.text.now c.in_ok-elements.elements.items
    (whole c.args.syntax c.args.text.now c.in_ok-elements.elements.items c.in_ok-elements.field-0-1.now
    c.in_ok-elements.ensures.exact)

-- The elements fill the whole text.
pub returns-clause-found : goal.returns-clause-found
returns-clause-found c =
    rw c.of.ensures.elements (whole c.args.syntax c.args.text.now c.in_ok-elements.elements.items
    c.in_ok-elements.field-0-1.now c.in_ok-elements.ensures.exact)

-- A text spells one list of elements, and this is it.
pub returns-clause-only : goal.returns-clause-only
returns-clause-only c = λ ts spells.
    rw c.of.ensures.elements (ap Ok (spelled_once c.args.syntax c.args.text.now ts c.in_ok-elements.elements.items
    spells (whole c.args.syntax c.args.text.now c.in_ok-elements.elements.items c.in_ok-elements.field-0-1.now
    c.in_ok-elements.ensures.exact)))

-- A text that spells elements has no fault.
pub returns-clause-faulty : goal.returns-clause-faulty
returns-clause-faulty c = λ f has.
    absurd (fault_or_spelled c.args.syntax c.args.text.now c.in_ok-elements.elements.items
    f (whole c.args.syntax c.args.text.now c.in_ok-elements.elements.items c.in_ok-elements.field-0-1.now
    c.in_ok-elements.ensures.exact) has)
