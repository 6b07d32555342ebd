use Rattle.std.proofs.Common.{List, Err, length, map, ap, sym, subst, ◌∙◌, arith}
use Rattle.std.proofs.lemmas.List.{append-nil}
use Rattle.op_shelf.specs.declared.fault.ShelfFault.{ShelfFault}
use Rattle.op_shelf.specs.declared.kept.Kept.{Kept}
use Rattle.op_shelf.specs.Keep.{GainsAll}
use Rattle.shelved_site.specs.Keeping.{Holds}
use Rattle.shelved_site.specs.Refusing.{LogRefusesGroup}
use Rattle.shelved_site.specs.Telling.{kept_of}
use Rattle.shelved_site.proofs.Keeps.{same_length}
use Rattle.shelved_site.proofs.Logs.{all_last, gains_all, lasts_behind, lasts_on, same_of, was_up}
use Rattle.shelved_site.proofs.Whys.{group_why}
use Rattle.shelved_site.proofs.keeping.KeptLogKeep.put_many.Goals as goal

-- Each of the group is told of.
pub all_kept-requires-clause-room : goal.all_kept-requires-clause-room
all_kept-requires-clause-room g c =
    let old = c.args.self.now.log in
    let new = c.put_many.new.self in
    let told = ap length c.deref-in-Ok.ensures.value in
    let many = same_length g.B.Disk new.bodies new.bodies_end old.places new.places c.args.ops.now c.in-Ok.told.items c.in-Ok.ensures.put in
    omega (arith, told, many, c.in_ok-room.ensures.capacity)

-- What is put is gained.
pub returns-in-Ok-clause-put : goal.returns-in-Ok-clause-put
returns-in-Ok-clause-put g c up =
    let old = c.args.self.now.log in
    let new = c.put_many.new.self in
    subst (λ (ks : List Kept). GainsAll (Holds g.B.Disk old) (Holds g.B.Disk new) c.args.ops.now ks)
    (sym (c.all_kept.ensures ∙ ap (map kept_of) c.deref-in-Ok.ensures.value))
    (gains_all g.H.Disk g.B.Disk old new c.put_many.ensures.goes_on up c.args.ops.now c.in-Ok.told.items c.in-Ok.ensures.put)

-- And it lasts, as what lasted before.
pub returns-in-Ok-clause-durable : goal.returns-in-Ok-clause-durable
returns-in-Ok-clause-durable g c up =
    let old = c.args.self.now.log in
    let new = c.put_many.new.self in
    all_last g.H.Disk g.B.Disk old new c.put_many.ensures.goes_on up c.args.ops.now c.in-Ok.told.items c.in-Ok.ensures.put c.in-Ok.ensures.lasting

-- What lasted before lasts on behind the group.
pub returns-in-Ok-clause-kept : goal.returns-in-Ok-clause-kept
returns-in-Ok-clause-kept g c up other was =
    let old = c.args.self.now.log in
    let new = c.put_many.new.self in
    lasts_behind g.H.Disk g.B.Disk old new c.put_many.ensures.goes_on up c.args.ops.now c.in-Ok.told.items c.in-Ok.ensures.put
    c.in-Ok.ensures.lasting other was

-- A refusal forgets all.
pub returns-in-Err-clause-refused : goal.returns-in-Err-clause-refused
returns-in-Err-clause-refused g c up =
    same_of g.H.Disk g.B.Disk c.args.self.now.log c.put_many.new.self c.put_many.ensures.goes_on up c.in-Err.ensures.refused

-- What lasted before lasts on where none is put.
pub returns-in-Err-clause-kept : goal.returns-in-Err-clause-kept
returns-in-Err-clause-kept g c up other was =
    let old = c.args.self.now.log in
    lasts_on g.H.Disk g.B.Disk old c.put_many.new.self c.put_many.ensures.goes_on up _ (c.in-Err.ensures.refused ∙ sym (append-nil old.places)) other was

-- What is up was up.
pub returns-in-Ok-clause-up : goal.returns-in-Ok-clause-up
returns-in-Ok-clause-up g c up =
    was_up g.H.Disk g.B.Disk c.args.self.now.log c.put_many.new.self c.put_many.ensures.goes_on up

-- What is up behind a refusal was up.
pub returns-in-Err-clause-up : goal.returns-in-Err-clause-up
returns-in-Err-clause-up g c up =
    was_up g.H.Disk g.B.Disk c.args.self.now.log c.put_many.new.self c.put_many.ensures.goes_on up

-- Each fault of a log is told as what it is to a shelf.
pub returns-in-Err-clause-why : goal.returns-in-Err-clause-why
returns-in-Err-clause-why g c =
    let old = c.args.self.now.log in
    let new = c.put_many.new.self in
    let why = group_why g.H.Disk g.B.Disk old new c.args.ops.now c.in-Err.refused
    c.in-Err.ensures.only (λ is. (c.in-Err.ensures.closed).0 (ap Err is))
    (λ is. c.in-Err.ensures.too_long (ap Err is))
    (λ is. c.in-Err.ensures.disk (ap Err is)) (λ is. c.in-Err.ensures.collision (ap Err is)) in
    subst (λ (told : ShelfFault). LogRefusesGroup g.H.Disk g.B.Disk old new c.args.ops.now told) (sym c.fault.ensures) why
