use Rattle.std.proofs.Common.{◌≡◌, ◌+◌, List, ℕ, length, true, subst, sym, ◌∙◌, ap, rules}
use Rattle.sha2.specs.Sha256.{sha256}
use Rattle.sqlite_disk.specs.Disk.{Holds}
use Rattle.older_heads.proofs.Texts.{no_other, tested}
use Rattle.older_heads.proofs.reading.tested_at.Goals as goal

-- The bytes of a group would have the sum.
pub returns-then-not-has_sum-clause-other : goal.returns-then-not-has_sum-clause-other
returns-then-not-has_sum-clause-other g c told clean group many there =
    let file = g.D.Disk.seen c.args.disk.now in
    let width : length c.in_ok-sum.sum ≡ 32 = search rules in
    let h : Holds file c.args.at c.in_ok-sum.sum = c.in_ok-sum.ensures.read (c.bytes_at.ensures.same.clean clean) in
    let k : Holds file (c.args.at + 32) c.in_ok-group.group.items =
    subst (λ (f : List ℕ). Holds f (c.args.at + 32) c.in_ok-group.group.items) c.sum_at.ensures.same.seen
    (c.in_ok-group.ensures.read clean) in
    let is = no_other file c.args.at c.in_ok-sum.sum c.in_ok-group.group.items group width
    (many ∙ sym c.in_ok-group.ensures.size) h k there in
    let yes : c.has_sum.result ≡ true = c.has_sum.ensures.1 (ap sha256 c.deref.ensures.value ∙ is) in
    let no = c.if-not-has_sum.true in
    absurd cc

-- The sum was compared.
pub returns-clause-held : goal.returns-clause-held
returns-clause-held g c clean =
    let file = g.D.Disk.seen c.args.disk.now in
    let h : Holds file c.args.at c.in_ok-sum.sum = c.in_ok-sum.ensures.read (c.bytes_at.ensures.same.clean clean) in
    let k : Holds file (c.args.at + 32) c.in_ok-group.group.items =
    subst (λ (f : List ℕ). Holds f (c.args.at + 32) c.in_ok-group.group.items) c.sum_at.ensures.same.seen
    (c.in_ok-group.ensures.read clean) in
    let is : sha256 c.in_ok-group.group.items ≡ c.in_ok-sum.sum =
    ap sha256 (sym c.deref.ensures.value) ∙ c.has_sum.ensures.0 c.if-not-has_sum.false in
    tested file c.args.at c.in_ok-sum.sum c.in_ok-group.group.items is h k
