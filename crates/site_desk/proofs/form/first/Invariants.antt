use Rattle.std.proofs.Common.{◌≡◌}
use Rattle.form_urlencoded.specs.Form.{raw_pairs}
use Rattle.form_urlencoded.specs.Parse.{raw_pairs_left}
use Rattle.site_desk.specs.Forms.{first_in}
use Rattle.site_desk.proofs.form.first.Given as goal

-- The first of those that are left is the first of all.
abbrev pub invariant-loop-key : goal.invariant-loop-key
invariant-loop-key l = first_in l.name (raw_pairs_left l.key-iterator) ≡ first_in l.name (raw_pairs l.form)
