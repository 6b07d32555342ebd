use Rattle.std.proofs.Common.{◌≡◌, ◌+◌, length}
use Rattle.form_urlencoded.specs.Form.{raw_pairs}
use Rattle.form_urlencoded.specs.Parse.{raw_pairs_left}
use Rattle.site_desk.proofs.form.pairs.Given as goal

-- Those that were counted and those that are left are all.
abbrev pub invariant-loop-key : goal.invariant-loop-key
invariant-loop-key l = l.count + length (raw_pairs_left l._key-iterator) ≡ length (raw_pairs l.form)
