use Rattle.std.proofs.Common.{◌≡◌, ℕ, ◌+◌, ◌-◌, List, min, ◌++◌, take, drop, length, arith, sym, ap, ◌∙◌}
use Rattle.std.proofs.Common.{drop-drop, length-drop}
use Rattle.std.proofs.lemmas.List.{take-append-drop, take_all, drop_all}
use Rattle.devices.specs.Memory.{Supplied}
use Rattle.devices.proofs.supply.SupplySource.read.Goals as goal

-- What was read stands in front of what is left, and something was read where something was left.
pub returns-clause-bytes : goal.returns-clause-bytes
returns-clause-bytes c =
    let s = c.self.inside in
    let n = c.put_piece-count.result in
    let rest : List ℕ = drop s.taken s.bytes in
    let long : length rest ≡ length s.bytes - s.taken = length-drop s.taken s.bytes in
    let whole : take (length s.bytes - s.taken) rest ≡ rest = take_all (length s.bytes - s.taken)
    rest (omega (arith, long)) in
    let put : take n c.put_piece-count.new.buffer ≡ take n (take (length s.bytes - s.taken) rest) =
    rw c.as_slice.ensures at c.put_piece-count.ensures.put in
    let count : n ≡ min (min (length (take (length s.bytes - s.taken) rest)) (length c.args.buffer.now)) s.piece =
    rw c.as_slice.ensures at c.put_piece-count.ensures.count in
    let cut : length (take (length s.bytes - s.taken) rest) ≡ length rest = ap (λ (t : List ℕ). length t) whole in
    let is : rest ≡ c.args.self.now.bytes = ap (λ (d : Supplied). d.bytes) c.self.view_is in (
      sym is ∙ sym (take-append-drop n rest) ∙ ap (λ (t : List ℕ). t ++ drop n rest) (sym (put ∙ ap (take n) whole))
          ∙ ap (λ (t : List ℕ). take n c.put_piece-count.new.buffer ++ t) (drop-drop n s.taken s.bytes),
      λ none some. drop_all (s.taken + n) s.bytes (omega (arith, long, count, cut, c.self.invariant)),
    )
