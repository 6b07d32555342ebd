-- How exchanges with one peer follow each other.
use Rattle.std.specs.Prelude.{◌≡◌, ℕ, ◌+◌, ◌-◌, ◌^◌, min, Bool, true, false, not, nat_lt, ◌&&◌, ◌||◌}
use Rattle.exchange.specs.declared.role.Ended.{Ended}

-- as many as are counted
abbrev pub counted : ℕ → ℕ
counted n = min n (2 ^ 64 - 1)

-- whether an exchange brought something: an operation was given, or one was taken that was new
abbrev pub has_brought : Ended → Bool
has_brought ended = nat_lt 0 ended.given || nat_lt 0 ended.taken

-- What exchanges came to, and one more behind them: all that was given and taken, and whether all fitted in each;
-- what could not be read, whether all was given that was asked for, and whether both agreed, the last tells.
abbrev pub with_last : Ended → Ended → Ended
with_last all last = record {
  given = counted (all.given + last.given);
  unread = last.unread;
  taken = counted (all.taken + last.taken);
  finished = last.finished;
  agreed = last.agreed;
  whole = all.whole && last.whole;
}

-- Whether one more follows the last of some, which all together came to this: the last is finished and brought
-- something, both do not agree, and in one of them not all fitted.
abbrev pub is_followed : Ended → Ended → Bool
is_followed all last = last.finished && (has_brought last && (not last.agreed && not all.whole))

-- Where all fits in the first it is the only one; and one that brought nothing, or agreed, is the last.
pub record RepeatsEnd : Type 0 where
  pub fits : (all last : Ended) → all.whole ≡ true → is_followed all last ≡ false
  pub idle : (all last : Ended) → last.given ≡ 0 → last.taken ≡ 0 → is_followed all last ≡ false
  pub agrees : (all last : Ended) → last.agreed ≡ true → is_followed all last ≡ false
  pub unfinished : (all last : Ended) → last.finished ≡ false → is_followed all last ≡ false
