-- Unique identifiers (PS3.5, 9.1).
use Rattle.std.specs.Prelude.{ℕ, Bool, List, length, ◌&&◌, ◌||◌, not, ◌==◌, nat_le, IsTrue}
use Rattle.std.specs.List.{list_all}

-- a digit or a full stop
abbrev pub is_uid_byte : ℕ → Bool
is_uid_byte byte = (nat_le 48 byte && nat_le byte 57) || byte == 46

-- 1 to 64 digits and full stops
unfoldable pub is_uid_text : List ℕ → Bool
is_uid_text text = not (length text == 0) && nat_le (length text) 64 && list_all is_uid_byte text

abbrev pub IsUid : List ℕ → Type 0
IsUid text = IsTrue (is_uid_text text)
