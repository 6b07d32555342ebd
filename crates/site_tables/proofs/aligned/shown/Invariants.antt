use Rattle.std.proofs.Common.{◌≡◌, ◌++◌, map}
use Rattle.std.specs.Char.{encode_utf8}
use Rattle.std.specs.List.{flat_map}
use Rattle.std.specs.String.{string_bytes}
use Rattle.bstr.specs.Utf8.{lossy_chars}
use Rattle.site_tables.specs.Aligned.{shown_char}
use Rattle.site_tables.proofs.aligned.shown.Given as goal

-- With what is shown of the characters that are left the text is whole.
abbrev pub invariant-loop-c : goal.invariant-loop-c
invariant-loop-c l = string_bytes l.out ++ flat_map encode_utf8 (map shown_char l.c-iterator)
    ≡ flat_map encode_utf8 (map shown_char (lossy_chars l.fn.text))
