use Rattle.std.proofs.Common.{rules, ◌≡◌, ◌∙◌, ◌++◌, [], sym, ap, map, append-nil}
use Rattle.std.specs.Char.{encode_utf8}
use Rattle.std.specs.List.{flat_map}
use Rattle.std.specs.String.{string_bytes}
use Rattle.site_tables.specs.Aligned.{shown_char, shown_text}
use Rattle.site_tables.proofs.aligned.shown.Goals as goal

-- No character is left.
pub returns : goal.returns
unfolding shown_text
returns c =
    let gone : c.loop-c.c-iterator ≡ [] = search rules in
    sym (append-nil (string_bytes c.loop-c.out))
    ∙ ap (λ cs. string_bytes c.loop-c.out ++ flat_map encode_utf8 (map shown_char cs)) (sym gone)
    ∙ c.loop-c.invariant
