-- What a desk reads of a correction that was sent.
use Rattle.std.proofs.Common.{◌≡◌, ℕ, List, Option, Some, refl, ap, ◌∙◌}
use Rattle.std.specs.Option.{option_and_then}
use Rattle.std.specs.Str.{IsUtf8}
use Rattle.json.specs.Lex.{tokens}
use Rattle.json.specs.Token.{Token}
use Rattle.json.specs.Json.{value, items, members, if_last}
use Rattle.site_desk.specs.declared.words.Words.{Words}
use Rattle.site_desk.specs.Objects.{words_in}
use Rattle.site_desk.specs.Sending.{member_of, correction_object, IsBodyOf}

-- the words of a document of these tokens
abbrev words_of : List Token → Option Words
words_of all = words_in (option_and_then (λ p. if_last p.0 p.1) (value 128 all))

words_again : (words : Words) → words_of (correction_object words) ≡ Some words
unfolding member_of correction_object value items members
words_again words = refl

-- a desk reads four words of what is written of them
pub is_body : (words : Words) (body : List ℕ) → IsUtf8 body → tokens body ≡ correction_object words
    → IsBodyOf words body
is_body words body utf8 object = (utf8, ap words_of object ∙ words_again words)
