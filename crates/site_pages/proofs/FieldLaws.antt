-- Fields that are put one behind the other.
use Rattle.std.proofs.Common.{◌≡◌, ℕ, List, [], ◌∷◌, ◌++◌, ap, ◌∙◌}
use Rattle.std.proofs.lemmas.List.{append_assoc}
use Rattle.http_header.specs.FieldValue.{FieldValue, plain_value}
use Rattle.http1.specs.Fields.{Header}

abbrev header : List ℕ → List ℕ → Header
header name bytes = (name, bytes)

-- a field of a name and a value
pub field : (name word : List ℕ) (value : FieldValue) (bytes : List ℕ) → name ≡ word → value ≡ plain_value bytes
    → header name value.bytes ≡ header word bytes
field name word value bytes p q =
    ap (λ (x : List ℕ). header x value.bytes) p ∙ ap (λ (v : FieldValue). header word v.bytes) q

-- three fields behind those that were there
pub three : (old one two : List Header) (a b c x y z : Header) → one ≡ old ++ a ∷ [] → two ≡ one ++ b ∷ []
    → a ≡ x → b ≡ y → c ≡ z → two ++ c ∷ [] ≡ old ++ x ∷ y ∷ z ∷ []
three old one two a b c x y z first second p q r =
    ap (λ (t : List Header). t ++ c ∷ []) (second ∙ ap (λ (t : List Header). t ++ b ∷ []) first)
    ∙ append_assoc (old ++ a ∷ []) (b ∷ []) (c ∷ []) ∙ append_assoc old (a ∷ []) (b ∷ c ∷ [])
    ∙ ap (λ (h : Header). old ++ h ∷ b ∷ c ∷ []) p ∙ ap (λ (h : Header). old ++ x ∷ h ∷ c ∷ []) q
    ∙ ap (λ (h : Header). old ++ x ∷ y ∷ h ∷ []) r
