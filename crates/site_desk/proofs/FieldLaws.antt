-- Fields that are put one behind the other.
use Rattle.std.proofs.Common.{◌≡◌, ℕ, List, [], ◌∷◌, ◌++◌, ap, ◌∙◌}
use Rattle.std.proofs.lemmas.List.{append_assoc}
use Rattle.http_header.specs.FieldValue.{FieldValue, plain_value}
use Rattle.http1.specs.Fields.{Header}

abbrev header : List ℕ → List ℕ → Header
header name bytes = (name, bytes)

-- a field of a name and a value
pub field : (name word : List ℕ) (value : FieldValue) (bytes : List ℕ) → name ≡ word → value ≡ plain_value bytes
    → header name value.bytes ≡ header word bytes
field name word value bytes p q =
    ap (λ (x : List ℕ). header x value.bytes) p ∙ ap (λ (v : FieldValue). header word v.bytes) q

-- two fields behind those that were there
two_behind : (old one : List Header) (a b x y : Header) → one ≡ old ++ a ∷ [] → a ≡ x → b ≡ y
    → one ++ b ∷ [] ≡ old ++ x ∷ y ∷ []
two_behind old one a b x y first p q =
    ap (λ (t : List Header). t ++ b ∷ []) first ∙ append_assoc old (a ∷ []) (b ∷ [])
    ∙ ap (λ (h : Header). old ++ h ∷ b ∷ []) p ∙ ap (λ (h : Header). old ++ x ∷ h ∷ []) q

-- and four
pub four : (old one two three : List Header) (a b c d x y z w : Header) → one ≡ old ++ a ∷ [] → two ≡ one ++ b ∷ []
    → three ≡ two ++ c ∷ [] → a ≡ x → b ≡ y → c ≡ z → d ≡ w → three ++ d ∷ [] ≡ old ++ x ∷ y ∷ z ∷ w ∷ []
four old one two three a b c d x y z w first second third p q r s =
    two_behind two three c d z w third r s
    ∙ ap (λ (t : List Header). t ++ z ∷ w ∷ []) (second ∙ two_behind old one a b x y first p q)
    ∙ append_assoc old (x ∷ y ∷ []) (z ∷ w ∷ [])
