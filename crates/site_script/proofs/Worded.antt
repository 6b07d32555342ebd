-- The words of a line are what its spaces part.
use Rattle.std.proofs.Common.{◌≡◌, ◌≢◌, ℕ, List, [], ◌∷◌, ◌++◌, Bool, true, false, cond, refl, sym, ap, ◌∙◌}
use Rattle.std.proofs.Common.{inl, inr, ◌==◌, append_assoc}
use Rattle.std.specs.Prelude.{not}
use Rattle.std.specs.List.{filter, flat_map, join_with_byte}
use Rattle.std.proofs.lemmas.List.{append-nil}
use Rattle.std.proofs.lemmas.Bool.{eqb-true, eqb-false}
use Rattle.archive_model.specs.Members.{Has}
use Rattle.site_script.specs.Words.{a_word, words_from, words_of}
use Rattle.site_script.specs.WordLaws.{HasNoSpace, AreWords, JoinedWordsAreRead, WordsAreRead, WordsAreTheText}

-- ---- words joined by spaces

is_no_space : (b : ℕ) (c : Bool) → (b == 32) ≡ c → b ≢ 32 → c ≡ false
is_no_space b true is bare = absurd (bare (eqb-true b 32 is))
is_no_space b false is bare = refl

read_on : (b : ℕ) (front rest : List ℕ) → b ≢ 32 → words_from front (b ∷ rest) ≡ words_from (front ++ b ∷ []) rest
read_on b front rest bare =
    ap (λ (c : Bool). cond c (a_word front ++ words_from [] rest) (words_from (front ++ b ∷ []) rest))
    (is_no_space b (b == 32) refl bare)

-- Bytes that are no spaces go to the word in hand.
gathered : (front word rest : List ℕ) → HasNoSpace word → words_from front (word ++ rest)
    ≡ words_from (front ++ word) rest
gathered front [] rest bare = ap (λ (f : List ℕ). words_from f rest) (sym (append-nil front))
gathered front (b ∷ word) rest bare =
    read_on b front (word ++ rest) (bare b (inl refl))
    ∙ gathered (front ++ b ∷ []) word rest (λ x has. bare x (inr has))
    ∙ ap (λ (f : List ℕ). words_from f rest) (append_assoc front (b ∷ []) word)

one_word : (word : List ℕ) → word ≢ [] → a_word word ≡ word ∷ []
one_word [] some = absurd (some refl)
one_word (b ∷ word) some = refl

pub joined_read : JoinedWordsAreRead
joined_read [] are = refl
joined_read (w ∷ []) (some, bare, more) =
    ap (words_from []) (sym (append-nil w)) ∙ gathered [] w [] bare ∙ one_word w some
joined_read (w ∷ v ∷ ws) (some, bare, more) =
    gathered [] w (32 ∷ join_with_byte 32 (v ∷ ws)) bare
    ∙ ap (λ (words : List (List ℕ)). words ++ words_of (join_with_byte 32 (v ∷ ws))) (one_word w some)
    ∙ ap (λ (words : List (List ℕ)). w ∷ words) (joined_read (v ∷ ws) more)

-- ---- what is read are words

are_word : (front : List ℕ) → HasNoSpace front → AreWords (a_word front)
are_word [] bare = tt
are_word (b ∷ front) bare = (λ e. absurd cc, bare, tt)

are_more : (xs ys : List (List ℕ)) → AreWords xs → AreWords ys → AreWords (xs ++ ys)
are_more [] ys one more = more
are_more (x ∷ xs) ys (some, bare, rest) more = (some, bare, are_more xs ys rest more)

with_byte : (front : List ℕ) (b x : ℕ) → HasNoSpace front → b ≢ 32 → Has (front ++ b ∷ []) x → x ≢ 32
with_byte [] b x bare here (inl e) is = here (sym e ∙ is)
with_byte [] b x bare here (inr has) is = absurd has
with_byte (c ∷ front) b x bare here (inl e) is = bare c (inl refl) (sym e ∙ is)
with_byte (c ∷ front) b x bare here (inr has) is = with_byte front b x (λ y h. bare y (inr h)) here has is

are_by : (b : ℕ) (c : Bool) (front : List ℕ) (xs ys : List (List ℕ)) → (b == 32) ≡ c → HasNoSpace front → AreWords xs
    → (HasNoSpace (front ++ b ∷ []) → AreWords ys) → AreWords (cond c (a_word front ++ xs) ys)
are_by b true front xs ys is bare one more = are_more (a_word front) xs (are_word front bare) one
are_by b false front xs ys is bare one more = more (λ x has. with_byte front b x bare (eqb-false b 32 is) has)

are_from : (front rest : List ℕ) → HasNoSpace front → AreWords (words_from front rest)
are_from front [] bare = are_word front bare
are_from front (b ∷ rest) bare =
    are_by b (b == 32) front (words_from [] rest) (words_from (front ++ b ∷ []) rest) refl bare
    (are_from [] rest (λ x has. absurd has)) (are_from (front ++ b ∷ []) rest)

pub words_read : WordsAreRead
words_read line = are_from [] line (λ x has. absurd has)

-- ---- and they are the text

abbrev joined_up : List (List ℕ) → List ℕ
joined_up words = flat_map (λ word. word) words

up_word : (front : List ℕ) → joined_up (a_word front) ≡ front
up_word [] = refl
up_word (b ∷ front) = append-nil (b ∷ front)

up_more : (xs ys : List (List ℕ)) → joined_up (xs ++ ys) ≡ joined_up xs ++ joined_up ys
up_more [] ys = refl
up_more (x ∷ xs) ys = ap (λ (t : List ℕ). x ++ t) (up_more xs ys) ∙ sym (append_assoc x (joined_up xs) (joined_up ys))

up_by : (b : ℕ) (c : Bool) (front text : List ℕ) (xs ys : List (List ℕ)) → joined_up xs ≡ text →
    joined_up ys ≡ (front ++ b ∷ []) ++ text
    → joined_up (cond c (a_word front ++ xs) ys) ≡ front ++ cond (not c) (b ∷ text) text
up_by b true front text xs ys one more =
    up_more (a_word front) xs ∙ ap (λ (t : List ℕ). t ++ joined_up xs) (up_word front)
    ∙ ap (λ (t : List ℕ). front ++ t) one
up_by b false front text xs ys one more = more ∙ append_assoc front (b ∷ []) text

up_from : (front rest : List ℕ) → joined_up (words_from front rest) ≡ front ++ filter (λ b. not (b == 32)) rest
up_from front [] = up_word front ∙ sym (append-nil front)
up_from front (b ∷ rest) =
    up_by b (b == 32) front (filter (λ x. not (x == 32)) rest) (words_from [] rest) (words_from (front ++ b ∷ []) rest)
    (up_from [] rest) (up_from (front ++ b ∷ []) rest)

pub words_text : WordsAreTheText
words_text line = up_from [] line
