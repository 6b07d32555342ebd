-- The keys of a query, as TAG=VALUE words give them.
use Rattle.std.specs.Prelude.{◌≡◌, ℕ, true, false, List, [], ◌∷◌, Option, Some, None, Bool, not, nat_lt, ◌==◌, ◌||◌}
use Rattle.std.specs.Prelude.{if◌then◌else◌}
use Rattle.std.specs.Option.{option_map}
use Rattle.dictionary.specs.declared.elements.TheConstants.{QUERY_RETRIEVE_LEVEL}
use Rattle.data_set.specs.Tags.{is_item_tag, is_reserved_group, is_listed}
use Rattle.site_script.specs.declared.key.Key.{Key}
use Rattle.site_script.specs.Names.{tag_in}

abbrev pub and_then : {X Y : Type 0} → (X → Option Y) → Option X → Option Y
and_then f (Some x) = f x
and_then f None = None

-- Keys are asked by any tag but that of the level, those of sequences, and those that no data set has.
unfoldable pub is_askable : ℕ → Bool
is_askable tag = not (tag == QUERY_RETRIEVE_LEVEL || is_listed tag || is_reserved_group tag || is_item_tag tag)

abbrev pub key_from : List ℕ → Option ℕ → Option Key
key_from value (Some tag) = if is_askable tag then Some (record { tag = tag; value = value }) else None
key_from value None = None

-- eight digits, an equals sign, and the value, which may be empty
abbrev pub key_in : List ℕ → Option Key
key_in (a ∷ b ∷ c ∷ d ∷ e ∷ f ∷ g ∷ h ∷ sign ∷ value) = if sign == 61 then key_from
    value (tag_in (a ∷ b ∷ c ∷ d ∷ e ∷ f ∷ g ∷ h ∷ [])) else None
key_in _ = None

-- a key in its place among keys that ascend by tag; none where its tag is there
abbrev pub put_key : Key → List Key → Option (List Key)
put_key key [] = Some (key ∷ [])
put_key key (k ∷ keys) =
    if key.tag == k.tag then None
    else if nat_lt key.tag k.tag then Some (key ∷ k ∷ keys)
    else option_map (λ more. k ∷ more) (put_key key keys)

-- the keys of some words, with those of the words before them, ascending by tag; none where one of the words is no key
abbrev pub keys_from : List Key → List (List ℕ) → Option (List Key)
keys_from keys [] = Some keys
keys_from keys (word ∷ words) = and_then (λ more. keys_from more words)
    (and_then (λ key. put_key key keys) (key_in word))

-- the keys of a query: its level, and those of some words
abbrev pub keys_in : List ℕ → List (List ℕ) → Option (List Key)
keys_in level words = keys_from (record { tag = QUERY_RETRIEVE_LEVEL; value = level } ∷ []) words

-- a list became what is put, where anything is
abbrev pub Puts : Option (List Key) → Bool → List Key → Type 0
Puts (Some more) true keys = keys ≡ more
Puts None false keys = Unit {0}
Puts (Some more) false keys = ⊥
Puts None true keys = ⊥
