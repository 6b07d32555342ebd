-- What a line that is not too long asks for is made of data sets.
use Rattle.std.proofs.Common.{◌≡◌, ℕ, ◌+◌, ◌-◌, ◌^◌, ◌<◌, ◌≤◌, List, [], ◌∷◌, ◌++◌, length, codes, Bool, true, false}
use Rattle.std.proofs.Common.{cond, Option, Some, None, Result, Ok, Err, IfOk, refl, sym, ap, subst, ◌∙◌, arith, map}
use Rattle.std.proofs.Common.{length-append, ◌==◌}
use Rattle.std.specs.Prelude.{not, ◌||◌, ◌&&◌, nat_lt, nat_le}
use Rattle.std.specs.Int.{w32, from_be_bytes}
use Rattle.std.specs.Option.{option_map}
use Rattle.std.specs.List.{suffix_len}
use Rattle.std.proofs.lemmas.Bool.{eqb-false, ltb-false, lt-ltb, leb-true, and_parts as both}
use Rattle.std.proofs.lemmas.List.{length-take}
use Rattle.octets.specs.Padding.{trimmed}
use Rattle.data_set.specs.declared.syntax.Syntax.TheVariants.{Implicit}
use Rattle.dictionary.specs.Tags.{is_above}
use Rattle.data_set.specs.Tags.{is_item_tag, is_reserved_group, is_listed}
use Rattle.data_set.specs.Tree.{trees_of}
use Rattle.data_set.specs.Written.{AreTrees, IsSet}
use Rattle.operation.specs.declared.target.Target.{Target}
use Rattle.archive_model.specs.declared.view.View.{View}
use Rattle.site_script.specs.declared.key.Key.{Key}
use Rattle.site_script.specs.declared.verb.Verb.{Verb}
use Rattle.site_script.specs.declared.verb.Verb.TheVariants.{Site as verb_site, Image as verb_image, Note as verb_note}
use Rattle.site_script.specs.declared.verb.Verb.TheVariants.{Correct as verb_correct, Find as verb_find}
use Rattle.site_script.specs.declared.verb.Verb.TheVariants.{Get as verb_get, Same as verb_same}
use Rattle.site_script.specs.declared.verb.Verb.TheVariants.{Offer as verb_offer, Buckets as verb_buckets}
use Rattle.site_script.specs.declared.verb.Verb.TheVariants.{Deliver as verb_deliver, Old as verb_old}
use Rattle.site_script.specs.declared.verb.Verb.TheVariants.{Flagged as verb_flagged, Other as verb_other}
use Rattle.site_script.specs.declared.command.Command.{Command}
use Rattle.site_script.specs.declared.command.Command.TheVariants.{Skip, Bad, Site}
use Rattle.site_script.specs.Words.{a_word, words_from, words_of, uid_in}
use Rattle.site_script.specs.Names.{is as is_word, digit_of, byte_from, tag_from, tag_in, view_in, is_site_name}
use Rattle.dictionary.specs.declared.elements.TheConstants.{QUERY_RETRIEVE_LEVEL, SERIES_INSTANCE_UID, SOP_INSTANCE_UID}
use Rattle.dictionary.specs.declared.elements.TheConstants.{STUDY_INSTANCE_UID}
use Rattle.site_script.specs.Keys.{is_askable, key_from, key_in, put_key, keys_from, keys_in, and_then}
use Rattle.site_script.specs.Sets.{key_element, identifier}
use Rattle.site_script.specs.Commands.{command_of, command_in, asked, site_in, image_in, note_in, correct_in}
use Rattle.site_script.specs.Commands.{correct_for, target_in, find_in, find_for, get_in, get_for, same_in, flagged_in}
use Rattle.site_script.specs.Commands.{offer_in, buckets_in, deliver_in, deliver_for, old_in}
use Rattle.site_script.specs.Numbers.{number_in}
use Rattle.site_script.specs.Commands.{verb_of}
use Rattle.site_script.specs.Retrieves.{joined, first_in, behind_first, key_at, study_keys, series_keys}
use Rattle.site_script.specs.Retrieves.{image_keys, named_keys}
use Rattle.site_script.specs.Fitting.{IsShort, MakesSets}
use Rattle.site_script.proofs.Lawful.{leaf_stands, image_lawful, note_lawful, AllShort, MOST}

-- ---- words

append_short : (xs ys : List (List ℕ)) → AllShort xs → AllShort ys → AllShort (xs ++ ys)
append_short [] ys a b = b
append_short (x ∷ xs) ys (s, a) b = (s, append_short xs ys a b)

word_short : (front : List ℕ) → length front ≤ 65536 → AllShort (a_word front)
word_short [] short = tt
word_short (b ∷ front) short = (short, tt)

by_space : (c : Bool) (front rest : List ℕ) (b : ℕ) → AllShort (a_word front) → AllShort (words_from [] rest)
    → AllShort (words_from (front ++ (b ∷ [])) rest)
    → AllShort (cond c (a_word front ++ words_from [] rest) (words_from (front ++ (b ∷ [])) rest))
by_space true front rest b w x y = append_short _ _ w x
by_space false front rest b w x y = y

words_short : (front rest : List ℕ) → length front + length rest ≤ 65536 → AllShort (words_from front rest)
words_short front [] short = word_short front (omega (arith, short))
words_short front (b ∷ rest) short =
    by_space (b == 32) front rest b (word_short front (omega (arith, short)))
    (words_short [] rest (omega (arith, short)))
    (words_short (front ++ (b ∷ [])) rest (omega (arith, short, length-append front (b ∷ []))))

uid_short : (word : List ℕ) → length word ≤ 65536 → length (uid_in word) ≤ 65536
uid_short word short = omega (arith, short, length-take (length word - suffix_len (λ b. b == 0) word) word)

uids_short : (words : List (List ℕ)) → AllShort words → AllShort (map uid_in words)
uids_short [] short = tt
uids_short (w ∷ words) (s, more) = (uid_short w s, uids_short words more)

-- how many bytes some words have, with one behind each
abbrev weigh : List (List ℕ) → ℕ
weigh [] = 0
weigh (word ∷ words) = length word + 1 + weigh words

weigh_more : (xs ys : List (List ℕ)) → weigh (xs ++ ys) ≡ weigh xs + weigh ys
weigh_more [] ys = omega arith
weigh_more (x ∷ xs) ys = omega (arith, weigh_more xs ys)

weigh_word : (front : List ℕ) → weigh (a_word front) ≤ length front + 1
weigh_word [] = omega arith
weigh_word (b ∷ front) = omega arith

weigh_by : (c : Bool) (front : List ℕ) (xs ys : List (List ℕ)) (most : ℕ) → length front + 1 + weigh xs ≤ most
    → weigh ys ≤ most
    → weigh (cond c (a_word front ++ xs) ys) ≤ most
weigh_by true front xs ys most one more = omega (arith, weigh_more (a_word front) xs, weigh_word front, one)
weigh_by false front xs ys most one more = more

-- The words of a line weigh no more than the line and its end.
words_weigh : (front rest : List ℕ) → weigh (words_from front rest) ≤ length front + length rest + 1
words_weigh front [] = omega (arith, weigh_word front)
words_weigh front (b ∷ rest) =
    weigh_by (b == 32) front (words_from [] rest) (words_from (front ++ b ∷ []) rest)
    (length front + length (b ∷ rest) + 1)
    (omega (arith, words_weigh [] rest)) (omega (
      arith,
      words_weigh (front ++ b ∷ []) rest,
      length-append
          front (b ∷ []),
    ))

uids_weigh : (words : List (List ℕ)) → weigh (map uid_in words) ≤ weigh words
uids_weigh [] = omega arith
uids_weigh (w ∷ words) = omega (arith, uids_weigh words, length-take (length w - suffix_len (λ b. b == 0) w) w)

joined_weighs : (uids : List (List ℕ)) → length (joined uids) ≤ weigh uids
joined_weighs [] = omega arith
joined_weighs (u ∷ []) = omega arith
joined_weighs (u ∷ v ∷ uids) = omega (arith, joined_weighs (v ∷ uids), length-append u (92 ∷ joined (v ∷ uids)))

first_weighs : (uids : List (List ℕ)) → length (first_in uids) ≤ weigh uids
first_weighs [] = omega arith
first_weighs (u ∷ uids) = omega arith

behind_weighs : (uids : List (List ℕ)) → weigh (behind_first uids) ≤ weigh uids
behind_weighs [] = omega arith
behind_weighs (u ∷ uids) = omega arith

-- ---- tags

-- a digit is below 16
abbrev Small : Option ℕ → Type 0
Small None = Unit {0}
Small (Some d) = d < 16

by_ranges : (p q r : Bool) (b : ℕ) → (p ≡ true → b ≤ 57) → (q ≡ true → b ≤ 70) → (r ≡ true → b ≤ 102)
    → Small (cond p (Some (b - 48)) (cond q (Some (b - 55)) (cond r (Some (b - 87)) None)))
by_ranges true q r b one two three = let h : b ≤ 57 = one refl in omega (arith, h)
by_ranges false true r b one two three = let h : b ≤ 70 = two refl in omega (arith, h)
by_ranges false false true b one two three = let h : b ≤ 102 = three refl in omega (arith, h)
by_ranges false false false b one two three = tt

below : (low high b : ℕ) → (nat_le low b && nat_le b high) ≡ true → b ≤ high
below low high b e = leb-true b high (both (nat_le low b) (nat_le b high) e).1

digit_small : (b : ℕ) → Small (digit_of b)
unfolding digit_of
digit_small b = by_ranges (nat_le 48 b && nat_le b 57) (nat_le 65 b && nat_le b 70) (nat_le 97 b && nat_le b 102)
    b (below 48 57 b) (below 65 70 b) (below 97 102 b)

abbrev IsByte : Option ℕ → Type 0
IsByte None = Unit {0}
IsByte (Some d) = d < 256

byte_small : (x y : Option ℕ) → Small x → Small y → IsByte (byte_from x y)
byte_small None y a b = tt
byte_small (Some h) None a b = tt
byte_small (Some h) (Some l) a b = omega (arith, a, b)

abbrev IsTag : Option ℕ → Type 0
IsTag None = Unit {0}
IsTag (Some t) = t < 2 ^ 32

four : (a b c d : ℕ) → a < 256 → b < 256 → c < 256 → d < 256 → from_be_bytes w32 (a ∷ b ∷ c ∷ d ∷ []) < 2 ^ 32
four a b c d p q r s = omega (arith, p, q, r, s)

tag_small : (w x y z : Option ℕ) → IsByte w → IsByte x → IsByte y → IsByte z → IsTag (tag_from w x y z)
tag_small None x y z p q r s = tt
tag_small (Some a) None y z p q r s = tt
tag_small (Some a) (Some b) None z p q r s = tt
tag_small (Some a) (Some b) (Some c) None p q r s = tt
tag_small (Some a) (Some b) (Some c) (Some d) p q r s = four a b c d p q r s

eight_small : (a b c d e f g h : ℕ) → IsTag (tag_in (a ∷ b ∷ c ∷ d ∷ e ∷ f ∷ g ∷ h ∷ []))
eight_small a b c d e f g h =
    tag_small _ _ _ _ (byte_small _ _ (digit_small a) (digit_small b)) (byte_small _ _ (digit_small c) (digit_small d))
    (byte_small _ _ (digit_small e) (digit_small f)) (byte_small _ _ (digit_small g) (digit_small h))

-- ---- keys

pub record Fine (key : Key) : Type 0 where
  pub tag : key.tag < 2 ^ 32
  pub value : length key.value ≤ MOST
  pub item : is_item_tag key.tag ≡ false
  pub reserved : is_reserved_group key.tag ≡ false
  pub listed : is_listed key.tag ≡ false

abbrev IsFine : Option Key → Type 0
IsFine None = Unit {0}
IsFine (Some key) = Fine key

by_tests : (l s r i : Bool) → not (l || s || r || i) ≡ true → (s ≡ false) × (r ≡ false) × (i ≡ false)
by_tests false false false false e = (refl, refl, refl)
by_tests true s r i e = absurd cc
by_tests false true r i e = absurd cc
by_tests false false true i e = absurd cc
by_tests false false false true e = absurd cc

askable_fine : (tag : ℕ) (value : List ℕ) → tag < 2 ^ 32 → length value ≤ 65536 → is_askable tag ≡ true
    → Fine (record { tag = tag; value = value })
unfolding is_askable
askable_fine tag value fits short e =
    let tests = by_tests (tag == QUERY_RETRIEVE_LEVEL) (is_listed tag) (is_reserved_group tag) (is_item_tag tag) e in
    record { tag = fits; value = omega (arith, short); item = tests.2; reserved = tests.1; listed = tests.0 }

by_askable : (b : Bool) (tag : ℕ) (value : List ℕ) → is_askable tag ≡ b → tag < 2 ^ 32 → length value ≤ 65536
    → IsFine (cond b (Some (record { tag = tag; value = value })) None)
by_askable true tag value e fits short = askable_fine tag value fits short e
by_askable false tag value e fits short = tt

from_fine : (value : List ℕ) (t : Option ℕ) → IsTag t → length value ≤ 65536 → IsFine (key_from value t)
from_fine value None fits short = tt
from_fine value (Some tag) fits short = by_askable (is_askable tag) tag value refl fits short

by_sign : (b : Bool) (k : Option Key) → IsFine k → IsFine (cond b k None)
by_sign true k fine = fine
by_sign false k fine = tt

key_fine : (word : List ℕ) → length word ≤ 65536 → IsFine (key_in word)
key_fine [] s = tt
key_fine (a ∷ []) s = tt
key_fine (a ∷ b ∷ []) s = tt
key_fine (a ∷ b ∷ c ∷ []) s = tt
key_fine (a ∷ b ∷ c ∷ d ∷ []) s = tt
key_fine (a ∷ b ∷ c ∷ d ∷ e ∷ []) s = tt
key_fine (a ∷ b ∷ c ∷ d ∷ e ∷ f ∷ []) s = tt
key_fine (a ∷ b ∷ c ∷ d ∷ e ∷ f ∷ g ∷ []) s = tt
key_fine (a ∷ b ∷ c ∷ d ∷ e ∷ f ∷ g ∷ h ∷ []) s = tt
key_fine (a ∷ b ∷ c ∷ d ∷ e ∷ f ∷ g ∷ h ∷ sign ∷ value) s = by_sign (sign == 61)
    _ (from_fine value _ (eight_small a b c d e f g h) (omega (arith, s)))

-- keys that ascend behind a tag
abbrev pub AreKeys : Option ℕ → List Key → Type 0
AreKeys p [] = Unit {0}
AreKeys p (k ∷ keys) = (is_above p k.tag ≡ true) × Fine k × AreKeys (Some k.tag) keys

abbrev Kept : Option ℕ → Option (List Key) → Type 0
Kept p None = Unit {0}
Kept p (Some keys) = AreKeys p keys

kept_behind : (p : Option ℕ) (k : Key) (r : Option (List Key)) → is_above p k.tag ≡ true → Fine k → Kept (Some k.tag) r
    → Kept p (option_map (λ more. k ∷ more) r)
kept_behind p k None a f kept = tt
kept_behind p k (Some keys) a f kept = (a, f, kept)

by_place : (same less : Bool) (p : Option ℕ) (key k : Key) (keys : List Key) (r : Option (List Key))
    → (key.tag == k.tag) ≡ same → nat_lt key.tag k.tag ≡ less → is_above p key.tag ≡ true → Fine key
    → AreKeys p (k ∷ keys)
    → (is_above (Some k.tag) key.tag ≡ true → Kept (Some k.tag) r)
    → Kept p (cond same None (cond less (Some (key ∷ k ∷ keys)) (option_map (λ more. k ∷ more) r)))
by_place true less p key k keys r s l above fine are later = tt
by_place false true p key k keys r s l above fine are later = (above, fine, (l, are.1, are.2))
by_place false false p key k keys r s l above fine are later =
    let no_less : k.tag ≤ key.tag = ltb-false key.tag k.tag l in
    kept_behind p k r are.0 are.1 (later (lt-ltb k.tag key.tag (greater (eqb-false key.tag k.tag s) no_less)))
  where
    greater : (key.tag ≡ k.tag → ⊥) → k.tag ≤ key.tag → k.tag < key.tag
    greater other h = omega (arith, other, h)

put_keeps : (p : Option ℕ) (key : Key) (keys : List Key) → is_above p key.tag ≡ true → Fine key → AreKeys p keys
    → Kept p (put_key key keys)
put_keeps p key [] above fine are = (above, fine, tt)
put_keeps p key (k ∷ keys) above fine are =
    by_place (key.tag == k.tag) (nat_lt key.tag k.tag) p key k keys (put_key key keys) refl refl above fine
    are (λ later. put_keeps (Some k.tag) key keys later fine are.2)

put_word : (keys : List Key) (k : Option Key) → IsFine k → AreKeys None keys
    → Kept None (and_then (λ key. put_key key keys) k)
put_word keys None fine are = tt
put_word keys (Some key) fine are = put_keeps None key keys refl fine are

then_keep : (r : Option (List Key)) (f : List Key → Option (List Key)) → Kept None r
    → ((keys : List Key) → AreKeys None keys → Kept None (f keys)) → Kept None (and_then f r)
then_keep None f kept keeps = tt
then_keep (Some keys) f kept keeps = keeps keys kept

keys_keep : (keys : List Key) (words : List (List ℕ)) → AreKeys None keys → AllShort words
    → Kept None (keys_from keys words)
keys_keep keys [] are short = are
keys_keep keys (w ∷ words) are (s, more) =
    then_keep (and_then (λ key. put_key key keys) (key_in w)) (λ later. keys_from later words)
    (put_word keys (key_in w) (key_fine w s) are) (λ later kept. keys_keep later words kept more)

keys_stand : (n : ℕ) (p : Option ℕ) (keys : List Key) → AreKeys p keys → AreTrees (trees_of (map key_element keys)) n
    Implicit p
keys_stand n p [] are = tt
keys_stand n p (k ∷ keys) (a, fine, rest) = (
  leaf_stands p k.tag k.value fine.tag (omega (arith, fine.value)) fine.item a fine.reserved fine.listed,
  keys_stand
      n (Some k.tag) keys rest,
)

keys_lawful : (keys : List Key) → AreKeys None keys → IsSet Implicit (identifier keys)
unfolding IsSet identifier
keys_lawful keys are = keys_stand 16 None keys are

level_fine : (level : List ℕ) → length level ≤ 65536
    → AreKeys None (record { tag = QUERY_RETRIEVE_LEVEL; value = level } ∷ [])
level_fine level short = (
  refl,
  record {
    tag = omega arith;
    value = omega (arith, short);
    item = refl;
    reserved =
        refl;
    listed = refl;
  },
  tt,
)

-- ---- commands

find_lawful : (site : List ℕ) (view : Option View) (keys : Option (List Key)) → Kept None keys
    → MakesSets (find_for site view keys)
find_lawful site None keys kept = tt
find_lawful site (Some view) None kept = tt
find_lawful site (Some view) (Some keys) kept = keys_lawful keys kept

-- a key of a level or of UIDs
named_fine : (tag : ℕ) (value : List ℕ) → tag < 2 ^ 32 → length value ≤ 65600 → is_item_tag tag ≡ false
    → is_reserved_group tag ≡ false → is_listed tag ≡ false → Fine (key_at tag value)
named_fine tag value fits short item reserved listed = record {
  tag = fits;
  value = short;
  item = item;
  reserved =
      reserved;
  listed = listed;
}

by_level : (is_series is_image : Bool) (level : List ℕ) (uids : List (List ℕ)) → length level ≤ 65600
    → weigh uids ≤ 65600
    → AreKeys None (cond is_series (series_keys level uids) (cond is_image (image_keys level uids)
    (study_keys level uids)))
by_level true is_image level uids short few = (
  refl,
  named_fine QUERY_RETRIEVE_LEVEL level (omega arith) short refl refl refl,
  (
    refl,
    named_fine STUDY_INSTANCE_UID (first_in uids) (omega arith) (omega (arith, few, first_weighs uids)) refl refl refl,
    (
      refl,
      named_fine SERIES_INSTANCE_UID (joined (behind_first uids)) (omega arith)
          (omega (arith, few, behind_weighs uids, joined_weighs (behind_first uids))) refl refl refl,
      tt,
    ),
  ),
)
by_level false true level uids short few =
    let below = behind_first uids in (
      refl,
      named_fine SOP_INSTANCE_UID (joined (behind_first below)) (omega arith)
          (omega (arith, few, behind_weighs uids, behind_weighs below, joined_weighs (behind_first below))) refl refl
          refl,
      (
        refl,
        named_fine QUERY_RETRIEVE_LEVEL level (omega arith) short refl refl refl,
        (
          refl,
          named_fine STUDY_INSTANCE_UID (first_in uids) (omega arith) (omega (arith, few, first_weighs uids)) refl refl
              refl,
          (
            refl,
            named_fine SERIES_INSTANCE_UID (first_in below) (omega arith)
                (omega (arith, few, behind_weighs uids, first_weighs below)) refl refl refl,
            tt,
          ),
        ),
      ),
    )
by_level false false level uids short few = (
  refl,
  named_fine QUERY_RETRIEVE_LEVEL level (omega arith) short refl refl refl,
  (
    refl,
    named_fine STUDY_INSTANCE_UID (joined uids) (omega arith) (omega (arith, few, joined_weighs uids)) refl refl
        refl,
    tt,
  ),
)

get_lawful : (site : List ℕ) (view : Option View) (level : List ℕ) (uids : List (List ℕ)) → length level ≤ 65600
    → weigh uids ≤ 65600 → MakesSets (get_for site view level uids)
unfolding named_keys
get_lawful site None level uids short few = tt
get_lawful site (Some view) level uids short few =
    keys_lawful (named_keys level uids) (by_level (is_word (trimmed level) (codes "SERIES"))
    (is_word (trimmed level) (codes "IMAGE")) level uids short few)

correct_lawful : (site : List ℕ) (target : Option Target) (tag : Option ℕ) (value : List ℕ)
    → MakesSets (correct_for site target tag value)
correct_lawful site None tag value = tt
correct_lawful site (Some target) None value = tt
correct_lawful site (Some target) (Some tag) value = tt

by_name : (b : Bool) (name : List ℕ) → MakesSets (cond b (Site name) Bad)
by_name true name = tt
by_name false name = tt

site_lawful : (words : List (List ℕ)) → MakesSets (site_in words)
site_lawful [] = tt
site_lawful (name ∷ []) = by_name (is_site_name name) name
site_lawful (name ∷ other ∷ words) = tt

image_words : (words : List (List ℕ)) → AllShort words → MakesSets (image_in words)
image_words [] s = tt
image_words (a ∷ []) s = tt
image_words (a ∷ b ∷ []) s = tt
image_words (a ∷ b ∷ c ∷ []) s = tt
image_words (a ∷ b ∷ c ∷ d ∷ []) s = tt
image_words (a ∷ b ∷ c ∷ d ∷ e ∷ []) s = tt
image_words (a ∷ b ∷ c ∷ d ∷ e ∷ f ∷ []) s =
    image_lawful _ (record {
      study = uid_short b s.1.0;
      series = uid_short c s.1.1.0;
      instance = uid_short d s.1.1.1.0;
      patient = s.1.1.1.1.0;
      name = s.1.1.1.1.1.0;
    })
image_words (a ∷ b ∷ c ∷ d ∷ e ∷ f ∷ g ∷ words) s = tt

note_words : (words : List (List ℕ)) → AllShort words → MakesSets (note_in words)
note_words [] s = tt
note_words (a ∷ []) s = tt
note_words (a ∷ b ∷ []) s = tt
note_words (a ∷ b ∷ c ∷ []) s = tt
note_words (a ∷ b ∷ c ∷ d ∷ []) s = tt
note_words (a ∷ b ∷ c ∷ d ∷ e ∷ words) s =
    note_lawful _ (record {
      title = s.1.0;
      study = uid_short c s.1.1.0;
      note = uid_short d s.1.1.1.0;
      covers =
          uids_short (e ∷ words) s.1.1.1.1;
    })

correct_words : (words : List (List ℕ)) → MakesSets (correct_in words)
correct_words [] = tt
correct_words (a ∷ []) = tt
correct_words (a ∷ b ∷ []) = tt
correct_words (a ∷ b ∷ c ∷ []) = tt
correct_words (a ∷ b ∷ c ∷ d ∷ []) = tt
correct_words (a ∷ b ∷ c ∷ d ∷ e ∷ []) = correct_lawful a (target_in b c) (tag_in d) e
correct_words (a ∷ b ∷ c ∷ d ∷ e ∷ f ∷ words) = tt

find_words : (words : List (List ℕ)) → AllShort words → MakesSets (find_in words)
find_words [] s = tt
find_words (a ∷ []) s = tt
find_words (a ∷ b ∷ []) s = tt
find_words (a ∷ b ∷ c ∷ words) s = find_lawful a (view_in b) (keys_in c words) (keys_keep _ words (level_fine c s.1.1.0)
    s.1.1.1)

get_words : (words : List (List ℕ)) → weigh words ≤ 65537 → MakesSets (get_in words)
get_words [] few = tt
get_words (a ∷ []) few = tt
get_words (a ∷ b ∷ []) few = tt
get_words (a ∷ b ∷ c ∷ []) few = tt
get_words (a ∷ b ∷ c ∷ d ∷ words) few =
    get_lawful a (view_in b) c (map uid_in (d ∷ words)) (omega (arith, few))
    (omega (arith, few, uids_weigh (d ∷ words)))

same_words : (words : List (List ℕ)) → MakesSets (same_in words)
same_words [] = tt
same_words (a ∷ []) = tt
same_words (a ∷ b ∷ []) = tt
same_words (a ∷ b ∷ c ∷ words) = tt

flagged_words : (words : List (List ℕ)) → MakesSets (flagged_in words)
flagged_words [] = tt
flagged_words (a ∷ []) = tt
flagged_words (a ∷ b ∷ words) = tt

offer_words : (words : List (List ℕ)) → MakesSets (offer_in words)
offer_words [] = tt
offer_words (a ∷ []) = tt
offer_words (a ∷ b ∷ []) = tt
offer_words (a ∷ b ∷ c ∷ words) = tt

buckets_words : (words : List (List ℕ)) → MakesSets (buckets_in words)
buckets_words [] = tt
buckets_words (a ∷ []) = tt
buckets_words (a ∷ b ∷ []) = tt
buckets_words (a ∷ b ∷ c ∷ words) = tt

deliver_lawful : (number : Option ℕ) → MakesSets (deliver_for number)
deliver_lawful (Some number) = tt
deliver_lawful None = tt

deliver_words : (words : List (List ℕ)) → MakesSets (deliver_in words)
deliver_words [] = tt
deliver_words (a ∷ []) = deliver_lawful (number_in a)
deliver_words (a ∷ b ∷ words) = tt

old_words : (words : List (List ℕ)) → MakesSets (old_in words)
old_words [] = tt
old_words (a ∷ []) = tt
old_words (a ∷ b ∷ words) = tt

asked_lawful : (verb : Verb) (words : List (List ℕ)) → AllShort words → weigh words ≤ 65537
    → MakesSets (asked verb words)
asked_lawful verb_site words s few = site_lawful words
asked_lawful verb_image words s few = image_words words s
asked_lawful verb_note words s few = note_words words s
asked_lawful verb_correct words s few = correct_words words
asked_lawful verb_find words s few = find_words words s
asked_lawful verb_get words s few = get_words words few
asked_lawful verb_offer words s few = offer_words words
asked_lawful verb_buckets words s few = buckets_words words
asked_lawful verb_deliver words s few = deliver_words words
asked_lawful verb_old words s few = old_words words
asked_lawful verb_same words s few = same_words words
asked_lawful verb_flagged words s few = flagged_words words
asked_lawful verb_other words s few = tt

words_lawful : (words : List (List ℕ)) → AllShort words → weigh words ≤ 65537 → MakesSets (command_in words)
words_lawful [] s few = tt
words_lawful (word ∷ words) s few = asked_lawful (verb_of word) words s.1 (omega (arith, few))

line_lawful : (line : List ℕ) → IsShort line → MakesSets (command_in (words_of line))
line_lawful line short =
    words_lawful (words_of line) (words_short [] line (omega (arith, short)))
    (omega (arith, short, words_weigh [] line))

by_comment : (b : Bool) (line : List ℕ) → MakesSets (command_in (words_of line))
    → MakesSets (cond b Skip (command_in (words_of line)))
by_comment true line lawful = tt
by_comment false line lawful = lawful

pub command_lawful : (line : List ℕ) → IsShort line → MakesSets (command_of line)
command_lawful [] short = tt
command_lawful (b ∷ line) short = by_comment (b == 35) (b ∷ line) (line_lawful (b ∷ line) short)

-- what is read of the words of a line that is not too long
pub read_lawful : {E : Type 0} (line : List ℕ) (words slice : List (List ℕ)) (r : Result Command E) → slice ≡ words
    → words ≡ words_of line → IfOk r (λ command. command ≡ command_in slice) → IsShort line → IfOk r MakesSets
read_lawful line words slice (Ok command) whole are is short = subst MakesSets (sym (is ∙ ap command_in (whole ∙ are)))
    (line_lawful line short)
read_lawful line words slice (Err fault) whole are is short = tt
