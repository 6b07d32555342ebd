-- What a line of a script asks for.
use Rattle.std.specs.Prelude.{ℕ, List, [], ◌∷◌, Option, Some, None, ◌==◌, if◌then◌else◌, map, codes}
use Rattle.operation.specs.declared.target.Target.{Target}
use Rattle.operation.specs.declared.target.Target.TheVariants.{Study, Patient, Series}
use Rattle.archive_model.specs.declared.view.View.{View}
use Rattle.site_script.specs.declared.key.Key.{Key}
use Rattle.site_script.specs.declared.verb.Verb.{Verb}
use Rattle.site_script.specs.declared.verb.Verb.TheVariants.{Site as verb_site, Image as verb_image, Note as verb_note}
use Rattle.site_script.specs.declared.verb.Verb.TheVariants.{Correct as verb_correct, Find as verb_find}
use Rattle.site_script.specs.declared.verb.Verb.TheVariants.{Get as verb_get, Same as verb_same}
use Rattle.site_script.specs.declared.verb.Verb.TheVariants.{Offer as verb_offer, Buckets as verb_buckets}
use Rattle.site_script.specs.declared.verb.Verb.TheVariants.{Deliver as verb_deliver, Old as verb_old}
use Rattle.site_script.specs.declared.verb.Verb.TheVariants.{Flagged as verb_flagged, Other as verb_other}
use Rattle.site_script.specs.declared.command.Command.{Command}
use Rattle.site_script.specs.declared.command.ImageLine.{ImageLine}
use Rattle.site_script.specs.declared.command.Command.TheVariants.{Skip, Bad, Site, Image, Note, Correct, Find, Get}
use Rattle.site_script.specs.declared.command.Command.TheVariants.{Offer, Buckets, Deliver, Old, Same, Flagged}
use Rattle.site_script.specs.Words.{words_of, uid_in}
use Rattle.site_script.specs.Names.{is, is_site_name, tag_in, view_in}
use Rattle.site_script.specs.Numbers.{number_in}
use Rattle.site_script.specs.Keys.{keys_in}
use Rattle.site_script.specs.Retrieves.{named_keys}

-- the first word of a line
unfoldable pub verb_of : List ℕ → Verb
verb_of word =
    if is word (codes "site") then verb_site
    else if is word (codes "image") then verb_image
    else if is word (codes "note") then verb_note
    else if is word (codes "correct") then verb_correct
    else if is word (codes "find") then verb_find
    else if is word (codes "get") then verb_get
    else if is word (codes "offer") then verb_offer
    else if is word (codes "buckets") then verb_buckets
    else if is word (codes "deliver") then verb_deliver
    else if is word (codes "old") then verb_old
    else if is word (codes "same") then verb_same
    else if is word (codes "flagged") then verb_flagged
    else verb_other

-- site A
abbrev pub site_in : List (List ℕ) → Command
site_in (name ∷ []) = if is_site_name name then Site name else Bad
site_in _ = Bad

abbrev pub image_parts : List ℕ → List ℕ → List ℕ → List ℕ → List ℕ → List ℕ → ImageLine
image_parts site study series instance patient name =
    record {
      site = site;
      study = uid_in study;
      series = uid_in series;
      instance = uid_in instance;
      patient =
          patient;
      name = name;
    }

-- image A STUDY SERIES INSTANCE PATIENTID NAME
abbrev pub image_in : List (List ℕ) → Command
image_in (site ∷ study ∷ series ∷ instance ∷ patient ∷ name ∷ []) =
    Image (image_parts site study series instance patient name)
image_in _ = Bad

-- note A TITLE STUDY NOTEUID UID..
abbrev pub note_in : List (List ℕ) → Command
note_in (site ∷ title ∷ study ∷ note ∷ uid ∷ uids) =
    Note (record {
      site = site;
      title = title;
      study = uid_in study;
      note = uid_in note;
      covers =
          map uid_in (uid ∷ uids);
    })
note_in _ = Bad

-- a word for a kind of target, and its key
unfoldable pub target_in : List ℕ → List ℕ → Option Target
target_in kind key =
    if is kind (codes "study") then Some (Study key)
    else if is kind (codes "patient") then Some (Patient key)
    else if is kind (codes "series") then Some (Series key)
    else None

abbrev pub correct_for : List ℕ → Option Target → Option ℕ → List ℕ → Command
correct_for site (Some target) (Some tag) value =
    Correct (record { site = site; target = target; tag = tag; value = value })
correct_for site _ _ value = Bad

-- correct A study KEY TAG VALUE, or patient, or series
abbrev pub correct_in : List (List ℕ) → Command
correct_in (site ∷ kind ∷ key ∷ tag ∷ value ∷ []) = correct_for site (target_in kind key) (tag_in tag) value
correct_in _ = Bad

abbrev pub find_for : List ℕ → Option View → Option (List Key) → Command
find_for site (Some view) (Some keys) = Find (record { site = site; view = view; keys = keys })
find_for site _ _ = Bad

-- find A VIEW LEVEL TAG=VALUE..
abbrev pub find_in : List (List ℕ) → Command
find_in (site ∷ view ∷ level ∷ keys) = find_for site (view_in view) (keys_in level keys)
find_in _ = Bad

abbrev pub get_for : List ℕ → Option View → List ℕ → List (List ℕ) → Command
get_for site (Some view) level uids = Get (record { site = site; view = view; keys = named_keys level uids })
get_for site None level uids = Bad

-- get A VIEW LEVEL UID..
abbrev pub get_in : List (List ℕ) → Command
get_in (site ∷ view ∷ level ∷ uid ∷ uids) = get_for site (view_in view) level (map uid_in (uid ∷ uids))
get_in _ = Bad

-- offer A B
abbrev pub offer_in : List (List ℕ) → Command
offer_in (from ∷ to ∷ []) = Offer from to
offer_in _ = Bad

-- buckets A B
abbrev pub buckets_in : List (List ℕ) → Command
buckets_in (from ∷ to ∷ []) = Buckets from to
buckets_in _ = Bad

abbrev pub deliver_for : Option ℕ → Command
deliver_for (Some number) = Deliver number
deliver_for None = Bad

-- deliver N
abbrev pub deliver_in : List (List ℕ) → Command
deliver_in (word ∷ []) = deliver_for (number_in word)
deliver_in _ = Bad

-- old A
abbrev pub old_in : List (List ℕ) → Command
old_in (site ∷ []) = Old site
old_in _ = Bad

-- same A B
abbrev pub same_in : List (List ℕ) → Command
same_in (a ∷ b ∷ []) = Same a b
same_in _ = Bad

-- flagged A
abbrev pub flagged_in : List (List ℕ) → Command
flagged_in (site ∷ []) = Flagged site
flagged_in _ = Bad

-- what a first word and the words behind it ask for
abbrev pub asked : Verb → List (List ℕ) → Command
asked verb_site words = site_in words
asked verb_image words = image_in words
asked verb_note words = note_in words
asked verb_correct words = correct_in words
asked verb_find words = find_in words
asked verb_get words = get_in words
asked verb_offer words = offer_in words
asked verb_buckets words = buckets_in words
asked verb_deliver words = deliver_in words
asked verb_old words = old_in words
asked verb_same words = same_in words
asked verb_flagged words = flagged_in words
asked verb_other words = Bad

abbrev pub command_in : List (List ℕ) → Command
command_in [] = Bad
command_in (word ∷ words) = asked (verb_of word) words

-- a line: skipped where it is empty or begins with `#`
abbrev pub command_of : List ℕ → Command
command_of [] = Skip
command_of (b ∷ line) = if b == 35 then Skip else command_in (words_of (b ∷ line))
