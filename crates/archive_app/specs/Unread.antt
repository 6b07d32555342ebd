-- What is said of operations that can't be read.
use Rattle.std.specs.Prelude.{ℕ, List, [], ◌++◌, codes, Bool, true, false, Option, Some, None}
use Rattle.std.specs.Fmt.{decimal}
use Rattle.shelved_site.specs.declared.unreadable.Unreadable.{Unreadable}
use Rattle.archive_app.specs.Verified.{or_hyphen}

-- where its data set lies, where that is known
abbrev pub place_words : Option ℕ → List ℕ
place_words None = []
place_words (Some at) = codes ", byte " ++ (decimal at ++ codes " of bodies")

-- whether it may be a rejection note
abbrev pub hiding_words : Bool → List ℕ
hiding_words true = codes ", may be a rejection note"
hiding_words false = []

-- an operation that can't be read: the SOP Instance UID that it names, its digest, and more where it is known
abbrev pub unread_words : Unreadable → List ℕ
unread_words unread =
    codes "can't be read: SOP Instance UID " ++ (or_hyphen unread.damaged.instance
    ++ (codes ", digest " ++ (or_hyphen unread.damaged.digest
    ++ (place_words unread.place ++ hiding_words unread.may_hide))))
