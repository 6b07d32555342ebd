-- What a running site is sent.
use Rattle.std.specs.Prelude.{ℕ, List, [], ◌∷◌, ◌++◌, Ok, length, codes}
use Rattle.std.specs.Fmt.{decimal}
use Rattle.json.specs.Token.{Token, begin_object, end_object, key, string}
use Rattle.site_desk.specs.declared.asking.Kind.TheVariants.{Object}
use Rattle.site_desk.specs.declared.sending.FourWords.{FourWords}
use Rattle.site_desk.specs.declared.words.Words.{Words}
use Rattle.site_desk.specs.Posting.{SaysBy}

-- four words as a desk has them
abbrev pub said : FourWords → Words
said four = record { target = four.target.now; key = four.key.now; tag = four.tag.now; value = four.value.now }

-- a text as a member of an object
unfoldable pub member_of : List ℕ → List ℕ → List Token
member_of name text = key name ∷ string text ∷ []

-- four words as an object of JSON
unfoldable pub correction_object : Words → List Token
correction_object words =
    begin_object
    ∷ (member_of (codes "target") words.target ++ member_of (codes "key") words.key
    ++ member_of (codes "tag") words.tag ++ member_of (codes "value") words.value ++ end_object ∷ [])

-- a desk reads these words of a body that is an object of JSON
abbrev pub IsBodyOf : Words → List ℕ → Type 0
IsBodyOf words body = SaysBy (Ok Object) body words

-- what says of a body that it is JSON and how long it is, and the end of the head (RFC 9112, 6.2)
unfoldable pub length_fields : ℕ → List ℕ
length_fields count =
    codes "\r\ncontent-type: application/json\r\ncontent-length: " ++ decimal count ++ codes "\r\n\r\n"

-- the request that posts an object of JSON to the desk at an address (RFC 9112, 3)
unfoldable pub post_text : List ℕ → List ℕ → List ℕ
post_text address body =
    codes "POST /correct HTTP/1.1\r\nconnection: close\r\nhost: " ++ address ++ length_fields (length body) ++ body

-- a path, and the number of a page behind it
unfoldable pub target_of : List ℕ → ℕ → List ℕ
target_of path page = path ++ codes "?page=" ++ decimal page

-- the request for the page of a number at a path of an address
unfoldable pub get_text : List ℕ → List ℕ → ℕ → List ℕ
get_text address path page =
    codes "GET " ++ target_of path page ++ codes " HTTP/1.1\r\nconnection: close\r\nhost: " ++ address
    ++ codes "\r\n\r\n"
