-- What a request at the desk says.
use Rattle.std.specs.Prelude.{◌≡◌, ◌⊎◌, ℕ, List, Some, None, Bool, Result, Ok, Err, ◌==◌, cond, take, codes}
use Rattle.std.specs.List.{position_or_len}
use Rattle.std.specs.Str.{IsUtf8, str_eq_ignore_ascii_case}
use Rattle.form_urlencoded.specs.Form.{raw_pairs}
use Rattle.json.specs.Json.{document}
use Rattle.octets.specs.Padding.{trimmed}
use Rattle.octets.specs.Texts.{same}
use Rattle.site_desk.specs.declared.asking.Kind.{Kind}
use Rattle.site_desk.specs.declared.asking.Kind.TheVariants.{Form, Object}
use Rattle.site_desk.specs.declared.fault.DeskFault.{DeskFault}
use Rattle.site_desk.specs.declared.fault.DeskFault.TheVariants.{NoPath, NoPost, HasOrigin, NoKind, NoForm, NoObject}
use Rattle.site_desk.specs.declared.fault.DeskFault.TheVariants.{ForeignHost, Memory}
use Rattle.site_desk.specs.declared.words.Words.{Words}
use Rattle.site_desk.specs.Forms as forms
use Rattle.site_desk.specs.Objects as objects

-- a request: whether its host is one of the site's, its method and path, the media type of its body, whether it names
-- an origin, and its body
pub record Posting : Type 0 where
  pub is_here : Bool
  pub method : List ℕ
  pub path : List ℕ
  pub media : List ℕ
  pub has_origin : Bool
  pub body : List ℕ

-- a media type without its parameters (RFC 9110, 8.3.1)
abbrev pub type_in : List ℕ → List ℕ
type_in media = trimmed (take (position_or_len (λ b. b == 59) media) media)

-- what words stand in, by the media type, in letters of any size
abbrev pub kind_in : List ℕ → Result Kind DeskFault
kind_in media =
    cond (str_eq_ignore_ascii_case (type_in media) (codes "application/x-www-form-urlencoded")) (Ok Form)
    (cond (str_eq_ignore_ascii_case (type_in media) (codes "application/json")) (Ok Object) (Err NoKind))

-- what the words of a request stand in, or the first reason why it asks for no correction
abbrev pub kind_asked : Posting → Result Kind DeskFault
kind_asked posted =
    cond posted.is_here
    (cond (same posted.path (codes "/correct"))
    (cond (same posted.method (codes "POST"))
    (cond posted.has_origin (Err HasOrigin) (kind_in posted.media)) (Err NoPost)) (Err NoPath)) (Err ForeignHost)

abbrev pub SaysBy : Result Kind DeskFault → List ℕ → Words → Type 0
SaysBy (Ok Form) body words = forms.words_in (raw_pairs body) ≡ Some words
SaysBy (Ok Object) body words = IsUtf8 body × (objects.words_in (document body) ≡ Some words)
SaysBy (Err reason) body words = ⊥

-- a request asks for a correction, and these are its words
abbrev pub Says : Posting → Words → Type 0
Says posted words = SaysBy (kind_asked posted) posted.body words

abbrev pub SaysNoneBy : Result Kind DeskFault → List ℕ → DeskFault → Type 0
SaysNoneBy (Ok Form) body fault = (fault ≡ Memory) ⊎ ((fault ≡ NoForm) × (forms.words_in (raw_pairs body) ≡ None))
SaysNoneBy (Ok Object) body fault =
    (fault ≡ Memory) ⊎ ((fault ≡ NoObject) × (IsUtf8 body → objects.words_in (document body) ≡ None))
SaysNoneBy (Err reason) body fault = fault ≡ reason

-- a request asks for none, or says no four words, for this reason; or memory was refused
abbrev pub SaysNone : Posting → DeskFault → Type 0
SaysNone posted fault = SaysNoneBy (kind_asked posted) posted.body fault
