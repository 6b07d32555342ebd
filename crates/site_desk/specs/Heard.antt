-- What a running site answers (RFC 9112, 4 and 6).
use Rattle.std.specs.Prelude.{◌≡◌, ℕ, ◌≤◌, Bool, true, false, ◌==◌, List, length, Ok, IsTrue}
use Rattle.httparse.specs.Grammar.{ResponseHead, ReadsResponse, status_code}
use Rattle.http1.specs.declared.framing.Framing.{Framing}
use Rattle.http1.specs.declared.framing.Framing.TheVariants.{NoBody, Length, Chunked, UntilClose}
use Rattle.http1.specs.declared.framing.MethodKind.TheVariants.{Other}
use Rattle.http1.specs.Framing.{response_framing}
use Rattle.http1.specs.Message.{known_of}

-- whether a body of this length is the whole of one that is framed so: a site answers none in chunks
abbrev pub is_whole : Framing → ℕ → Bool
is_whole NoBody count = count == 0
is_whole (Length whole) count = whole == count
is_whole Chunked count = false
is_whole UntilClose count = true

-- a text is a response of at most 64 fields, and this is its body, in whole (RFC 9112, 6.3)
pub record HasBody (text body : List ℕ) : Type 0 where
  pub head : ResponseHead
  pub reads : ReadsResponse text head body
  pub few : length head.fields ≤ 64
  pub framing : Framing
  pub framed : response_framing Other (status_code head) head.minor (known_of head.fields) ≡ Ok framing
  pub whole : IsTrue (is_whole framing (length body))

-- a text begins with the head of a response, of at most 64 fields, whose status is this (RFC 9112, 4)
pub record HasStatus (text : List ℕ) (status : ℕ) : Type 0 where
  pub head : ResponseHead
  pub body : List ℕ
  pub reads : ReadsResponse text head body
  pub few : length head.fields ≤ 64
  pub is : status_code head ≡ status
