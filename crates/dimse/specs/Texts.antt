-- The texts that fragments are cut from: the same, however they were cut (PS3.8, annex E).
use Rattle.std.specs.Prelude.{Bool, true, false, not, ◌==◌, ◌&&◌, List, [], ◌∷◌, ◌++◌, if◌then◌else◌}
use Rattle.octets.specs.Bytes.{IsBytes}
use Rattle.pdu.specs.declared.pdv.Pdv.{Pdv}

abbrev pub same_flag : Bool → Bool → Bool
same_flag true b = b
same_flag false b = not b

-- Two fragments are of one text: the first is not its last, and both are on one context and of one kind.
abbrev pub go_together : Pdv → Pdv → Bool
go_together p q = not p.last && (p.context == q.context && same_flag p.command q.command)

-- both as one fragment
abbrev pub as_one : Pdv → Pdv → Pdv
as_one p q = record { context = q.context; command = q.command; last = q.last; fragment = p.fragment ++ q.fragment }

-- one fragment more in front of texts
abbrev pub before_texts : Pdv → List Pdv → List Pdv
before_texts p [] = p ∷ []
before_texts p (t ∷ ts) = if go_together p t then as_one p t ∷ ts else p ∷ t ∷ ts

-- Each text as one fragment: its context, its kind, whether its last fragment came, and its bytes.
abbrev pub texts_in : List Pdv → List Pdv
texts_in [] = []
texts_in (p ∷ ps) = before_texts p (texts_in ps)

-- Each fragment is one of bytes, as its type keeps.
abbrev pub AreFragments : List Pdv → Type 0
AreFragments [] = Unit {0}
AreFragments (p ∷ ps) = IsBytes p.fragment × AreFragments ps
