-- What is made of prepared instances.
use Rattle.std.specs.Prelude.{◌≡◌, ℕ, List, [], ◌∷◌, Option, Some, None}
use Rattle.data_set.specs.declared.syntax.Syntax.{Syntax}
use Rattle.archive_model.specs.declared.accepts.Accepted.{Accepted}
use Rattle.archive_model.specs.declared.accepts.Form.{Form}
use Rattle.archive_model.specs.declared.prepared.Prepared.{Prepared}
use Rattle.archive_model.specs.declared.sending.Sending.{Sending}
use Rattle.archive_model.specs.Accepts.{form_for, syntax_of}
use Rattle.archive_model.specs.Prepared.{IsTextIn}

-- nothing where no accepted syntax serves
abbrev pub IsMadeBody : Prepared → Option Form → Option (Syntax × List ℕ) → Type 0
IsMadeBody p None body = body ≡ None
IsMadeBody p (Some form) body =
    (text : List ℕ) × (body ≡ Some (syntax_of form p.content.syntax, text)) × IsTextIn form p text

-- this is made of a prepared instance
pub record IsMadeSending (accepted : List Accepted) (p : Prepared) (sending : Sending) : Type 0 where
  pub class : sending.class ≡ p.content.class
  pub instance : sending.instance ≡ p.content.instance
  pub body : IsMadeBody p (form_for accepted p.content.class p.content.syntax) sending.body

-- these are made of some, one of each, in their order
abbrev pub AreMade : List Accepted → List Prepared → List Sending → Type 0
AreMade accepted [] [] = Unit {0}
AreMade accepted (p ∷ ps) (s ∷ sendings) = IsMadeSending accepted p s × AreMade accepted ps sendings
AreMade accepted [] (s ∷ sendings) = ⊥
AreMade accepted (p ∷ ps) [] = ⊥
