-- What the desk reads of a request, part by part.
use Rattle.std.proofs.Common.{◌≡◌, ◌∙◌, ℕ, List, Bool, Option, Some, None, ap, refl}
use Rattle.std.specs.Borrow.{Bor}
use Rattle.std.specs.Option.{option_copied}
use Rattle.std.specs.Prelude.{is_some}
use Rattle.site_desk.specs.Posting.{Posting}

abbrev posting : Bool → List ℕ → List ℕ → List ℕ → Bool → List ℕ → Posting
posting is_here method path media has_origin body = record {
  is_here = is_here;
  method = method;
  path = path;
  media = media;
  has_origin = has_origin;
  body = body;
}

-- two are the same where their parts are
pub posting_is : (p q : Posting) → p.is_here ≡ q.is_here → p.method ≡ q.method → p.path ≡ q.path → p.media ≡ q.media
    → p.has_origin ≡ q.has_origin → p.body ≡ q.body → p ≡ q
posting_is p q h a b c d e =
    ap (λ (x : Bool). posting x p.method p.path p.media p.has_origin p.body) h
    ∙ ap (λ (x : List ℕ). posting q.is_here x p.path p.media p.has_origin p.body) a
    ∙ ap (λ (x : List ℕ). posting q.is_here q.method x p.media p.has_origin p.body) b
    ∙ ap (λ (x : List ℕ). posting q.is_here q.method q.path x p.has_origin p.body) c
    ∙ ap (λ (x : Bool). posting q.is_here q.method q.path q.media x p.body) d
    ∙ ap (λ (x : List ℕ). posting q.is_here q.method q.path q.media q.has_origin x) e

-- a borrowed value is there where the value is
pub some_copied : {A : Type 0} (o : Option (Bor A)) → is_some o ≡ is_some (option_copied o)
some_copied None = refl
some_copied (Some b) = refl
