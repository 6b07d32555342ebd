-- Whole texts.
use Rattle.std.proofs.Common.{◌≡◌, ℕ, List, [], ◌∷◌, Some, Result, Ok, Err, sym, ap, ◌∙◌}
use Rattle.data_set.specs.declared.fault.SetFault.{SetFault}
use Rattle.data_set.specs.declared.syntax.Syntax.{Syntax}
use Rattle.data_set.specs.declared.header.Closing.TheVariants.{Filled}
use Rattle.octets.specs.Gives.{Told}
use Rattle.octets.proofs.ByteLaws.{told_map}
use Rattle.data_set.specs.Fault.{is_memory}
use Rattle.data_set.specs.Tree.{Tree}
use Rattle.data_set.specs.Header.{end_at}
use Rattle.data_set.specs.Texts.{Elements, HasFault, Spells, deepest}
use Rattle.data_set.proofs.Once.{elements_once}

filled : (rest after : List ℕ) → end_at Filled rest ≡ Some after → [] ≡ after
unfolding end_at
filled [] after e = cc
filled (b ∷ rest) after e = absurd cc

-- elements up to the end of the text are those that the whole text spells
pub whole : (s : Syntax) (text : List ℕ) (ts : List Tree) (after : List ℕ) → Elements deepest s Filled
    text (Ok (ts, after)) → Spells s text ts
unfolding Spells
whole s text ts after stand = record {
  last = stand.last;
  rest = stand.rest;
  takes = stand.takes;
  ends = stand.ends
      ∙ ap Some (sym (filled stand.rest after stand.ends));
}

pub whole_fault : (s : Syntax) (text : List ℕ) (e : SetFault)
    → Told is_memory e (λ f. Elements deepest s Filled text (Err f)) → Told is_memory e (HasFault s text)
unfolding HasFault
whole_fault s text e told = told

abbrev read_as : List Tree × List ℕ → Result (List Tree × List ℕ) SetFault
read_as x = Ok x

abbrev failed : (A : Type 0) → SetFault → Result A SetFault
failed A f = Err f

first : (x y : List Tree × List ℕ) → read_as x ≡ read_as y → x.0 ≡ y.0
first x y e = ap (λ (z : List Tree × List ℕ). z.0) (same x y e)
  where
    same : (x y : List Tree × List ℕ) → read_as x ≡ read_as y → x ≡ y
    same x y e = cc

apart : (x : List Tree × List ℕ) (f : SetFault) → read_as x ≡ failed (List Tree × List ℕ) f → ⊥
apart x f e = cc

err_is : (A : Type 0) (f g : SetFault) → failed A f ≡ failed A g → f ≡ g
err_is A f g e = cc

pub spelled_once : (s : Syntax) (text : List ℕ) (ts us : List Tree) → Spells s text ts → Spells s text us → ts ≡ us
unfolding Spells HasFault
spelled_once s text ts us a b = first (ts, []) (us, []) (elements_once deepest s Filled text (Ok (ts, [])) (Ok (us, []))
    a b)

pub fault_or_spelled : (s : Syntax) (text : List ℕ) (ts : List Tree) (f : SetFault) → Spells s text ts
    → HasFault s text f → ⊥
unfolding Spells HasFault
fault_or_spelled s text ts f a b = apart (ts, []) f (elements_once deepest s Filled text (Ok (ts, [])) (Err f) a b)

pub one_fault : (s : Syntax) (text : List ℕ) (f g : SetFault) → HasFault s text f → HasFault s text g → f ≡ g
unfolding Spells HasFault
one_fault s text f g a b = err_is (List Tree × List ℕ) f g (elements_once deepest s Filled text (Err f) (Err g) a b)

pub spells_none : (s : Syntax) (text : List ℕ) (e : SetFault) → Told is_memory e (HasFault s text) → (ts : List Tree)
    → Spells s text ts → Told is_memory e (λ f. Ok ts ≡ failed (List Tree) f)
spells_none s text e told ts spells = told_map is_memory e (HasFault s text) (λ f. Ok ts ≡ failed (List Tree) f)
    (λ has. absurd (fault_or_spelled s text ts e spells has)) told

pub this_fault : (s : Syntax) (text : List ℕ) (e : SetFault) → Told is_memory e (HasFault s text) → (f : SetFault)
    → HasFault s text f → Told is_memory e (λ g. failed (List Tree) f ≡ failed (List Tree) g)
this_fault s text e told f has = told_map is_memory e (HasFault s text) (λ g. failed (List Tree) f ≡ failed (List Tree)
    g) (λ has'. ap (failed (List Tree)) (one_fault s text f e has has')) told
