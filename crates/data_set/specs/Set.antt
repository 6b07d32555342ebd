-- A data set as its syntax and its elements.
use Rattle.std.specs.Prelude.{List, Bool, true, false, refl, ◌≡◌}
use Rattle.std.specs.Coded.{Coded, code_by, coded×, coded_bool, coded_list}
use Rattle.data_set.specs.declared.syntax.Syntax.{Syntax}
use Rattle.data_set.specs.declared.syntax.Syntax.TheVariants.{Implicit, Explicit}
use Rattle.data_set.specs.Tree.{Tree}
use Rattle.data_set.specs.TreeCode.{tree_code}

-- a transfer syntax, and the elements in ascending tags
pub record Set : Type 0 where
  pub syntax : Syntax
  pub elements : List Tree

abbrev pub is_explicit : Syntax → Bool
is_explicit Implicit = false
is_explicit Explicit = true

abbrev pub syntax_from : Bool → Syntax
syntax_from false = Implicit
syntax_from true = Explicit

pub syntax_back : (s : Syntax) → syntax_from (is_explicit s) ≡ s
syntax_back Implicit = refl
syntax_back Explicit = refl

abbrev pub syntax_code : Coded Syntax
syntax_code = code_by Bool coded_bool is_explicit syntax_from syntax_back

abbrev pub from_pair : (Syntax × List Tree) → Set
from_pair p = record { syntax = p.0; elements = p.1 }

abbrev pub set_code : Coded Set
set_code = code_by (Syntax × List Tree) (coded× syntax_code (coded_list tree_code)) (λ s. (s.syntax, s.elements))
    from_pair (λ s. refl)
