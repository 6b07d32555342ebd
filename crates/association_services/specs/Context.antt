-- Presentation contexts, as messages name them (PS3.8, 7.1.1.13).
use Rattle.std.specs.Prelude.{ℕ, Bool, false, not, List, ◌==◌, Option, Some, None, if◌then◌else◌}
use Rattle.std.specs.List.{find}
use Rattle.pdu.specs.declared.context.Context.{Context}
use Rattle.ul_state.specs.Titles.{is_text}
use Rattle.data_set.specs.declared.syntax.Syntax.{Syntax}
use Rattle.data_set.specs.declared.syntax.Syntax.TheVariants.{Implicit, Explicit}

-- the context with this ID
abbrev pub context_in : List Context → ℕ → Option Context
context_in contexts id = find (λ c. c.id == id) contexts

-- a class is there and is not the context's abstract syntax
abbrev pub is_other_class : Context → Option (List ℕ) → Bool
is_other_class context None = false
is_other_class context (Some class) = not (is_text class context.abstract_syntax)

-- the transfer syntax of a context
abbrev pub syntax_of : Context → Syntax
syntax_of context = if context.explicit then Explicit else Implicit
