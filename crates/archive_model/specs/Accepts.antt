-- How a data set is sent (PS3.7, D.3.2).
use Rattle.std.specs.Prelude.{ℕ, List, [], ◌∷◌, Bool, true, false, Option, Some, None, if◌then◌else◌}
use Rattle.data_set.specs.declared.syntax.Syntax.{Syntax}
use Rattle.data_set.specs.declared.syntax.Syntax.TheVariants.{Implicit, Explicit}
use Rattle.archive_model.specs.Texts.{same}
use Rattle.archive_model.specs.declared.accepts.Accepted.{Accepted}
use Rattle.archive_model.specs.declared.accepts.Form.{Form}
use Rattle.archive_model.specs.declared.accepts.Form.TheVariants.{Own, Converted}

-- Whether the implicit and the explicit syntax are accepted, and a data set's own syntax: it is sent in its own where
-- that is
-- accepted, else converted to the implicit one. Nothing is converted to the explicit one.
abbrev pub form_by : Bool → Bool → Syntax → Option Form
form_by true explicit Implicit = Some Own
form_by false explicit Implicit = None
form_by implicit true Explicit = Some Own
form_by true false Explicit = Some Converted
form_by false false Explicit = None

-- the same for a class, of whose entries the first counts
abbrev pub form_for : List Accepted → List ℕ → Syntax → Option Form
form_for [] class own = None
form_for (a ∷ accepted) class own = if same a.class class then form_by a.implicit a.explicit own else form_for accepted
    class own

-- the transfer syntax in which a data set goes out
abbrev pub syntax_of : Form → Syntax → Syntax
syntax_of Own own = own
syntax_of Converted own = Implicit
