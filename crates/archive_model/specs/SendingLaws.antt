-- What is made of what is prepared, said of the set.
use Rattle.std.specs.Prelude.{◌≡◌, List, map, Option}
use Rattle.operation.specs.declared.op.Op.{Op}
use Rattle.operation.specs.Parts.{ContentParts}
use Rattle.archive_model.specs.declared.view.View.{View}
use Rattle.archive_model.specs.declared.accepts.Accepts.{Accepts}
use Rattle.archive_model.specs.declared.accepts.Form.{Form}
use Rattle.archive_model.specs.declared.selection.Selection.{Selection}
use Rattle.archive_model.specs.Sending.{text_for, body_for, sendings_of}
use Rattle.archive_model.specs.Prepared.{text_in, made_body, made}
use Rattle.archive_model.specs.Preparing.{prepared_for, prepared_of}

-- the bytes that are made of a prepared content are those that are sent of it, in each form
abbrev pub WhatIsMadeIsCorrected : Type 0
WhatIsMadeIsCorrected = (ops : List Op) (c : ContentParts) (form : Form)
    → text_in form (prepared_for ops c) ≡ text_for ops c form

-- and so is its body, in the form that serves, if one does
abbrev pub BodyIsMade : Type 0
BodyIsMade = (ops : List Op) (c : ContentParts) (form : Option Form)
    → body_for ops c form ≡ made_body (prepared_for ops c) form

-- what a C-GET sends is made of what it prepares, one by one
abbrev pub WhatIsSentIsMade : Type 0
WhatIsSentIsMade = (view : View) (selection : Selection) (accepts : Accepts) (ops : List Op)
    → sendings_of view selection accepts ops ≡ map (made accepts) (prepared_of view selection ops)
