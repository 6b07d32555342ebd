-- What a part of a run does with the writer, the port and the gate.
use Rattle.std.specs.Prelude.{◌≡◌, ℕ, List, [], ◌∷◌}
use Rattle.operation.specs.declared.op.Op.{Op}
use Rattle.association_services.specs.declared.call.Call.{Call}
use Rattle.association_services.specs.declared.reply.Reply.{Reply}
use Rattle.association_session.specs.declared.deed.Moment.{Moment}
use Rattle.association_run.specs.Parts.{Passed, Sides, sides}
use Rattle.association_run.specs.Port.{Replies}

-- The port and the gate are as they were.
abbrev pub OnlyWrites : {P : Type 0} → Sides P → Sides P → Type 0
OnlyWrites old new = new ≡ sides old.port new.written old.reached

-- The port replied so to a call; the writer and the gate are as they were.
abbrev pub Asks : {P : Type 0} → (P → List Op) → (P → List (List ℕ)) → Sides P → Call → Reply → Sides P → Type 0
Asks ops own old call reply new = (new ≡ sides new.port old.written old.reached) × Replies ops own old.port call reply
    new.port

-- The gate was reached at a moment; the writer and the port are as they were.
abbrev pub Reaches : {P : Type 0} → Sides P → Moment → Sides P → Type 0
Reaches old moment new = (new ≡ sides old.port old.written new.reached) × Passed old.reached new.reached (moment ∷ [])
