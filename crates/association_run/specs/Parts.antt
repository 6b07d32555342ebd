-- What a part of a run did to the port, the writer and the gate.
use Rattle.std.specs.Prelude.{◌≡◌, ℕ, List, [], ◌∷◌, ◌++◌, Option, Some, None, ⊤}
use Rattle.std.specs.List.{flat_map}
use Rattle.std.specs.Io.KnownBytes.{Appends}
use Rattle.pdu.specs.Spelling.{text_of}
use Rattle.operation.specs.declared.op.Op.{Op}
use Rattle.association_session.specs.declared.deed.Deed.{Deed}
use Rattle.association_session.specs.declared.deed.Deed.TheVariants.{Send, Reach, Ask, Close}
use Rattle.association_session.specs.declared.deed.Moment.{Moment}
use Rattle.association_services.specs.declared.reply.Reply.{Reply}
use Rattle.association_session.specs.Projections.{IsFront, sent_in, moments_in, calls_in}
use Rattle.association_run.specs.Port.{History}

-- The gate was reached at these moments. A gate that keeps none says nothing, nor does one from the moment on that it
-- could not keep.
abbrev pub Passed : Option (List Moment) → Option (List Moment) → List Moment → Type 0
Passed None None moments = ⊤
Passed None (Some after) moments = ⊥
Passed (Some before) None moments = ⊤
Passed (Some before) (Some after) moments = after ≡ before ++ moments

-- the port, what the writer holds, and the moments that the gate keeps
pub record Sides (P : Type 0) : Type 0 where
  pub port : P
  pub written : Option (List ℕ)
  pub reached : Option (List Moment)

abbrev pub sides : {P : Type 0} → P → Option (List ℕ) → Option (List Moment) → Sides P
sides port written reached = record { port = port; written = written; reached = reached }

-- the bytes of all that is sent
abbrev pub bytes_in : List Deed → List ℕ
bytes_in deeds = flat_map text_of (sent_in deeds)

-- Just these deeds were done, in order, and then these bytes were written; the port replied so to the calls.
pub record Performs {P : Type 0} (ops : P → List Op) (own : P → List (List ℕ)) (old new : Sides P) (done : List Deed)
    (cut : List ℕ) (replies : List Reply) : Type 0 where
  pub history : History ops own old.port (calls_in done) replies new.port
  pub appended : Appends old.written new.written (bytes_in done ++ cut)
  pub passed : Passed old.reached new.reached (moments_in done)

-- the bytes that the deed at the front sends
abbrev pub next_bytes : List Deed → List ℕ
next_bytes [] = []
next_bytes (Send pdu ∷ ds) = text_of pdu
next_bytes (Reach moment ∷ ds) = []
next_bytes (Ask call ∷ ds) = []
next_bytes (Close ∷ ds) = []

-- These deeds come first in all, and these bytes come first in what the next one sends.
abbrev pub Begins : List Deed → List ℕ → List Deed → Type 0
Begins done cut all = (rest : List Deed) × (all ≡ done ++ rest) × IsFront cut (next_bytes rest)
