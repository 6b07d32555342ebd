-- Deeds that are not done yet, as they are kept.
use Rattle.std.specs.Prelude.{Bool, List, [], ◌∷◌, map}
use Rattle.std.specs.List.{flat_map, list_any}
use Rattle.association_session.specs.declared.deed.Deed.{Deed}
use Rattle.association_session.specs.declared.deed.Deed.TheVariants.{Send}
use Rattle.association_session.specs.declared.deeds.Outgoing.{Outgoing}
use Rattle.association_session.specs.declared.deeds.Outgoing.TheVariants.{One, Message}
use Rattle.association_session.specs.Session.{is_abort, is_release}

-- a deed, or those that send the PDUs of a message
abbrev pub deeds_of_outgoing : Outgoing → List Deed
deeds_of_outgoing (One deed) = deed ∷ []
deeds_of_outgoing (Message pdus) = map Send pdus

-- the deeds of all parts, in order
abbrev pub deeds_in : List Outgoing → List Deed
deeds_in parts = flat_map deeds_of_outgoing parts

-- whether an A-ABORT is sent
abbrev pub abort_in_outgoing : Outgoing → Bool
abort_in_outgoing outgoing = list_any is_abort (deeds_of_outgoing outgoing)

-- whether an A-RELEASE-RP is sent
abbrev pub release_in_outgoing : Outgoing → Bool
release_in_outgoing outgoing = list_any is_release (deeds_of_outgoing outgoing)
