-- What is sent is put together to the same message.
use Rattle.std.proofs.Common.{◌≡◌, ℕ, Bool, true, false, List, [], ◌∷◌, ◌++◌, take, drop, Option, Some, None, refl}
use Rattle.std.proofs.Common.{sym, ap, subst, ◌∙◌, append_assoc}
use Rattle.std.specs.Prelude.{MatchOption, is_some}
use Rattle.std.proofs.lemmas.List.{take-append-drop}
use Rattle.pdu.specs.declared.pdv.Pdv.{Pdv}
use Rattle.pdu.specs.declared.value.Pdu.{Pdu}
use Rattle.pdu.specs.declared.value.Pdu.TheVariants.{AssociateRq, AssociateAc, AssociateRj, PData, ReleaseRq, ReleaseRp}
use Rattle.pdu.specs.declared.value.Pdu.TheVariants.{Abort}
use Rattle.dimse.specs.declared.message.Message.{Message}
use Rattle.dimse.specs.Command.{Spells, announces, command_text}
use Rattle.dimse.specs.Messages.{IsOf, Joins, SpellsMessage}
use Rattle.dimse.specs.Sending.{size_of, Sends, IsSending, IsWhole, pdvs_in}

pdvs-append : (a b : List Pdu) → pdvs_in (a ++ b) ≡ pdvs_in a ++ pdvs_in b
pdvs-append [] b = refl
pdvs-append (PData pdvs ∷ a) b = ap (λ (t : List Pdv). pdvs ++ t) (pdvs-append a b)
    ∙ sym (append_assoc pdvs (pdvs_in a) (pdvs_in b))
pdvs-append (AssociateRq r ∷ a) b = pdvs-append a b
pdvs-append (AssociateAc r ∷ a) b = pdvs-append a b
pdvs-append (AssociateRj r ∷ a) b = pdvs-append a b
pdvs-append (ReleaseRq ∷ a) b = pdvs-append a b
pdvs-append (ReleaseRp ∷ a) b = pdvs-append a b
pdvs-append (Abort source reason ∷ a) b = pdvs-append a b

-- a fragment before others
joins_before : (context : ℕ) (command : Bool) (p : Pdv) (ps : List Pdv) (text rest : List ℕ) → IsOf context command p
    → p.last ≡ false → text ≡ p.fragment ++ rest → Joins context command ps rest → Joins context command (p ∷ ps) text
joins_before context command p [] text rest is not_last parts joins = absurd joins
joins_before context command p (q ∷ ps) text rest is not_last parts joins = (is, not_last, rest, parts, joins)

-- the fragments of a text that is sent
sends_joins : (size context : ℕ) (command : Bool) (text : List ℕ) (pdus : List Pdu) → Sends size context command text
    pdus → Joins context command (pdvs_in pdus) text
sends_joins size context command text [] sends = absurd sends
sends_joins size context command text (p ∷ []) sends = subst (λ (x : Pdu). Joins context command (pdvs_in (x ∷ []))
    text) (sym sends.1) ((refl, refl), refl, refl)
sends_joins size context command text (p ∷ q ∷ ps) sends =
    subst (λ (x : Pdu). Joins context command (pdvs_in (x ∷ q ∷ ps)) text) (sym sends.1)
    (joins_before context command (record {
      context = context;
      command = command;
      last = false;
      fragment = take size
          text;
    }) (pdvs_in (q ∷ ps)) text (drop size text) (refl, refl) refl (sym (take-append-drop size text))
    (sends_joins size context command (drop size text) (q ∷ ps) sends.2))

body_joins : (m : Message) (size : ℕ) (body : Option (List ℕ)) (pdus : List Pdu) → announces m.command ≡ is_some body
    → MatchOption body (pdus ≡ []) (λ b. Sends size m.context false b pdus)
    → MatchOption body ((announces m.command ≡ false) × (pdvs_in pdus ≡ [])) (λ b. (announces m.command ≡ true)
    × Joins m.context false (pdvs_in pdus) b)
body_joins m size None pdus is none = (is, ap pdvs_in none)
body_joins m size (Some b) pdus is sends = (is, sends_joins size m.context false b pdus sends)

-- what is sent is put together to the message
pub put_together : (m : Message) (max : ℕ) (pdus : List Pdu) → IsWhole m → Spells (command_text m.command) m.command
    → IsSending m max pdus → SpellsMessage (pdvs_in pdus) m
put_together m max pdus whole spells s = record {
  of_command = pdvs_in s.of_command;
  of_data = pdvs_in s.of_data;
  text = command_text m.command;
  parts = ap pdvs_in s.parts ∙ pdvs-append s.of_command s.of_data;
  joined = sends_joins (size_of max) m.context true (command_text m.command) s.of_command s.command;
  spelled = spells;
  body = body_joins m (size_of max) m.body s.of_data whole.announced s.data_set;
}
