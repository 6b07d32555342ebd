-- How a text is cut: one PDU after another, as `Sends` of specs/Sending.antt has them (PS3.8, D.1 and E).
use Rattle.std.specs.Prelude.{ℕ, zero, suc, Bool, true, false, nat_lt, List, [], ◌∷◌, length, take, drop, Option, None}
use Rattle.std.specs.Prelude.{Some, if◌then◌else◌}
use Rattle.pdu.specs.declared.value.Pdu.{Pdu}
use Rattle.pdu.specs.declared.value.Pdu.TheVariants.{PData}
use Rattle.dimse.specs.Sending.{sent}

-- the PDUs of a text, of which at most so many go before the last one
abbrev pub cut_by : ℕ → ℕ → ℕ → Bool → List ℕ → List Pdu
cut_by zero size context command text = sent context command true text ∷ []
cut_by (suc more) size context command text = if nat_lt size (length text) then sent context command false
    (take size text) ∷ cut_by more size context command (drop size text) else sent context command true text ∷ []

-- the PDUs of a text
abbrev pub cut : ℕ → ℕ → Bool → List ℕ → List Pdu
cut size context command text = cut_by (length text) size context command text

-- the PDUs of what is left of a text, where something is
abbrev pub cut_left : ℕ → ℕ → Bool → Option (List ℕ) → List Pdu
cut_left size context command None = []
cut_left size context command (Some text) = cut size context command text

-- a P-DATA-TF
abbrev pub IsData : Pdu → Type 0
IsData (PData pdvs) = Unit {0}
IsData _ = ⊥
