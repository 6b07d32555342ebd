-- A text is cut one PDU after another, and these are the PDUs that send it.
use Rattle.std.proofs.Common.{◌≡◌, ℕ, zero, suc, ◌<◌, ◌≤◌, Bool, true, false, List, [], ◌∷◌, ◌++◌, length, take, drop}
use Rattle.std.proofs.Common.{Option, Some, None, refl, sym, ap, subst, ◌∙◌, arith, inl, inr, ◌⊎◌, length-drop}
use Rattle.std.specs.Prelude.{MatchOption}
use Rattle.std.specs.List.{AllByRecursion}
use Rattle.std.proofs.lemmas.Bool.{cases_lt, lt-ltb, le-ltb}
use Rattle.pdu.specs.declared.value.Pdu.{Pdu}
use Rattle.dimse.specs.declared.message.Message.{Message}
use Rattle.dimse.specs.Command.{command_text}
use Rattle.dimse.specs.Sending.{size_of, sent, Sends, IsSending}
use Rattle.dimse.specs.Cut.{cut_by, cut, cut_left, IsData}

-- ---- one PDU

-- a fragment before others
cut_over : (n size context : ℕ) (command : Bool) (text : List ℕ) → size < length text
    → cut_by (suc n) size context command text
    ≡ sent context command false (take size text) ∷ cut_by n size context command (drop size text)
cut_over n size context command text over = rw (lt-ltb size (length text) over) refl

-- the last fragment
cut_within : (n size context : ℕ) (command : Bool) (text : List ℕ) → length text ≤ size
    → cut_by n size context command text ≡ sent context command true text ∷ []
cut_within zero size context command text within = refl
cut_within (suc n) size context command text within = rw (le-ltb size (length text) within) refl

-- It does not matter how many more could go before the last one.
cut_fuel : (n m size context : ℕ) (command : Bool) (text : List ℕ) → 0 < size → length text ≤ n → length text ≤ m
    → (size < length text) ⊎ (length text ≤ size)
    → cut_by n size context command text ≡ cut_by m size context command text
cut_fuel n m size context command text some enough too (inr within) =
    cut_within n size context command text within ∙ sym (cut_within m size context command text within)
cut_fuel zero m size context command text some enough too (inl over) = absurd (omega (arith, enough, over, some))
cut_fuel (suc n) zero size context command text some enough too (inl over) = absurd (omega (arith, too, over, some))
cut_fuel (suc n) (suc m) size context command text some enough too (inl over) =
    let rest = cut_fuel n m size context command (drop size text) some
    (omega (arith, length-drop size text, enough, over, some)) (omega (arith, length-drop size text, too, over, some))
    (cases_lt size (length (drop size text))) in
    cut_over n size context command text over
    ∙ ap (λ (t : List Pdu). sent context command false (take size text) ∷ t) rest
    ∙ sym (cut_over m size context command text over)

first_by : (n size context : ℕ) (command : Bool) (text : List ℕ) → 0 < size → length text ≤ n → size < length text
    → cut_by n size context command text ≡ sent context command false (take size text) ∷ cut size context command
    (drop size text)
first_by zero size context command text some enough over = absurd (omega (arith, enough, over))
first_by (suc n) size context command text some enough over =
    let rest = drop size text in
    let same = cut_fuel n (length rest) size context command rest
    some (omega (arith, length-drop size text, enough, over, some)) (omega arith) (cases_lt size (length rest)) in
    cut_over n size context command text over
    ∙ ap (λ (t : List Pdu). sent context command false (take size text) ∷ t) same

-- the first PDU of a longer text, and those of the rest
pub cut_first : (size context : ℕ) (command : Bool) (text : List ℕ) → 0 < size → size < length text
    → cut size context command text ≡ sent context command false (take size text) ∷ cut size context command
    (drop size text)
cut_first size context command text some over =
    first_by (length text) size context command text some (omega arith) over

-- ---- all of them

-- a first fragment before others
sends_before : (size context : ℕ) (command : Bool) (text : List ℕ) (pdus : List Pdu) → size < length text
    → Sends size context command (drop size text) pdus
    → Sends size context command text (sent context command false (take size text) ∷ pdus)
sends_before size context command text [] over sends = absurd sends
sends_before size context command text (p ∷ pdus) over sends = (over, refl, sends)

by_sends : (n size context : ℕ) (command : Bool) (text : List ℕ) → 0 < size → length text ≤ n → (size < length text)
    ⊎ (length text ≤ size) → Sends size context command text (cut_by n size context command text)
by_sends n size context command text some enough (inr within) =
    rw (cut_within n size context command text within) (within, refl)
by_sends zero size context command text some enough (inl over) = absurd (omega (arith, enough, over, some))
by_sends (suc n) size context command text some enough (inl over) =
    let rest = by_sends n size context command (drop size text)
    some (omega (arith, length-drop size text, enough, over, some)) (cases_lt size (length (drop size text))) in
    rw (cut_over n size context command text over)
    (sends_before size context command text (cut_by n size context command (drop size text)) over rest)

-- A text is sent as it is cut.
pub cut_sends : (size context : ℕ) (command : Bool) (text : List ℕ) → 0 < size
    → Sends size context command text (cut size context command text)
cut_sends size context command text some =
    by_sends (length text) size context command text some (omega arith) (cases_lt size (length text))

-- So is what is left, where something is.
pub left_sends : (size context : ℕ) (body : Option (List ℕ)) → 0 < size
    → MatchOption body (cut_left size context false body ≡ []) (λ text. Sends size context false text
    (cut_left size context false body))
left_sends size context None some = refl
left_sends size context (Some text) some = cut_sends size context false text some

-- A message is sent as its texts are cut.
pub cut_sending : (m : Message) (max size : ℕ) (text : List ℕ) (body : Option (List ℕ)) → size ≡ size_of max → 0 < size
    → text ≡ command_text m.command → body ≡ m.body
    → IsSending m max (cut size m.context true text ++ cut_left size m.context false body)
cut_sending m max size text body is some text_is body_is =
    rw (is, text_is, body_is) (record {
      of_command = cut (size_of max) m.context true (command_text m.command);
      of_data = cut_left (size_of max) m.context false m.body;
      parts = refl;
      command = cut_sends (size_of max) m.context true (command_text m.command) (subst (λ (k : ℕ). 0 < k) is some);
      data_set = left_sends (size_of max) m.context m.body (subst (λ (k : ℕ). 0 < k) is some);
    })

-- ---- what they are

by_data : (n size context : ℕ) (command : Bool) (text : List ℕ) → (size < length text) ⊎ (length text ≤ size)
    → AllByRecursion IsData (cut_by n size context command text)
by_data n size context command text (inr within) = rw (cut_within n size context command text within) (tt, tt)
by_data zero size context command text (inl over) = (tt, tt)
by_data (suc n) size context command text (inl over) = rw (cut_over n size context command text over)
    (tt, by_data n size context command (drop size text) (cases_lt size (length (drop size text))))

left_data : (size context : ℕ) (command : Bool) (left : Option (List ℕ))
    → AllByRecursion IsData (cut_left size context command left)
left_data size context command None = tt
left_data size context command (Some text) =
    by_data (length text) size context command text (cases_lt size (length text))

both_data : (ps qs : List Pdu) → AllByRecursion IsData ps → AllByRecursion IsData qs → AllByRecursion IsData (ps ++ qs)
both_data [] qs one other = other
both_data (p ∷ ps) qs one other = (one.0, both_data ps qs one.1 other)

-- Each is a P-DATA-TF.
pub all_data : (size context : ℕ) (command body : Option (List ℕ))
    → AllByRecursion IsData (cut_left size context true command ++ cut_left size context false body)
all_data size context command body = both_data (cut_left size context true command) (cut_left size context false body)
    (left_data size context true command) (left_data size context false body)
