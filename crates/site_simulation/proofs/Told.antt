-- What is written in the middle of an input, and what is owed.
use Rattle.std.proofs.Common.{◌≡◌, ℕ, ◌+◌, ◌<◌, ◌≤◌, List, [], ◌∷◌, ◌++◌, take, drop, length, Option, Some, None}
use Rattle.std.proofs.Common.{Result, Ok, Err, Bool, true, false, refl, sym, ap, ◌∙◌, subst, ◌==◌, cond, append_assoc}
use Rattle.std.proofs.Common.{zero-add, arith, IfErr}
use Rattle.std.specs.Io.KnownBytes.{Appends, Consumes, IsAtEnd}
use Rattle.std.proofs.lemmas.List.{take-append-drop, length-append, append-nil}
use Rattle.std.proofs.Math.Seq.{take-length}
use Rattle.devices.proofs.Fronts.{further}
use Rattle.site_simulation.specs.declared.run.SimFault.{SimFault}
use Rattle.site_simulation.specs.declared.progress.LineFault.{LineFault}
use Rattle.site_simulation.specs.declared.progress.LineFault.TheVariants.{LongLine as long_line, Memory as line_memory}
use Rattle.site_simulation.specs.declared.progress.LineFault.TheVariants.{Turns as line_turns}
use Rattle.site_simulation.specs.Output.{output_from, output_of, ended_from, ended_of, count_from, count_of}
use Rattle.site_simulation.specs.Output.{is_long_from, has_long_line}
use Rattle.site_simulation.specs.Simulation.{Place, START, Leads, StopsWithin, StopsAtLong, HasLong, HasTooManyLines}
use Rattle.site_simulation.specs.Simulation.{MOST_LINES, MOST_READS, Owes, OwesFor, WroteFront, WroteWholeLines}
use Rattle.site_simulation.specs.Simulation.{WroteUpToLong, WroteAll, BreaksOff, Ends, fault_of_line}

-- ---- some bytes, a part of them and the rest

joined : (i : ℕ) (bytes rest : List ℕ) → take i bytes ++ (drop i bytes ++ rest) ≡ bytes ++ rest
joined i bytes rest = sym (append_assoc (take i bytes) (drop i bytes) rest)
    ∙ ap (λ (t : List ℕ). t ++ rest) (take-append-drop i bytes)

-- A long line behind a part of some bytes: what stands before it was printed.
pub long_of : (old mid : Place) (out text bytes : List ℕ) (i b : ℕ) → Leads old out (take i bytes) mid text →
    drop i bytes ≡ b ∷ drop (i + 1) bytes
    → HasLong mid (b ∷ []) → StopsAtLong old out bytes text
long_of old mid out text bytes i b leads next long rest =
    let here = long (drop (i + 1) bytes ++ rest) in
    let far = leads (drop i bytes ++ rest) in
    let at = ap (λ (t : List ℕ). t ++ rest) next in (
      ap (is_long_from old.front) (sym (joined i bytes rest)) ∙ sym far.2 ∙ ap (is_long_from mid.front) at ∙ here.0,
      sym (append-nil text)
          ∙ ap (λ (t : List ℕ). text ++ t) (sym here.1 ∙ ap (output_from mid.state mid.front) (sym at))
          ∙ far.0 ∙ ap (λ (t : List ℕ). out ++ output_from old.state old.front t) (joined i bytes rest),
    )

-- Too many lines with the bytes behind a part of some bytes.
pub many_of : (old mid : Place) (out text bytes : List ℕ) (i b : ℕ) → Leads old out (take i bytes) mid text →
    drop i bytes ≡ b ∷ drop (i + 1) bytes
    → HasTooManyLines mid (b ∷ []) → HasTooManyLines old bytes
many_of old mid out text bytes i b leads next many rest =
    subst (λ (n : ℕ). MOST_LINES < n)
    (ap (λ (t : List ℕ). mid.lines + count_from mid.front (t ++ rest)) (sym next) ∙ (leads (drop i bytes ++ rest)).1
    ∙ ap (λ (t : List ℕ). old.lines + count_from old.front t) (joined i bytes rest))
    (many (drop (i + 1) bytes ++ rest))

-- ---- an input of many lines has many bytes

ended_below : (end : Bool) (front : List ℕ) (b : ℕ) (rest : List ℕ) → count_from [] rest ≤ 0 + length rest →
    count_from (front ++ b ∷ []) rest ≤ length (front ++ b ∷ []) + length rest
    → cond end (1 + count_from [] rest) (count_from (front ++ b ∷ []) rest) ≤ length front + length (b ∷ rest)
ended_below true front b rest here more = omega (arith, here)
ended_below false front b rest here more =
    let many = length-append front (b ∷ []) in
    omega (arith, more, many)

counted_below : (front rest : List ℕ) → count_from front rest ≤ length front + length rest
counted_below [] [] = omega arith
counted_below (c ∷ front) [] = omega arith
counted_below [] (b ∷ rest) = ended_below (b == 10) [] b rest (counted_below [] rest) (counted_below (b ∷ []) rest)
counted_below (c ∷ front) (b ∷ rest) = ended_below (b == 10) (c ∷ front) b rest (counted_below [] rest) (counted_below
    ((c ∷ front) ++ b ∷ []) rest)

endless : (input : List ℕ) → MOST_LINES < count_of input → MOST_READS ≤ length input
endless input many =
    let below = counted_below [] input in
    omega (arith, many, below)

-- ---- one way behind another

-- What is printed behind a text, behind another text.
behind : (out said text more other : List ℕ) → said ++ more ≡ out → text ++ other ≡ [] ++ more →
    (said ++ text) ++ other ≡ out
behind out said text more other first then = append_assoc said text other ∙ ap (λ (t : List ℕ). said ++ t) then ∙ first

-- Some bytes lead on from where others led.
leads_on : (a b c : Place) (xs ys said text : List ℕ) → Leads a [] xs b said → Leads b [] ys c text →
    Leads a [] (xs ++ ys) c (said ++ text)
leads_on a b c xs ys said text first then rest =
    let one = first (ys ++ rest) in
    let two = then rest in
    let same = append_assoc xs ys rest in (
      behind _ said text (output_from b.state b.front (ys ++ rest)) (output_from c.state c.front rest) (one.0
          ∙ ap (output_from a.state a.front) (sym same)) two.0,
      two.1 ∙ one.1 ∙ ap (λ (t : List ℕ). a.lines + count_from a.front t) (sym same),
      two.2 ∙ one.2 ∙ ap (is_long_from a.front) (sym same),
      behind _ said text (ended_from b.state b.front (ys ++ rest)) (ended_from c.state c.front rest) (one.3
          ∙ ap (ended_from a.state a.front) (sym same)) two.3,
    )

-- Where no byte is left, what was said is that of whole lines.
ended_here : (read said : List ℕ) (place : Place) → Leads START [] read place said → said ≡ ended_of read
ended_here read said place leads = sym (append-nil said) ∙ (leads []).3 ∙ ap ended_of (append-nil read)

-- ---- what is owed at the start, and what was written of it

nothing_yet : Leads START [] [] START []
nothing_yet rest = (refl, refl, refl, refl)

whole_from : (inp : List ℕ) (before now : Option (List ℕ)) (place : Place) (left : List ℕ) →
    OwesFor inp before now place left
    → WroteWholeLines (Some inp) before now
whole_from inp before now place left o =
    let e = ended_here o.read o.said place o.leads in (
      o.read,
      left,
      output_from place.state place.front left,
      o.parts,
      subst (Appends before now) e o.wrote,
      ap (λ (t : List ℕ). t ++ output_from place.state place.front left) (sym e) ∙ (o.leads left).0
          ∙ ap output_of o.parts,
    )

-- Where nothing more was written, it is that of whole lines.
pub whole_kept : (input before rest now : Option (List ℕ)) (place : Place) → Owes input before rest now place →
    WroteWholeLines input before now
whole_kept None before rest now place owes = tt
whole_kept (Some inp) before None now place owes = absurd owes
whole_kept (Some inp) before (Some left) now place owes = whole_from inp before now place left owes

-- ---- one read

lead_to : (inp bytes left right : List ℕ) (read : List ℕ) → read ++ left ≡ inp → left ≡ bytes ++ right →
    (read ++ bytes) ++ right ≡ inp
lead_to inp bytes left right read parts took = append_assoc read bytes right
    ∙ ap (λ (t : List ℕ). read ++ t) (sym took) ∙ parts

owed : (inp : List ℕ) (before w_old w_new : Option (List ℕ)) (left right bytes text : List ℕ) (old new : Place) →
    left ≡ bytes ++ right
    → Leads old [] bytes new text → Appends w_old w_new text → OwesFor inp before w_old old left →
    OwesFor inp before w_new new right
owed inp before w_old w_new left right bytes text old new took leads wrote o = record {
  read = o.read ++ bytes;
  said = o.said ++ text;
  wrote = further before w_old w_new o.said text o.wrote wrote;
  parts = lead_to inp bytes left right o.read o.parts took;
  leads = leads_on START old new o.read bytes o.said text o.leads leads;
}

-- What was read is printed, and the rest is owed.
pub owes_more : (input before r_old r_new w_old w_new : Option (List ℕ)) (old new : Place) (bytes text start slice :
    List ℕ) → start ≡ [] → slice ≡ text → Consumes r_old r_new bytes
    → Leads old start bytes new text → Appends w_old w_new slice → Owes input before r_old w_old old →
    Owes input before r_new w_new new
owes_more None before r_old r_new w_old w_new old new bytes text start slice none is took leads wrote owes = tt
owes_more (Some inp) before None r_new w_old w_new old new bytes text start slice none is took leads wrote owes = absurd
    owes
owes_more (Some inp) before (Some left) None w_old w_new old new bytes text start slice none is took leads wrote owes =
    absurd took
owes_more (Some inp) before (Some left) (Some right) w_old w_new old new bytes text start slice none is took leads wrote
    owes =
    owed inp before w_old w_new left right bytes text old new took (subst
    (λ (s : List ℕ). Leads old s bytes new text) none leads) (subst (Appends w_old w_new) is wrote) owes

-- Of what was read a front is printed: what the buffer has leads on to some place, of which the rest is owed.
front_stop : (inp : List ℕ) (before w_old w_new : Option (List ℕ)) (left bytes text right : List ℕ) (old : Place) (k :
    ℕ) → left ≡ bytes ++ right
    → StopsWithin old [] bytes text → Appends w_old w_new (take k text) → OwesFor inp before w_old old left →
    WroteFront (Some inp) before w_new
front_stop inp before w_old w_new left bytes text right old k took (count, mid, leads) wrote o =
    let rest = drop count bytes ++ right in
    let whole = leads_on START old mid o.read (take count bytes) o.said text o.leads leads rest in (
      o.said ++ take k text,
      drop k text ++ output_from mid.state mid.front rest,
      further before w_old w_new o.said (take k text) o.wrote wrote,
      append_assoc o.said (take k text) (drop k text ++ output_from mid.state mid.front rest)
          ∙ ap (λ (t : List ℕ). o.said ++ t) (joined k text (output_from mid.state mid.front rest))
          ∙ sym (append_assoc o.said text (output_from mid.state mid.front rest))
          ∙ whole.0
          ∙ ap output_of (append_assoc o.read (take count bytes) rest
          ∙ ap (λ (t : List ℕ). o.read ++ t) (joined count bytes right ∙ sym took) ∙ o.parts),
    )

-- All of some bytes are a front of them.
pub all_within : (old new : Place) (out bytes text : List ℕ) → Leads old out bytes new text →
    StopsWithin old out bytes text
all_within old new out bytes text leads = (
  length bytes,
  new,
  subst
      (λ (bs : List ℕ). Leads old out bs new text) (sym (take-length bytes)) leads,
)

-- A write that failed left a front.
pub front_more : (input before r_old r_new w_old w_new : Option (List ℕ)) (old : Place) (bytes text start slice : List
    ℕ) (k : ℕ) → start ≡ [] → slice ≡ text → Consumes r_old r_new bytes
    → StopsWithin old start bytes text → Appends w_old w_new (take k slice) → Owes input before r_old w_old old →
    WroteFront input before w_new
front_more None before r_old r_new w_old w_new old bytes text start slice k none is took within wrote owes = tt
front_more (Some inp) before None r_new w_old w_new old bytes text start slice k none is took within wrote owes = absurd
    owes
front_more (Some inp) before (Some left) None w_old w_new old bytes text start slice k none is took within wrote owes =
    absurd took
front_more (Some inp) before (Some left) (Some right) w_old w_new old bytes text start slice k none is took within wrote
    owes =
    front_stop inp before w_old w_new left bytes text right old k took (subst
    (λ (s : List ℕ). StopsWithin old s bytes text) none within) (subst
    (λ (s : List ℕ). Appends w_old w_new (take k s)) is wrote) owes

whole_stop : (inp : List ℕ) (before w_old w_new : Option (List ℕ)) (left bytes text right : List ℕ) (old : Place) →
    left ≡ bytes ++ right
    → StopsWithin old [] bytes text → Appends w_old w_new text → OwesFor inp before w_old old left →
    WroteWholeLines (Some inp) before w_new
whole_stop inp before w_old w_new left bytes text right old took (count, mid, leads) wrote o =
    whole_from inp before w_new mid (drop count bytes ++ right)
    (owed inp before w_old w_new left (drop count bytes ++ right) (take count bytes) text old mid (took
    ∙ sym (joined count bytes right)) leads wrote o)

long_stop : (inp : List ℕ) (before w_old w_new : Option (List ℕ)) (left bytes text right : List ℕ) (old : Place) →
    left ≡ bytes ++ right
    → StopsAtLong old [] bytes text → Appends w_old w_new text → OwesFor inp before w_old old left →
    WroteUpToLong (Some inp) before w_new
long_stop inp before w_old w_new left bytes text right old took stops wrote o =
    let here = stops right in
    let far = o.leads (bytes ++ right) in
    let same : o.read ++ (bytes ++ right) ≡ inp = ap (λ (t : List ℕ). o.read ++ t) (sym took) ∙ o.parts in (
      subst (Appends before w_new) (ap (λ (t : List ℕ). o.said ++ t) here.1 ∙ far.0
          ∙ ap output_of same) (further before w_old w_new o.said text o.wrote wrote),
      ap has_long_line (sym same) ∙ sym far.2 ∙ here.0,
    )

many_stop : (inp left bytes right : List ℕ) (before w_old : Option (List ℕ)) (old : Place) → left ≡ bytes ++ right →
    HasTooManyLines old bytes
    → OwesFor inp before w_old old left → MOST_READS ≤ length inp
many_stop inp left bytes right before w_old old took many o =
    endless inp (subst (λ (n : ℕ). MOST_LINES < n) ((o.leads (bytes ++ right)).1 ∙ zero-add _
    ∙ ap count_of (ap (λ (t : List ℕ). o.read ++ t) (sym took) ∙ o.parts)) (many right))

by_fault : (inp : List ℕ) (before w_old w_new : Option (List ℕ)) (left bytes text right : List ℕ) (old : Place) (fault :
    LineFault) → left ≡ bytes ++ right
    → StopsWithin old [] bytes text → (fault ≡ long_line → StopsAtLong old [] bytes text) → (fault ≡ line_turns →
    HasTooManyLines old bytes)
    → Appends w_old w_new text → OwesFor inp before w_old old left →
    BreaksOff (Some inp) before (fault_of_line fault) w_new
by_fault inp before w_old w_new left bytes text right old long_line took within long many wrote o =
    long_stop inp before w_old w_new left bytes text right old took (long refl) wrote o
by_fault inp before w_old w_new left bytes text right old line_memory took within long many wrote o =
    whole_stop inp before w_old w_new left bytes text right old took within wrote o
by_fault inp before w_old w_new left bytes text right old line_turns took within long many wrote o = (
  whole_stop inp before w_old w_new left bytes text right old took within wrote o,
  many_stop inp left bytes right before w_old old took (many refl) o,
)

no_claim : (before now : Option (List ℕ)) (fault : LineFault) → BreaksOff None before (fault_of_line fault) now
no_claim before now long_line = tt
no_claim before now line_memory = tt
no_claim before now line_turns = (tt, tt)

-- The lines before one that was not done were printed.
pub broke_off : (input before r_old r_new w_old w_new : Option (List ℕ)) (old : Place) (bytes text start slice : List ℕ)
    (fault : LineFault) → start ≡ [] → slice ≡ text → Consumes r_old r_new bytes
    → StopsWithin old start bytes text → (fault ≡ long_line → StopsAtLong old start bytes text) → (fault ≡ line_turns →
    HasTooManyLines old bytes)
    → Appends w_old w_new slice → Owes input before r_old w_old old → BreaksOff input before (fault_of_line fault) w_new
broke_off None before r_old r_new w_old w_new old bytes text start slice fault none is took within long many wrote owes
    = no_claim before w_new fault
broke_off (Some inp) before None r_new w_old w_new old bytes text start slice fault none is took within long many wrote
    owes = absurd owes
broke_off (Some inp) before (Some left) None w_old w_new old bytes text start slice fault none is took within long many
    wrote owes = absurd took
broke_off (Some inp) before (Some left) (Some right) w_old w_new old bytes text start slice fault none is took within
    long many wrote owes =
    by_fault inp before w_old w_new left bytes text right old fault took (subst
    (λ (s : List ℕ). StopsWithin old s bytes text) none within)
    (λ e. subst (λ (s : List ℕ). StopsAtLong old s bytes text) none (long e)) many (subst (Appends w_old w_new) is
    wrote) owes

-- ---- the end

end_all : (inp : List ℕ) (before w_old w_new : Option (List ℕ)) (old : Place) (left text : List ℕ) (lines : ℕ) →
    left ≡ [] → text ≡ output_from old.state old.front []
    → lines ≡ old.lines + count_from old.front [] → Appends w_old w_new text → OwesFor inp before w_old old left →
    WroteAll (Some inp) before w_new lines
end_all inp before w_old w_new old left text lines at printed counts wrote o =
    let far = o.leads [] in
    let same : o.read ++ [] ≡ inp = ap (λ (t : List ℕ). o.read ++ t) (sym at) ∙ o.parts in (
      subst (Appends before w_new) (ap (λ (t : List ℕ). o.said ++ t) printed ∙ far.0
          ∙ ap output_of same) (further before w_old w_new o.said text o.wrote wrote),
      counts ∙ far.1 ∙ zero-add _ ∙ ap count_of same,
      sym (far.2 ∙ ap has_long_line same),
    )

-- At the end the last line is printed, and all was.
pub all_ended : (input before rest w_old w_new : Option (List ℕ)) (old : Place) (text start slice : List ℕ) (lines : ℕ)
    → start ≡ [] → slice ≡ text → IsAtEnd rest
    → text ≡ start ++ output_from old.state old.front [] → lines ≡ old.lines + count_from old.front [] →
    Appends w_old w_new slice → Owes input before rest w_old old → WroteAll input before w_new lines
all_ended None before rest w_old w_new old text start slice lines none is at printed counts wrote owes = tt
all_ended (Some inp) before None w_old w_new old text start slice lines none is at printed counts wrote owes = absurd
    owes
all_ended (Some inp) before (Some left) w_old w_new old text start slice lines none is at printed counts wrote owes =
    end_all inp before w_old w_new old left text lines at (printed
    ∙ ap (λ (s : List ℕ). s ++ output_from old.state old.front []) none) counts (subst (Appends w_old w_new) is
    wrote) owes

end_front : (inp : List ℕ) (before w_old w_new : Option (List ℕ)) (old : Place) (left text : List ℕ) (k : ℕ) →
    left ≡ [] → text ≡ output_from old.state old.front []
    → Appends w_old w_new (take k text) → OwesFor inp before w_old old left → WroteFront (Some inp) before w_new
end_front inp before w_old w_new old left text k at printed wrote o = (
  o.said ++ take k text,
  drop k text,
  further before w_old w_new o.said (take k text) o.wrote wrote,
  append_assoc o.said (take k text) (drop k text) ∙ ap (λ (t : List ℕ). o.said ++ t) (take-append-drop k text
      ∙ printed) ∙ (o.leads []).0
      ∙ ap output_of (ap (λ (t : List ℕ). o.read ++ t) (sym at) ∙ o.parts),
)

-- A write that failed at the end left a front.
pub front_ended : (input before rest w_old w_new : Option (List ℕ)) (old : Place) (text start slice : List ℕ) (k : ℕ) →
    start ≡ [] → slice ≡ text → IsAtEnd rest
    → text ≡ start ++ output_from old.state old.front [] → Appends w_old w_new (take k slice) →
    Owes input before rest w_old old → WroteFront input before w_new
front_ended None before rest w_old w_new old text start slice k none is at printed wrote owes = tt
front_ended (Some inp) before None w_old w_new old text start slice k none is at printed wrote owes = absurd owes
front_ended (Some inp) before (Some left) w_old w_new old text start slice k none is at printed wrote owes =
    end_front inp before w_old w_new old left text k at (printed
    ∙ ap (λ (s : List ℕ). s ++ output_from old.state old.front []) none) (subst
    (λ (s : List ℕ). Appends w_old w_new (take k s)) is wrote) owes

many_ended : (inp : List ℕ) (before w_old : Option (List ℕ)) (old : Place) (left : List ℕ) → left ≡ [] →
    MOST_LINES < old.lines + count_from old.front []
    → OwesFor inp before w_old old left → MOST_READS ≤ length inp
many_ended inp before w_old old left at many o =
    endless inp (subst (λ (n : ℕ). MOST_LINES < n) ((o.leads []).1 ∙ zero-add _
    ∙ ap count_of (ap (λ (t : List ℕ). o.read ++ t) (sym at) ∙ o.parts)) many)

-- A last line that was not done printed nothing.
pub broke_ended : (input before rest w_old : Option (List ℕ)) (old : Place) (fault : LineFault) → IsAtEnd rest →
    (fault ≡ long_line → ⊥)
    → (fault ≡ line_turns → MOST_LINES < old.lines + count_from old.front []) → Owes input before rest w_old old →
    BreaksOff input before (fault_of_line fault) w_old
broke_ended None before rest w_old old fault at short many owes = no_claim before w_old fault
broke_ended (Some inp) before None w_old old fault at short many owes = absurd owes
broke_ended (Some inp) before (Some left) w_old old long_line at short many owes = absurd (short refl)
broke_ended (Some inp) before (Some left) w_old old line_memory at short many owes = whole_from inp before w_old old
    left owes
broke_ended (Some inp) before (Some left) w_old old line_turns at short many owes =
    (whole_from inp before w_old old left owes, many_ended inp before w_old old left at (many refl) owes)

-- ---- what a read or the end comes to, clause by clause

appends_none : (now : Option (List ℕ)) → Appends now now []
appends_none None = tt
appends_none (Some xs) = sym (append-nil xs)

-- At the start all is owed.
pub owes_start : (input before : Option (List ℕ)) (place : Place) → place ≡ START → Owes input before input before place
owes_start None before place is = tt
owes_start (Some inp) before place is =
    subst (λ (p : Place). OwesFor inp before before p inp) (sym is)
    (record { read = []; said = []; wrote = appends_none before; parts = refl; leads = nothing_yet })

-- what broke off the end of an input broke off all
pub ends_broken : (input before now : Option (List ℕ)) (r : Result ℕ SimFault) → Ends input before r now →
    IfErr r (λ fault. BreaksOff input before fault now)
ends_broken input before now (Ok lines) ends = tt
ends_broken input before now (Err fault) ends = ends
