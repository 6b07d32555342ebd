use Rattle.std.proofs.Common.{◌≡◌, Some, true, subst, sym, ap, ◌∙◌}
use Rattle.std.proofs.lemmas.Option.{none-some as none_is, same_Some as some_is}
use Rattle.operation.specs.RecordParts.{content_record}
use Rattle.records.specs.StandIn.{HasLengths, IsRecord, content_of}
use Rattle.records.proofs.StandInLaws.{has_lengths, is_lawful}
use Rattle.records.proofs.recorded_content.RecordedContent.decode.Goals as goal

-- The bytes spell the record of a content.
pub returns-in_default : goal.returns-in_default
returns-in_default c x stands fits note is =
    absurd (none_is (content_record x) (sym c.in_default.is ∙ c.in_ok-record.ensures.found (content_record x) fits note is))

-- A content's record has these lengths.
pub returns-then-not-has_lengths : goal.returns-then-not-has_lengths
returns-then-not-has_lengths c x stands fits note is =
    let read = some_is c.in-Some.record (content_record x)
    (sym c.in-Some.is ∙ c.in_ok-record.ensures.found (content_record x) fits note is) in
    let yes : c.has_lengths.result ≡ true = c.has_lengths.ensures.1
    (subst HasLengths (sym read) (has_lengths (content_record x) stands.lawful)) in
    let no = c.if-not-has_lengths.true in
    absurd cc

-- What was read is lawful, by what its reader can test.
pub invariant_of-result : goal.invariant_of-result
invariant_of-result c =
    let yes : c.has_lengths.result ≡ true = cc in
    subst IsRecord (sym c.in_ok-new.ensures.ok) (is_lawful c.in-Some.record
    (rw c.in-Some.is at c.in_ok-record.ensures.named) (c.has_lengths.ensures.0 yes))

-- The content stands for those of its record.
pub returns : goal.returns
returns c x stands fits note is =
    let read = some_is c.in-Some.record (content_record x)
    (sym c.in-Some.is ∙ c.in_ok-record.ensures.found (content_record x) fits note is) in
    ap Some (ap content_of (c.in_ok-new.ensures.ok ∙ read) ∙ stands.stands)
