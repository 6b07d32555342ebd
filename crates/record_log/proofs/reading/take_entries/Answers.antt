use Rattle.std.proofs.Common.{rules, ◌≡◌, ◌<◌, ◌++◌, ◌∷◌, [], List, None, length, sym, ap, ◌∙◌, subst, arith, refl}
use Rattle.std.proofs.lemmas.List.{length-append}
use Rattle.operation.specs.Parts.{ContentParts}
use Rattle.record_log.specs.Entries.{with_lengths}
use Rattle.record_log.proofs.Cutting.{AreLeft, all_left, all_read, entry_there, next_of, none_left, one_read}
use Rattle.record_log.proofs.reading.take_entries.Goals as goal

-- Where entries are left, one stands at the front.
pub returns-in_default-clause-whole : goal.returns-in_default-clause-whole
returns-in_default-clause-whole c cs told is =
    let none : c.first_entry.result ≡ None = search rules in
    let some : 0 < length c.entries.rest.now = search rules in
    let left = c.entries.invariant.left cs told is in
    absurd (entry_there (c.args.told.now.items ++ cs) c.entries.told.items c.entries.rest.now left some
    λ entry rest short text. c.first_entry.ensures.none entry rest short text none)

pub returns-in_default-clause-told : goal.returns-in_default-clause-told
returns-in_default-clause-told c cs told is =
    let none : c.first_entry.result ≡ None = search rules in
    let some : 0 < length c.entries.rest.now = search rules in
    let left = c.entries.invariant.left cs told is in
    absurd (entry_there (c.args.told.now.items ++ cs) c.entries.told.items c.entries.rest.now left some
    λ entry rest short text. c.first_entry.ensures.none entry rest short text none)

-- It is that of a content.
pub returns-in_default-2-clause-whole : goal.returns-in_default-2-clause-whole
returns-in_default-2-clause-whole c cs told is =
    let it = c.in-Some in
    let next = next_of (c.args.told.now.items ++ cs) c.entries.told.items c.entries.rest.now it.entry.now it.behind.now
    it.ensures.short it.ensures.parts (c.entries.invariant.left cs told is) in
    let same = next.told in
    let found = c.in_ok-content.ensures next.content same.stands same.fits same.no_note next.text in
    let none : c.in_ok-content.field-0 ≡ None = search rules in
    absurd cc

pub returns-in_default-2-clause-told : goal.returns-in_default-2-clause-told
returns-in_default-2-clause-told c cs told is =
    let it = c.in-Some in
    let next = next_of (c.args.told.now.items ++ cs) c.entries.told.items c.entries.rest.now it.entry.now it.behind.now
    it.ensures.short it.ensures.parts (c.entries.invariant.left cs told is) in
    let same = next.told in
    let found = c.in_ok-content.ensures next.content same.stands same.fits same.no_note next.text in
    let none : c.in_ok-content.field-0 ≡ None = search rules in
    absurd cc

-- At first none was read, and all are left.
pub entries-init : goal.entries-init
unfolding with_lengths
entries-init c =
    record {
      read = record { texts = []; is = refl; count = omega arith };
      left = λ cs told is. all_left c.args.told.now.items cs c.args.group.now told is;
    }

-- One content more was read.
pub entries-preserved : goal.entries-preserved
entries-preserved c =
    let old = c.args.told.now.items in
    let got = c.entries.told.items in
    let text = c.entries.rest.now in
    let it = c.in-Some in
    let more = c.in_ok-push.ensures.items in
    record {
      read = one_read c.args.group.now old got c.push.new.self.items text it.entry.now it.behind.now
          c.entries.invariant.read it.ensures.parts (ap length more ∙ length-append got (c.in-Some-2.content ∷ []));
      left = λ cs told is.
          let next = next_of (old ++ cs) got text it.entry.now it.behind.now it.ensures.short it.ensures.parts
          (c.entries.invariant.left cs told is) in
          let its = next.told in
          let found = c.in_ok-content.ensures next.content its.stands its.fits its.no_note next.text in
          let same : c.in-Some-2.content ≡ next.content = cc in
          let all = more ∙ ap (λ (x : ContentParts). got ++ x ∷ []) same in
          subst (λ (xs : List ContentParts). AreLeft (old ++ cs) xs it.behind.now) (sym all) next.left;
    }

-- No text is left.
pub returns-clause-told : goal.returns-clause-told
returns-clause-told c cs told is =
    let none : length c.entries.rest.now ≡ 0 = search rules in
    let left = c.entries.invariant.left cs told is in
    none_left (c.args.told.now.items ++ cs) c.entries.told.items c.entries.rest.now none left

pub returns-clause-all : goal.returns-clause-all
returns-clause-all c whole =
    let none : length c.entries.rest.now ≡ 0 = search rules in
    let read = c.entries.invariant.read in
    all_read c.args.group.now c.args.told.now.items c.entries.told.items c.entries.rest.now read none
