use Rattle.std.proofs.Common.{◌++◌, length, take, sym, ap, ◌∙◌, arith}
use Rattle.std.specs.Option.{option_map}
use Rattle.exchange_tree.specs.Nodes.{child}
use Rattle.exchange_tree.specs.Sums.{child_sums}
use Rattle.exchange_walk.specs.Answers.{entry_of}
use Rattle.exchange_walk.proofs.Lists.{front_alone, put_more, put_full, put_all}
use Rattle.exchange_walk.proofs.Told.{none_to_place, none_to_deepest, digit_small, told_is}
use Rattle.exchange_walk.proofs.answering.put_answers.Goals as goal

-- A place has no answer.
pub returns-in_default : goal.returns-in_default
returns-in_default c =
    let before = c.args.entries.now.items in
    let none = none_to_place c.args.site.now c.args.heard.now (sym c.sums.ensures
    ∙ ap (option_map (λ sums. sums.now)) c.in_default.is) in
    sym (ap (λ es. take 4097 (before ++ es)) none ∙ front_alone 4097 before (omega (arith, c.requires)))

-- Sums of children that no entry has are not answered.
pub returns-then-digits-ge-MOST_DIGITS : goal.returns-then-digits-ge-MOST_DIGITS
returns-then-digits-ge-MOST_DIGITS c =
    let before = c.args.entries.now.items in
    let none = none_to_deepest c.args.site.now c.args.heard.now (omega (
      arith,
      c.if-digits-ge-MOST_DIGITS.true,
      ap length (c.digits.ensures.value ∙ c.node-node.ensures),
    )) in
    sym (ap (λ es. take 4097 (before ++ es)) none ∙ front_alone 4097 before (omega (arith, c.requires)))

-- Nothing is put yet.
pub loop-digit-init : goal.loop-digit-init
loop-digit-init c = sym (front_alone 4097 c.args.entries.now.items (omega (arith, c.requires)))

-- A digit at which sums differ is below 16.
pub child-requires-clause-digit : goal.child-requires-clause-digit
child-requires-clause-digit c = digit_small (child_sums c.args.site.now c.node-node.result.now) c.in-Some.theirs.now
    c.as_slice-digit-items.result.now c.loop-digit.digit-index
    (c.as_slice-digit-items.ensures.value ∙ c.in_ok-digits.ensures)
    (omega (arith, c.loop-digit-test.true, c.loop-digit.auto.digit-index-end))

-- There is no room for more.
pub returns-then-len-gt-MOST_ENTRIES : goal.returns-then-len-gt-MOST_ENTRIES
returns-then-len-gt-MOST_ENTRIES c =
    let site = c.args.site.now in
    let node = c.node-node.result.now in
    put_full 4097 (λ digit. entry_of site (child node digit)) c.args.entries.now.items c.loop-digit.entries.items
    c.as_slice-digit-items.result.now c.loop-digit.digit-index c.loop-digit.invariant
    (omega (arith, c.if-len-gt-MOST_ENTRIES.true, c.len.ensures))
    ∙ ap (λ es. take 4097 (c.args.entries.now.items ++ es))
    (told_is site c.args.heard.now node c.in-Some.theirs.now c.as_slice-digit-items.result.now
    (sym c.sums.ensures ∙ ap (option_map (λ sums. sums.now)) c.in-Some.is) c.node-node.ensures
    (omega (arith, c.if-digits-ge-MOST_DIGITS.false, ap length c.digits.ensures.value))
    (c.as_slice-digit-items.ensures.value ∙ c.in_ok-digits.ensures))

-- One entry more is put.
pub loop-digit-preserved : goal.loop-digit-preserved
loop-digit-preserved c =
    let site = c.args.site.now in
    let node = c.node-node.result.now in
    put_more 4097 (λ digit. entry_of site (child node digit)) c.args.entries.now.items c.loop-digit.entries.items
    c.push.new.self.items c.as_slice-digit-items.result.now c.loop-digit.digit-index 0 c.in_ok-entry_of.field-0
    (omega (arith, c.loop-digit-test.true, c.loop-digit.auto.digit-index-end)) c.loop-digit.invariant
    (omega (arith, c.if-len-gt-MOST_ENTRIES.false, c.len.ensures))
    (c.in_ok-entry_of.ensures ∙ ap (entry_of site) c.in_ok-child.ensures) c.in_ok-push.ensures.items

-- All are put.
pub returns : goal.returns
returns c =
    let site = c.args.site.now in
    let node = c.node-node.result.now in
    put_all 4097 (λ digit. entry_of site (child node digit)) c.args.entries.now.items c.loop-digit.entries.items
    c.as_slice-digit-items.result.now c.loop-digit.digit-index c.loop-digit.invariant
    (omega (arith, c.loop-digit-test.false, c.loop-digit.auto.digit-index-end))
    ∙ ap (λ es. take 4097 (c.args.entries.now.items ++ es))
    (told_is site c.args.heard.now node c.in-Some.theirs.now c.as_slice-digit-items.result.now
    (sym c.sums.ensures ∙ ap (option_map (λ sums. sums.now)) c.in-Some.is) c.node-node.ensures
    (omega (arith, c.if-digits-ge-MOST_DIGITS.false, ap length c.digits.ensures.value))
    (c.as_slice-digit-items.ensures.value ∙ c.in_ok-digits.ensures))
