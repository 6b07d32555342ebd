-- A walk ends: each answer is one digit deeper.
use Rattle.std.proofs.Common.{◌≡◌, ℕ, ◌+◌, ◌<◌, ◌≤◌, List, [], ◌∷◌, true, length, sym, ap, subst, arith}
use Rattle.std.specs.Prelude.{⊤}
use Rattle.std.proofs.lemmas.Bool.{leb-false}
use Rattle.octets.specs.Members.{Has}
use Rattle.walk_frames.specs.Entries.{EntryParts, IsEntry}
use Rattle.walk_frames.specs.Walks.{IsWalk}
use Rattle.exchange_tree.specs.Nodes.{child}
use Rattle.exchange_walk.specs.Answers.{answer_of}
use Rattle.exchange_walk.specs.Splits.{is_split, has_splits}
use Rattle.exchange_walk.specs.Hearing.{IsAnswerTo}
use Rattle.exchange_walk.specs.Laws.{IsChain, IsChainOfAnswers, WalkEnds}
use Rattle.exchange_walk.proofs.Members.{of_each, some_passes}
use Rattle.exchange_walk.proofs.Finding.{in_answer, longer, entries_lie, none_to_equal}

-- so many digits at least, and at most
abbrev From : ℕ → List EntryParts → Type 0
From n walk = (entry : EntryParts) → Has walk entry → n ≤ length entry.node

abbrev Fits : List EntryParts → Type 0
Fits walk = (entry : EntryParts) → Has walk entry → length entry.node ≤ 63

abbrev Chain : List EntryParts → List (List EntryParts) → Type 0
Chain said [] = ⊤
Chain said (heard ∷ later) = Fits said × (has_splits said ≡ true) × IsAnswerTo said heard × Chain heard later

walk_fits : (walk : List EntryParts) → IsWalk walk → Fits walk
walk_fits walk is entry h = (of_each IsEntry walk entry is.lawful h).node.short

deeper : (n : ℕ) (said heard : List EntryParts) → From n said → IsAnswerTo said heard → From (n + 1) heard
deeper n said heard from answers entry h =
    let is = answers entry h in
    omega (arith, entries_lie.deeper said entry.node is, from is.split is.was_said)

few_left : (n : ℕ) (said : List EntryParts) (later : List (List EntryParts)) → n ≤ 64 → From n said → Chain said later
    → length later + n ≤ 64
few_left n said [] le from chain = omega (arith, le)
few_left n said (heard ∷ later) le from chain =
    let some = some_passes is_split said chain.1 in
    let fits : n ≤ 63 = omega (arith, from some.0 some.1, chain.0 some.0 some.1) in
    omega (arith, few_left (n + 1) heard later (omega (arith, fits)) (deeper n said heard from chain.2) chain.3)

few : (first : List EntryParts) (later : List (List EntryParts)) → Chain first later → length later ≤ 64
few first later chain = omega (arith, few_left 0 first later (omega arith) (λ e h. omega arith) chain)

accepted_chain : (first : List EntryParts) (later : List (List EntryParts)) → IsChain first later → Chain first later
accepted_chain first [] chain = tt
accepted_chain first (heard ∷ later) chain =
    (walk_fits first chain.0, chain.1, chain.2, accepted_chain heard later chain.3)

answer_fits : (digests : List (List ℕ)) (said : List EntryParts) → Fits (answer_of digests said)
answer_fits digests said entry h =
    let a = in_answer digests said entry h in
    let at : length entry.node ≡ length (child a.split.node a.of.digit) =
    ap (λ (e : EntryParts). length e.node) a.of.is in
    let short : length a.split.node < 63 = leb-false 63 (length a.split.node) a.of.shallow in
    omega (arith, at, short, longer a.split.node a.of.digit)

answers_chain : (first : List EntryParts) (later : List (List EntryParts)) → Fits first → IsChainOfAnswers first later
    → Chain first later
answers_chain first [] fits chain = tt
answers_chain first (heard ∷ later) fits chain =
    let is = sym chain.1.1 in (
      fits,
      chain.0,
      subst (IsAnswerTo first) is (entries_lie.children chain.1.0 first),
      answers_chain heard later (subst Fits is (answer_fits chain.1.0 first)) chain.2,
    )

pub walk_ends : WalkEnds
walk_ends = record {
  accepted = λ first later chain. few first later (accepted_chain first later chain);
  answers = λ first later is chain. few first later (answers_chain first later (walk_fits first is) chain);
  equal = none_to_equal;
}
