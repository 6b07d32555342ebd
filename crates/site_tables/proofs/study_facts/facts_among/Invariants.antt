use Rattle.std.proofs.Common.{◌≡◌, drop}
use Rattle.site_tables.specs.StudyFacts.{facts_among}
use Rattle.site_tables.proofs.study_facts.facts_among.Given as goal

-- What those that are left tell, all tell: none before them has the UID.
abbrev pub invariant-loop-answer : goal.invariant-loop-answer
invariant-loop-answer l = facts_among l.uid (drop l.answer-index l.answers) ≡ facts_among l.uid l.answers
