use Rattle.std.proofs.Common.{◌≡◌, drop, map, take, []}
use Rattle.octets.specs.Texts.{text_cmp}
use Rattle.join_laws.specs.GrowSet.{union_of}
use Rattle.archive_query.specs.Candidates.{cut_texts}
use Rattle.archive_query.proofs.candidates.cut_texts.Given as goal

-- with what is left, all texts are in
abbrev pub invariant-loop-text : goal.invariant-loop-text
invariant-loop-text l = union_of text_cmp l.found.keys (map (take 64) (drop l.text-index l.texts))
    ≡ union_of text_cmp [] (cut_texts l.texts)
