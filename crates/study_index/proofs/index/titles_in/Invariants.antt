use Rattle.std.proofs.Common.{◌≡◌, [], drop}
use Rattle.join_laws.specs.GrowSet.{union_of}
use Rattle.study_index.specs.Index.{naming_cmp, named}
use Rattle.study_index.proofs.index.titles_in.Given as goal

-- with what is left to be named, all is named
abbrev pub invariant-loop-uid : goal.invariant-loop-uid
invariant-loop-uid l = union_of naming_cmp l.titles (named l.note.title (drop l.uid-index l.uid-items)) ≡ union_of
    naming_cmp [] (named l.note.title l.uid-items)
