-- Why a shelf refuses, in words.
use Rattle.std.specs.Prelude.{ℕ, List, codes}
use Rattle.op_shelf.specs.declared.fault.ShelfFault.{ShelfFault}
use Rattle.op_shelf.specs.declared.fault.ShelfFault.TheVariants as shelf
use Rattle.op_shelf.specs.declared.fault.StoreCause.{StoreCause}
use Rattle.op_shelf.specs.declared.fault.StoreCause.TheVariants as why

-- what a shelf refuses for, by its cause
abbrev pub words_of_store : StoreCause → List ℕ
words_of_store why.Full = codes "the disk is full"
words_of_store why.Failed = codes "the disk failed"
words_of_store why.Closed = codes "the disk failed before, and it was closed"
words_of_store why.Damaged = codes "it is damaged"
words_of_store why.Other = codes "it refused for another cause"

-- what a shelf refuses for
abbrev pub words_of_shelf : ShelfFault → List ℕ
words_of_shelf (shelf.Store cause) = words_of_store cause
words_of_shelf shelf.BadRow = codes "an operation in it is not what its digest says"
words_of_shelf shelf.Memory = codes "memory was refused"
