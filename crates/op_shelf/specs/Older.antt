-- The table `ops`, which a shelf had first, and what its rows become.
use Rattle.std.specs.Prelude.{◌≡◌, ℕ, pos, false, true, List, [], ◌∷◌, ◌++◌, None, codes, map}
use Rattle.sqlite.specs.declared.types.Value.{Value}
use Rattle.sqlite.specs.declared.types.Value.TheVariants.{Int, Text, Blob}
use Rattle.sqlite.specs.Order.{Row, column}
use Rattle.sqlite.specs.Term.{Term}
use Rattle.sqlite.specs.Table.{Table}
use Rattle.sqlite.specs.Schema.{Schema}
use Rattle.sqlite.specs.Change.{automatics}
use Rattle.sqlite_schema.specs.declared.schema.Index.{Index}
use Rattle.operation.specs.declared.op.Op.{Op}
use Rattle.operation.specs.Spelling.{spelling}
use Rattle.operation.specs.Reading.{IsOp}
use Rattle.op_shelf.specs.Entries.{kind_in, digest_text}
use Rattle.op_shelf.specs.Table.{digest_column, body_column, ops2}

-- digest TEXT PRIMARY KEY, body BLOB NOT NULL
abbrev pub ops : Table
ops = record {
  name = codes "ops";
  tree = 0;
  columns = digest_column ∷ body_column ∷ [];
  key = None;
  primary = 1 ∷ [];
  uniques = (1 ∷ []) ∷ [];
  orders = (record { digits = 0 }) ∷ [];
  checks = [];
  references = [];
  computed = [];
  stamps = record { places = []; terms = []; formats = [] };
  is_counted = false;
}

abbrev pub older_schema : Schema
older_schema = record { tables = ops ∷ []; indexes = automatics ops 0 1 ops.uniques; views = [] }

-- both tables, within a migration
abbrev pub both_schema : List Term → Schema
both_schema checks =
    let new = ops2 2 checks in
    record {
      tables = ops ∷ new ∷ [];
      indexes = automatics ops 0 1 ops.uniques ++ automatics new 0 3 new.uniques;
      views = [];
    }

-- the index that the database makes for the older table's digests, written out
abbrev pub ops_index : Index
ops_index = record {
  name = codes "sqlite_autoindex_ops_1";
  tree = 1;
  table = 0;
  columns = 1 ∷ [];
  order =
      record { digits = 0 };
  is_unique = true;
}

-- the older table, its index, and nothing else
pub record AreOlderParts (s : Schema) (t : Table) (i : Index) : Type 0 where
  pub views : s.views ≡ []
  pub table : t ≡ ops
  pub index : i ≡ ops_index

-- what a row of the older table has behind its rowid: the text of a digest, and bytes
abbrev pub pair_in : Row → Row
pair_in row = column row 1 ∷ column row 2 ∷ []

abbrev pub pairs : List Row → List Row
pairs = map pair_in

abbrev pub pair_of : Op → Row
pair_of op = Text (digest_text op) ∷ Blob (spelling op) ∷ []

-- a pair is that of some operation
abbrev pub IsPair : Row → Type 0
IsPair pair = (op : Op) × IsOp op × (pair ≡ pair_of op)

abbrev pub bytes_in : Value → List ℕ
bytes_in (Blob bytes) = bytes
bytes_in _ = []

-- the entry that a pair becomes: its kind is the first of its bytes
abbrev pub moved : Row → Row
moved pair = column pair 0 ∷ Int (pos (kind_in (bytes_in (column pair 1)))) ∷ column pair 1 ∷ []
