-- The table `ops2` as a schema has it, in whichever tree it stands and whatever its CHECK says.
use Rattle.std.specs.Prelude.{◌≡◌, ◌⊎◌, ◌+◌, true, false, List, [], ◌∷◌, None, codes, ℕ}
use Rattle.sqlite.specs.Collation.TheVariants.{Binary}
use Rattle.sqlite.specs.declared.types.Value.TheVariants.{Null}
use Rattle.sqlite.specs.Term.{Term}
use Rattle.sqlite.specs.Table.{Table}
use Rattle.sqlite.specs.Schema.{Schema}
use Rattle.sqlite.specs.Kind.TheVariants.{Integer, Text, Any}
use Rattle.sqlite.specs.Change.{automatics}
use Rattle.sqlite_schema.specs.declared.schema.Column.{Column}
use Rattle.sqlite_schema.specs.declared.schema.Index.{Index}

abbrev pub digest_column : Column
digest_column = record {
  name = codes "digest";
  kind = Text;
  is_strict = false;
  not_null = false;
  default =
      Null;
  collation = Binary;
}

abbrev pub kind_column : Column
kind_column = record {
  name = codes "kind";
  kind = Integer;
  is_strict = false;
  not_null = true;
  default =
      Null;
  collation = Binary;
}

abbrev pub body_column : Column
body_column = record {
  name = codes "body";
  kind = Any;
  is_strict = false;
  not_null = true;
  default = Null;
  collation =
      Binary;
}

-- digest TEXT PRIMARY KEY, kind INTEGER NOT NULL, body BLOB NOT NULL
abbrev pub ops2 : ℕ → List Term → Table
ops2 tree checks = record {
  name = codes "ops2";
  tree = tree;
  columns = digest_column ∷ kind_column ∷ body_column ∷ [];
  key = None;
  primary = 1 ∷ [];
  uniques = (1 ∷ []) ∷ [];
  orders = (record { digits = 0 }) ∷ [];
  checks = checks;
  references = [];
  computed = [];
  stamps = record { places = []; terms = []; formats = [] };
  is_counted = false;
}

abbrev pub shelf_schema : ℕ → List Term → Schema
shelf_schema tree checks =
    let table = ops2 tree checks in
    record { tables = table ∷ []; indexes = automatics table 0 (tree + 1) table.uniques; views = [] }

abbrev pub no_schema : Schema
no_schema = record { tables = []; indexes = []; views = [] }

-- the index that the database makes for the digests, in whichever tree
abbrev pub index_of : Index → Index
index_of index = record {
  name = codes "sqlite_autoindex_ops2_1";
  tree = index.tree;
  table = index.table;
  columns =
      1 ∷ [];
  order = record { digits = 0 };
  is_unique = true;
}

-- the table's tree and that of its index
abbrev pub AreTrees : ℕ → Index → Type 0
AreTrees tree index = ((tree ≡ 0) ⊎ (tree ≡ 2)) × (index.tree ≡ tree + 1) × (index.table ≡ tree)

-- the table, its index, and nothing else
pub record AreParts (s : Schema) (t : Table) (i : Index) : Type 0 where
  pub views : s.views ≡ []
  pub table : t ≡ ops2 t.tree t.checks
  pub index : i ≡ index_of i
  pub trees : AreTrees t.tree i

-- the schema has the table alone, in the first tree or in that of a table that stood in for another
abbrev pub IsShelf : Schema → Type 0
IsShelf schema = (tree : ℕ) × ((tree ≡ 0) ⊎ (tree ≡ 2)) × (checks : List Term) × (schema ≡ shelf_schema tree checks)
