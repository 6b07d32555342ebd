-- The texts of the statements.
use Rattle.std.specs.Prelude.{ℕ, List, codes}

abbrev pub create_text : List ℕ
create_text =
    codes "CREATE TABLE ops2 (digest TEXT PRIMARY KEY, kind INTEGER NOT NULL, body BLOB NOT NULL)"

abbrev pub insert_text : List ℕ
insert_text = codes "INSERT INTO ops2 (digest, kind, body) VALUES (?1, ?2, ?3)"

abbrev pub ids_text : List ℕ
ids_text = codes "SELECT rowid FROM ops2 WHERE digest = ?1"

abbrev pub rowid_text : List ℕ
rowid_text = codes "SELECT rowid FROM ops2 WHERE rowid = ?1"

abbrev pub delete_text : List ℕ
delete_text = codes "DELETE FROM ops2 WHERE digest = ?1"

abbrev pub all_text : List ℕ
all_text = codes "SELECT digest, kind, body FROM ops2"

abbrev pub held_text : List ℕ
held_text = codes "SELECT digest, kind, body FROM ops2 WHERE digest = ?1"

abbrev pub kind_text : List ℕ
kind_text = codes "SELECT kind FROM ops2 WHERE kind = ?1"

abbrev pub older_text : List ℕ
older_text = codes "SELECT digest, body FROM ops"

abbrev pub drop_text : List ℕ
drop_text = codes "DROP TABLE ops"
