-- What the texts of the statements mean.
use Rattle.std.proofs.Common.{◌≡◌, ◌⊎◌, inl, inr, ℕ, pos, negsuc, List, [], ◌∷◌, codes, false, None}
use Rattle.std.proofs.Common.{refl, sym, subst}
use Rattle.sqlite.specs.declared.types.Value.TheVariants.{Null, Int}
use Rattle.sqlite.specs.Term.{Term, lit, col, op1, op2}
use Rattle.sqlite.specs.Query.{Query, inner, end}
use Rattle.sqlite.specs.Collation.TheVariants.{Binary}
use Rattle.sqlite_sql.specs.declared.ops.CompareOp.TheVariants.{Eq}
use Rattle.sqlite_sql.specs.declared.ops.UnaryOp.TheVariants.{ToNumeric}
use Rattle.sqlite_sql.specs.declared.ops.BinaryOp.TheVariants.{Compare}
use Rattle.sqlite.specs.Source.TheVariants.{Values}
use Rattle.sqlite.specs.Command.{Command}
use Rattle.sqlite.specs.Command.TheVariants.{Delete, Insert, Select}
use Rattle.sqlite.specs.Listing.{understood, reads_listing}
use Rattle.sqlite_tied.specs.Compute.{everything}
use Rattle.sqlite.proofs.Callers.{IsPlain, command_of}
use Rattle.op_shelf.specs.Table.{shelf_schema}
use Rattle.op_shelf.specs.Texts.{delete_text, ids_text, insert_text, all_text, held_text, kind_text, rowid_text}

abbrev pub terms : List Term
terms = lit Null ∷ col 0 0 ∷ col 0 1 ∷ col 0 2 ∷ []

pub insert_is : (tree : ℕ) (checks : List Term) → command_of (understood (shelf_schema tree checks) insert_text)
    ≡ Insert 0 (Values terms 4)
unfolding understood everything
insert_is tree checks = refl

pub insert_plain : (tree : ℕ) (checks : List Term) → IsPlain (understood (shelf_schema tree checks) insert_text)
unfolding understood everything
insert_plain tree checks = (refl, refl)

-- the tree in which the table stands
abbrev pub Serves : ℕ → Type 0
Serves tree = (tree ≡ 0) ⊎ (tree ≡ 2)

-- a text is this query, over any schema of a shelf
pub record IsQuery (tree : ℕ) (checks : List Term) (text : List ℕ) (query : Query) (names : List (List ℕ)) : Type 0
  where
    pub is : command_of (understood (shelf_schema tree checks) text) ≡ Select (record { lets = []; body = query }) names
    pub plain : IsPlain (understood (shelf_schema tree checks) text)
    pub unlisted : reads_listing (shelf_schema tree checks) text ≡ false

abbrev pub entry_names : List (List ℕ)
entry_names = codes "digest" ∷ codes "kind" ∷ codes "body" ∷ []

abbrev pub all_query : ℕ → Query
all_query tree = record {
  from = inner tree end;
  filter = [];
  group = None;
  project = col 1 1 ∷ col 1 2 ∷ col 1 3 ∷ [];
  distinct = false;
  collations = [];
  order = [];
  limit = lit (Int (negsuc 0));
  offset = lit (Int (pos 0));
}

pub all_is : (tree : ℕ) (checks : List Term) → Serves tree → IsQuery tree checks all_text (all_query tree) entry_names
unfolding understood everything
all_is tree checks (inl first) = subst (λ n. IsQuery n checks all_text (all_query n) entry_names) (sym first)
    (record { is = refl; plain = (refl, refl); unlisted = refl })
all_is tree checks (inr third) = subst (λ n. IsQuery n checks all_text (all_query n) entry_names) (sym third)
    (record { is = refl; plain = (refl, refl); unlisted = refl })

abbrev pub held_query : ℕ → Query
held_query tree = record {
  from = inner tree end;
  filter = op2 (Compare Eq Binary) (col 1 1) (col 0 0) ∷ [];
  group = None;
  project = col 1 1 ∷ col 1 2 ∷ col 1 3 ∷ [];
  distinct = false;
  collations = [];
  order = [];
  limit = lit (Int (negsuc 0));
  offset = lit (Int (pos 0));
}

pub held_is : (tree : ℕ) (checks : List Term) → Serves tree → IsQuery tree checks held_text (held_query tree)
    entry_names
unfolding understood everything
held_is tree checks (inl first) = subst (λ n. IsQuery n checks held_text (held_query n) entry_names) (sym first)
    (record { is = refl; plain = (refl, refl); unlisted = refl })
held_is tree checks (inr third) = subst (λ n. IsQuery n checks held_text (held_query n) entry_names) (sym third)
    (record { is = refl; plain = (refl, refl); unlisted = refl })

abbrev pub kind_query : ℕ → Query
kind_query tree = record {
  from = inner tree end;
  filter = op2 (Compare Eq Binary) (col 1 2) (op1 ToNumeric (col 0 0)) ∷ [];
  group = None;
  project = col 1 2 ∷ [];
  distinct = false;
  collations = [];
  order = [];
  limit = lit (Int (negsuc 0));
  offset = lit (Int (pos 0));
}

pub kind_is : (tree : ℕ) (checks : List Term) → Serves tree → IsQuery tree checks kind_text (kind_query tree)
    (codes "kind" ∷ [])
unfolding understood everything
kind_is tree checks (inl first) = subst (λ n. IsQuery n checks kind_text (kind_query n) (codes "kind" ∷ [])) (sym first)
    (record { is = refl; plain = (refl, refl); unlisted = refl })
kind_is tree checks (inr third) = subst (λ n. IsQuery n checks kind_text (kind_query n) (codes "kind" ∷ [])) (sym third)
    (record { is = refl; plain = (refl, refl); unlisted = refl })

-- the rowids of those under a digest
abbrev pub ids_query : ℕ → Query
ids_query tree = record {
  from = inner tree end;
  filter = op2 (Compare Eq Binary) (col 1 1) (col 0 0) ∷ [];
  group = None;
  project = col 1 0 ∷ [];
  distinct = false;
  collations = [];
  order = [];
  limit = lit (Int (negsuc 0));
  offset = lit (Int (pos 0));
}

abbrev pub id_names : List (List ℕ)
id_names = codes "rowid" ∷ []

pub ids_is : (tree : ℕ) (checks : List Term) → Serves tree → IsQuery tree checks ids_text (ids_query tree) id_names
unfolding understood everything
ids_is tree checks (inl first) = subst (λ n. IsQuery n checks ids_text (ids_query n) id_names) (sym first)
    (record { is = refl; plain = (refl, refl); unlisted = refl })
ids_is tree checks (inr third) = subst (λ n. IsQuery n checks ids_text (ids_query n) id_names) (sym third)
    (record { is = refl; plain = (refl, refl); unlisted = refl })

-- those of a rowid
abbrev pub rowid_query : ℕ → Query
rowid_query tree = record {
  from = inner tree end;
  filter = op2 (Compare Eq Binary) (col 1 0) (col 0 0) ∷ [];
  group = None;
  project = col 1 0 ∷ [];
  distinct = false;
  collations = [];
  order = [];
  limit = lit (Int (negsuc 0));
  offset = lit (Int (pos 0));
}

pub rowid_is : (tree : ℕ) (checks : List Term) → Serves tree
    → IsQuery tree checks rowid_text (rowid_query tree) id_names
unfolding understood everything
rowid_is tree checks (inl first) = subst (λ n. IsQuery n checks rowid_text (rowid_query n) id_names) (sym first)
    (record { is = refl; plain = (refl, refl); unlisted = refl })
rowid_is tree checks (inr third) = subst (λ n. IsQuery n checks rowid_text (rowid_query n) id_names) (sym third)
    (record { is = refl; plain = (refl, refl); unlisted = refl })

-- the DELETE takes those out that the first of these shows
abbrev pub delete_command : ℕ → Command
delete_command tree = Delete 0 (record { lets = []; body = ids_query tree })

-- the text takes those out, over any schema of a shelf
pub record IsDelete (tree : ℕ) (checks : List Term) : Type 0 where
  pub is : command_of (understood (shelf_schema tree checks) delete_text) ≡ delete_command tree
  pub plain : IsPlain (understood (shelf_schema tree checks) delete_text)

pub delete_is : (tree : ℕ) (checks : List Term) → Serves tree → IsDelete tree checks
unfolding understood everything
delete_is tree checks (inl first) = subst (λ n. IsDelete n checks) (sym first)
    (record { is = refl; plain = (refl, refl) })
delete_is tree checks (inr third) = subst (λ n. IsDelete n checks) (sym third)
    (record { is = refl; plain = (refl, refl) })
