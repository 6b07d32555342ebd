-- The older table: its schema, and what it shows.
use Rattle.std.proofs.Common.{◌≡◌, inl, ℕ, pos, negsuc, List, [], ◌∷◌, map, codes, false, None, length}
use Rattle.std.proofs.Common.{IsPermutation, refl, sym, ap, ap₂, subst, ◌∙◌, arith}
use Rattle.std.proofs.lemmas.Fmt.{decimal_digit}
use Rattle.sqlite.specs.declared.types.Value.TheVariants.{Null, Int, Text, Blob}
use Rattle.sqlite.specs.Term.{lit, col}
use Rattle.sqlite.specs.Query.{Query, IsAnswer, output, Output, inner, end}
use Rattle.sqlite.specs.Program.{overlay}
use Rattle.sqlite.specs.Order.{Row, column}
use Rattle.sqlite.specs.Schema.{Schema}
use Rattle.sqlite.specs.Table.{Table}
use Rattle.sqlite.specs.Command.TheVariants.{Select}
use Rattle.sqlite.specs.Listing.{understood, reads_listing}
use Rattle.sqlite.specs.State.{State, Shown}
use Rattle.sqlite_schema.specs.declared.schema.Index.{Index}
use Rattle.sqlite_tied.specs.Compute.{everything}
use Rattle.sqlite.proofs.Callers.{IsPlain, command_of, reads_as}
use Rattle.op_shelf.specs.Older.{ops, ops_index, older_schema, AreOlderParts, pairs, pair_in, pair_of, IsPair}
use Rattle.operation.specs.declared.op.Op.{Op}
use Rattle.op_shelf.proofs.Ops.{digest_texts}
use Rattle.op_shelf.specs.Entries.{digest_text}
use Rattle.operation.specs.Spelling.{spelling}
use Rattle.op_shelf.specs.Texts.{older_text}
use Rattle.op_shelf.proofs.Queries.{each, outs, permuted, overlaid}

written_out : older_schema ≡ record { tables = ops ∷ []; indexes = ops_index ∷ []; views = [] }
written_out = rw (decimal_digit 1 (omega arith)) refl

module _ (s : Schema) (t : Table) (i : Index) (tables : s.tables ≡ t ∷ []) (indexes : s.indexes ≡ i ∷ []) where
  pub older_of : AreOlderParts s t i → s ≡ older_schema
  older_of p =
      let all : s ≡ record { tables = ops ∷ []; indexes = ops_index ∷ []; views = [] } =
      rw (tables ∙ ap (λ x. x ∷ []) p.table, indexes ∙ ap (λ x. x ∷ []) p.index, p.views) refl in
      all ∙ sym written_out

  pub parts_of_older : s ≡ older_schema → AreOlderParts s t i
  parts_of_older older =
      let is = older ∙ written_out in
      let both : t ∷ [] ≡ ops ∷ [] = sym tables ∙ ap (λ (x : Schema). x.tables) is in
      let other : i ∷ [] ≡ ops_index ∷ [] = sym indexes ∙ ap (λ (x : Schema). x.indexes) is in
      record { views = ap (λ (x : Schema). x.views) is; table = cc; index = cc }

abbrev older_query : Query
older_query = record {
  from = inner 0 end;
  filter = [];
  group = None;
  project = col 1 1 ∷ col 1 2 ∷ [];
  distinct = false;
  collations = [];
  order = [];
  limit = lit (Int (negsuc 0));
  offset = lit (Int (pos 0));
}

older_is : command_of (understood older_schema older_text) ≡ Select (record { lets = []; body = older_query })
    (codes "digest" ∷ codes "body" ∷ [])
unfolding understood everything
older_is = refl

older_plain : IsPlain (understood older_schema older_text)
unfolding understood everything
older_plain = (refl, refl)

older_unlisted : reads_listing older_schema older_text ≡ false
unfolding understood everything
older_unlisted = refl

pub plain_older : (s : Schema) → s ≡ older_schema → IsPlain (understood s older_text)
plain_older s older = subst (λ s. IsPlain (understood s older_text)) (sym older) older_plain

-- what is shown are the pairs of the table
pub lists_pairs : (old new : State) (rows : List Row) → old.now.schema ≡ older_schema → Shown older_text [] old new rows
    → IsPermutation (pairs (old.now.trees 0)) rows
lists_pairs old new rows has h =
    let table = old.now.trees 0 in
    let got = reads_as older_text [] old new older_schema has _ older_is older_plain older_unlisted rows h in
    let a : IsAnswer older_query (overlay old.now.trees []) [] rows = got.answer Null in
    let shows : Row → Output = λ r. ([], pair_in r) in
    let staged : a.staged ≡ map (λ (r : Row). [] ∷ r ∷ []) table = a.grouped ∙ rw (overlaid old.now.trees 0 (inl refl))
    (each table) in
    let kept : a.kept ≡ map shows table = a.distinct ∙ ap (map (output older_query)) staged ∙ outs (output older_query)
    shows [] (λ r. refl) table in
    permuted shows table rows a.kept a.ordered kept a.same (a.shown ∙ refl)

-- operations that are spelled alike have one pair
pub same_pair : (a b : Op) → spelling a ≡ spelling b → pair_of a ≡ pair_of b
same_pair a b same = ap₂ (λ (d s : List ℕ). Text d ∷ Blob s ∷ []) (digest_texts a b same) same

-- the bytes of a pair are a spelling
pub body_of_pair : (pair : Row) (op : Op) (body : List ℕ) → pair ≡ pair_of op → column pair 1 ≡ Blob body
    → body ≡ spelling op
body_of_pair pair op body is held = let both : Blob body ≡ Blob (spelling op) = sym held ∙ ap (λ p. column p 1) is in cc

-- a pair is long enough
pub pair_len : (pair : Row) → IsPair pair → length pair ≡ 2
pair_len pair it = ap length it.2

pub pair_text : (pair : Row) (it : IsPair pair) → column pair 0 ≡ Text (digest_text it.0)
pair_text pair it = ap (λ p. column p 0) it.2

pub pair_blob : (pair : Row) (it : IsPair pair) → column pair 1 ≡ Blob (spelling it.0)
pair_blob pair it = ap (λ p. column p 1) it.2
