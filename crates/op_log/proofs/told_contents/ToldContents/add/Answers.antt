use Rattle.std.proofs.Common.{◌≡◌, ◌++◌, ◌∷◌, [], ℕ, List, None, nat_eq, subst, sym, ap, ◌∙◌}
use Rattle.std.specs.Map.{lookup}
use Rattle.std.specs.Cmp.Lexicographic.{pointwise}
use Rattle.indexmap.proofs.CallerLemmas.{insert_entry-new}
use Rattle.octets.specs.Members.{Has}
use Rattle.operation.specs.Parts.{ContentParts}
use Rattle.op_log.specs.Readable.{IsTableOf}
use Rattle.op_log.proofs.Tables.{absent_if, table_kept, table_more}
use Rattle.op_log.proofs.told_contents.ToldContents.add.Goals as goal

-- One with its digest is there.
pub returns-in-Some : goal.returns-in-Some
returns-in-Some c told was =
    let entries = c.args.self.now.table.entries in
    let there = c.in-Some._earlier.now in
    table_kept told entries c.args.content.now there was
    (subst (λ (d : List ℕ). Has entries (d, there)) c.digest-digest.ensures c.in-Some.ensures.found)

-- None has it, so this one comes last.
pub returns : goal.returns
returns c told was =
    let table = c.args.self.now.table in
    let content = c.args.content.now in
    let key = c.as_bytes.result.now in
    let none = absent_if table.entries c.digest-digest.result.now (c.find.ensures.none c.in_default.is) in
    let here = subst (λ (d : List ℕ). lookup (pointwise nat_eq d) table.entries ≡ None) (sym c.as_bytes.ensures) none in
    let entries = c.in_ok-insert.ensures.entries ∙ insert_entry-new (pointwise nat_eq) table key c.in_ok-copy.field-0 here
    ∙ ap (λ (k : ContentParts). table.entries ++ (key, k) ∷ []) c.in_ok-copy.ensures in
    subst (λ (es : List (List ℕ × ContentParts)). IsTableOf (told ++ content ∷ []) es) (sym entries)
    (table_more told table.entries key content (c.as_bytes.ensures ∙ c.digest-digest.ensures) was)
