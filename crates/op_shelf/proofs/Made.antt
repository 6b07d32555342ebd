-- What CREATE TABLE makes of an empty database.
use Rattle.std.proofs.Common.{◌≡◌, inl, inr, ℕ, List, [], false, None, Ok, Err, Result}
use Rattle.std.proofs.Common.{OnOk, refl, sym, ap, subst, ◌∙◌}
use Rattle.sqlite.specs.Table.{Table}
use Rattle.sqlite.specs.Command.TheVariants.{CreateTable}
use Rattle.sqlite.specs.Compile.{table_defined_by}
use Rattle.sqlite.specs.Change.{created, next_tree}
use Rattle.sqlite.specs.Does.{Tally, Does, lacks_sequence}
use Rattle.sqlite.specs.Term.{Term}
use Rattle.sqlite.specs.Tree.{Trees}
use Rattle.sqlite_tied.specs.Compute.{everything}
use Rattle.sqlite.specs.declared.error.Error.{Error}
use Rattle.sqlite.specs.Listing.{understood}
use Rattle.sqlite.specs.Effect.{Database}
use Rattle.sqlite.specs.State.{State, mode_of, text_of, Writes, Executes, CommitsBy}
use Rattle.sqlite.proofs.Callers.{IsPlain, command_of, statement_of, runs_as}
use Rattle.op_shelf.specs.States.{tree_in, IsMade}
use Rattle.op_shelf.specs.Table.{ops2, shelf_schema, no_schema}
use Rattle.op_shelf.specs.Texts.{create_text}
use Rattle.op_shelf.proofs.Changes.{went, same_value}

checks_in : {E : Type 0} → Result Table E → List Term
checks_in (Ok table) = table.checks
checks_in (Err e) = []

-- no CHECK: each row is tested when it is read
pub made_checks : List Term
made_checks = checks_in (table_defined_by create_text)

create_is : (command_of (understood no_schema create_text) ≡ CreateTable)
    × (statement_of create_text (understood no_schema create_text) ≡ create_text)
unfolding understood everything
create_is = (refl, refl)

create_plain : IsPlain (understood no_schema create_text)
unfolding understood everything
create_plain = (refl, refl)

pub table_is : table_defined_by create_text ≡ Ok (ops2 0 made_checks)
unfolding understood everything made_checks checks_in
table_is = refl

-- what the statement leaves
makes : (old : State) (after : Database) (tally : Tally) → old.now.schema ≡ no_schema
    → Does old.step_limit (mode_of old) [] old.now create_text None CreateTable (Ok (tally, after))
    → (after.schema ≡ shelf_schema 0 made_checks) × (after.trees 0 ≡ [])
makes old after tally has h =
    let all = went h in
    let first = went all.1 in
    let made = first.1 in
    let both : Ok made.table ≡ Ok (ops2 0 made_checks) = sym made.defined ∙ table_is in
    let same : made.table ≡ ops2 0 made_checks = cc in
    let schema : first.0.schema ≡ shelf_schema 0 made_checks = made.is ∙ ap (λ s. created s made.table) has ∙ ap
    (created no_schema) same in
    let plain : lacks_sequence first.0.schema ≡ false = ap lacks_sequence schema in
    let now : after ≡ first.0 = ap (λ (p : Tally × Database). p.1) (same_value all.2) ∙ same_value (rw plain at first.2)
    in (
      ap (λ (d : Database). d.schema) now ∙ schema,
      ap (λ (d : Database). d.trees 0) now
          ∙ subst (λ s. first.0.trees (next_tree s) ≡ []) has made.empty,
    )

pub creates : (old new : State) (r : Result ℕ Error) → old.now.schema ≡ no_schema → old.in_transaction ≡ false
    → Executes create_text [] old new r → OnOk r (IsMade old new)
creates old new (Err e) has alone h = tt
creates old new (Ok count) has alone h =
    let w = subst (λ t. Writes old new None CreateTable t [] count) create_is.1 (runs_as create_text [] old new
    no_schema has CreateTable create_is.0 create_plain count h) in
    let it = makes old new.now w.tally has w.changed in
    record {
      was_open = w.shown.was_open;
      is_open = w.shown.is_open;
      shelf = (0, inl refl, made_checks, it.0);
      empty = subst (λ n. new.now.trees n ≡ []) (sym (ap tree_in it.0)) it.1;
      committed = rw alone at w.shown.committed_is;
      alone = w.shown.mode ∙ alone;
    }

-- what a crash may find of it
pub commits_made : (old : State) (db : Trees) → old.now.schema ≡ no_schema → CommitsBy create_text [] old db → db 0 ≡ []
unfolding CommitsBy
commits_made old db has h =
    let known = sym h.1.is ∙ ap (λ s. understood s create_text) has in
    let bare = subst IsPlain (sym known) create_plain in
    let is : h.0.command ≡ CreateTable = ap command_of known ∙ create_is.0 in
    let text : text_of create_text h.0 ≡ create_text = ap (statement_of create_text) known ∙ create_is.1 in
    let made = rw (bare.0, bare.1, is) at h.2 in
    elim made [
      | inl ends ↦ absurd (elim ends.0 [ inl commit ↦ let e = commit in cc | inr release ↦ let e = release.2 in cc ])
      | inr writes ↦
          let done = subst (λ t. Does old.step_limit (mode_of old) [] old.now t None CreateTable
          (Ok (writes.1, writes.2))) text writes.3 in
          let it = makes old writes.2 writes.1 has done in
          ap (λ (t : Trees). t 0) writes.5 ∙ it.1
    ]
