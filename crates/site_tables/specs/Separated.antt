-- Tables as tab-separated values.
use Rattle.std.specs.Prelude.{◌≡◌, ℕ, List, ◌∷◌, Some, true, false}
use Rattle.std.specs.List.{flat_map}
use Rattle.std.specs.Global.{Vec}
use Rattle.csv.specs.Writing.{default_writer, with_delimiter, with_flexible, row_text}
use Rattle.csv.specs.Writing.{writer_setup, fields_written, has_written, text_written}
use Rattle.csv.specs.declared.writer.Writer.{Writer}
use Rattle.csv.specs.declared.writer.WriterBuilder.{WriterBuilder}

-- rows of any length, with a tab between each two cells; a cell with a tab, a quote or a line's end stands in quotes
abbrev pub tabbed : WriterBuilder
tabbed = with_flexible (with_delimiter default_writer 9) true

-- a heading and rows below it, a record each
abbrev pub separated : List (List ℕ) → List (List (List ℕ)) → List ℕ
separated heading rows = flat_map (row_text tabbed) (heading ∷ rows)

-- whole records were written, which are this text
pub record IsWritten (writer : Writer (Vec ℕ)) (text : List ℕ) : Type 0 where
  pub setup : writer_setup writer ≡ tabbed
  pub fields : fields_written writer ≡ 0
  pub clean : has_written writer ≡ false
  pub written : text_written (λ v. Some v.items) writer ≡ Some text
