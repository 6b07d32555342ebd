-- What is counted of a site, in the text format of Prometheus (version 0.0.4).
use Rattle.std.specs.Prelude.{ℕ, List, [], ◌∷◌, ◌++◌, Option, Some, None, ◌==◌, cond, codes}
use Rattle.std.specs.Fmt.{decimal}
use Rattle.std.specs.List.{flat_map}
use Rattle.octets.specs.Texts.{same}
use Rattle.archive_page.specs.Characters.{text_of}
use Rattle.archive_page.specs.declared.metrics.Label.{Label}
use Rattle.archive_page.specs.declared.metrics.Sample.{Sample}
use Rattle.archive_page.specs.declared.metrics.SampleKind.{SampleKind}
use Rattle.archive_page.specs.declared.metrics.SampleKind.TheVariants.{Counter, Gauge}

-- the word for a kind
abbrev pub kind_word : SampleKind → List ℕ
kind_word Counter = codes "counter"
kind_word Gauge = codes "gauge"

-- a byte of a help line: a backslash and an end of a line stand as two
abbrev pub help_byte : ℕ → List ℕ
help_byte b = cond (b == 92) (92 ∷ 92 ∷ []) (cond (b == 10) (92 ∷ 110 ∷ []) (b ∷ []))

-- a byte of a label's value, which stands in quotation marks
abbrev pub label_byte : ℕ → List ℕ
label_byte b = cond (b == 34) (92 ∷ 34 ∷ []) (help_byte b)

-- a label in braces
unfoldable pub label_text : Label → List ℕ
label_text label =
    codes "{" ++ label.name ++ codes "=\"" ++ flat_map label_byte (text_of label.value) ++ codes "\"}"

abbrev pub labels_text : Option Label → List ℕ
labels_text None = []
labels_text (Some label) = label_text label

-- the lines of help and type
unfoldable pub help_text : Sample → List ℕ
help_text sample =
    codes "# HELP " ++ sample.name ++ codes " " ++ flat_map help_byte (text_of sample.help)
    ++ codes "\n# TYPE " ++ sample.name ++ codes " " ++ kind_word sample.kind ++ codes "\n"

-- the same, unless the sample before has the same name
abbrev pub head_text : List ℕ → Sample → List ℕ
head_text before sample = cond (same sample.name before) [] (help_text sample)

-- the line of a sample
unfoldable pub line_text : Sample → List ℕ
line_text sample =
    sample.name ++ labels_text sample.label ++ codes " " ++ decimal sample.value ++ codes "\n"

-- the lines of samples behind one of a name
abbrev pub samples_text : List ℕ → List Sample → List ℕ
samples_text before [] = []
samples_text before (sample ∷ samples) =
    head_text before sample ++ line_text sample ++ samples_text sample.name samples

-- the lines of samples, and above the first of each name its help and type
abbrev pub metrics_text : List Sample → List ℕ
metrics_text samples = samples_text [] samples
