-- What a copy is seen as.
use Rattle.operation.specs.declared.op.Op.TheVariants.{Content as a_content}
use Rattle.operation.specs.Parts.{ContentParts}
use Rattle.operation.specs.Spelling.{digest_of}
use Rattle.study_index.specs.Index.{Copy, a_copy}

-- a content is seen by what it has
abbrev pub copy_view : ContentParts → Copy
copy_view content = a_copy content.instance (digest_of (a_content content))
