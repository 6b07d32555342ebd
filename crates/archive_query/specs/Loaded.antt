-- What is listed of a whole site, with its contents.
use Rattle.std.specs.Prelude.{Option}
use Rattle.std.specs.Option.{option_map}
use Rattle.archive_model.specs.declared.listed.Listed.{Listed}
use Rattle.archive_model.specs.declared.prepared.Prepared.{Prepared}
use Rattle.archive_model.specs.Listed.{with_content}
use Rattle.site_state.specs.Hidden.{content_held}
use Rattle.site_state.specs.Site.{Map, held_at}

-- an instance that is listed, with the content that is held under its digest
abbrev pub loaded_of : Map → Listed → Option Prepared
loaded_of m l = option_map (with_content l) (content_held (held_at m l.content.digest))
