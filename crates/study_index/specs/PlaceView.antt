-- What a place is seen as.
use Rattle.std.specs.Arc.{arc_value}
use Rattle.study_index.specs.declared.place.PlaceSource.{PlaceSource}
use Rattle.study_index.specs.declared.place.PlaceSource.TheVariants.{Stored, Given}
use Rattle.study_index.specs.Index.{pick_of}
use Rattle.study_index.specs.Live.{Place, place_of}

-- one of a content is seen by what the content has
abbrev pub place_view : PlaceSource → Place
place_view (Stored content) = place_of content.instance (pick_of content)
place_view (Given parts) = arc_value parts
