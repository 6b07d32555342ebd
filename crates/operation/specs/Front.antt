-- A content's spelling as slices of it.
use Rattle.operation.specs.declared.decoding.Front.{Front}
use Rattle.operation.specs.declared.draft.Draft.{Draft}

abbrev pub drafted_front : Front → Draft
drafted_front front = record {
  class = front.class.now;
  instance = front.instance.now;
  syntax = front.syntax;
  body =
      front.body.now;
}
