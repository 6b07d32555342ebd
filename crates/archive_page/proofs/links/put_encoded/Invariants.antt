use Rattle.std.proofs.Common.{◌≡◌, ◌++◌}
use Rattle.form_urlencoded.specs.Form.{byte_serialize}
use Rattle.form_urlencoded.specs.Serialize.{serialized_text}
use Rattle.archive_page.proofs.links.put_encoded.Given as goal

-- What was put, with what is left, is all.
abbrev pub invariant-loop-piece : goal.invariant-loop-piece
invariant-loop-piece l = l.out.items ++ serialized_text l.piece-iterator ≡ l.fn.out.items ++ byte_serialize l.value
