use Rattle.std.proofs.Common.{sym, ap, ◌∙◌}
use Rattle.std.specs.Option.{option_copied}
use Rattle.std.specs.BTreeSet.{insert_key}
use Rattle.octets.specs.Texts.{text_cmp}
use Rattle.study_index.proofs.Doubles.{put_in}
use Rattle.study_index.proofs.copies.put_next.Goals as goal

-- The UID of the copy was put in.
pub returns : goal.returns
returns c = λ uid.
    let old = c.args.uids.now.keys in
    put_in (option_copied c.args.before) c.args.copy.now old c.put_uid.new.uids.keys uid (sym c.is_next_copy.ensures
    ∙ c.if-not-is_next_copy.false)
    (c.in_ok-put_uid.ensures ∙ ap (insert_key text_cmp old) (c.whole.ensures ∙ c.uid.ensures.value))
