use Rattle.std.proofs.Common.{◌∙◌, ap, sym}
use Rattle.octets.specs.Texts.{text_cmp}
use Rattle.study_index.specs.Keys.{has}
use Rattle.study_index.specs.Live.{Text, pick_at, is_of_series}
use Rattle.archive_query.proofs.PutIn.{none_put, one_put}
use Rattle.archive_query.proofs.candidates.put_instance.Goals as goal

-- Its pick is of another series.
pub returns-then-not-is_of_series : goal.returns-then-not-is_of_series
returns-then-not-is_of_series c = λ uid.
    let p = λ (u : Text). is_of_series c.args.study.now c.args.series.now (pick_at u c.args.index.now.picks) in
    none_put p c.args.one.now (ap (is_of_series c.args.study.now c.args.series.now) (sym c.pick.ensures)
    ∙ sym c.is_of_series.ensures ∙ c.if-not-is_of_series.true) uid (has text_cmp c.args.uids.now.keys uid)

-- Its pick is of the series, and it is put in.
pub returns : goal.returns
returns c = λ uid.
    let p = λ (u : Text). is_of_series c.args.study.now c.args.series.now (pick_at u c.args.index.now.picks) in
    ap (λ ks. has text_cmp ks uid) c.in_ok-put_uid.ensures
    ∙ one_put p c.args.one.now (ap (is_of_series c.args.study.now c.args.series.now) (sym c.pick.ensures)
    ∙ sym c.is_of_series.ensures ∙ c.if-not-is_of_series.false) c.args.uids.now.keys uid
