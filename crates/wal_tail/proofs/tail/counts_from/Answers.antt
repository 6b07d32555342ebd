use Rattle.std.proofs.Common.{◌≡◌, ◌+◌, if◌then◌else◌, ap, ◌∙◌, arith, refl}
use Rattle.sqlite_wal.specs.Recovery.{frame_at}
use Rattle.sqlite_wal.proofs.PartLemmas.{frames_len-suc}
use Rattle.wal_tail.specs.Tail.{IsFrameFrom, count_from, is_own, is_own_commit, page_size}
use Rattle.wal_tail.proofs.Tails.{counted_more, next_inside, next_place}
use Rattle.wal_tail.proofs.tail.counts_from.Goals as goal

-- No frame is counted yet.
pub loop-at-init : goal.loop-at-init
unfolding count_from
loop-at-init c =
    let it = c.requires.place in
    let none : c.args.place.frame ≡ c.args.place.frame + 0 = omega arith in
    record {
      place = it.place ∙ ap (frame_at (page_size c.args.log.now)) none;
      inside = omega (arith, it.place, it.first.whole, frames_len-suc (page_size c.args.log.now) c.args.place.frame);
      far = omega (arith, it.place);
      few = (omega arith, omega arith);
      frames = refl;
      commits = refl;
    }

-- No frame more is whole.
pub returns-in_default : goal.returns-in_default
returns-in_default c =
    let was = c.loop-at.invariant in
    let log = c.args.log.now in
    record {
      behind = c.loop-at._at;
      all = record {
        whole = omega (arith, was.place, was.inside);
        last = omega (
          arith,
          c.in_default.ensures.none refl,
          next_place log (c.args.place.frame + c.loop-at._at) c.loop-at.begin was.place,
        );
      };
      owned = was.frames;
      committed = was.commits;
    }

-- One frame more is counted.
pub loop-at-preserved : goal.loop-at-preserved
loop-at-preserved c =
    let was = c.loop-at.invariant in
    let log = c.args.log.now in
    let k = c.args.place.frame in
    let n = c.loop-at._at in
    let next = c.in-Some.next.now in
    let from : IsFrameFrom log c.loop-at.begin next = c.in-Some.ensures.whole in
    let step : k + n + 1 ≡ k + (n + 1) = omega arith in
    record {
      place = next_inside log (k + n) c.loop-at.begin next was.place from ∙ ap (frame_at (page_size log)) step;
      inside = omega (arith, from.within, from.long);
      far = omega (arith, was.far, from.long);
      few = (
        omega (arith, was.few.0, c.one_if-frames.ensures.most),
        omega (arith, was.few.1, c.one_if-commits.ensures.most),
      );
      frames = counted_more _ log k n c.loop-at.begin c.loop-at.frames _ next was.place from was.frames
          (c.one_if-frames.ensures.one ∙ ap (λ b. if b then 1 else 0)
          (c.is_own.ensures ∙ ap (λ h. is_own h next) c.head_of-head.ensures.head));
      commits = counted_more _ log k n c.loop-at.begin c.loop-at.commits _ next was.place from was.commits
          (c.one_if-commits.ensures.one ∙ ap (λ b. if b then 1 else 0)
          (c.is_own_commit.ensures ∙ ap (λ h. is_own_commit h next) c.head_of-head.ensures.head));
    }
