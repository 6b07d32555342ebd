-- What is heard and said are frames.
use Rattle.std.proofs.Common.{◌≡◌, ℕ, List, [], ◌∷◌, ◌++◌}
use Rattle.std.proofs.Common.{arith, sym, subst}
use Rattle.operation.specs.declared.op.Op.{Op}
use Rattle.site_state.specs.Site.{Map}
use Rattle.exchange_frames.specs.declared.frame.Frame.{Frame}
use Rattle.exchange_frames.specs.declared.frame.Frame.TheVariants.{Have, Want, Differ}
use Rattle.exchange_frames.specs.Spelling.{IsFrame}
use Rattle.exchange.specs.Held.{lacked}
use Rattle.exchange.proofs.Said.{round_says_frames}
use Rattle.exchange.proofs.Recorded.{recorded_digests}
use Rattle.exchange.specs.declared.role.Role.{Role}
use Rattle.exchange.specs.declared.role.Role.TheVariants.{Caller, Callee, OldCaller}
use Rattle.exchange.specs.declared.side.Side.{Side}
use Rattle.exchange.specs.declared.task.Task.{Task}
use Rattle.exchange.specs.declared.task.Task.TheVariants as tasks
use Rattle.exchange.specs.Course.{gifts_of, Does, SetsOut}
use Rattle.exchange.specs.Hearing.{AreFrames}
use Rattle.exchange.specs.Saying.{AreSayable}
use Rattle.exchange.proofs.Turns.{Fits}

pub frames_more : (frames more : List Frame) → AreFrames frames → AreFrames more → AreFrames (frames ++ more)
frames_more [] more are too = too
frames_more (f ∷ frames) more are too = (are.0, frames_more frames more are.1 too)

one_frame : (x : Frame) (more : List Frame) → more ≡ x ∷ [] → IsFrame x → AreFrames more
one_frame x more is p = subst AreFrames (sym is) (p, tt)

no_frame : (more : List Frame) → more ≡ [] → AreFrames more
no_frame more is = subst AreFrames (sym is) tt

gifts_frames : (ops : List Op) → AreSayable (gifts_of ops) → AreFrames (gifts_of ops)
gifts_frames [] p = (tt, tt)
gifts_frames (op ∷ ops) p = (p.0.1, gifts_frames ops p.1)

want_frame : (m : Map) (have want : List (List ℕ)) (frame : Frame) → frame ≡ Have have → IsFrame frame
    → want ≡ lacked m have → IsFrame (Want want)
want_frame m have want frame is lawful same =
    subst (λ (ds : List (List ℕ)). IsFrame (Want ds)) (sym same)
    (round_says_frames.want m have (subst IsFrame is lawful))

-- What is said for a frame, and was written, are frames.
pub told_frames : {H : Type 0} (holds : H → Map) (alone : H → Type 0) (task : Task) (s : Side) (h : H) (frame : Frame)
    (more : List Frame) (t : Side) (k : H) → Fits s.role s.awaited task frame → IsFrame frame
    → Does holds alone task s h more t k → AreSayable more → AreFrames more
told_frames holds alone tasks.Refuse s h frame more t k fit lawful d sayable = absurd d
told_frames holds alone (tasks.Begin v) s h frame more t k fit lawful d sayable =
    one_frame _ more d.1.answers (round_says_frames.buckets _)
told_frames holds alone (tasks.Meet v) s h frame more t k fit lawful d sayable = one_frame _ more d.1 (omega arith)
told_frames holds alone (tasks.Compare b) s h frame more t k fit lawful d sayable =
    one_frame (Differ d.places) more d.says (subst (λ (p : List ℕ). IsFrame (Differ p)) (sym d.looks.answers)
    (round_says_frames.differ _ b))
told_frames holds alone (tasks.Offer p) s h frame more t k fit lawful d sayable =
    one_frame _ more d.1.answers.0 (round_says_frames.part s.round.version p d.1.had
    (recorded_digests d.1.had d.1.was_had.own))
told_frames holds alone (tasks.Ask x) s h frame more t k fit lawful d sayable =
    one_frame (Want d.want) more d.says (want_frame d.looks.had x d.want frame fit lawful d.looks.answers)
told_frames holds alone (tasks.Give w) s h frame more t k fit lawful d sayable =
    subst AreFrames (sym d.says) (gifts_frames d.ops (subst AreSayable d.says sayable))
told_frames holds alone (tasks.Take op) s h frame more t k fit lawful d sayable = no_frame more d.says
told_frames holds alone tasks.Show s h frame more t k fit lawful d sayable =
    one_frame _ more d.1.answers (round_says_frames.buckets _)
told_frames holds alone tasks.Rest s h frame more t k fit lawful d sayable = no_frame more d.1

-- So are the first words.
pub first_frames : {H : Type 0} (holds : H → Map) (alone : H → Type 0) (role : Role) (h : H) (told : List Frame)
    (s : Side) (k : H) → SetsOut holds alone role h told s k → AreFrames told
first_frames holds alone Caller h told s k d = one_frame _ told d.1 (omega arith)
first_frames holds alone Callee h told s k d = no_frame told d.1
first_frames holds alone OldCaller h told s k d = one_frame _ told d.1.answers (round_says_frames.buckets _)
