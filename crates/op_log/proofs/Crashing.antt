-- What a crash leaves has what lasts.
use Rattle.std.proofs.Common.{◌≡◌, ◌≤◌, ℕ, List, [], ◌∷◌, ◌++◌, length, map, take, drop, All, None, inl, inr, refl, sym, ◌∙◌}
use Rattle.std.proofs.Common.{ap, subst, arith, Contains, Some}
use Rattle.std.specs.Int.{w32, to_be_bytes}
use Rattle.std.proofs.lemmas.Bool.{cases_lt}
use Rattle.std.proofs.lemmas.List.{length-append, length-drop, length-take-le}
use Rattle.std.proofs.lemmas.List.Elements.{All-contains_itself, All-head, All-nil, All-tail}
use Rattle.std.proofs.lemmas.Option.{same_Some as some_is}
use Rattle.sqlite_disk.specs.Disk.{Holds}
use Rattle.sqlite_disk.specs.declared.Disk.{Ghosts}
use Rattle.data_set.specs.declared.syntax.Syntax.TheVariants.{Implicit}
use Rattle.body_log.proofs.Holding.{lasting}
use Rattle.body_log.specs.Lasts.{Spares}
use Rattle.head_log.specs.Groups.{first_gate, joined}
use Rattle.operation.specs.declared.op.Op.{Op}
use Rattle.operation.specs.declared.op.Op.TheVariants.{Content as a_content}
use Rattle.head_log.proofs.Texts.{once}
use Rattle.operation.specs.Spelling.{hash_of, spelling}
use Rattle.op_log.specs.Crashes.{AllLast, ComesToBeSettled, HaveAllOf, IsSettled, LeavesAll, LeavesLog, LeavesLogOfOwn, LeavesOldOrAll}
use Rattle.op_log.specs.Filling.{AreFit}
use Rattle.op_log.specs.Heads.{Entry, Head, IsSpelled, body_of, group_text, head_of}
use Rattle.op_log.specs.Kept.{HasBody, HaveOwnDigests, IsBelow, IsHeld, StandsFor, first_under, with_head}
use Rattle.op_log.specs.Log.{Opened}
use Rattle.op_log.proofs.Keeping.{stands}
use Rattle.op_log.proofs.Lists.{body_is}
use Rattle.op_log.proofs.Lookups.{among, has_digest}
use Rattle.op_log.proofs.Mending.{settled_own}
use Rattle.op_log.proofs.Settling.{with_all}
use Rattle.op_log.proofs.TestedBodies.{own_bytes}
use Rattle.op_log.proofs.Walks.{heads_once, laid_once, spelled_of}

-- any bytes are the data set of some operation, be it one that no site takes
abbrev op_with : List ℕ → Op
op_with body =
    a_content (record { digest = []; class = []; instance = []; syntax = Implicit; body = body; values = []; note = None })

abbrev front_with : List ℕ → List ℕ
front_with body = 1 ∷ (0 ∷ (0 ∷ (1 ∷ to_be_bytes w32 (length body))))

spelled_with : (body : List ℕ) → spelling (op_with body) ≡ front_with body ++ body
unfolding spelling
spelled_with body = refl

body_with : (body : List ℕ) → body_of (op_with body) ≡ body
body_with body =
    let text = spelled_with body in
    let long = ap length text in
    let parts = length-append (front_with body) body in
    body_is (op_with body) (front_with body) body text (omega (arith, long, parts))

-- another file has what a file of data sets has below an offset
abbrev AllIn : {B : Type 0} → Ghosts B → B → ℕ → List ℕ → Type 0
AllIn g disk end file = (e : Entry) → IsHeld g disk end e → HasBody file e

module _ {B : Type 0} (g : Ghosts B) where
  -- what a crash leaves has what lasts
  in_left : (disk : B) (end : ℕ) → AllLast g disk end → (file : List ℕ) → g.may_leave disk file → AllIn g disk end file
  in_left disk end last file may e held some = (last e held some).0.left file may

  -- and so it has after a call that spares it
  in_later : (old new : B) (end past : ℕ) → end ≤ past → AllLast g old end → Spares g past old new → (file : List ℕ)
      → g.may_leave new file → AllIn g old end file
  in_later old new end past low last spared file may e held some =
      let (before, was, keeps) = spared.left file may in
      let it = last e held some in
      keeps e.1 (body_of e.0) (omega (arith, it.1, low)) (it.0.left before was)

  -- What lasted goes on to last: what the file has below the offset it had before.
  last_on : (old new : B) (end past : ℕ) → end ≤ past → end ≤ length (g.seen old) → AllLast g old end → Spares g past old new
      → AllLast g new end
  last_on old new end past low reach last spared e held some =
      let body = body_of e.0 in
      let (now, within) = held some in
      let mine = take (length body) (drop e.1 (g.seen old)) in
      let was : Holds (g.seen old) e.1 mine = own_bytes (g.seen old) e.1 (length body) (omega (arith, within, reach)) in
      let many : length mine ≡ length body = length-take-le (length body) (drop e.1 (g.seen old)) (omega (arith, within, reach, length-drop e.1 (g.seen old))) in
      let still = spared.kept e.1 mine (omega (arith, within, low, many)) was in
      let same = once (g.seen new) e.1 mine body many still now in
      let before = subst (λ (bytes : List ℕ). Holds (g.seen old) e.1 bytes) same was in
      let it = last e (λ low. (before, within)) some in
      (lasting g past old new spared e.1 body (omega (arith, within, low)) it.0, within)

  -- all bytes below the offset are the data set of some operation, so it reaches to there
  reaches : (disk : B) (end : ℕ) → end ≤ length (g.seen disk) → (file : List ℕ) → AllIn g disk end file → end ≤ length file
  reaches disk end reach file has = elim (cases_lt 0 end) [
    | inl some ↦
        let body = take end (drop 0 (g.seen disk)) in
        let there : Holds (g.seen disk) 0 body = own_bytes (g.seen disk) 0 end (omega (arith, reach)) in
        let long : length body ≡ end = length-take-le end (g.seen disk) reach in
        let same = body_with body in
        let many = ap length same in
        let holds : Holds (g.seen disk) 0 (body_of (op_with body)) = subst (λ (bytes : List ℕ). Holds (g.seen disk) 0 bytes) (sym same) there in
        let held = has (op_with body, 0) (λ low. (holds, omega (arith, many, long))) (omega (arith, some, many, long)) in
        omega (arith, held.within, many, long)
    | inr none ↦ omega (arith, none)
  ]

  -- a data set that lies below an offset lies below a greater one
  below_longer : (a b : ℕ) → a ≤ b → (heads : List Head) → All (IsBelow a) heads → All (IsBelow b) heads
  below_longer a b low heads all k d few = omega (arith, low, all k d few)

-- and a head that fits then fits
fit_longer : (a b : ℕ) → a ≤ b → (old heads : List Head) → AreFit a old heads → AreFit b old heads
fit_longer a b low old [] fit = tt
fit_longer a b low old (h ∷ heads) (first, rest) = (
  record { spelled = first.spelled; below = omega (arith, low, first.below); alike = first.alike },
  fit_longer a b low (with_head old h) heads rest,
)

-- heads no two of which have one digest fit where they are spelled and their data sets lie below the offset
fit_own : (end : ℕ) (all : List Head) → HaveOwnDigests all → (old heads : List Head) → All (Contains all) old
    → All (Contains all) heads → All IsSpelled heads → All (IsBelow end) heads → AreFit end old heads
fit_own end all own old [] there them spelled below = tt
fit_own end all own old (h ∷ heads) there them spelled below = (
  record {
    spelled = All-head IsSpelled h heads spelled;
    below = All-head (IsBelow end) h heads below;
    alike = λ k first.
        let mine = own k (among (Contains all) old h.digest k first there) in
        let under = subst (λ (d : List ℕ). first_under d all ≡ Some k) (has_digest old h.digest k first) mine in
        ap (λ (x : Head). x.front) (some_is k h (sym under ∙ own h (All-head (Contains all) h heads them)));
  },
  fit_own end all own (with_head old h) heads (with_all (Contains all) old h there (All-head (Contains all) h heads them))
      (All-tail (Contains all) h heads them) (All-tail IsSpelled h heads spelled) (All-tail (IsBelow end) h heads below),
)

module _ {H B : Type 0} (gh : Ghosts H) (gb : Ghosts B) where
  reach_of : (log : Opened H B) (end : ℕ) → IsSettled gh gb log end → end ≤ length (gb.seen log.bodies)
  reach_of log end settled = omega (arith, settled.up_to, settled.sound.reach settled.bodies_clean)

  -- what has the heads and the data sets has all
  have_all : (log : Opened H B) (end : ℕ) → IsSettled gh gb log end → (heads bodies : List ℕ) → StandsFor heads log.places
      → AllIn gb log.bodies end bodies → HaveAllOf gb log heads bodies
  have_all log end settled heads bodies stands has =
      let reach = reaches gb log.bodies end (reach_of log end settled) bodies has in
      record {
        stands = stands;
        within = below_longer gb end (length bodies) reach log.places settled.below;
        ops = λ op (at, first, held).
            let low = among (IsBelow end) log.places (hash_of op) (head_of (op, at)) first settled.below in
            (at, first, has (op, at) (λ some. ((held some).0, low)));
      }

  pub leaves_all : LeavesAll gh gb
  leaves_all log end settled heads bodies left =
      let kept = settled.sound.kept settled.heads_clean settled.opens in
      have_all log end settled heads bodies (stands gh log.heads log.heads_end log.places heads kept left.heads_left)
      (in_left gb log.bodies end settled.lasting bodies left.bodies_left)

  pub leaves_old_or_all : LeavesOldOrAll gh gb
  leaves_old_or_all old new end ops settled on leaves heads bodies left =
      elim (leaves heads bodies left.heads_left left.bodies_left) [
        | inl before ↦
            inl (have_all old end settled heads bodies before
            (in_later gb old.bodies new.bodies end old.bodies_end settled.up_to settled.lasting on.spared bodies
            left.bodies_left))
        | inr after ↦ inr after
      ]

  -- the groups in the file are those that are kept, and whatever a crash leaves has the same
  pub leaves_log : ((disk : H) → gh.may_leave disk (gh.seen disk)) → LeavesLog gh gb
  leaves_log may_stay log end settled laid heads bodies left =
      let kept = settled.sound.kept settled.heads_clean settled.opens in
      let now = kept.ready (gh.seen log.heads) (may_stay log.heads) in
      let texts = laid_once (gh.seen log.heads) first_gate log.heads_end (map group_text laid.groups) (map group_text kept.groups) laid.laid now.laid in
      let same = heads_once laid.groups kept.groups (spelled_of end [] (joined laid.groups) laid.fit) kept.spelled texts in
      let has = in_left gb log.bodies end settled.lasting bodies left.bodies_left in
      let reach = reaches gb log.bodies end (reach_of log end settled) bodies has in
      let fit = subst (λ (hs : List Head). AreFit end [] hs) same laid.fit in
      record {
        stands = record {
          groups = kept.groups;
          are = kept.are;
          laid = inl (log.heads_end, kept.ready heads left.heads_left);
          spelled = kept.spelled;
        };
        fit = fit_longer end (length bodies) reach [] (joined kept.groups) fit;
      }

  -- no head that settled has the digest of another
  pub leaves_log_of_own : LeavesLogOfOwn gh gb
  leaves_log_of_own log end settled heads bodies left stands same =
      let own = subst HaveOwnDigests stands.are (settled_own (joined stands.groups)) in
      let has = in_left gb log.bodies end settled.lasting bodies left.bodies_left in
      let reach = reaches gb log.bodies end (reach_of log end settled) bodies has in
      let fit = fit_own (length bodies) log.places own [] log.places (All-nil (Contains log.places)) (All-contains_itself log.places)
      (subst (λ (hs : List Head). All IsSpelled hs) same stands.spelled)
      (below_longer gb end (length bodies) reach log.places settled.below) in
      record { stands = stands; fit = subst (λ (hs : List Head). AreFit (length bodies) [] hs) (sym same) fit }

  pub comes_settled : ComesToBeSettled gh gb
  comes_settled = record {
    opened = λ log file sound opens heads_clean bodies_clean stays last. record {
      sound = sound;
      opens = opens;
      heads_clean = heads_clean;
      bodies_clean = bodies_clean;
      up_to = omega arith;
      below = sound.below;
      lasting = λ e held. last e (λ some. subst (λ (bytes : List ℕ). Holds bytes e.1 (body_of e.0)) stays.seen (held some).0);
    };
    put = λ log sound opens heads_clean bodies_clean last. record {
      sound = sound;
      opens = opens;
      heads_clean = heads_clean;
      bodies_clean = bodies_clean;
      up_to = omega arith;
      below = sound.below;
      lasting = last;
    };
    stays = λ old new end settled on opens heads_clean bodies_clean same. record {
      sound = on.after;
      opens = opens;
      heads_clean = heads_clean;
      bodies_clean = bodies_clean;
      up_to = omega (arith, settled.up_to, on.longer);
      below = subst (λ (hs : List Head). All (IsBelow end) hs) (sym same) settled.below;
      lasting = last_on gb old.bodies new.bodies end old.bodies_end settled.up_to (reach_of old end settled) settled.lasting on.spared;
    };
  }
