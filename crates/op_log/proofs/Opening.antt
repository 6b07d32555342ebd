-- A file of heads that was walked is kept.
use Rattle.std.proofs.Common.{◌≡◌, ◌<◌, ◌≤◌, ℕ, List, [], map, length, All, inl, inr, refl, sym, ◌∙◌, ap, subst, arith}
use Rattle.std.proofs.lemmas.Bool.{cases_lt}
use Rattle.std.proofs.lemmas.List.Elements.{All-nil}
use Rattle.sqlite_disk.specs.declared.Disk.{Ghosts}
use Rattle.head_log.specs.declared.gate.Gate.{Gate}
use Rattle.head_log.specs.Groups.{IsEnded, IsReady, KeepsGroups, Ready, first_gate, joined}
use Rattle.head_log.specs.Groups.{StandsFor as HasGroups}
use Rattle.head_log.specs.Reads.{OnlyReads}
use Rattle.op_log.specs.Heads.{Head, IsSpelled, group_text}
use Rattle.op_log.specs.Kept.{IsKept, KeepsHeads, StandsFor, settled}
use Rattle.op_log.specs.Filling.{AreFit}
use Rattle.op_log.specs.Walking.{AreLaid}
use Rattle.op_log.proofs.Walks.{heads_once, laid_once, spelled_of}

module _ {H : Type 0} (g : Ghosts H) (old new : H) (end : ℕ) (last : Gate) (heads : List Head) where
  -- whatever a crash leaves is the file that was walked
  pub walked_kept : OnlyReads g old new → IsEnded g old last.at → AreLaid (g.seen old) last end heads → IsKept g new last heads
  walked_kept reads ended laid =
      record {
        groups = laid.groups;
        are = laid.are;
        ready = λ c may. subst (λ (file : List ℕ). Ready file last (map group_text laid.groups)) (sym (ended.settled c (reads.crash c may)))
            (record { laid = laid.laid; within = ended.within; shut = ended.shut });
        spelled = spelled_of end [] (joined laid.groups) laid.fit;
      }

  -- and it stands for nothing else
  pub walked_all : AreLaid (g.seen old) last end heads → (groups : List (List Head)) (them : List Head) → settled (joined groups) ≡ them
      → Ready (g.seen old) last (map group_text groups) → All IsSpelled (joined groups) → heads ≡ them
  walked_all laid groups them are ready spelled =
      let texts = laid_once (g.seen old) first_gate last (map group_text laid.groups) (map group_text groups) laid.laid ready.laid in
      let mine = spelled_of end [] (joined laid.groups) laid.fit in
      sym laid.are ∙ ap settled (heads_once laid.groups groups mine spelled texts) ∙ are

-- a file of eight bytes at most stands for no head
pub none_yet : (file : List ℕ) → length file ≤ 8 → StandsFor file []
none_yet file short = record { groups = []; are = refl; laid = inr (short, refl); spelled = λ k d low. absurd (omega (arith, low)) }

module _ {H : Type 0} (g : Ghosts H) (first old : H) where
  -- what a file keeps of its groups it keeps of their heads
  pub heads_kept : KeepsGroups g first old → KeepsHeads g first old
  heads_kept kept =
      record {
        stands = λ them was. record {
          groups = was.groups;
          are = was.are;
          laid = kept.stands (map group_text was.groups) was.laid;
          spelled = was.spelled;
        };
        left = λ c may.
            let (d, before, keeps) = kept.left c may in (
              d,
              before,
              λ them was. record {
                groups = was.groups;
                are = was.are;
                laid = keeps (map group_text was.groups) was.laid;
                spelled = was.spelled;
              },
            );
      }

  -- also where it is only read from then on
  pub kept_through : (new : H) → KeepsGroups g first old → OnlyReads g old new → KeepsGroups g first new
  kept_through new kept reads =
      record {
        same = λ long. reads.seen ∙ kept.same long;
        stands = λ groups was. subst (λ (file : List ℕ). HasGroups file groups) (sym reads.seen) (kept.stands groups was);
        left = λ c may. kept.left c (reads.crash c may);
      }

  module _ (may_stay : (file : H) → g.may_leave file (g.seen file)) (last : Gate)
      (found : (groups : List (List ℕ)) → HasGroups (g.seen first) groups → IsReady g old last groups) where
    -- the heads that a file stands for lie in it up to the end of its groups
    pub laid_of : (end : ℕ) (them : List Head) (stands : StandsFor (g.seen first) them) → AreFit end [] (joined stands.groups)
        → AreLaid (g.seen old) last end them
    laid_of end them stands fit =
        let ready = found (map group_text stands.groups) stands.laid (g.seen old) (may_stay old) in
        record { groups = stands.groups; are = stands.are; laid = ready.laid; fit = fit }

    -- they are those that were walked
    pub found_all : (end : ℕ) (heads them : List Head) → AreLaid (g.seen old) last end heads → StandsFor (g.seen first) them
        → heads ≡ them
    found_all end heads them laid stands =
        walked_all g old old end last heads laid stands.groups them stands.are
        (found (map group_text stands.groups) stands.laid (g.seen old) (may_stay old)) stands.spelled

    -- for which the file stands, and each fits
    pub whole_of : (end : ℕ) (heads : List Head) → KeepsGroups g first old → IsEnded g old last.at
        → AreLaid (g.seen old) last end heads → (stands : StandsFor (g.seen first) heads) × AreFit end [] (joined stands.groups)
    whole_of end heads kept ended laid = elim (cases_lt 8 (length (g.seen first))) [
      | inl long ↦
          let ready : Ready (g.seen old) last (map group_text laid.groups) =
          record { laid = laid.laid; within = ended.within; shut = ended.shut } in (
            record {
              groups = laid.groups;
              are = laid.are;
              laid = subst (λ (file : List ℕ). HasGroups file (map group_text laid.groups)) (kept.same long) (inl (last, ready));
              spelled = spelled_of end [] (joined laid.groups) laid.fit;
            },
            laid.fit,
          )
      | inr short ↦
          let none = none_yet (g.seen first) (omega (arith, short)) in (
            record {
              groups = [];
              are = sym (found_all end heads [] laid none);
              laid = inr (omega (arith, short), refl);
              spelled = All-nil IsSpelled;
            },
            tt,
          )
    ]

    -- a group stands only in a file of more than eight bytes
    pub some_long : 0 < last.at → 8 < length (g.seen first)
    some_long low = elim (cases_lt 8 (length (g.seen first))) [
      | inl long ↦ long
      | inr short ↦
          let ready = found [] (inr (omega (arith, short), refl)) (g.seen old) (may_stay old) in
          let place = ap (λ (gate : Gate). gate.at) ready.laid in
          absurd (omega (arith, place, low))
    ]
