-- What stays while data sets are written behind it.
use Rattle.std.proofs.Common.{Bool, false, Result, Ok, Err, ◌≡◌, ◌≤◌, ℕ, List, [], ◌∷◌, ◌++◌, length, ◌-◌, take, drop, get_or, inl}
use Rattle.std.proofs.Common.{inr, All, sym, ◌∙◌, ap, subst, arith}
use Rattle.std.proofs.Math.Seq.{take-length}
use Rattle.std.proofs.lemmas.List.{append_assoc}
use Rattle.std.proofs.lemmas.List.Elements.{All-append, All-weaker}
use Rattle.sqlite_disk.specs.Disk.{Holds, MoreFaults}
use Rattle.sqlite_disk.specs.declared.Disk.{Ghosts}
use Rattle.body_log.specs.declared.log.BodyLog.{BodyLog}
use Rattle.body_log.specs.Lasts.{Settles, Spares}
use Rattle.body_log.specs.Log.{disk_of, end_of}
use Rattle.body_log.proofs.Holding.{lasting}
use Rattle.operation.specs.declared.op.Op.{Op}
use Rattle.op_log.specs.declared.fault.LogFault.{LogFault}
use Rattle.op_log.specs.declared.kept.Kept.{Kept}
use Rattle.op_log.specs.declared.kept.Kept.TheVariants.{New, Known}
use Rattle.operation.specs.Spelling.{hash_of}
use Rattle.op_log.specs.Heads.{Entry, Head, body_of, group_text, IsSpelled, front_of}
use Rattle.op_log.specs.Kept.{IsBelow, IsLasting, with_heads}
use Rattle.op_log.specs.Puts.{ComesToClash, IsUnread, LeadsTo, LeavesAllOrNone, LeavesEither, LiesAt, Puts, PutsAll}
use Rattle.op_log.specs.declared.group.Group.{Group}
use Rattle.op_log.specs.Staged.{AreSettled, AreStaged, Counts, Grows, HasBytes, HasHeads, IsBegun, KeepsPlaces, Reaches, Rises, StaysOrRises}
use Rattle.op_log.proofs.Faults.{rises_twice, rose_since}
use Rattle.op_log.proofs.Settling.{with_joined}
use Rattle.op_log.proofs.Fitting.{groups_joined}

-- two calls that spare what lies below the end are one
pub grows_twice : {B : Type 0} (g : Ghosts B) (a b c : BodyLog B) → Grows g a b → Grows g b c → Grows g a c
grows_twice g a b c first second =
    record {
      spared = record {
        kept = λ at bytes low holds. second.spared.kept at bytes (omega (arith, low, first.longer)) (first.spared.kept at bytes low holds);
        left = λ left may.
            let (mid, was, keeps) = second.spared.left left may in
            let (old, before, kept) = first.spared.left mid was in
            (old, before, λ at bytes low holds. keeps at bytes (omega (arith, low, first.longer)) (kept at bytes low holds));
        clean = λ h. first.spared.clean (second.spared.clean h);
        longer = omega (arith, first.spared.longer, second.spared.longer);
      };
      longer = omega (arith, first.longer, second.longer);
      reach = λ h. second.reach (first.reach h);
    }

-- a file that reaches to its end goes on to
pub reaches_on : {B : Type 0} (g : Ghosts B) (a b : BodyLog B) → Grows g a b → Reaches g a (end_of a) → Reaches g b (end_of b)
reaches_on g a b grows reach clean = grows.reach (reach (grows.spared.clean clean))

-- and to whatever lay below it
pub reaches_head : {B : Type 0} (g : Ghosts B) (a b : BodyLog B) → Grows g a b → (end : ℕ) → end ≤ end_of a
    → Reaches g a (end_of a) → Reaches g b end
reaches_head g a b grows end low reach clean = omega (arith, low, grows.longer, reaches_on g a b grows reach clean)

-- a file that reaches to its end reaches to whatever lies below
pub reaches_less : {B : Type 0} (g : Ghosts B) (a : BodyLog B) (end : ℕ) → end ≤ end_of a → Reaches g a (end_of a) → Reaches g a end
reaches_less g a end low reach clean = omega (arith, low, reach clean)

-- two calls count as one
pub counts_twice : {B V : Type 0} (g : Ghosts B) (a b c : BodyLog B) (r : Result V LogFault) → Grows g a b
    → g.faults (disk_of b) ≡ g.faults (disk_of a) → Counts g (end_of b) b c r → Counts g (end_of a) a c r
counts_twice g a b c (Ok x) grows calm counts = counts ∙ calm
counts_twice g a b c (Err e) grows calm counts = λ told reach.
    subst (λ (n : ℕ). MoreFaults n (g.faults (disk_of c))) calm (counts told (reaches_on g a b grows reach))

-- a data set that is in the file stays there
pub lies_on : {B : Type 0} (g : Ghosts B) (a b : BodyLog B) → Grows g a b → (at : ℕ) (body : List ℕ)
    → LiesAt g (disk_of a) (end_of a) at body → LiesAt g (disk_of b) (end_of b) at body
lies_on g a b grows at body lies some =
    let was = lies some in
    (grows.spared.kept at body was.1 was.0, omega (arith, was.1, grows.longer))

-- one that lasts goes on to
pub lasts_on : {B : Type 0} (g : Ghosts B) (a b : BodyLog B) → Grows g a b → (e : Entry)
    → IsLasting g (disk_of a) (end_of a) e → IsLasting g (disk_of b) (end_of b) e
lasts_on g a b grows e it some =
    let was = it some in
    (lasting g (end_of a) (disk_of a) (disk_of b) grows.spared e.1 (body_of e.0) was.1 was.0, omega (arith, was.1, grows.longer))

-- heads stay below the end
pub below_on : (a b : ℕ) (heads : List Head) → a ≤ b → All (IsBelow a) heads → All (IsBelow b) heads
below_on a b heads longer all = All-weaker (IsBelow a) (IsBelow b) (λ h low. omega (arith, low, longer)) heads all

-- bytes to which a head leads stay where they are
pub leads_on : {B : Type 0} (g : Ghosts B) (a b : BodyLog B) → Grows g a b → (h : Head) (whole : Bool)
    → LeadsTo g (disk_of a) (end_of a) h whole → LeadsTo g (disk_of b) (end_of b) h whole
leads_on g a b grows h whole it =
    record { body = it.body; size = it.size; lies = lies_on g a b grows h.at it.body it.lies; is = it.is }

-- nor what a file has there, once it is looked at again
pub leads_from : {B : Type 0} (g : Ghosts B) (a b : BodyLog B) → g.seen (disk_of b) ≡ g.seen (disk_of a) → end_of b ≡ end_of a → (h : Head)
    (whole : Bool) → IsBelow (end_of a) h → HasBytes (g.seen (disk_of a)) h whole → LeadsTo g (disk_of b) (end_of b) h whole
leads_from g a b seen end h whole low it = record {
  body = it.body;
  size = it.size;
  lies = λ some.
      (subst (λ (f : List ℕ). Holds f h.at it.body) (sym seen) (it.held (omega (arith, some, it.size))), omega (arith, low, it.size, end));
  is = it.is;
}

-- what can't be read still can't
pub unread_on : {B : Type 0} (g : Ghosts B) (a b : BodyLog B) → Grows g a b → (digest front : List ℕ) (heads : List Head)
    → IsUnread g (disk_of a) (end_of a) digest front heads → IsUnread g (disk_of b) (end_of b) digest front heads
unread_on g a b grows digest front heads unread h is =
    let it = unread h is in (it.0, λ clean. leads_on g a b grows h false (it.1 (grows.spared.clean clean)))

-- what was put is put
pub puts_on : {B : Type 0} (g : Ghosts B) (a b : BodyLog B) → Grows g a b → (op : Op) (kept : Kept) (old new : List Head)
    → Puts g (disk_of a) (end_of a) old op kept new → Puts g (disk_of b) (end_of b) old op kept new
puts_on g a b grows op New old new (unread, (at, is, spelled, lies)) = (
  unread_on g a b grows (hash_of op) (front_of op) old unread,
  (at, is, spelled, lies_on g a b grows at (body_of op) lies),
)
puts_on g a b grows op Known old new (there, same) =
    (λ clean. let (at, first, lies) = there (grows.spared.clean clean) in (at, first, lies_on g a b grows at (body_of op) lies), same)

-- heads of two texts
pub heads_twice : (old mid new : List Head) (before between after : List ℕ) → HasHeads old mid before between
    → HasHeads mid new between after → HasHeads old new before after
heads_twice old mid new before between after first rest =
    record {
      heads = first.heads ++ rest.heads;
      spelled = All-append IsSpelled first.heads rest.heads first.spelled rest.spelled;
      new_is = rest.new_is ∙ ap (λ (hs : List Head). with_heads hs rest.heads) first.new_is ∙ sym (with_joined old first.heads rest.heads);
      text_is = rest.text_is ∙ ap (λ (text : List ℕ). text ++ group_text rest.heads) first.text_is
          ∙ append_assoc before (group_text first.heads) (group_text rest.heads)
          ∙ ap (λ (text : List ℕ). before ++ text) (sym (groups_joined first.heads rest.heads));
    }

-- what is kept in memory, through two calls
pub places_twice : {B : Type 0} (a b c : BodyLog B) (old mid new before between after : List Head)
    → KeepsPlaces a b old mid before between → KeepsPlaces b c mid new between after → KeepsPlaces a c old new before after
places_twice a b c old mid new before between after first rest =
    record {
      undone = λ heads undone. rest.undone heads (first.undone heads undone);
      below = λ low. rest.below (first.below low);
    }

-- the same of all
pub puts_all_on : {B : Type 0} (g : Ghosts B) (a b : BodyLog B) → Grows g a b → (ops : List Op) (kepts : List Kept) (old new : List Head)
    → PutsAll g (disk_of a) (end_of a) old ops kepts new → PutsAll g (disk_of b) (end_of b) old ops kepts new
puts_all_on g a b grows [] [] old new put = put
puts_all_on g a b grows [] (kept ∷ kepts) old new put = absurd put
puts_all_on g a b grows (op ∷ ops) [] old new put = absurd put
puts_all_on g a b grows (op ∷ ops) (kept ∷ kepts) old new (mid, first, rest) =
    (mid, puts_on g a b grows op kept old mid first, puts_all_on g a b grows ops kepts mid new rest)

-- two calls count as one
pub rises_both : {B V : Type 0} (g : Ghosts B) (a b c : BodyLog B) (r : Result V LogFault)
    → StaysOrRises (g.faults (disk_of a)) (g.faults (disk_of b)) → Rises g b c r → Rises g a c r
rises_both g a b c (Ok x) first rises = rises_twice (g.faults (disk_of a)) (g.faults (disk_of b)) (g.faults (disk_of c)) first rises
rises_both g a b c (Err e) first (failed, collides) = (
  λ told. rose_since (g.faults (disk_of a)) (g.faults (disk_of b)) (g.faults (disk_of c)) first (failed told),
  λ told. rises_twice (g.faults (disk_of a)) (g.faults (disk_of b)) (g.faults (disk_of c)) first (collides told),
)

-- one operation is staged before others
pub staged_more : {B : Type 0} (g : Ghosts B) (a b : BodyLog B) → Grows g a b → (op : Op) (kept : Kept) (ops : List Op)
    (old mid new : List Head) (before between after : Group) → Puts g (disk_of a) (end_of a) old op kept mid
    → HasHeads old mid before.text.items between.text.items → between.kepts.items ≡ before.kepts.items ++ kept ∷ []
    → AreStaged g b mid new between after ops → AreStaged g b old new before after (op ∷ ops)
staged_more g a b grows op kept ops old mid new before between after put heads told rest =
    record {
      heads = heads_twice old mid new before.text.items between.text.items after.text.items heads rest.heads;
      kepts = kept ∷ rest.kepts;
      told = rest.told ∙ ap (λ (ks : List Kept). ks ++ rest.kepts) told ∙ append_assoc before.kepts.items (kept ∷ []) rest.kepts;
      put = (mid, puts_on g a b grows op kept old mid put, rest.put);
    }

-- a sync writes nothing
pub synced : {B : Type 0} (g : Ghosts B) (a b : BodyLog B) → Spares g (end_of a) (disk_of a) (disk_of b) → end_of b ≡ end_of a
    → g.seen (disk_of b) ≡ g.seen (disk_of a) → Grows g a b
synced g a b spared same seen =
    let long = ap length seen in
    record { spared = spared; longer = omega (arith, same); reach = λ h. omega (arith, h, same, long) }

-- and then all that is in the file lasts
pub settled : {B : Type 0} (g : Ghosts B) (a b : BodyLog B) → Grows g a b → Settles g (disk_of a) (disk_of b)
    → g.seen (disk_of b) ≡ g.seen (disk_of a) → (old new : List Head) (before after : Group) (ops : List Op)
    → IsBegun before → AreStaged g a old new before after ops → AreSettled g b old new after ops
settled g a b grows settles seen old new before after ops begun staged =
    record {
      heads = subst (λ (text : List ℕ). HasHeads old new text after.text.items) begun.text staged.heads;
      put = subst (λ (ks : List Kept). PutsAll g (disk_of b) (end_of b) old ops ks new)
          (sym (staged.told ∙ ap (λ (ks : List Kept). ks ++ staged.kepts) begun.kepts))
          (puts_all_on g a b grows ops staged.kepts old new staged.put);
      lasting = λ e held some.
          let it = held some in
          (settles e.1 (body_of e.0) (subst (λ (file : List ℕ). Holds file e.1 (body_of e.0)) seen it.0), it.1);
    }

-- the first of some operations, and the others
pub split_first : (op : Op) (ops : List Op) → 1 ≤ length ops → op ≡ get_or ops 0 op → op ∷ take (length ops - 1) (drop 1 ops) ≡ ops
split_first op [] many is = absurd (omega (arith, many))
split_first op (x ∷ xs) many is =
    let count : length (x ∷ xs) - 1 ≡ length xs = omega arith in
    let rest : take (length (x ∷ xs) - 1) xs ≡ xs = ap (λ (n : ℕ). take n xs) count ∙ take-length xs in
    ap (λ (o : Op). o ∷ take (length (x ∷ xs) - 1) xs) is ∙ ap (λ (os : List Op). x ∷ os) rest

-- a crash leaves what was settled whole, or not at all
pub left_all : {H B : Type 0} (gh : Ghosts H) (gb : Ghosts B) (heads : H) (bodies : BodyLog B) (old new : List Head) (group : Group)
    (ops : List Op) → AreSettled gb bodies old new group ops → LeavesEither gh heads old new
    → LeavesAllOrNone gh gb heads (disk_of bodies) (end_of bodies) old ops
left_all gh gb heads bodies old new group ops it leaves h b may may' =
    elim (leaves h may) [
      | inl before ↦ inl before
      | inr after ↦ inr (
          record {
            kepts = group.kepts.items;
            heads = new;
            put = it.put;
            stands = after;
            bodies_are = λ e held some. (it.lasting e held some).0.left b may';
          }
          )
    ]
