-- What a store shows, it has.
use Rattle.std.proofs.Common.{◌≡◌, ℕ, zero, suc, List, [], ◌∷◌, ◌++◌, inl, inr, map, length, All, Contains, Some, refl}
use Rattle.std.proofs.Common.{sym, ap, subst, ◌∙◌, arith}
use Rattle.std.proofs.lemmas.List.Elements.{All-cons, All-contains, All-nil, Contains-append_left}
use Rattle.std.proofs.lemmas.List.Sorted.{Contains-permutation, IsPermutation-sym}
use Rattle.sqlite.specs.Order.{Row}
use Rattle.sqlite_disk.specs.declared.Disk.{Ghosts}
use Rattle.operation.specs.declared.op.Op.{Op}
use Rattle.operation.specs.Reading.{IsOp}
use Rattle.operation.proofs.DigestLaws.{own_digest}
use Rattle.records.specs.StandIn.{op_in}
use Rattle.records.proofs.StandInLaws.{digest_kept}
use Rattle.op_log.specs.Heads.{Head, body_of}
use Rattle.op_log.specs.Kept.{Has, HaveOwnDigests, IsBelow, first_under}
use Rattle.op_log.specs.Loaded.{IsOf}
use Rattle.op_log.specs.Recorded.{IsRecordedAs}
use Rattle.op_shelf.specs.declared.damaged.Damaged.{Damaged}
use Rattle.op_shelf.specs.Damage.{damage_of as damage_in}
use Rattle.op_shelf.specs.Entries.{Holds, entries, entry_of}
use Rattle.op_shelf.specs.Recording.{KeepsDigest}
use Rattle.shelved_site.specs.declared.unreadable.Unreadable.{Unreadable}
use Rattle.shelved_site.specs.Readable.{AreParts, ShowsRows, unread_in, unread_row}
use Rattle.shelved_site.specs.Sites.{AreRecords}
use Rattle.op_shelf.specs.Recording.{AreRead}

among_map : (ops : List Op) (op : Op) → Contains ops op → Contains (map entry_of ops) (entry_of op)
among_map [] op (n, low, at) = absurd (omega (arith, low))
among_map (x ∷ ops) op (zero, low, at) = (0, omega arith, ap entry_of at)
among_map (x ∷ ops) op (suc n, low, at) =
    let it = among_map ops op (n, omega (arith, low), at) in
    (suc it.0, omega (arith, it.1), it.2)

-- ---- a shelf

-- an operation that is shown is in the table
pub in_table : (rows : List Row) (told : List Unreadable) (ops : List Op) (op : Op) → ShowsRows rows told ops
    → Contains ops op → Holds rows op
in_table rows told ops op shown among =
    Contains-permutation (map entry_of ops ++ shown.others) (entries rows) (entry_of op)
    (IsPermutation-sym (entries rows) (map entry_of ops ++ shown.others) shown.parted)
    (Contains-append_left (map entry_of ops) shown.others (entry_of op) (among_map ops op among))

told_each : (others : List Row) → map unread_in (map damage_in others) ≡ map unread_row others
told_each [] = refl
told_each (entry ∷ others) = ap (λ (told : List Unreadable). unread_row entry ∷ told) (told_each others)

-- what a shelf read are the records of the operations that it shows
pub read_rows : (rows : List Row) (recorded : List Op) (damaged : List Damaged) (told : List Unreadable)
    → AreRead (entries rows) recorded damaged → told ≡ map unread_in damaged → AreRecords (ShowsRows rows told) recorded
read_rows rows recorded damaged told read is = record {
  ops = read.ops;
  listed = record {
    others = read.others;
    parted = read.parted;
    none = read.none;
    tells = is ∙ ap (map unread_in) read.tells ∙ told_each read.others;
  };
  digests = read.digests;
  stand = read.stand;
}

-- ---- a log

-- an operation has a head among these
abbrev HasHead : List ℕ → List Head → Op → Type 0
HasHead file heads op = (h : Head) × Contains heads h × IsOf file h op

behind : (file : List ℕ) (h : Head) (heads : List Head) (op : Op) → HasHead file heads op → HasHead file (h ∷ heads) op
behind file h heads op (k, (n, low, at), it) = (k, (suc n, omega (arith, low), at), it)

-- the first of some operations has the first head, and one behind it has one behind that
of_first : (file : List ℕ) (h : Head) (heads : List Head) (first : Op) (more : List Op) (op : Op) → IsOf file h first
    → (Contains more op → HasHead file heads op) → Contains (first ∷ more) op → HasHead file (h ∷ heads) op
of_first file h heads first more op it rest (zero, low, at) =
    (h, (0, omega arith, refl), subst (λ (o : Op). IsOf file h o) at it)
of_first file h heads first more op it rest (suc n, low, at) =
    behind file h heads op (rest (n, omega (arith, low), at))

-- an operation that is shown has a head
of_head : (file : List ℕ) (Not : Head → Type 0) (heads : List Head) (told : List Unreadable) (ops : List Op) (op : Op)
    → AreParts (IsOf file) Not heads told ops → Contains ops op → HasHead file heads op
of_head file Not [] told ops op (none, nothing) (n, low, at) = absurd (omega (arith, low, ap length nothing))
of_head file Not (h ∷ heads) told ops op (inl (first, more, is, it, rest)) among =
    of_first file h heads first more op it (λ later. of_head file Not heads told more op rest later)
    (subst (λ (os : List Op). Contains os op) is among)
of_head file Not (h ∷ heads) told ops op (inr (more, is, amiss, rest)) among =
    behind file h heads op (of_head file Not heads more ops op rest among)

-- so a log has it, where no two heads have one digest
pub in_log : {B : Type 0} (g : Ghosts B) (disk : B) (end : ℕ) (heads : List Head) (Not : Head → Type 0)
    (told : List Unreadable) (ops : List Op) (op : Op) → HaveOwnDigests heads → All (IsBelow end) heads
    → AreParts (IsOf (g.seen disk)) Not heads told ops → Contains ops op
    → (h : Head) × IsOf (g.seen disk) h op × Has g disk end heads op
in_log g disk end heads Not told ops op own below shown among =
    let (h, there, it) = of_head (g.seen disk) Not heads told ops op shown among in
    let low = All-contains (IsBelow end) heads h below there in
    let size : h.size ≡ length (body_of op) = ap (λ (k : Head). k.size) it.head in (
      h,
      it,
      (
        h.at,
        ap (λ (k : Head). first_under k.digest heads) (sym it.head) ∙ own h there ∙ ap (λ (k : Head). Some k) it.head,
        λ some. (it.held some, omega (arith, low, size)),
      ),
    )

-- what stands for a lawful operation has its digest
keeps : (op : Op) → IsOp op → KeepsDigest op
keeps op lawful = digest_kept op ∙ own_digest op lawful

-- one record more, where nothing is told of contents
read_next : (file : List ℕ) (Not : Head → Type 0) (h : Head) (heads : List Head) (told : List Unreadable) (r : Op)
    (more : List Op) → IsRecordedAs file [] h r → AreRecords (λ ops. AreParts (IsOf file) Not heads told ops) more
    → AreRecords (λ ops. AreParts (IsOf file) Not (h ∷ heads) told ops) (r ∷ more)
read_next file Not h heads told r more (inl (op, of, stands)) later = record {
  ops = op ∷ later.ops;
  listed = inl (op, later.ops, refl, of, later.listed);
  digests = All-cons KeepsDigest op later.ops (keeps op of.lawful) later.digests;
  stand = ap (λ (o : Op). o ∷ more) stands ∙ ap (λ (os : List Op). op_in op ∷ os) later.stand;
}
read_next file Not h heads told r more (inr (c, among, stands, named)) later = absurd among

-- what a log read are the records of the operations that it shows
pub read_heads : (file : List ℕ) (Not : Head → Type 0) (heads : List Head) (told : List Unreadable) (recorded : List Op)
    → AreParts (IsRecordedAs file []) Not heads told recorded
    → AreRecords (λ ops. AreParts (IsOf file) Not heads told ops) recorded
read_heads file Not [] told recorded (none, nothing) =
    record { ops = []; listed = (none, refl); digests = All-nil KeepsDigest; stand = nothing }
read_heads file Not (h ∷ heads) told recorded (inl (r, more, is, read, rest)) =
    subst (λ (rs : List Op). AreRecords (λ ops. AreParts (IsOf file) Not (h ∷ heads) told ops) rs) (sym is)
    (read_next file Not h heads told r more read (read_heads file Not heads told more rest))
read_heads file Not (h ∷ heads) told recorded (inr (more, is, amiss, rest)) =
    let later = read_heads file Not heads more recorded rest in
    record {
      ops = later.ops;
      listed = inr (more, is, amiss, later.listed);
      digests = later.digests;
      stand = later.stand;
    }
