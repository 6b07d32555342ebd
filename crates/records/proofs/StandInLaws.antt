-- What stands for operations has their digest, and the same is kept of it.
use Rattle.std.proofs.Common.{◌≡◌, ◌≤◌, ℕ, List, true, Option, Some, None, refl, sym, ap, subst, ◌∙◌, length}
use Rattle.std.specs.List.{find}
use Rattle.std.proofs.lemmas.Bool.{false≢true}
use Rattle.std.proofs.lemmas.List.{length-replicate}
use Rattle.std.specs.Cmp.Lexicographic.{bytes_decides}
use Rattle.octets.specs.Bytes.{IsBytes}
use Rattle.octets.proofs.TextLemmas.{tied_texts}
use Rattle.operation.specs.declared.op.Op.{Op}
use Rattle.operation.specs.declared.op.Op.TheVariants.{Content as a_content, Correction as a_correction}
use Rattle.operation.specs.Contents.{IsContent, draft_of}
use Rattle.operation.specs.Drafts.{digest_of_draft}
use Rattle.operation.specs.Parts.{ContentParts, KeptParts, draft_with}
use Rattle.operation.specs.RecordParts.{ContentRecordParts, content_record}
use Rattle.operation.specs.Records.{record_of}
use Rattle.operation.specs.declared.record.Record.TheVariants.{Content as kept_content}
use Rattle.operation.specs.Spelling.{digest_of, hash_of}
use Rattle.operation.proofs.Bounds.{body_short, class_short, instance_short}
use Rattle.operation.proofs.ContentLaws.{own_instance}
use Rattle.operation.proofs.DigestLaws.{digest_again, digest_is, digest_is_bytes, digest_long, draft_hash, own_digest}
use Rattle.records.specs.StandIn.{kept_of, has_digest, found_or_zeros, body_under, stand_in, op_in, content_of, kept_in, zeros}
use Rattle.operation.specs.RecordTexts.{IsNamed}
use Rattle.records.specs.StandIn.{HasLengths, IsRecord, IsStandIn, IsWhole}
use Rattle.records.specs.Laws.{StandInHasHash, StandInHasRecord, StandInIsOne, StandInIsOfRecord, StandsForItself}
use Rattle.records.specs.Strings.{strings}
use Rattle.records.proofs.StringLaws.{found_has, none_has, strings_have, strings_long}

-- ---- the bytes that are found

zeros_long : (n : ℕ) → length (zeros n) ≡ n
zeros_long n = let zero : ℕ = 0 in length-replicate n zero

found_long : (digest : List ℕ) (kept : KeptParts) (r : Option (List ℕ))
    → find (has_digest digest kept) (strings kept.size) ≡ r → length (found_or_zeros kept.size r) ≡ kept.size
found_long digest kept None e = zeros_long kept.size
found_long digest kept (Some body) e =
    strings_long kept.size body (found_has (has_digest digest kept) (strings kept.size) body e).0

-- they are as many as the record says
pub under_long : (digest : List ℕ) (kept : KeptParts) → length (body_under digest kept) ≡ kept.size
unfolding body_under
under_long digest kept = found_long digest kept (find (has_digest digest kept) (strings kept.size)) refl

-- the bytes of a content have its digest
pub own_bytes : (c : ContentParts) → has_digest (digest_of_draft (draft_of c)) (kept_of c) c.body ≡ true
own_bytes c = (bytes_decides (digest_of_draft (draft_of c)) (digest_of_draft (draft_of c))).1 refl

found_first : (c : ContentParts) → IsBytes c.body → (r : Option (List ℕ))
    → find (has_digest (digest_of_draft (draft_of c)) (kept_of c)) (strings (length c.body)) ≡ r
    → digest_of_draft (draft_with (kept_of c) (found_or_zeros (length c.body) r)) ≡ digest_of_draft (draft_of c)
found_first c fits None e =
    absurd (false≢true (sym (none_has (has_digest (digest_of_draft (draft_of c)) (kept_of c)) (strings (length c.body))
    c.body e (strings_have c.body fits)) ∙ own_bytes c))
found_first c fits (Some body) e =
    tied_texts (digest_of_draft (draft_with (kept_of c) body)) (digest_of_draft (draft_of c))
    (found_has (has_digest (digest_of_draft (draft_of c)) (kept_of c)) (strings (length c.body)) body e).1

-- those that are found under the digest of a content's bytes have it too
found : (c : ContentParts) → IsBytes c.body
    → digest_of_draft (draft_with (kept_of c) (body_under (digest_of_draft (draft_of c)) (kept_of c)))
    ≡ digest_of_draft (draft_of c)
unfolding body_under
found c fits =
    found_first c fits (find (has_digest (digest_of_draft (draft_of c)) (kept_of c)) (strings (length c.body))) refl

-- ---- contents

-- what is kept under a digest, as a record
abbrev record_under : KeptParts → List ℕ → ℕ → ContentRecordParts
record_under kept digest size = record {
  digest = digest;
  class = kept.class;
  instance = kept.instance;
  syntax = kept.syntax;
  size = size;
  values = kept.values;
  note = kept.note;
}

-- what stands for a content has its record
pub has_record : (c : ContentParts) → content_record (stand_in c) ≡ content_record c
unfolding digest_of
has_record c =
    ap (λ (d : List ℕ). record_under (kept_of c) d (length (stand_in c).body)) (digest_again c.digest)
    ∙ ap (λ (n : ℕ). record_under (kept_of c) (digest_of (a_content c)) n)
    (under_long (digest_of (a_content c)) (kept_of c))

-- a record is that of what stands for it
pub of_record : (r : ContentRecordParts) → IsRecord r → content_record (content_of r) ≡ r
unfolding digest_of
of_record r is =
    ap (λ (d : List ℕ). record_under (kept_in r) d (length (content_of r).body))
    (digest_is r.digest is.digest.long is.digest.bytes)
    ∙ ap (λ (n : ℕ). record_under (kept_in r) r.digest n) (under_long r.digest (kept_in r))

-- what stands for a content with this record stands for it
pub stands_again : (c : ContentParts) (r : ContentRecordParts) → content_record c ≡ r → stand_in c ≡ content_of r
stands_again c r e = ap content_of e

-- what stands for a content stands for itself
pub stands_once : (c : ContentParts) → stand_in (stand_in c) ≡ stand_in c
stands_once c = ap content_of (has_record c)

-- contents that stand for one record are one
pub one_of_record : (c d : ContentParts) → IsStandIn c → IsStandIn d → content_record c ≡ content_record d → c ≡ d
one_of_record c d is others e = sym is.stands ∙ ap content_of e ∙ others.stands

-- what stands for a record does for a content
pub record_stands : (r : ContentRecordParts) → IsRecord r → IsStandIn (content_of r)
record_stands r is =
    record { stands = ap content_of (of_record r is); lawful = subst IsRecord (sym (of_record r is)) is }

-- the record of a content is lawful
pub is_record : (c : ContentParts) → IsContent c → IsRecord (content_record c)
is_record c is = record {
  digest = record { long = digest_long (a_content c); bytes = digest_is_bytes (a_content c) };
  class = class_short c is;
  instance = instance_short c is;
  named = own_instance c is;
  short = body_short c is;
}

-- so is one that names its instance, where its numbers are those of a content
pub is_lawful : (r : ContentRecordParts) → IsNamed r → HasLengths r → IsRecord r
is_lawful r named lengths = record {
  digest = record { long = named.long; bytes = named.bytes };
  class = lengths.class;
  instance = lengths.instance;
  named = named.instance;
  short = lengths.short;
}

-- and these numbers are
pub has_lengths : (r : ContentRecordParts) → IsRecord r → HasLengths r
has_lengths r is = record { class = is.class; instance = is.instance; short = is.short }

-- its class and its instance are UIDs
pub class_of_uid : (c : ContentParts) → IsStandIn c → length c.class ≤ 64
class_of_uid c is = is.lawful.class

pub instance_of_uid : (c : ContentParts) → IsStandIn c → length c.instance ≤ 64
instance_of_uid c is = is.lawful.instance

-- what stands for a content of bytes has its hash
stands_hash : (c : ContentParts) → IsWhole c → hash_of (a_content (stand_in c)) ≡ hash_of (a_content c)
stands_hash c is =
    sym (draft_hash (stand_in c))
    ∙ ap (λ (d : List ℕ). digest_of_draft (draft_with (kept_of c) (body_under d (kept_of c))))
    (own_digest (a_content c) is.0 ∙ sym (draft_hash c))
    ∙ found c is.1 ∙ draft_hash c

-- ---- operations

pub op_has_record : StandInHasRecord
op_has_record (a_content c) = ap kept_content (has_record c)
op_has_record (a_correction k) = refl

pub digest_kept : (op : Op) → digest_of (op_in op) ≡ digest_of op
unfolding digest_of
digest_kept (a_content c) = digest_again c.digest
digest_kept (a_correction k) = refl

pub op_has_hash : StandInHasHash
op_has_hash (a_content c) is = stands_hash c is
op_has_hash (a_correction k) is = refl

pub op_is_one : StandInIsOne
op_is_one op is apart = apart (op_has_hash op is)

kept_contents : (r s : ContentRecordParts) → kept_content r ≡ kept_content s → r ≡ s
kept_contents r s e = cc

alone : (op other : Op) → record_of op ≡ record_of other → op_in op ≡ op_in other
alone (a_content c) (a_content d) e = ap (λ (r : ContentRecordParts). a_content (content_of r))
    (kept_contents (content_record c) (content_record d) e)
alone (a_content c) (a_correction k) e = absurd cc
alone (a_correction k) (a_content c) e = absurd cc
alone (a_correction j) (a_correction k) e = ap a_correction cc

pub op_is_of_record : StandInIsOfRecord
op_is_of_record op other =
    (alone op other, λ e. sym (op_has_record op) ∙ ap record_of e ∙ op_has_record other)

-- an operation that is recorded stands for one
pub stands_in : (c : ContentParts) → IsContent c → IsStandIn (stand_in c)
stands_in c is =
    record { stands = stands_once c; lawful = subst IsRecord (sym (has_record c)) (is_record c is) }

pub op_itself : StandsForItself
op_itself (a_content c) is = ap a_content is.stands
op_itself (a_correction k) is = refl
