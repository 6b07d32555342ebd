-- How long the parts of an operation are.
use Rattle.std.proofs.Common.{rules, ◌≡◌, ℕ, ◌≤◌, List, length, Bool, true, false, refl}
use Rattle.std.specs.Prelude.{◌&&◌, not, nat_le, Option, Some, None, if◌then◌else◌}
use Rattle.std.specs.Coded.{Coded-set, coded_bool, le_prop}
use Rattle.std.proofs.Math.Logic.{∥∥₁_elim}
use Rattle.std.proofs.lemmas.Bool.{and_parts as both}
use Rattle.data_set.specs.Tree.{Tree}
use Rattle.octets.specs.Uid.{is_uid_text}
use Rattle.rejection_note.specs.Notes.{note_in}
use Rattle.operation.specs.declared.draft.Draft.{Draft}
use Rattle.operation.specs.declared.fault.OpFault.{OpFault}
use Rattle.operation.specs.declared.fault.OpFault.TheVariants.{NoUid, Mismatch}
use Rattle.operation.specs.declared.target.Target.{Target}
use Rattle.operation.specs.declared.target.Target.TheVariants.{Study, Patient, Series}
use Rattle.operation.specs.Parts.{ContentParts, CorrectionParts, key_of}
use Rattle.operation.specs.Corrections.{is_correction, is_key, is_plain, IsCorrection}
use Rattle.operation.specs.Contents.{offence, has_uids, names_itself, note_offence, Describes, IsContent, draft_of}
use Rattle.operation.specs.Contents.{longest}

pub le_from_test : (a b : ℕ) → nat_le a b ≡ true → a ≤ b
le_from_test a b e = search rules

pub uid_short : (text : List ℕ) → is_uid_text text ≡ true → length text ≤ 64
unfolding is_uid_text
uid_short text e = le_from_test _ _ (both _ _ (both _ _ e).0).1

pub plain_short : (text : List ℕ) → is_plain text ≡ true → length text ≤ 64
unfolding is_plain
plain_short text e = le_from_test _ _ (both _ _ (both _ _ e).0).0

pub key_short : (target : Target) → is_key target ≡ true → length (key_of target) ≤ 64
key_short (Study key) e = uid_short key e
key_short (Patient key) e = plain_short key (both _ _ e).1
key_short (Series key) e = uid_short key e

pub target_short : (c : CorrectionParts) → IsCorrection c → length (key_of c.target) ≤ 64
unfolding is_correction
target_short c is = key_short c.target (both _ _ (both _ _ (both _ _ (both _ _ is.lawful).0).0).0).0

pub value_short : (c : CorrectionParts) → IsCorrection c → length c.value ≤ 64
unfolding is_correction
value_short c is = plain_short c.value (both _ _ (both _ _ (both _ _ is.lawful).0).0).1

-- each test of `offence` was passed
pub passed : (uids names : Bool) (last : Option OpFault) → (if not uids then Some NoUid else if not names then Some
    Mismatch else last) ≡ None → (uids ≡ true) × (names ≡ true) × (last ≡ None)
passed true true last e = (refl, refl, e)
passed true false last e = absurd cc
passed false names last e = absurd cc

pub uids_of : (draft : Draft) (elements : List Tree) → offence draft elements ≡ None → has_uids draft.class
    draft.instance elements ≡ true
unfolding offence
uids_of draft elements e =
    (passed (has_uids draft.class draft.instance elements) (names_itself draft.class draft.instance elements)
    (note_offence (note_in draft.class elements)) e).0

class_is_uid : (a b c d e f : Bool) → (a && b && c && d && e && f) ≡ true → (a ≡ true) × (b ≡ true)
class_is_uid true true c d e f h = (refl, refl)
class_is_uid true false c d e f h = absurd cc
class_is_uid false b c d e f h = absurd cc

uids_described : (c : ContentParts) (elements : List Tree) → Describes elements c → (is_uid_text c.class ≡ true)
    × (is_uid_text c.instance ≡ true)
uids_described c elements d = class_is_uid _ _ _ _ _ _ (uids_of (draft_of c) elements d.faultless)

test_set : (a b : Bool) → IsProp (a ≡ b)
test_set a b = Coded-set coded_bool a b

pub class_uid : (c : ContentParts) → IsContent c → is_uid_text c.class ≡ true
class_uid c is = ∥∥₁_elim is (test_set _ _) (λ d. (uids_described c d.0 d.1).0)

pub instance_uid : (c : ContentParts) → IsContent c → is_uid_text c.instance ≡ true
instance_uid c is = ∥∥₁_elim is (test_set _ _) (λ d. (uids_described c d.0 d.1).1)

pub class_short : (c : ContentParts) → IsContent c → length c.class ≤ 64
class_short c is = uid_short c.class (class_uid c is)

pub instance_short : (c : ContentParts) → IsContent c → length c.instance ≤ 64
instance_short c is = uid_short c.instance (instance_uid c is)

pub body_short : (c : ContentParts) → IsContent c → length c.body ≤ longest
body_short c is = ∥∥₁_elim is le_prop (λ d. d.1.short)
