-- What notes name is what ARCHIVE covers, and the notes under a UID tell of it what all notes do.
use Rattle.std.proofs.Common.{◌≡◌, ℕ, List, [], ◌∷◌, ◌++◌, Option, Some, None, refl, sym, ap, subst, ◌∙◌, inl, inr, ◌⊎◌}
use Rattle.std.proofs.Common.{Bool, true, false, cond, map}
use Rattle.std.specs.Prelude.{◌&&◌, ◌||◌}
use Rattle.std.specs.List.{flat_map, cons_option, filter, list_any, join_with_byte}
use Rattle.std.specs.Fmt.{decimal}
use Rattle.std.proofs.lemmas.Bool.{and_parts as both}
use Rattle.std.proofs.lemmas.List.Folds.{list_any-append}
use Rattle.rejection_note.specs.declared.note.Note.{Note}
use Rattle.octets.specs.Members.{Has}
use Rattle.octets.specs.Texts.{same}
use Rattle.octets.proofs.TextLemmas.{ascending_holds, in_ascending, ascends, same_ascending, tied_texts}
use Rattle.operation.specs.declared.op.Op.{Op}
use Rattle.operation.specs.declared.op.Op.TheVariants.{Content as a_content, Correction as a_correction}
use Rattle.operation.specs.Parts.{ContentParts}
use Rattle.archive_model.specs.declared.view.View.TheVariants.{Archive}
use Rattle.archive_model.specs.Contents.{contents}
use Rattle.archive_model.specs.Covered.{is_among}
use Rattle.archive_model.specs.Index.{code_of, names_under}
use Rattle.archive_model.proofs.ModelLaws.{covered_is_named, same_itself}
use Rattle.archive_model.proofs.MemberLaws.{any_has, has_any, has_filter, filter_has, has_map, map_has}
use Rattle.rejection_note.specs.declared.title.NoteTitle.{NoteTitle}
use Rattle.rejection_note.specs.declared.title.NoteTitle.TheVariants.{Quality, Safety, Worklist, Expired}
use Rattle.site_tables.specs.declared.under.Under.{Under}
use Rattle.site_tables.specs.Under.{pairs, is_at, held_under, Holds}
use Rattle.site_tables.specs.Rejected.{if_note, notes_of, named_by, named_in, is_naming, naming, code_under, codes}
use Rattle.site_tables.specs.Rejected.{named_pairs}
use Rattle.site_tables.specs.Rejected.{rejected_row, row_by}
use Rattle.site_tables.proofs.UnderLaws.{map_each, held_append}
use Rattle.site_tables.specs.Laws.{RejectedAreCovered}

abbrev Text : Type 0
Text = List ℕ

in_either : (us vs : List Text) (u : Text) → Has (us ++ vs) u → Has us u ⊎ Has vs u
in_either [] vs u has = inr has
in_either (w ∷ us) vs u (inl is) = inl (inl is)
in_either (w ∷ us) vs u (inr has) = elim (in_either us vs u has) [ inl there ↦ inl (inr there) | inr there ↦ inr there ]

in_first : (us vs : List Text) (u : Text) → Has us u → Has (us ++ vs) u
in_first [] vs u has = absurd has
in_first (w ∷ us) vs u (inl is) = inl is
in_first (w ∷ us) vs u (inr has) = inr (in_first us vs u has)

in_second : (us vs : List Text) (u : Text) → Has vs u → Has (us ++ vs) u
in_second [] vs u has = has
in_second (w ∷ us) vs u has = inr (in_second us vs u has)

-- a content of the set is a note that names a UID
abbrev IsNamed : List Op → Text → Type 0
IsNamed ops uid = (c : ContentParts) × (note : Note) × Has (contents ops) c × (c.note ≡ Some note) × Has note.covers uid

abbrev Named : List Op → List Text
Named ops = flat_map named_in (notes_of ops)

behind : (c : ContentParts) (ops : List Op) (uid : Text) → IsNamed ops uid → IsNamed (a_content c ∷ ops) uid
behind c ops uid n = (n.0, n.1, inr n.2, n.3, n.4)

first_named : (c : ContentParts) (ops : List Op) (uid : Text) (r : Option Note) → c.note ≡ r
    → (Has (Named ops) uid → IsNamed ops uid) → Has (flat_map named_in (cons_option (if_note c r) (notes_of ops))) uid
    → IsNamed (a_content c ∷ ops) uid
first_named c ops uid None e more h = behind c ops uid (more h)
first_named c ops uid (Some note) e more h =
    elim (in_either (named_by c.note) (Named ops) uid h) [
      | inl there ↦ (c, note, inl refl, e, subst (λ (r : Option Note). Has (named_by r) uid) e there)
      | inr there ↦ behind c ops uid (more there)
    ]

named_is : (ops : List Op) (uid : Text) → Has (Named ops) uid → IsNamed ops uid
named_is [] uid has = absurd has
named_is (a_correction k ∷ ops) uid has = named_is ops uid has
named_is (a_content c ∷ ops) uid has = first_named c ops uid c.note refl (named_is ops uid) has

is_named : (ops : List Op) (uid : Text) (c : ContentParts) (note : Note) → Has (contents ops) c → c.note ≡ Some note
    → Has note.covers uid → Has (Named ops) uid
is_named [] uid c note has e there = absurd has
is_named (a_correction k ∷ ops) uid c note has e there = is_named ops uid c note has e there
is_named (a_content d ∷ ops) uid c note (inl s) e there = by d.note refl
  where
    own : d.note ≡ Some note
    own = ap (λ (x : ContentParts). x.note) (sym s) ∙ e

    by : (r : Option Note) → d.note ≡ r → Has (flat_map named_in (cons_option (if_note d r) (notes_of ops))) uid
    by None f = let clash : None ≡ Some note = sym f ∙ own in absurd cc
    by (Some n) f = in_first (named_by d.note) (Named ops) uid
        (subst (λ (r : Option Note). Has (named_by r) uid) (sym own) there)
is_named (a_content d ∷ ops) uid c note (inr has) e there = by d.note (is_named ops uid c note has e there)
  where
    by : (r : Option Note) → Has (Named ops) uid
        → Has (flat_map named_in (cons_option (if_note d r) (notes_of ops))) uid
    by None h = h
    by (Some n) h = in_second (named_by d.note) (Named ops) uid h

pub rejected_are_covered : RejectedAreCovered
rejected_are_covered ops uid = (
  λ has. let n = named_is ops uid (ascending_holds uid (Named ops) has) in
      (covered_is_named Archive ops uid).1 (n.0, n.1, n.2, n.3, refl, n.4),
  λ covered. let n = (covered_is_named Archive ops uid).0 covered in
      in_ascending uid (Named ops) (is_named ops uid n.0 n.1 n.2 n.3 n.5),
)

-- ---- the notes under a UID

absorbed : (a b : Bool) → (a || (b && a)) ≡ a
absorbed true b = refl
absorbed false true = refl
absorbed false false = refl

twice : (a t : Bool) → (a && (t && a)) ≡ (t && a)
twice true t = refl
twice false true = refl
twice false false = refl

once : (a b : Bool) → (a && (a && b)) ≡ (a && b)
once true b = refl
once false b = refl

-- a note under the UIDs that it names: it lies under a UID where this is among them
any_own : (f : ContentParts → Bool) (uid : Text) (c : ContentParts) (us : List Text)
    → list_any f (held_under uid (map (λ u. (u, c)) us)) ≡ (is_among us uid && f c)
any_own f uid c [] = refl
any_own f uid c (u ∷ us) = by (same u uid) (any_own f uid c us)
  where
    behind' : List (Text × ContentParts)
    behind' = filter (is_at uid) (map (λ u. (u, c)) us)

    by : (b : Bool) → list_any f (map (λ p. p.1) behind') ≡ (is_among us uid && f c)
        → list_any f (map (λ p. p.1) (cond b ((u, c) ∷ behind') behind')) ≡ ((b || is_among us uid) && f c)
    by true rest = ap (λ (b : Bool). f c || b) rest ∙ absorbed (f c) (is_among us uid)
    by false rest = rest

-- a test that only notes pass that name the UID
any_under : (f : ContentParts → Bool) (uid : Text) → ((c : ContentParts) → (is_naming uid c && f c) ≡ f c)
    → (notes : List ContentParts) → list_any f (held_under uid (flat_map named_pairs notes)) ≡ list_any f notes
any_under f uid own [] = refl
any_under f uid own (c ∷ notes) =
    ap (list_any f) (held_append uid (named_pairs c) (flat_map named_pairs notes))
    ∙ list_any-append f (held_under uid (named_pairs c)) (held_under uid (flat_map named_pairs notes))
    ∙ ap (λ (b : Bool). b || list_any f (held_under uid (flat_map named_pairs notes)))
    (any_own f uid c (named_in c) ∙ own c)
    ∙ ap (λ (b : Bool). f c || b) (any_under f uid own notes)

-- the same of the notes that lie under the UID
abbrev AreUnder : Text → List ContentParts → List ContentParts → Type 0
AreUnder uid notes group = (f : ContentParts → Bool) → ((c : ContentParts) → (is_naming uid c && f c) ≡ f c)
    → list_any f group ≡ list_any f notes

titled_own : (title : NoteTitle) (uid : Text) (note : Option Note)
    → (is_among (named_by note) uid && names_under title uid note) ≡ names_under title uid note
titled_own title uid None = refl
titled_own title uid (Some note) = twice (is_among note.covers uid) _

code_is : (uid : Text) (notes group : List ContentParts) → AreUnder uid notes group → (title : NoteTitle)
    → code_under uid group title ≡ code_under uid notes title
code_is uid notes group same' title =
    ap (λ (b : Bool). cond b (decimal (code_of title) ∷ []) [])
    (same' (λ c. names_under title uid c.note) (λ c. titled_own title uid c.note))

codes_are : (uid : Text) (notes group : List ContentParts) → AreUnder uid notes group
    → codes uid group ≡ codes uid notes
codes_are uid notes group is =
    ap (λ (cs : List Text). cs ++ (code_under uid group Safety
    ++ (code_under uid group Worklist ++ code_under uid group Expired)))
    (code_is uid notes group is Quality)
    ∙ ap (λ (cs : List Text). code_under uid notes Quality
    ++ (cs ++ (code_under uid group Worklist ++ code_under uid group Expired)))
    (code_is uid notes group is Safety)
    ∙ ap (λ (cs : List Text). code_under uid notes Quality
    ++ (code_under uid notes Safety ++ (cs ++ code_under uid group Expired)))
    (code_is uid notes group is Worklist)
    ∙ ap (λ (cs : List Text). code_under uid notes Quality
    ++ (code_under uid notes Safety ++ (code_under uid notes Worklist ++ cs)))
    (code_is uid notes group is Expired)

-- a UID is that of a note that names another exactly where some note passes this test
abbrev is_it : Text → Text → ContentParts → Bool
is_it uid q c = is_naming uid c && same c.instance q

abbrev Names : Text → List ContentParts → List Text
Names uid notes = map (λ c. c.instance) (filter (is_naming uid) notes)

any_named : (uid q : Text) (notes : List ContentParts) → Has (Names uid notes) q → list_any (is_it uid q) notes ≡ true
any_named uid q notes has =
    let at = map_has (λ (c : ContentParts). c.instance) (filter (is_naming uid) notes) q has in
    let from = filter_has (is_naming uid) notes at.0 at.1 in
    has_any (is_it uid q) notes at.0 from.0
    (ap (λ (b : Bool). b && same at.0.instance q) from.1 ∙ same_itself at.0.instance q (sym at.2))

named_any : (uid q : Text) (notes : List ContentParts) → list_any (is_it uid q) notes ≡ true → Has (Names uid notes) q
named_any uid q notes e =
    let at = any_has (is_it uid q) notes e in
    let parts = both (is_naming uid at.0) (same at.0.instance q) at.2 in
    subst (Has (Names uid notes)) (tied_texts at.0.instance q parts.1)
    (has_map (λ (c : ContentParts). c.instance) (filter (is_naming uid) notes) at.0
    (has_filter (is_naming uid) notes at.0 at.1 parts.0))

naming_is : (uid : Text) (notes group : List ContentParts) → AreUnder uid notes group
    → naming uid group ≡ naming uid notes
naming_is uid notes group is =
    let turn = λ (q : Text). is (is_it uid q) (λ c. once (is_naming uid c) (same c.instance q)) in
    same_ascending (naming uid group) (naming uid notes) (ascends (Names uid group)) (ascends (Names uid notes))
    (λ q has. in_ascending q (Names uid notes) (named_any uid q notes (sym (turn q)
    ∙ any_named uid q group (ascending_holds q (Names uid group) has))))
    (λ q has. in_ascending q (Names uid group) (named_any uid q group (turn q
    ∙ any_named uid q notes (ascending_holds q (Names uid notes) has))))

row_is : (uid : Text) (notes group : List ContentParts) → AreUnder uid notes group
    → rejected_row group uid ≡ rejected_row notes uid
row_is uid notes group is =
    ap (λ (cs : List Text). uid ∷ join_with_byte 32 cs ∷ join_with_byte 32 (naming uid group) ∷ [])
    (codes_are uid notes group is)
    ∙ ap (λ (ns : List Text). uid ∷ join_with_byte 32 (codes uid notes) ∷ join_with_byte 32 ns ∷ [])
    (naming_is uid notes group is)

-- the notes under a UID tell of it what all notes do
pub row_at_is : (notes : List ContentParts) (entries : List (Under ContentParts)) → Holds (flat_map named_pairs notes) entries
    → (uid : Text) → row_by entries uid ≡ rejected_row notes uid
row_at_is notes entries holds uid =
    row_is uid notes (held_under uid (pairs entries)) (λ f own.
    ap (list_any f) (holds.each uid) ∙ any_under f uid own notes)

pub rows_are : (notes : List ContentParts) (entries : List (Under ContentParts)) (uids : List Text)
    → Holds (flat_map named_pairs notes) entries → map (row_by entries) uids ≡ map (rejected_row notes) uids
rows_are notes entries uids holds =
    map_each (row_by entries) (rejected_row notes) (row_at_is notes entries holds) uids
