-- What is sent is one thing, and what it is.
use Rattle.std.proofs.Common.{◌≡◌, inl, inr, ℕ, Bool, true, false, List, [], ◌∷◌, Option, Some, None, cond, map, refl}
use Rattle.std.proofs.Common.{sym, ap, subst, ◌∙◌, Less}
use Rattle.std.specs.List.{filter, AllByRecursion}
use Rattle.std.specs.List.Sorted.{IsStrictlySortedBy}
use Rattle.std.proofs.lemmas.Bool.{false≢true}
use Rattle.octets.specs.Texts.{text_cmp}
use Rattle.std.specs.Prelude.{not, MatchBool}
use Rattle.std.specs.Cmp.Lexicographic.{nat_list_cmp_total}
use Rattle.std.specs.FinMap.{same_map, nat_cmp-IsAntisymmetric, slice_cmp-IsAntisymmetric}
use Rattle.data_set.specs.declared.syntax.Syntax.{Syntax}
use Rattle.data_set.specs.declared.syntax.Syntax.TheVariants.{Implicit}
use Rattle.data_set.specs.Tree.{Tree}
use Rattle.data_set.specs.Tags.{is_group_length}
use Rattle.data_set.specs.Values.{value_in}
use Rattle.data_set.specs.Written.{text_of}
use Rattle.data_set.specs.Reading.{elements_in}
use Rattle.data_set.proofs.Sets.{spelled_once}
use Rattle.data_set.proofs.Reading.{spelled_in}
use Rattle.data_set.proofs.ValueLaws.{converted_value}
use Rattle.operation.specs.declared.op.Op.{Op}
use Rattle.operation.specs.declared.op.Op.TheVariants.{Content as a_content}
use Rattle.operation.specs.Parts.{ContentParts}
use Rattle.archive_model.specs.Members.{Has}
use Rattle.archive_model.specs.Contents.{content_in, pick}
use Rattle.archive_model.specs.Covered.{is_covered}
use Rattle.archive_model.specs.Shown.{shown}
use Rattle.archive_model.specs.Coercion.{is_coerced, coerced, AreCoerced}
use Rattle.archive_model.proofs.MemberLaws.{has_filter, filter_has, has_filter_map}
use Rattle.archive_model.proofs.ModelLaws.{shown_are_picks, shown_ascend, covered_is_named}
use Rattle.archive_model.proofs.CoercionLaws.{coerced_has_attributes, coerced_keeps_others, own_is_not_coerced}
use Rattle.site_state.specs.Site.{Map, ops_of}
use Rattle.site_state.specs.Laws.{after_taking}
use Rattle.site_state.proofs.Same.{taken_has}
use Rattle.archive_model.specs.declared.accepts.Accepted.{Accepted}
use Rattle.archive_model.specs.declared.accepts.Form.{Form}
use Rattle.archive_model.specs.declared.accepts.Form.TheVariants.{Own, Converted}
use Rattle.archive_model.specs.declared.sending.Sending.{Sending}
use Rattle.archive_model.specs.Accepts.{form_for, syntax_of}
use Rattle.archive_model.specs.Selection.{is_selected, selected}
use Rattle.archive_model.specs.Sending.{in_form, is_sent_as_stored, IsWritten, IsBody, IsSending, AreSendings, Gets}
use Rattle.archive_model.specs.Sending.{body_for, sending_for, sendings_of}
use Rattle.archive_query.specs.SendingLaws.{SameSitesSendAlike, WhatIsSentIsComputed, NothingHiddenIsSent}
use Rattle.archive_query.specs.SendingLaws.{WhatIsRejectedIsNotSent, WhatIsShownIsSent, WhatIsSentAscends}
use Rattle.archive_query.specs.SendingLaws.{WhatNeedsNothingIsSentAsItCame, SentHasAttributes, SentKeepsOthers}

-- ---- one answer

elements_once : (ops : List Op) (c : ContentParts) (ts us : List Tree) → AreCoerced ops c ts → AreCoerced ops c us
    → ts ≡ us
elements_once ops c ts us a b = a.2 ∙ ap (coerced ops c) (spelled_once c.syntax c.body a.0 b.0 a.1 b.1) ∙ sym b.2

written_once : (ops : List Op) (c : ContentParts) (form : Form) (t u : List ℕ) → IsWritten ops c form t
    → IsWritten ops c form u → t ≡ u
written_once ops c form t u a b =
    a.exact ∙ ap (λ (ts : List Tree). text_of (in_form form ts)) (elements_once ops c a.coerced b.coerced a.are_coerced
    b.are_coerced) ∙ sym b.exact

text_by : (ops : List Op) (c : ContentParts) (form : Form) (b : Bool) (t u : List ℕ) → MatchBool b (t ≡ c.body)
    (IsWritten ops c form t) → MatchBool b (u ≡ c.body) (IsWritten ops c form u) → t ≡ u
text_by ops c form true t u a b = a ∙ sym b
text_by ops c form false t u a b = written_once ops c form t u a b

body_once : (ops : List Op) (c : ContentParts) (form : Option Form) (x y : Option (Syntax × List ℕ)) → IsBody ops c form
    x → IsBody ops c form y → x ≡ y
body_once ops c None x y a b = a ∙ sym b
body_once ops c (Some form) x y a b =
    a.1 ∙ ap (λ (t : List ℕ). Some (syntax_of form c.syntax, t)) (text_by ops c form (is_sent_as_stored ops c form) a.0
    b.0 a.2 b.2) ∙ sym b.1

sending_of : (x y : Sending) → x.class ≡ y.class → x.instance ≡ y.instance → x.body ≡ y.body → x ≡ y
sending_of x y class instance body =
    ap (λ (k : List ℕ). let s : Sending = record { class = k; instance = x.instance; body = x.body } in s) class
    ∙ ap (λ (k : List ℕ). let s : Sending = record { class = y.class; instance = k; body = x.body } in s) instance
    ∙ ap (λ (k : Option (Syntax × List ℕ)). let s : Sending = record {
      class = y.class;
      instance = y.instance;
      body =
          k;
    } in s) body

sending_once : (ops : List Op) (accepted : List Accepted) (c : ContentParts) (x y : Sending) → IsSending ops accepted c
    x → IsSending ops accepted c y → x ≡ y
sending_once ops accepted c x y a b =
    sending_of x y (a.class ∙ sym b.class) (a.instance ∙ sym b.instance)
    (body_once ops c (form_for accepted c.class c.syntax) x.body y.body a.body b.body)

sendings_once : (ops : List Op) (accepted : List Accepted) (cs : List ContentParts) (xs ys : List Sending)
    → AreSendings ops accepted cs xs → AreSendings ops accepted cs ys → xs ≡ ys
sendings_once ops accepted [] [] [] a b = refl
sendings_once ops accepted [] [] (y ∷ ys) a b = absurd b
sendings_once ops accepted [] (x ∷ xs) ys a b = absurd a
sendings_once ops accepted (c ∷ cs) [] ys a b = absurd a
sendings_once ops accepted (c ∷ cs) (x ∷ xs) [] a b = absurd b
sendings_once ops accepted (c ∷ cs) (x ∷ xs) (y ∷ ys) a b =
    ap (λ (z : Sending). z ∷ xs) (sending_once ops accepted c x y a.0 b.0) ∙ ap (λ (zs : List Sending). y ∷ zs)
    (sendings_once ops accepted cs xs ys a.1 b.1)

pub same_sites : SameSitesSendAlike
unfolding Gets
same_sites view selection accepts one other these those same a b =
    let is = same_map nat_list_cmp_total (slice_cmp-IsAntisymmetric nat_cmp-IsAntisymmetric) one other same in
    sendings_once (ops_of other) accepts.list (selected selection (shown view (ops_of other))) these those
    (subst (λ (m : Map). AreSendings (ops_of m) accepts.list (selected selection (shown view (ops_of m))) these) is a) b

-- ---- computed

text_computed : (ops : List Op) (c : ContentParts) (form : Form) (b : Bool) (t : List ℕ) → MatchBool b (t ≡ c.body)
    (IsWritten ops c form t)
    → t ≡ cond b c.body (text_of (in_form form (coerced ops c (elements_in c.syntax c.body))))
text_computed ops c form true t is = is
text_computed ops c form false t is =
    is.exact
    ∙ ap (λ (ts : List Tree). text_of (in_form form ts)) is.are_coerced.2
    ∙ ap (λ (ts : List Tree). text_of (in_form form (coerced ops c ts)))
    (sym (spelled_in c.syntax c.body is.are_coerced.0 is.are_coerced.1))

body_computed : (ops : List Op) (c : ContentParts) (form : Option Form) (body : Option (Syntax × List ℕ))
    → IsBody ops c form body → body ≡ body_for ops c form
body_computed ops c None body is = is
body_computed ops c (Some form) body is =
    is.1 ∙ ap (λ (t : List ℕ). Some (syntax_of form c.syntax, t))
    (text_computed ops c form (is_sent_as_stored ops c form) is.0 is.2)

sending_computed : (ops : List Op) (accepted : List Accepted) (c : ContentParts) (x : Sending) → IsSending ops accepted
    c x → x ≡ sending_for ops accepted c
sending_computed ops accepted c x is =
    sending_of x (sending_for ops accepted c) is.class is.instance
    (body_computed ops c (form_for accepted c.class c.syntax) x.body is.body)

sendings_computed : (ops : List Op) (accepted : List Accepted) (cs : List ContentParts) (xs : List Sending)
    → AreSendings ops accepted cs xs → xs ≡ map (sending_for ops accepted) cs
sendings_computed ops accepted [] [] are = refl
sendings_computed ops accepted [] (x ∷ xs) are = absurd are
sendings_computed ops accepted (c ∷ cs) [] are = absurd are
sendings_computed ops accepted (c ∷ cs) (x ∷ xs) are =
    ap (λ (y : Sending). y ∷ xs) (sending_computed ops accepted c x are.0)
    ∙ ap (λ (ys : List Sending). sending_for ops accepted c ∷ ys) (sendings_computed ops accepted cs xs are.1)

pub sent_computed : WhatIsSentIsComputed
unfolding Gets sendings_of
sent_computed view selection accepts ops sendings gets = sendings_computed ops accepts.list
    (selected selection (shown view ops)) sendings gets

-- ---- what is sent is shown

-- what one that is sent is sent of
sent_of : (ops : List Op) (accepted : List Accepted) (cs : List ContentParts) (xs : List Sending) (x : Sending)
    → AreSendings ops accepted cs xs → Has xs x → (c : ContentParts) × Has cs c × IsSending ops accepted c x
sent_of ops accepted [] [] x are has = absurd has
sent_of ops accepted [] (y ∷ xs) x are has = absurd are
sent_of ops accepted (c ∷ cs) [] x are has = absurd are
sent_of ops accepted (c ∷ cs) (y ∷ xs) x are (inl is) = (c, inl refl, subst (IsSending ops accepted c) (sym is) are.0)
sent_of ops accepted (c ∷ cs) (y ∷ xs) x are (inr later) =
    let of = sent_of ops accepted cs xs x are.1 later in
    (of.0, inr of.1, of.2)

of_one : (ops : List Op) (accepted : List Accepted) (cs : List ContentParts) (xs : List Sending) (c : ContentParts)
    → AreSendings ops accepted cs xs → Has cs c → (x : Sending) × Has xs x × IsSending ops accepted c x
of_one ops accepted [] xs c are has = absurd has
of_one ops accepted (d ∷ cs) [] c are has = absurd are
of_one ops accepted (d ∷ cs) (y ∷ xs) c are (inl is) =
    (y, inl refl, subst (λ (e : ContentParts). IsSending ops accepted e y) (sym is) are.0)
of_one ops accepted (d ∷ cs) (y ∷ xs) c are (inr later) =
    let of = of_one ops accepted cs xs c are.1 later in
    (of.0, inr of.1, of.2)

pub nothing_hidden : NothingHiddenIsSent
unfolding Gets
nothing_hidden view selection accepts ops sendings sending gets has =
    let of = sent_of ops accepts.list (selected selection (shown view ops)) sendings sending gets has in
    let in_selection = filter_has (is_selected selection) (shown view ops) of.0 of.1 in
    let is = (shown_are_picks view ops of.0).0 in_selection.0 in
    record {
      content = of.0;
      picked = ap (λ (uid : List ℕ). pick uid ops) of.2.instance ∙ is.0;
      uncovered = ap (is_covered view ops) of.2.instance ∙ is.1;
      no_hiding_note = is.2;
      selected = in_selection.1;
    }

-- What was taken is held, so a note that was taken covers what it names.
pub rejected_not_sent : WhatIsRejectedIsNotSent
rejected_not_sent view selection accepts taken note says sendings sending one has is hiding names gets sent =
    let held = ops_of (after_taking taken) in
    let among = has_filter_map content_in held (a_content note) note (taken_has taken (a_content note) one has) refl in
    let covered = (covered_is_named view held sending.instance).1 (note, says, among, is, hiding, names) in
    false≢true (sym (nothing_hidden view selection accepts held sendings sending gets sent).uncovered ∙ covered)

pub all_shown : WhatIsShownIsSent
unfolding Gets
all_shown view selection accepts ops sendings c gets has is =
    of_one ops accepts.list (selected selection (shown view ops)) sendings c gets (has_filter (is_selected selection)
    (shown view ops) c has is)

-- ---- in order

abbrev instances_of : List ContentParts → List (List ℕ)
instances_of cs = map (λ (c : ContentParts). c.instance) cs

all_kept : (P : List ℕ → Type 0) (p : ContentParts → Bool) (cs : List ContentParts) → AllByRecursion P (instances_of cs)
    → AllByRecursion P (instances_of (filter p cs))
all_kept P p [] all = all
all_kept P p (c ∷ cs) all = by_test (p c) (all_kept P p cs all.1)
  where
    by_test : (b : Bool) → AllByRecursion P (instances_of (filter p cs))
        → AllByRecursion P (instances_of (cond b (c ∷ filter p cs) (filter p cs)))
    by_test true rest = (all.0, rest)
    by_test false rest = rest

kept_by : (p : ContentParts → Bool) (c : ContentParts) (cs : List ContentParts) (b : Bool)
    → AllByRecursion (λ uid. text_cmp c.instance uid ≡ Less) (instances_of (filter p cs)) → IsStrictlySortedBy text_cmp
    (instances_of (filter p cs))
    → IsStrictlySortedBy text_cmp (instances_of (cond b (c ∷ filter p cs) (filter p cs)))
unfolding IsStrictlySortedBy
kept_by p c cs true above rest = (above, rest)
kept_by p c cs false above rest = rest

kept_ascend : (p : ContentParts → Bool) (cs : List ContentParts) → IsStrictlySortedBy text_cmp (instances_of cs)
    → IsStrictlySortedBy text_cmp (instances_of (filter p cs))
unfolding IsStrictlySortedBy
kept_ascend p [] up = up
kept_ascend p (c ∷ cs) up = kept_by p c cs (p c) (all_kept (λ uid. text_cmp c.instance uid ≡ Less) p cs up.0)
    (kept_ascend p cs up.1)

same_instances : (ops : List Op) (accepted : List Accepted) (cs : List ContentParts) (xs : List Sending)
    → AreSendings ops accepted cs xs → instances_of cs ≡ map (λ (x : Sending). x.instance) xs
same_instances ops accepted [] [] are = refl
same_instances ops accepted [] (x ∷ xs) are = absurd are
same_instances ops accepted (c ∷ cs) [] are = absurd are
same_instances ops accepted (c ∷ cs) (x ∷ xs) are =
    ap (λ (uid : List ℕ). uid ∷ instances_of cs) (sym are.0.instance) ∙ ap (λ (uids : List (List ℕ)). x.instance ∷ uids)
    (same_instances ops accepted cs xs are.1)

pub sent_ascend : WhatIsSentAscends
unfolding Gets
sent_ascend view selection accepts ops sendings gets =
    subst (IsStrictlySortedBy text_cmp) (same_instances ops accepts.list (selected selection (shown view ops)) sendings
    gets)
    (kept_ascend (is_selected selection) (shown view ops) (shown_ascend view ops))

-- ---- as it came

as_it_came : (ops : List Op) (c : ContentParts) (body : Option (Syntax × List ℕ)) (form : Option Form) → form ≡ Some Own
    → is_coerced ops c ≡ false → IsBody ops c form body → body ≡ Some (c.syntax, c.body)
as_it_came ops c body form own uncoerced is =
    let of : IsBody ops c (Some Own) body = subst (λ (f : Option Form). IsBody ops c f body) own is in
    let text : of.0 ≡ c.body = subst (λ (b : Bool). MatchBool (not b) (of.0 ≡ c.body) (IsWritten ops c Own of.0))
    uncoerced of.2 in
    of.1 ∙ ap (λ (t : List ℕ). Some (c.syntax, t)) text

pub sent_as_it_came : WhatNeedsNothingIsSentAsItCame
sent_as_it_came ops accepted c sending is accepts own =
    as_it_came ops c sending.body (form_for accepted c.class c.syntax) accepts (own_is_not_coerced ops c own) is.body

-- ---- read again

in_form_value : (form : Form) (tag : ℕ) (ts : List Tree) → is_group_length tag ≡ false
    → value_in tag (in_form form ts) ≡ value_in tag ts
in_form_value Own tag ts element = refl
in_form_value Converted tag ts element = converted_value Implicit tag ts element

read_again : (ops : List Op) (c : ContentParts) (form : Form) (text : List ℕ) (read : List Tree) (tag : ℕ)
    (w : IsWritten ops c form text) → Rattle.data_set.specs.Texts.Spells (syntax_of form c.syntax) text read
    → is_group_length tag ≡ false
    → value_in tag read ≡ value_in tag (coerced ops c w.are_coerced.0)
read_again ops c form text read tag w spells element =
    ap (value_in tag) (spelled_once (syntax_of form c.syntax) text read (in_form form w.coerced) spells w.again)
    ∙ in_form_value form tag w.coerced element
    ∙ ap (value_in tag) w.are_coerced.2

pub sent_has_attributes : SentHasAttributes
sent_has_attributes ops c form text read tag vr w spells element e changed =
    read_again ops c form text read tag w spells element ∙ coerced_has_attributes ops c w.are_coerced.0 tag vr element e
    changed

pub sent_keeps_others : SentKeepsOthers
sent_keeps_others ops c form text read stored tag w spells are_stored element none =
    read_again ops c form text read tag w spells element
    ∙ coerced_keeps_others ops c w.are_coerced.0 tag element none
    ∙ ap (value_in tag) (spelled_once c.syntax c.body w.are_coerced.0 stored w.are_coerced.1 are_stored)
