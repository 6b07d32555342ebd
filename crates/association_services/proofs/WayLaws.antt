-- On which context a content goes out, what is accepted there, and what is carried of what was loaded.
use Rattle.std.proofs.Common.{◌≡◌, ℕ, Bool, true, false, cond, List, [], ◌∷◌, map, Option, Some, None, refl, sym}
use Rattle.std.proofs.Common.{ap, ◌∙◌, inl, inr, subst, Result, Ok, Err}
use Rattle.std.specs.Prelude.{nat_lt, is_some, ◌||◌, ◌&&◌, not, ⊤}
use Rattle.std.specs.List.{list_any, filter}
use Rattle.std.specs.Option.{option_map}
use Rattle.std.proofs.lemmas.Option.{same_Some}
use Rattle.std.proofs.lemmas.Bool.{or_parts as either_false, or_from as none_before}
use Rattle.octets.specs.Texts.{same}
use Rattle.data_set.specs.declared.syntax.Syntax.{Syntax}
use Rattle.data_set.specs.declared.syntax.Syntax.TheVariants.{Implicit, Explicit}
use Rattle.archive_model.proofs.MemberLaws.{filter_has}
use Rattle.archive_model.proofs.ModelLaws.{same_is, pick_is_content, content_has, shown_are_picks}
use Rattle.std.specs.Cmp.Lexicographic.{bytes_decides}
use Rattle.pdu.specs.declared.context.Context.{Context}
use Rattle.octets.specs.Members.{Has}
use Rattle.operation.specs.declared.op.Op.{Op}
use Rattle.operation.specs.declared.op.Op.TheVariants.{Content as a_content}
use Rattle.operation.specs.Parts.{ContentParts}
use Rattle.operation.specs.RecordParts.{ContentRecordParts, content_record}
use Rattle.operation.specs.Spelling.{digest_of}
use Rattle.archive_model.specs.declared.view.View.{View}
use Rattle.archive_model.specs.declared.selection.Selection.{Selection}
use Rattle.ul_state.specs.Titles.{is_text}
use Rattle.archive_model.specs.declared.listed.Listed.{Listed}
use Rattle.archive_model.specs.declared.accepts.Form.{Form}
use Rattle.archive_model.specs.declared.prepared.Prepared.{Prepared}
use Rattle.archive_model.specs.declared.sending.Sending.{Sending}
use Rattle.archive_model.specs.Accepts.{form_by, form_for, syntax_of}
use Rattle.archive_model.specs.Listed.{listed, with_content, list_of}
use Rattle.archive_model.specs.Prepared.{made, made_body}
use Rattle.archive_model.specs.Preparing.{prepared_for, prepared_of}
use Rattle.archive_model.specs.Selection.{is_selected, selected}
use Rattle.archive_model.specs.Shown.{shown}
use Rattle.archive_model.proofs.PreparedLaws.{sent_is_made}
use Rattle.association_services.specs.declared.reply.PortFault.{PortFault}
use Rattle.association_services.specs.declared.reply.Reply.{Reply}
use Rattle.association_services.specs.declared.reply.Reply.TheVariants.{Stored, Found, Gotten, Loaded}
use Rattle.association_services.specs.declared.retrieval.Progress.{Progress}
use Rattle.association_services.specs.declared.way.Way.{Way}
use Rattle.association_services.specs.Accepted.{takes_any, accepted_on, accepts_of, FormIsAccepted, is_explicit, IsOn}
use Rattle.association_services.specs.Accepted.{WayIsOn, is_carried, carried_first, carried_for, carried_by, carried_of}
use Rattle.association_services.specs.Accepted.{Carries, IsApartFrom, BringsIts, BringsBy, BringsEach, CarriedIsSent}
use Rattle.association_services.specs.Get.{takes_class, lesser, least_id, converted_on, own_or, way_of}
use Rattle.association_services.specs.Retrieval.{way_for, sub_operation, is_same_syntax, is_as_listed, loaded_for}

abbrev form_of : Way → Form
form_of way = way.form

-- ---- the form

some_by : (b : Bool) (id : ℕ) (found : Option ℕ)
    → is_some (cond b (Some (lesser id found)) found) ≡ (b || is_some found)
some_by true id found = refl
some_by false id found = refl

-- There is a least one where there is one.
least_any : (class : List ℕ) (explicit : Bool) (cs : List Context)
    → is_some (least_id class explicit cs) ≡ list_any (takes_class class explicit) cs
least_any class explicit [] = refl
least_any class explicit (c ∷ cs) =
    some_by (takes_class class explicit c) c.id (least_id class explicit cs)
    ∙ ap (λ b. takes_class class explicit c || b) (least_any class explicit cs)

implicit_form : (id : Option ℕ) (explicit : Bool) → option_map form_of (own_or id None)
    ≡ form_by (is_some id) explicit Implicit
implicit_form None true = refl
implicit_form None false = refl
implicit_form (Some id) true = refl
implicit_form (Some id) false = refl

explicit_form : (own implicit : Option ℕ) → option_map form_of (own_or own (converted_on implicit))
    ≡ form_by (is_some implicit) (is_some own) Explicit
explicit_form None None = refl
explicit_form None (Some id) = refl
explicit_form (Some own) None = refl
explicit_form (Some own) (Some id) = refl

way_form : (contexts : List Context) (class : List ℕ) (syntax : Syntax)
    → option_map form_of (way_of contexts class syntax)
    ≡ form_by (takes_any contexts class false) (takes_any contexts class true) syntax
way_form contexts class Implicit =
    implicit_form (least_id class false contexts) (takes_any contexts class true)
    ∙ ap (λ b. form_by b (takes_any contexts class true) Implicit) (least_any class false contexts)
way_form contexts class Explicit =
    explicit_form (least_id class true contexts) (least_id class false contexts)
    ∙ ap (λ b. form_by b (is_some (least_id class true contexts)) Explicit) (least_any class false contexts)
    ∙ ap (λ b. form_by (takes_any contexts class false) b Explicit) (least_any class true contexts)

-- ---- what is accepted of a class

-- one of some contexts is of a class
abbrev is_of_class : List ℕ → List Context → Bool
is_of_class class cs = list_any (λ (c : Context). same c.abstract_syntax class) cs

entry_by : (b : Bool) (all : List Context) (a class : List ℕ) (syntax : Syntax) (others : Option Form) (rest : Bool)
    → same a class ≡ b
    → others ≡ cond rest (form_by (takes_any all class false) (takes_any all class true) syntax) None
    → cond b (form_by (takes_any all a false) (takes_any all a true) syntax) others
    ≡ cond (b || rest) (form_by (takes_any all class false) (takes_any all class true) syntax) None
entry_by true all a class syntax others rest e same_rest =
    ap (λ t. form_by (takes_any all t false) (takes_any all t true) syntax) (same_is a class e)
entry_by false all a class syntax others rest e same_rest = same_rest

entries : (all cs : List Context) (class : List ℕ) (syntax : Syntax)
    → form_for (map (accepted_on all) cs) class syntax
    ≡ cond (is_of_class class cs) (form_by (takes_any all class false) (takes_any all class true) syntax) None
entries all [] class syntax = refl
entries all (c ∷ cs) class syntax =
    entry_by (same c.abstract_syntax class) all c.abstract_syntax class syntax
    (form_for (map (accepted_on all) cs) class syntax) (is_of_class class cs) refl (entries all cs class syntax)

other_takes_none : (b c d : Bool) → b ≡ false → (b && c && d) ≡ false
other_takes_none true c d e = absurd cc
other_takes_none false c d e = refl

-- No context of another class takes its data sets.
none_takes : (class : List ℕ) (explicit : Bool) (cs : List Context) → is_of_class class cs ≡ false
    → takes_any cs class explicit ≡ false
none_takes class explicit [] none = refl
none_takes class explicit (c ∷ cs) none =
    let apart = either_false (same c.abstract_syntax class) (is_of_class class cs) none in
    none_before (takes_class class explicit c) (takes_any cs class explicit)
    (other_takes_none (same c.abstract_syntax class) c.scp (cond explicit c.explicit (not c.explicit)) apart.0)
    (none_takes class explicit cs apart.1)

no_form : (syntax : Syntax) → form_by false false syntax ≡ None
no_form Implicit = refl
no_form Explicit = refl

form_there : (b : Bool) (contexts : List Context) (class : List ℕ) (syntax : Syntax)
    → is_of_class class contexts ≡ b
    → form_by (takes_any contexts class false) (takes_any contexts class true) syntax
    ≡ cond b (form_by (takes_any contexts class false) (takes_any contexts class true) syntax) None
form_there true contexts class syntax e = refl
form_there false contexts class syntax e =
    ap (λ b. form_by b (takes_any contexts class true) syntax) (none_takes class false contexts e)
    ∙ ap (λ b. form_by false b syntax) (none_takes class true contexts e) ∙ no_form syntax

-- The form is that of what is accepted.
pub form_is_accepted : FormIsAccepted
form_is_accepted contexts class syntax =
    way_form contexts class syntax ∙ form_there (is_of_class class contexts) contexts class syntax refl
    ∙ sym (entries contexts contexts class syntax)

-- ---- the context

behind : (c : Context) (cs : List Context) (class : List ℕ) (explicit : Bool) (id : ℕ) → IsOn cs class explicit id
    → IsOn (c ∷ cs) class explicit id
behind c cs class explicit id is =
    record { context = is.context; there = inr is.there; takes = is.takes; is = is.is }

lesser_on : (b : Bool) (c : Context) (cs : List Context) (class : List ℕ) (explicit : Bool) (told id : ℕ)
    → takes_class class explicit c ≡ true → IsOn cs class explicit told → cond b told c.id ≡ id
    → IsOn (c ∷ cs) class explicit id
lesser_on true c cs class explicit told id takes on is = subst (λ n. IsOn (c ∷ cs) class explicit n) is
    (behind c cs class explicit told on)
lesser_on false c cs class explicit told id takes on is =
    record { context = c; there = inl refl; takes = takes; is = is }

first_on : (found : Option ℕ) (c : Context) (cs : List Context) (class : List ℕ) (explicit : Bool) (id : ℕ)
    → takes_class class explicit c ≡ true → ((n : ℕ) → found ≡ Some n → IsOn cs class explicit n)
    → Some (lesser c.id found) ≡ Some id → IsOn (c ∷ cs) class explicit id
first_on None c cs class explicit id takes on e =
    record { context = c; there = inl refl; takes = takes; is = same_Some c.id id e }
first_on (Some told) c cs class explicit id takes on e =
    lesser_on (nat_lt told c.id) c cs class explicit told id takes (on told refl)
    (same_Some (cond (nat_lt told c.id) told c.id) id e)

least_by : (b : Bool) (found : Option ℕ) (c : Context) (cs : List Context) (class : List ℕ) (explicit : Bool) (id : ℕ)
    → takes_class class explicit c ≡ b → ((n : ℕ) → found ≡ Some n → IsOn cs class explicit n)
    → cond b (Some (lesser c.id found)) found ≡ Some id → IsOn (c ∷ cs) class explicit id
least_by true found c cs class explicit id takes on e = first_on found c cs class explicit id takes on e
least_by false found c cs class explicit id takes on e = behind c cs class explicit id (on id e)

-- The least ID is that of such a context.
least_on : (cs : List Context) (class : List ℕ) (explicit : Bool) (id : ℕ) → least_id class explicit cs ≡ Some id
    → IsOn cs class explicit id
least_on [] class explicit id e = absurd cc
least_on (c ∷ cs) class explicit id e =
    least_by (takes_class class explicit c) (least_id class explicit cs) c cs class explicit id refl
    (λ n. least_on cs class explicit n) e

own_on : (id : Option ℕ) (contexts : List Context) (class : List ℕ) (syntax : Syntax) (others : Option Way) (way : Way)
    → ((n : ℕ) → id ≡ Some n → IsOn contexts class (is_explicit syntax) n)
    → (others ≡ Some way → IsOn contexts class (is_explicit (syntax_of way.form syntax)) way.context)
    → own_or id others ≡ Some way → IsOn contexts class (is_explicit (syntax_of way.form syntax)) way.context
own_on None contexts class syntax others way on other e = other e
own_on (Some n) contexts class syntax others way on other e =
    subst (λ (w : Way). IsOn contexts class (is_explicit (syntax_of w.form syntax)) w.context)
    (same_Some _ way e) (on n refl)

converted_is_on : (id : Option ℕ) (contexts : List Context) (class : List ℕ) (syntax : Syntax) (way : Way)
    → ((n : ℕ) → id ≡ Some n → IsOn contexts class false n) → converted_on id ≡ Some way
    → IsOn contexts class (is_explicit (syntax_of way.form syntax)) way.context
converted_is_on None contexts class syntax way on e = absurd cc
converted_is_on (Some n) contexts class syntax way on e =
    subst (λ (w : Way). IsOn contexts class (is_explicit (syntax_of w.form syntax)) w.context)
    (same_Some _ way e) (on n refl)

-- The context takes the class, in the syntax in which the content is sent.
pub way_is_on : WayIsOn
way_is_on contexts class Implicit way e =
    own_on (least_id class false contexts) contexts class Implicit None way (least_on contexts class false)
    (λ none. absurd cc) e
way_is_on contexts class Explicit way e =
    own_on (least_id class true contexts) contexts class Explicit (converted_on (least_id class false contexts)) way
    (least_on contexts class true)
    (converted_is_on (least_id class false contexts) contexts class Explicit way (least_on contexts class false)) e

-- ---- what was loaded

same_syntax : (a b : Syntax) → is_same_syntax a b ≡ true → a ≡ b
same_syntax Implicit Implicit e = refl
same_syntax Explicit Explicit e = refl
same_syntax Implicit Explicit e = absurd cc
same_syntax Explicit Implicit e = absurd cc

syntax_itself : (a : Syntax) → is_same_syntax a a ≡ true
syntax_itself Implicit = refl
syntax_itself Explicit = refl

all_three : (a b c : Bool) → (a && b && c) ≡ true → (a ≡ true) × (b ≡ true) × (c ≡ true)
all_three true true true e = (refl, refl, refl)
all_three true true false e = absurd cc
all_three true false c e = absurd cc
all_three false b c e = absurd cc

three_so : (a b c : Bool) → a ≡ true → b ≡ true → c ≡ true → (a && b && c) ≡ true
three_so true true true p q r = refl
three_so true true false p q r = absurd cc
three_so true false c p q r = absurd cc
three_so false b c p q r = absurd cc

-- What is sent is of the class, the instance and the transfer syntax that were listed.
pub record IsAsListed (l : Listed) (p : Prepared) : Type 0 where
  pub class : p.content.class ≡ l.content.class
  pub instance : p.content.instance ≡ l.content.instance
  pub syntax : p.content.syntax ≡ l.content.syntax

loaded_by : (b : Bool) (l : Listed) (c : ContentParts) (p : Prepared) → is_as_listed l c ≡ b
    → cond b (Some (with_content l c)) None ≡ Some p → IsAsListed l p
loaded_by true l c p is e =
    let three = all_three (is_text c.class l.content.class) (is_text c.instance l.content.instance)
    (is_same_syntax c.syntax l.content.syntax) is in
    subst (λ (q : Prepared). IsAsListed l q) (same_Some (with_content l c) p e) (record {
      class = same_is c.class l.content.class three.0;
      instance = same_is c.instance l.content.instance three.1;
      syntax = same_syntax c.syntax l.content.syntax three.2;
    })
loaded_by false l c p is e = absurd cc

pub loaded_as_listed : (l : Listed) (reply : Result ContentParts PortFault) (p : Prepared) → loaded_for l reply ≡ Some p
    → IsAsListed l p
loaded_as_listed l (Ok c) p e = loaded_by (is_as_listed l c) l c p refl e
loaded_as_listed l (Err fault) p e = absurd cc

-- So it has the way of what was listed.
loaded_way : (contexts : List Context) (l : Listed) (reply : Result ContentParts PortFault) (p : Prepared)
    → loaded_for l reply ≡ Some p → way_of contexts p.content.class p.content.syntax ≡ way_for contexts l
loaded_way contexts l reply p e =
    let is = loaded_as_listed l reply p e in
    ap (λ (class : List ℕ). way_of contexts class p.content.syntax) is.class
    ∙ ap (λ (syntax : Syntax). way_of contexts l.content.class syntax) is.syntax

-- Its own content is as it was listed.
own_is_listed : (p : Prepared) → is_as_listed (listed p) p.content ≡ true
own_is_listed p = three_so (is_text p.content.class p.content.class) (is_text p.content.instance p.content.instance)
    (is_same_syntax p.content.syntax p.content.syntax) ((bytes_decides p.content.class p.content.class).1 refl)
    ((bytes_decides p.content.instance p.content.instance).1 refl) (syntax_itself p.content.syntax)

own_loaded : (p : Prepared) → loaded_for (listed p) (Ok p.content) ≡ Some p
own_loaded p = ap (λ (b : Bool). cond b (Some p) None) (own_is_listed p)

-- ---- what sub-operations carry

-- What is made of an instance has the form of its way,
made_on : (contexts : List Context) (p : Prepared) (way : Option Way)
    → way_of contexts p.content.class p.content.syntax ≡ way
    → (made (accepts_of contexts) p).body ≡ made_body p (option_map form_of way)
made_on contexts p way e =
    ap (made_body p) (sym (form_is_accepted contexts p.content.class p.content.syntax) ∙ ap (option_map form_of) e)

-- so one that has a way and was loaded is carried next,
pub carried_next : (contexts : List Context) (l : Listed) (ls : List Listed) (way : Way)
    (reply : Result ContentParts PortFault) (rs : List Reply) (p : Prepared) → way_for contexts l ≡ Some way
    → loaded_for l reply ≡ Some p
    → carried_of contexts (l ∷ ls) (Loaded reply ∷ rs) ≡ made (accepts_of contexts) p ∷ carried_of contexts ls rs
carried_next contexts l ls way reply rs p e loaded =
    ap (λ (w : Option Way). carried_by w (accepts_of contexts) l (carried_of contexts ls) (Loaded reply ∷ rs)) e
    ∙ ap (λ (o : Option Prepared). carried_first (accepts_of contexts) o (carried_of contexts ls rs)) loaded

-- one that was not loaded is not,
pub carried_unloaded : (contexts : List Context) (l : Listed) (ls : List Listed) (way : Way)
    (reply : Result ContentParts PortFault) (rs : List Reply) → way_for contexts l ≡ Some way
    → loaded_for l reply ≡ None → carried_of contexts (l ∷ ls) (Loaded reply ∷ rs) ≡ carried_of contexts ls rs
carried_unloaded contexts l ls way reply rs e loaded =
    ap (λ (w : Option Way). carried_by w (accepts_of contexts) l (carried_of contexts ls) (Loaded reply ∷ rs)) e
    ∙ ap (λ (o : Option Prepared). carried_first (accepts_of contexts) o (carried_of contexts ls rs)) loaded

-- and neither is one that has no way.
pub carried_not : (contexts : List Context) (l : Listed) (ls : List Listed) (rs : List Reply)
    → way_for contexts l ≡ None → carried_of contexts (l ∷ ls) rs ≡ carried_of contexts ls rs
carried_not contexts l ls rs e =
    ap (λ (w : Option Way). carried_by w (accepts_of contexts) l (carried_of contexts ls) rs) e

-- A sub-operation carries what is made of its instance.
pub sub_carries : (contexts : List Context) (g : Progress) (l : Listed) (way : Way)
    (reply : Result ContentParts PortFault) (p : Prepared) → way_for contexts l ≡ Some way → loaded_for l reply ≡ Some p
    → Carries contexts (made (accepts_of contexts) p) (sub_operation g way p)
sub_carries contexts g l way reply p e loaded =
    let its_way : way_of contexts p.content.class p.content.syntax ≡ Some way = loaded_way contexts l reply p loaded
    ∙ e in
    record {
      syntax = syntax_of way.form p.content.syntax;
      text = _;
      body = made_on contexts p (Some way) its_way;
      request = refl;
      class = refl;
      instance = refl;
      data_set = refl;
      context = way_is_on contexts p.content.class p.content.syntax way its_way;
    }

-- ---- what is carried of a set

kept_by : (b : Bool) (first : Sending) (rest : List Sending) → is_carried first ≡ b
    → filter is_carried (first ∷ rest) ≡ cond b (first ∷ filter is_carried rest) (filter is_carried rest)
kept_by true first rest e = rw e refl
kept_by false first rest e = rw e refl

-- what is made of prepared instances, where an accepted transfer syntax serves
abbrev made_of : List Context → List Prepared → List Sending
made_of contexts ps = filter is_carried (map (made (accepts_of contexts)) ps)

-- A content with the record of one of the set is that one, where they are no two of one digest.
same_content : (ops : List Op) (a b : ContentParts) → IsApartFrom ops (a_content a) → Has ops (a_content b)
    → content_record a ≡ content_record b → a ≡ b
same_content ops a b apart there e =
    let one : digest_of (a_content a) ≡ digest_of (a_content b) = ap (λ (r : ContentRecordParts). r.digest) e in
    let same : a_content a ≡ a_content b = apart (a_content b) there one in
    cc

first_carried : (ops : List Op) (contexts : List Context) (p : Prepared) (ps : List Prepared) (way : Way)
    (others : List Reply → List Sending) (rs : List Reply) (Others : List Reply → Type 0)
    → Has ops (a_content p.content) → way_for contexts (listed p) ≡ Some way
    → ((rs : List Reply) → Others rs → others rs ≡ made_of contexts ps) → BringsIts ops (listed p) Others rs
    → carried_for (accepts_of contexts) (listed p) others rs ≡ made_of contexts (p ∷ ps)
first_carried ops contexts p ps way others [] Others there e goes brings = absurd brings
first_carried ops contexts p ps way others (Loaded (Ok content) ∷ rs) Others there e goes brings =
    ap (λ (c : ContentParts). carried_first (accepts_of contexts) (loaded_for (listed p) (Ok c)) (others rs))
    (same_content ops content p.content brings.1 there brings.0)
    ∙ ap (λ (o : Option Prepared). carried_first (accepts_of contexts) o (others rs)) (own_loaded p)
    ∙ ap (λ (t : List Sending). made (accepts_of contexts) p ∷ t) (goes rs brings.2)
    ∙ sym (kept_by true (made (accepts_of contexts) p) (map (made (accepts_of contexts)) ps)
    (ap (λ (b : Option (Syntax × List ℕ)). is_some b) (made_on contexts p (Some way) e)))
first_carried ops contexts p ps way others (Loaded (Err fault) ∷ rs) Others there e goes brings = absurd brings
first_carried ops contexts p ps way others (Stored reply ∷ rs) Others there e goes brings = absurd brings
first_carried ops contexts p ps way others (Found reply ∷ rs) Others there e goes brings = absurd brings
first_carried ops contexts p ps way others (Gotten reply ∷ rs) Others there e goes brings = absurd brings

each_carried : (way : Option Way) (ops : List Op) (contexts : List Context) (p : Prepared) (ps : List Prepared)
    (others : List Reply → List Sending) (rs : List Reply) (Others : List Reply → Type 0)
    → Has ops (a_content p.content) → way_for contexts (listed p) ≡ way
    → ((rs : List Reply) → Others rs → others rs ≡ made_of contexts ps) → BringsBy way ops (listed p) Others rs
    → carried_by way (accepts_of contexts) (listed p) others rs ≡ made_of contexts (p ∷ ps)
each_carried None ops contexts p ps others rs Others there e goes brings =
    goes rs brings
    ∙ sym (kept_by false (made (accepts_of contexts) p) (map (made (accepts_of contexts)) ps)
    (ap (λ (b : Option (Syntax × List ℕ)). is_some b) (made_on contexts p None e)))
each_carried (Some way) ops contexts p ps others rs Others there e goes brings =
    first_carried ops contexts p ps way others rs Others there e goes brings

-- Their contents are of the set.
abbrev AreOf : List Op → List Prepared → Type 0
AreOf ops [] = ⊤
AreOf ops (p ∷ ps) = Has ops (a_content p.content) × AreOf ops ps

-- Where each load brought its own, all are carried that an accepted transfer syntax serves.
all_carried : (ops : List Op) (contexts : List Context) (ps : List Prepared) (rs : List Reply)
    → AreOf ops ps → BringsEach ops contexts (map listed ps) rs
    → carried_of contexts (map listed ps) rs ≡ made_of contexts ps
all_carried ops contexts [] rs are brings = refl
all_carried ops contexts (p ∷ ps) rs are brings =
    each_carried (way_for contexts (listed p)) ops contexts p ps (carried_of contexts (map listed ps)) rs
    (BringsEach ops contexts (map listed ps)) are.0 refl
    (λ rs' b. all_carried ops contexts ps rs' are.1 b) brings

all_of : (ops : List Op) (cs : List ContentParts) → ((c : ContentParts) → Has cs c → Has ops (a_content c))
    → AreOf ops (map (prepared_for ops) cs)
all_of ops [] of = tt
all_of ops (c ∷ cs) of = (of c (inl refl), all_of ops cs (λ d has. of d (inr has)))

-- What is shown and selected is of the set.
selected_of : (view : View) (selection : Selection) (ops : List Op) (c : ContentParts)
    → Has (selected selection (shown view ops)) c → Has ops (a_content c)
selected_of view selection ops c has =
    let there = (filter_has (is_selected selection) (shown view ops) c has).0 in
    let picked = ((shown_are_picks view ops c).0 there).0 in
    content_has ops c (pick_is_content c.instance ops c picked).0

pub carried_is_sent : CarriedIsSent
unfolding list_of prepared_of
carried_is_sent contexts view selection ops rs brings =
    all_carried ops contexts (prepared_of view selection ops) rs
    (all_of ops (selected selection (shown view ops)) (selected_of view selection ops)) brings
    ∙ ap (λ (t : List Sending). filter is_carried t) (sym (sent_is_made view selection (accepts_of contexts) ops))
