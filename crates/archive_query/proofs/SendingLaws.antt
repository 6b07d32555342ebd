-- What is sent is made of what is prepared, one after another.
use Rattle.std.proofs.Common.{◌≡◌, ℕ, Bool, true, false, List, [], ◌∷◌, ◌++◌, map, Option, Some, None, subst}
use Rattle.std.specs.Prelude.{MatchBool}
use Rattle.data_set.specs.declared.syntax.Syntax.{Syntax}
use Rattle.operation.specs.declared.op.Op.{Op}
use Rattle.operation.specs.Parts.{ContentParts}
use Rattle.archive_model.specs.declared.accepts.Accepted.{Accepted}
use Rattle.archive_model.specs.declared.accepts.Form.{Form}
use Rattle.archive_model.specs.declared.prepared.Prepared.{Prepared}
use Rattle.archive_model.specs.declared.sending.Sending.{Sending}
use Rattle.archive_model.specs.Accepts.{form_for}
use Rattle.archive_model.specs.Sending.{is_sent_as_stored, IsWritten, IsText, IsBody, AreSendings}
use Rattle.archive_model.specs.Prepared.{with_changes, IsTextIn, IsMadeText}
use Rattle.archive_model.specs.Preparing.{changes_for, prepared_for}
use Rattle.archive_model.proofs.PreparedLaws.{changed_is_coerced, stored_alike}
use Rattle.archive_query.specs.Made.{IsMadeBody, IsMadeSending, AreMade}

-- one more is made
pub made_snoc : (accepted : List Accepted) (ps : List Prepared) (ss : List Sending) (p : Prepared) (s : Sending)
    → AreMade accepted ps ss → IsMadeSending accepted p s → AreMade accepted (ps ++ p ∷ []) (ss ++ s ∷ [])
made_snoc accepted [] [] p s are is = (is, tt)
made_snoc accepted [] (x ∷ ss) p s are is = absurd are
made_snoc accepted (q ∷ ps) [] p s are is = absurd are
made_snoc accepted (q ∷ ps) (x ∷ ss) p s are is = (are.0, made_snoc accepted ps ss p s are.1 is)

-- ---- what is made of what is prepared over a set is sent over it

written : (ops : List Op) (c : ContentParts) (form : Form) (text : List ℕ) → IsMadeText form (prepared_for ops c) text
    → IsWritten ops c form text
written ops c form text made = record {
  coerced = with_changes c.syntax (changes_for ops c) made.stored;
  are_coerced = (made.stored, made.are_stored, changed_is_coerced ops c made.stored);
  exact = made.exact;
  again = made.again;
}

text_by : (ops : List Op) (c : ContentParts) (form : Form) (text : List ℕ) (b : Bool)
    → MatchBool b (text ≡ c.body) (IsMadeText form (prepared_for ops c) text)
    → MatchBool b (text ≡ c.body) (IsWritten ops c form text)
text_by ops c form text true is = is
text_by ops c form text false is = written ops c form text is

sent_text : (ops : List Op) (c : ContentParts) (form : Form) (text : List ℕ) → IsTextIn form (prepared_for ops c) text
    → IsText ops c form text
sent_text ops c form text is = text_by ops c form text (is_sent_as_stored ops c form)
    (subst (λ (b : Bool). MatchBool b (text ≡ c.body) (IsMadeText form (prepared_for ops c) text))
    (stored_alike ops c form) is)

sent_body : (ops : List Op) (c : ContentParts) (form : Option Form) (body : Option (Syntax × List ℕ))
    → IsMadeBody (prepared_for ops c) form body → IsBody ops c form body
sent_body ops c None body is = is
sent_body ops c (Some form) body is = (is.0, is.1, sent_text ops c form is.0 is.2)

pub made_are_sent : (ops : List Op) (accepted : List Accepted) (cs : List ContentParts) (ss : List Sending)
    → AreMade accepted (map (prepared_for ops) cs) ss → AreSendings ops accepted cs ss
made_are_sent ops accepted [] [] are = are
made_are_sent ops accepted [] (s ∷ ss) are = absurd are
made_are_sent ops accepted (c ∷ cs) [] are = absurd are
made_are_sent ops accepted (c ∷ cs) (s ∷ ss) are = (
  record {
    class = are.0.class;
    instance = are.0.instance;
    body = sent_body ops c (form_for accepted c.class c.syntax) s.body are.0.body;
  },
  made_are_sent ops accepted cs ss are.1,
)
