-- How long what is written is.
use Rattle.std.proofs.Common.{◌≡◌, ℕ, ◌+◌, ◌<◌, ◌^◌, List, [], ◌∷◌, ◌++◌, length, length-append, arith}
use Rattle.std.specs.Int.{w16, to_be_bytes}
use Rattle.std.specs.List.{AllByRecursion}
use Rattle.pdu.specs.declared.item.TheConstants.{APPLICATION_CONTEXT, USER_INFORMATION}
use Rattle.pdu.specs.declared.item.Item.{Item}
use Rattle.pdu.specs.declared.opening.Opening.{Opening}
use Rattle.pdu.specs.Spelling.{item_of, item_text, items_text, HasLength, opening_text, FitsOpening}

pub all_both : {X : Type 0} (P : X → Type 0) (xs ys : List X) → AllByRecursion P xs → AllByRecursion P ys
    → AllByRecursion P (xs ++ ys)
all_both P [] ys one other = other
all_both P (x ∷ xs) ys one other = (one.0, all_both P xs ys one.1 other)

pub item_size : (i : Item) (is : List Item) → length (items_text (i ∷ is)) ≡ 4 + length i.content +
    length (items_text is)
item_size i is = omega (
  arith,
  length-append (item_text i) (items_text is),
  length-append
      (to_be_bytes w16 (length i.content)) i.content,
)

pub items_size : (is js : List Item) → length (items_text (is ++ js)) ≡ length (items_text is) + length (items_text js)
items_size [] js = omega arith
items_size (i ∷ is) js = omega (arith, item_size i (is ++ js), item_size i is, items_size is js)

pub written_size : (opening : Opening) (text : List ℕ) → FitsOpening opening
    → length (opening_text opening ++ text) ≡ 68 + length text
written_size opening text h =
    omega (
      arith,
      h.called,
      h.calling,
      h.reserved,
      length-append (opening_text opening) text,
      length-append
          opening.called (opening.calling ++ opening.reserved),
      length-append opening.calling opening.reserved,
    )

-- the items of a body: the first, those of the contexts, and the last
abbrev pub body_items : List ℕ → List Item → List ℕ → List Item
body_items context middle user = item_of APPLICATION_CONTEXT context ∷ (middle ++ item_of USER_INFORMATION user ∷ [])

pub body_size : (context : List ℕ) (middle : List Item) (user : List ℕ)
    → length (items_text (body_items context middle user)) ≡ 8 + length context + length (items_text middle) + length
    user
body_size context middle user =
    omega (
      arith,
      item_size (item_of APPLICATION_CONTEXT context) (middle ++ item_of USER_INFORMATION user ∷ []),
      items_size middle (item_of USER_INFORMATION user ∷ []),
      item_size (item_of USER_INFORMATION user) [],
    )

pub body_long : (context : List ℕ) (middle : List Item) (user : List ℕ) → length context < 2 ^ 16
    → AllByRecursion HasLength middle → length user < 2 ^ 16 → AllByRecursion HasLength (body_items context middle user)
body_long context middle user p all q = (p, all_both HasLength middle (item_of USER_INFORMATION user ∷ []) all (q, tt))
