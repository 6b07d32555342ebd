-- The rows of a table, and when there are none.
use Rattle.std.proofs.Common.{◌≡◌, ℕ, List, [], ◌∷◌, Option, Some, None, Result, Ok, Err, IfErr, map, refl, sym, ap, subst}
use Rattle.std.proofs.Common.{◌∙◌, IsUtf8, codes}
use Rattle.std.proofs.lemmas.Option.{none-some, same_Some}
use Rattle.std.specs.Option.{option_and_then}
use Rattle.json.specs.Json.{Json, document}
use Rattle.json.specs.Value.{items_of}
use Rattle.site_desk.specs.declared.ask_fault.AskFault.{AskFault}
use Rattle.site_desk.specs.declared.ask_fault.AskFault.TheVariants.{Broken, TooLong, NoAnswer, Memory, Refused}
use Rattle.site_desk.specs.declared.ask_fault.AskFault.TheVariants.{Unready, Unsaid}
use Rattle.site_desk.specs.Heard.{HasBody, HasStatus}
use Rattle.site_desk.specs.Tabled.{listed, gathered, place_from, places_in, cells_at, Tells}
use Rattle.site_desk.specs.Tabled.{IsToldBy, TellsNoRows, TellsNone, list_in, places_below, rows_at}

-- the values of items are those of the list that they are made of
pub listed_again : (values : List Json) → listed (items_of values) ≡ values
listed_again [] = refl
listed_again (value ∷ values) = ap (λ rest. value ∷ rest) (listed_again values)

-- a map of a map is a map of both
pub map_of_map : {A B C : Type 0} (g : B → C) (f : A → B) (values : List A)
    → map g (map f values) ≡ map (λ a. g (f a)) values
map_of_map g f [] = refl
map_of_map g f (value ∷ values) = ap (λ rest. g (f value) ∷ rest) (map_of_map g f values)

-- the places of some names among the columns of a table are those of their texts
pub places_again : {A : Type 0} (text : A → List ℕ) (heading : List A) (columns : List Json) (value : Json)
    → Some (items_of columns) ≡ list_in (codes "columns") value
    → gathered [] (map (λ name. place_from (text name) 0 columns) heading) ≡ places_below (map text heading) value
places_again text heading columns value are =
    ap (λ (places : List (Option ℕ)). gathered [] places)
    (sym (map_of_map (λ name. place_from name 0 columns) text heading))
    ∙ ap (λ all. places_in (map text heading) all) (sym (listed_again columns))
    ∙ ap (λ found. option_and_then (λ all. places_in (map text heading) (listed all)) found) are

-- the cells of the rows of a table are those of the values that they are
pub rows_again : {A : Type 0} (view : A → Json) (places : List ℕ) (rows : List A) (value : Json)
    → Some (items_of (map view rows)) ≡ list_in (codes "rows") value
    → gathered [] (map (λ row. cells_at places (view row)) rows) ≡ rows_at places value
rows_again view places rows value are =
    ap (λ (cells : List (Option (List (List ℕ)))). gathered [] cells)
    (sym (map_of_map (cells_at places) view rows)
    ∙ ap (λ all. map (cells_at places) all) (sym (listed_again (map view rows))))
    ∙ ap (λ found. option_and_then (λ all. gathered [] (map (cells_at places) (listed all))) found) are

-- a text whose body is no document tells nothing
pub unread : (heading : List (List ℕ)) (text body : List ℕ)
    → ((other : List ℕ) → HasBody text other → Some body ≡ Some other) → (IsUtf8 body → document body ≡ None)
    → (rows : List (List (List ℕ))) (pages : ℕ) → IsToldBy heading text rows pages → ⊥
unread heading text body only isnt rows pages it =
    let same : body ≡ it.body = same_Some body it.body (only it.body it.has_body) in
    none-some it.value (sym (isnt (subst IsUtf8 (sym same) it.utf8)) ∙ ap document same ∙ it.is_document)

-- one whose body is another document neither
pub untold : (heading : List (List ℕ)) (text body : List ℕ) (value : Json)
    → ((other : List ℕ) → HasBody text other → Some body ≡ Some other) → document body ≡ Some value
    → ((rows : List (List (List ℕ))) (pages : ℕ) → Tells heading value rows pages → ⊥)
    → (rows : List (List (List ℕ))) (pages : ℕ) → IsToldBy heading text rows pages → ⊥
untold heading text body value only is isnt rows pages it =
    let same : body ≡ it.body = same_Some body it.body (only it.body it.has_body) in
    let alike : it.value ≡ value = same_Some it.value value (sym it.is_document ∙ ap document (sym same) ∙ is) in
    isnt rows pages (subst (λ (v : Json). Tells heading v rows pages) alike it.tells)

-- what a site can tell now it tells, or it is none of a site
pub none_now : {A : Type 0} (heading : List (List ℕ)) (text : List ℕ) (answer : Result A AskFault)
    → (HasStatus text 503 → ⊥) → IfErr answer (TellsNoRows heading text) → IfErr answer (TellsNone heading text)
none_now heading text (Ok told) ready none = tt
none_now heading text (Err NoAnswer) ready none = (ready, none)
none_now heading text (Err Unready) ready none = elim none [ ]
none_now heading text (Err Memory) ready none = tt
none_now heading text (Err Broken) ready none = elim none [ ]
none_now heading text (Err TooLong) ready none = elim none [ ]
none_now heading text (Err (Refused fault)) ready none = elim none [ ]
none_now heading text (Err Unsaid) ready none = elim none [ ]
