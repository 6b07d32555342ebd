-- Two values side by side.

-- part by part
abbrev pub pair_joined : {A B : Type 0} → (A → A → A) → (B → B → B) → A × B → A × B → A × B
pair_joined join_first join_second a b = (join_first a.0 b.0, join_second a.1 b.1)

-- what each of two makes of a thing
abbrev pub both : {O A B : Type 0} → (O → A) → (O → B) → O → A × B
both f g op = (f op, g op)
