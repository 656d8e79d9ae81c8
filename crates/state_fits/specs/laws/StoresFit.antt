-- What a task sees in a store that fits, and is handed from it, is of the type of the cell.
use Rattle.std.specs.Prelude.{◌≡◌, ℕ, Bool, true, false, cond, eqb, List, [], ◌∷◌, Option, Some, None, refl}
use Rattle.std.proofs.Common.{inl, inr}
use Rattle.std.specs.FinMap.{get, entries}
use Rattle.value_heights.specs.tm_lattice.Tables.{Table}
use Rattle.temporary_types.specs.tm_typed.declared.types.Scalar.{Scalar}
use Rattle.temporary_types.specs.tm_laid.Layouts.{LaidTree}
use Rattle.value_heights.specs.pointer_dom.Values.{Values, joined_values, no_value}
use Rattle.edge_actions.specs.interfere_set.Stores.{Nested, Interferences, value_or_none, joined_onto, joined_all}
use Rattle.edge_actions.specs.interfere_set.Stores.{Reader, is_visible, shown_at}
use Rattle.edge_actions.specs.interfere_set.Stores.{seen_of_task, visible, left_in, left_at, handed}
use Rattle.edge_actions.specs.interfere_set.laws.Joins.{IsOf, of_entry}
use Rattle.typed_values.specs.Types.{IsOfType}
use Rattle.typed_values.specs.laws.TypeLaws.{none_of_type, joined_of_type}

-- What holds of none and of joins holds of the join of all parts of a list of which it holds.
module _ (Is : Values → Type 0) (none : Is no_value) (joins : (v w : Values) → Is v → Is w → Is (joined_values v w))
  where
    onto_is : {A : Type 0} (part : A → Values) (v : Values) (xs : List A) → Is v
        → ((x : A) → IsOf xs x → Is (part x)) → Is (joined_onto part v xs)
    onto_is part v [] p each = p
    onto_is part v (x ∷ xs) p each =
        onto_is part (joined_values v (part x)) xs (joins v (part x) p (each x (inl refl))) (λ y h. each y (inr h))

    pub all_is : {A : Type 0} (part : A → Values) (xs : List A) → ((x : A) → IsOf xs x → Is (part x))
        → Is (joined_all part xs)
    all_is part xs each = onto_is part no_value xs none each

module _ (laid : LaidTree) (scalar : Scalar) where
  abbrev Is : Values → Type 0
  Is v = IsOfType laid scalar v

  pub cond_typed : (b : Bool) (v w : Values) → Is v → Is w → Is (cond b v w)
  cond_typed true v w p q = p
  cond_typed false v w p q = q

  all_typed : {A : Type 0} (part : A → Values) (xs : List A) → ((x : A) → IsOf xs x → Is (part x))
      → Is (joined_all part xs)
  all_typed part xs each = all_is Is (none_of_type laid scalar) (joined_of_type laid scalar) part xs each

  or_none_typed : (a : Option Values) → ((v : Values) → a ≡ Some v → Is v) → Is (value_or_none a)
  or_none_typed None h = none_of_type laid scalar
  or_none_typed (Some v) h = h v refl

  -- the entries of the cell are of its type
  abbrev pub AreTyped : ℕ → Nested → Type 0
  AreTyped x n = (j l : ℕ) (written : Table (Table Values)) (cells : Table Values) (v : Values)
      → get n j ≡ Some written → get written l ≡ Some cells → get cells x ≡ Some v → Is v

  pub visible_typed : (reader : Reader) (fresh : Bool) (x : ℕ) (store : Interferences) → AreTyped x store.weak
      → Is (visible reader fresh x store)
  visible_typed reader fresh x store typed =
      all_typed (λ (e : ℕ × Table (Table Values)). seen_of_task reader fresh x e.0 e.1) (entries store.weak) (λ e h.
      all_typed (shown_at reader fresh x e.0) (entries e.1) (λ f k.
      cond_typed (is_visible reader fresh e.0 f.0) (value_or_none (get f.1 x)) no_value
      (or_none_typed (get f.1 x) (λ v at. typed e.0 f.0 e.1 f.1 v (of_entry store.weak e h) (of_entry e.1 f k) at))
      (none_of_type laid scalar)))

  left_typed : (x : ℕ) (a : Option (Table Values))
      → ((cells : Table Values) (v : Values) → a ≡ Some cells → get cells x ≡ Some v → Is v) → Is (left_in x a)
  left_typed x None h = none_of_type laid scalar
  left_typed x (Some cells) h = or_none_typed (get cells x) (λ v at. h cells v refl at)

  pub handed_typed : (task m x : ℕ) (store : Interferences) → AreTyped x store.sync → Is (handed task m x store)
  handed_typed task m x store typed =
      all_typed (λ (e : ℕ × Table (Table Values)). cond (eqb e.0 task) no_value (left_at m x e.1))
      (entries store.sync) (λ e h.
      cond_typed (eqb e.0 task) no_value (left_at m x e.1) (none_of_type laid scalar)
      (left_typed x (get e.1 m) (λ cells v at_m at_x. typed e.0 m e.1 cells v (of_entry store.sync e h) at_m at_x)))
