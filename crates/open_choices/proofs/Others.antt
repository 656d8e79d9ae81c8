-- The objects to which what other tasks wrote may point, table by table.
use Rattle.std.proofs.Common.{◌≡◌, ◌≢◌, ◌↔◌, ◌⊎◌, ℕ, ◌+◌, ◌<◌, ◌≤◌, inl, inr, refl, sym, ap, subst, ◌∙◌, List, [], ◌∷◌}
use Rattle.std.proofs.Common.{◌++◌}
use Rattle.std.proofs.Common.{length, get_or, Option, Some, None, Bool, true, Result, Ok, Err, is_ok, IsTrue, arith}
use Rattle.std.specs.Prelude.{Contains}
use Rattle.std.specs.FinMap as map
use Rattle.std.proofs.lemmas.List.Elements.{Contains-append_left, Contains-push, Contains-push_cases}
use Rattle.tm_lattice.specs.Tables.{Table}
use Rattle.strided_dom.specs.Progression.{Has, first_of}
use Rattle.pointer_dom.specs.Values.{Values, no_value}
use Rattle.pointer_dom.specs.OffsetSets.{OffsetSet, IsOffsetSet, HasNoOffset}
use Rattle.pointer_dom.specs.PointerSets.{Pointers, IsPointers, offsets_or_none, offsets_at}
use Rattle.interfere_set.specs.Stores.{Interferences, value_or_none, left_in, left_at}
use Rattle.post_recheck.specs.transfer_rows.Contributions.{at_task, entry_at}
use Rattle.std.specs.Prelude.{IfSome}
use Rattle.operand_orders.specs.access_races.reading.Ways.{HasOne}
use Rattle.open_choices.specs.Lifetimes.{PointsTo}
use Rattle.open_choices.specs.reading.Left.{AddsTo, IsOfEach, IsPointedIn, IsHeldIn, IsHeldByOthers}
use Rattle.open_choices.proofs.Searching.{has_entry}
use Rattle.open_choices.proofs.Tables.{entry_there}
use Rattle.open_choices.proofs.Leftover.{points_none, points_nowhere, points_there}

-- one more number
pub pushed : (xs ys : List ℕ) (y : ℕ) → ys ≡ xs ++ y ∷ [] → AddsTo xs ys (λ x. x ≡ y)
pushed xs ys y is x = (
  λ h. elim (Contains-push_cases xs y x (subst (λ zs. Contains zs x) is h)) [
    | inl old ↦ inl old
    | inr same ↦ inr (sym same)
  ],
  λ s. subst (λ zs. Contains zs x) (sym is) (elim s [
    | inl old ↦ Contains-append_left xs (y ∷ []) x old
    | inr same ↦ subst (λ z. Contains (xs ++ y ∷ []) z) (sym same) (Contains-push xs y)
  ]),
)

-- the same pointers
pub points_as : (v w : Values) (object : ℕ) → v.pointers ≡ w.pointers → PointsTo v object → PointsTo w object
points_as v w object same h =
    record {
      offset = h.offset;
      has = subst (λ (p : Pointers). (let o = offsets_at p object in Has o.offsets h.offset))
          same h.has;
    }

-- ## Objects of a pointer

abbrev pub IsNamed : ℕ × OffsetSet → ℕ → Type 0
IsNamed e x = x ≡ e.0

module _ (v : Values) (is : (let p = v.pointers in IsPointers p)) (items : List (ℕ × OffsetSet))
    (whole : items ≡ map.entries (let p = v.pointers in p.objects)) where
  named : (object : ℕ) (o : OffsetSet) → map.get (let p = v.pointers in p.objects) object ≡ Some o → PointsTo v object
  named object o there =
      let entry = subst (λ a. IfSome a (λ (q : OffsetSet). IsOffsetSet q × (HasNoOffset q → ⊥))) there (is object) in
      points_there v object o there entry.1

  by_object : (object : ℕ) (a : Option OffsetSet) → map.get (let p = v.pointers in p.objects) object ≡ a
      → PointsTo v object → IsOfEach IsNamed items object
  by_object object None there h = absurd (points_none v object there h)
  by_object object (Some o) there h = record {
    one = (object, o);
    has = has_entry (let p = v.pointers in p.objects) items whole object o there;
    opens = refl;
  }

  pub objects_named : (object : ℕ) → IsOfEach IsNamed items object ↔ PointsTo v object
  objects_named object = (
    λ h. (let there = entry_there (let p = v.pointers in p.objects) items whole h.one h.has in
        subst (PointsTo v) (sym h.opens) (named h.one.0 h.one.1 there)),
    λ h. by_object object (map.get (let p = v.pointers in p.objects) object) refl h,
  )

-- ## Cells

abbrev pub IsPointed : ℕ × Values → ℕ → Type 0
IsPointed e x = PointsTo e.1 x

module _ (t : Table Values) (items : List (ℕ × Values)) (whole : items ≡ map.entries t) where
  by_cell : (object cell : ℕ) (a : Option Values) → map.get t cell ≡ a → PointsTo (value_or_none a) object
      → IsOfEach IsPointed items object
  by_cell object cell None there h = absurd (points_nowhere no_value object refl h)
  by_cell object cell (Some v) there h =
      record { one = (cell, v); has = has_entry t items whole cell v there; opens = h }

  pub cells_pointed : (object : ℕ) → IsOfEach IsPointed items object ↔ IsPointedIn t object
  cells_pointed object = (
    λ h. record {
      cell = h.one.0;
      points = subst (λ a. PointsTo (value_or_none a) object) (sym (entry_there t items whole h.one h.has)) h.opens;
    },
    λ h. by_cell object h.cell (map.get t h.cell) refl h.points,
  )

-- ## Sets of mutexes

abbrev pub IsWritten : ℕ × Table Values → ℕ → Type 0
IsWritten e x = IsPointedIn e.1 x

module _ (t : Table (Table Values)) (items : List (ℕ × Table Values)) (whole : items ≡ map.entries t) where
  by_set : (object held cell : ℕ) (a : Option (Table Values)) → map.get t held ≡ a → PointsTo (left_in cell a) object
      → IsOfEach IsWritten items object
  by_set object held cell None there h = absurd (points_nowhere no_value object refl h)
  by_set object held cell (Some cells) there h = record {
    one = (held, cells);
    has = has_entry t items whole held cells there;
    opens = record { cell = cell; points = h };
  }

  pub sets_written : (object : ℕ) → IsOfEach IsWritten items object ↔ IsHeldIn t object
  sets_written object = (
    λ h. record {
      held = h.one.0;
      cell = h.opens.cell;
      points = subst (λ a. PointsTo (left_in h.opens.cell a) object) (sym (entry_there t items whole h.one h.has))
          h.opens.points;
    },
    λ h. by_set object h.held h.cell (map.get t h.held) refl h.points,
  )

-- ## Tasks

abbrev pub IsOther : ℕ → ℕ × Table (Table Values) → ℕ → Type 0
IsOther body e x = (e.0 ≢ body) × IsHeldIn e.1 x

module _ (store : Interferences) (body : ℕ) (items : List (ℕ × Table (Table Values)))
    (whole : items ≡ map.entries store.weak) where
  by_task : (object task held cell : ℕ) (a : Option (Table (Table Values))) → map.get store.weak task ≡ a
      → task ≢ body → PointsTo (at_task held cell a) object → IsOfEach (IsOther body) items object
  by_task object task held cell None there other h = absurd (points_nowhere no_value object refl h)
  by_task object task held cell (Some written) there other h = record {
    one = (task, written);
    has = has_entry store.weak items whole task written there;
    opens = (other, record { held = held; cell = cell; points = h });
  }

  pub tasks_held : (object : ℕ) → IsOfEach (IsOther body) items object ↔ IsHeldByOthers store body object
  tasks_held object = (
    λ h. record {
      task = h.one.0;
      held = h.opens.1.held;
      cell = h.opens.1.cell;
      other = h.opens.0;
      points = subst (λ a. PointsTo (at_task h.opens.1.held h.opens.1.cell a) object)
          (sym (entry_there store.weak items whole h.one h.has)) h.opens.1.points;
    },
    λ h. by_task object h.task h.held h.cell (map.get store.weak h.task) refl h.other h.points,
  )
