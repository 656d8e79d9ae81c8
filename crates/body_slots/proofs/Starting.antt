-- What stood at the variables of a body over an earlier store, and what stands there over a later one.
use Rattle.std.specs.Prelude.{◌≡◌, List, length, Option, Some}
use Rattle.std.proofs.Common.{sym, subst, ◌∙◌}
use Rattle.least_assignments.specs.Constraints.{at}
use Rattle.least_assignments.specs.Solutions.{IsLeast}
use Rattle.front_constraints.specs.Standings.{standings}
use Rattle.front_constraints.specs.Rules.{front_constraints, FitsVariable}
use Rattle.body_systems.specs.Systems.{SystemOf, body_of}
use Rattle.task_equations.specs.Bodies.{Body}
use Rattle.body_fronts.specs.FrontForms.{fronts, cells, FitsFront, FitsCellAt}
use Rattle.body_slots.specs.Slots.{SlotSystemOf, IsSlotSystem, sparse_of, AllowsSlots}
use Rattle.body_slots.specs.Rows.{Stand, Values}
use Rattle.body_slots.specs.Starts.{slotted, AreLeastValues, IsStartOf}
use Rattle.body_slots.specs.laws.Alike.{least_alike}
use Rattle.body_slots.specs.laws.Rising.{Fits, Closed, Least, Above, earlier, least_from}

some_same : {A : Type 0} {x y : A} → Some x ≡ Some y → x ≡ y
some_same e = cc

module _ (v : SlotSystemOf) (is : IsSlotSystem v) where
  abbrev w : SystemOf
  w = v.system

  abbrev b : Body
  b = body_of w

  -- what is found is what a later table may be found from
  pub kept_values : (values : List (Option Stand)) → length values ≡ (front_constraints (sparse_of v)).variable_count
      → Least v (at values) → AreLeastValues b w.entry w.store v.slots values
  kept_values values count least = record {
    begin = v.entry;
    begins = is.begins;
    count = count;
    least = least_alike (standings fronts cells) (standings fronts cells) (Fits v) (AllowsSlots v) (λ k a. Unit {0})
        (front_constraints (sparse_of v)) (λ x y h. h) (λ x y h. h) (at values) least;
  }

  module _ (values : List (Option Stand)) (start : IsStartOf b w.entry w.store v.slots values) where
    abbrev before : SlotSystemOf
    before = earlier w start.before v.entry v.slots

    before_is : IsSlotSystem before
    before_is = (let k = is.system in record {
      system = record {
        sorts = k.sorts;
        body = k.body;
        tests = k.tests;
        tasks = start.tasks;
        store = start.fits;
        writers = start.writers;
        task = k.task;
        entry = k.entry;
        layable = k.layable;
        few = k.few;
        links = k.links;
      };
      begins = is.begins;
      slots = is.slots;
    })

    begins_so : start.values.begin ≡ v.entry
    begins_so = some_same (sym start.values.begins ∙ is.begins)

    before_least : Least before (at values)
    before_least =
        least_alike (standings fronts cells) (standings fronts cells) (Fits before) (λ k a. Unit {0}) (AllowsSlots before)
        (front_constraints (sparse_of before)) (λ x y h. h) (λ x y h. h) (at values)
        (subst (λ s. IsLeast (standings fronts cells)
        (FitsVariable (slotted b w.entry start.before v.slots s) (FitsFront b) (FitsCellAt b)) (λ k a. Unit {0})
        (front_constraints (slotted b w.entry start.before v.slots s)) (at values)) begins_so start.values.least)

    -- what the work list ends with that goes on from it is the least
    pub least_after : (last : Values) → Closed v last → Above v (at values) last → Least v last
    least_after last closed above =
        least_from w start.before v.entry v.slots before_is is start.below (at values) last before_least closed above
