-- States of which a temporary is refined.
use Rattle.std.specs.Prelude.{◌≡◌, ℕ, Bool, true, false, ◌||◌, cond, Option, Some, None, refl}
use Rattle.std.proofs.Common.{sym, ap, ◌∙◌}
use Rattle.std.specs.FinMap.{get, insert}
use Rattle.tm_lattice.specs.Tables.{Table, changed_table}
use Rattle.pointer_dom.specs.Values.{Values, no_value}
use Rattle.edge_effects.specs.calculations.transfer_rows.StateForms.{Temp, Cell, State, is_no_value}
use Rattle.edge_effects.specs.calculations.transfer_rows.Actions.{Around, Side, fixed}
use Rattle.edge_effects.specs.calculations.transfer_rows.Rows.{met_where, refined, is_contradicted, refined_from}
use Rattle.edge_effects.specs.calculations.transfer_rows.Rows.{after_refined}
use Rattle.edge_effects.specs.calculations.transfer_rows.Rows.{side_refined, then_refined}
use Rattle.edge_effects.proofs.low.transfer_rows.Steps.{none_is_none}

pub refined_so : (s : State) (t : ℕ) (v : Values) (copy : Option ℕ) (temps : Table Temp) (cells : Table Cell)
    → temps ≡ insert s.temps t record { value = v; copy = copy } → cells ≡ changed_table (met_where copy v) s.cells
    → (let after : State = record { temps = temps; cells = cells } in after ≡ refined s t v copy)
refined_so s t v copy temps cells temps-is cells-is = λ i. record { temps = temps-is i; cells = cells-is i }

module _ (around : Around) where
  module _ (s : State) (t : ℕ) (v : Values) where
    pub refined_absent : get s.temps t ≡ None → None ≡ after_refined around s t v
    refined_absent none = sym (ap (refined_from around s t v) none)

    module _ (e : Temp) (there : get s.temps t ≡ Some e) where
      abbrev to : State
      to = refined s t v e.copy

      pub refined_nothing : v ≡ no_value → None ≡ after_refined around s t v
      refined_nothing none =
          sym (ap (refined_from around s t v) there ∙ ap (λ a. cond (a || is_contradicted around to e.copy) None (Some to)) (ap is_no_value none ∙ none_is_none))

      module _ (some : is_no_value v ≡ false) (after : State) (is : after ≡ to) where
        refined_by : (b : Bool) → is_contradicted around after e.copy ≡ b → cond b None (Some to) ≡ after_refined around s t v
        refined_by b test =
            sym (ap (refined_from around s t v) there ∙ ap (λ a. cond (a || is_contradicted around to e.copy) None (Some to)) some
            ∙ ap (λ a. cond a None (Some to)) (ap (λ k. is_contradicted around k e.copy) (sym is) ∙ test))

        pub refined_contradicted : is_contradicted around after e.copy ≡ true → None ≡ after_refined around s t v
        refined_contradicted sure = refined_by true sure

        pub refined_kept : is_contradicted around after e.copy ≡ false → Some after ≡ after_refined around s t v
        refined_kept never = ap Some is ∙ refined_by false never

  -- ---- two sides

  pub two_sides : (left right : Side) (v v' w w' : Values) (s : State) → v ≡ v' → w ≡ w'
      → then_refined around right w (side_refined around left v s) ≡ then_refined around right w' (side_refined around left v' s)
  two_sides left right v v' w w' s v-is w-is = λ i. then_refined around right (w-is i) (side_refined around left (v-is i) s)

  pub fixed_nothing : (o : Option State) (w v : Values) → v ≡ no_value → None ≡ then_refined around (fixed w) v o
  fixed_nothing None w v none = refl
  fixed_nothing (Some s) w v none = sym (ap (λ b. cond b None (Some s)) (ap is_no_value none ∙ none_is_none))

  pub fixed_something : (o : Option State) (w v : Values) → is_no_value v ≡ false → o ≡ then_refined around (fixed w) v o
  fixed_something None w v some = refl
  fixed_something (Some s) w v some = sym (ap (λ b. cond b None (Some s)) some)
