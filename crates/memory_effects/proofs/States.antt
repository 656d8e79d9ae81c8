-- The states behind edges, from their parts.
use Rattle.std.specs.Prelude.{◌≡◌, ℕ, ◌+◌, ◌-◌, ◌^◌, ◌&&◌, nat_le, nat_lt, Bool, true, false, cond, bit_and, List, []}
use Rattle.std.specs.Prelude.{◌∷◌, Option, Some, None, refl}
use Rattle.std.proofs.Common.{sym, ap, ◌∙◌}
use Rattle.std.specs.Option.{option_map}
use Rattle.std.specs.FinMap.{insert, retain_keys}
use Rattle.tm_laid.specs.Layouts.{LaidTree, object_at, abstract_at}
use Rattle.tm_laid.specs.declared.objects.LaidObject.{LaidObject}
use Rattle.tm_lattice.specs.Tables.{Table, changed_table}
use Rattle.pointer_dom.specs.Values.{Values}
use Rattle.edge_effects.specs.calculations.transfer_rows.StateForms.{Temp, Cell, State}
use Rattle.edge_effects.specs.calculations.transfer_rows.Actions.{Around}
use Rattle.edge_effects.specs.calculations.transfer_rows.Accesses.{is_among, single_of}
use Rattle.edge_effects.specs.calculations.transfer_rows.Rows.{dropped, arrived, after_clear, after_store, stored_cell}
use Rattle.edge_effects.specs.calculations.transfer_rows.Rows.{cleared_to}
use Rattle.edge_effects.specs.calculations.transfer_rows.Rows.{is_cleared, aged, after_yield}
use Rattle.edge_actions.specs.Layouts.{open_value}
use Rattle.edge_actions.specs.Edges.{cleared_value}
use Rattle.edge_effects.proofs.LiveTemps.{none_dropped}

module _ (around : Around) (s : State) where
  -- copies end where cells are cleared
  cleared_test : (b : Bool) (v : Values) → b ≡ is_cleared (cond b (Some v) None)
  cleared_test true v = refl
  cleared_test false v = refl

  pub cleared_state : (laid : LaidTree) (object : ℕ) (place : LaidObject) (temps : Table Temp) (cells : Table Cell) → place ≡ object_at laid object
      → temps ≡ retain_keys (dropped (λ x. nat_le place.first_abstract x && nat_lt x (place.first_abstract + place.abstract_cells)) s.temps) around.is_live
      → cells ≡ changed_table (λ x. cleared_to (cleared_value laid object x)) s.cells
      → (let after : State = record { temps = temps; cells = cells } in after ≡ arrived around (after_clear s (cleared_value laid object)))
  cleared_state laid object place temps cells is temps-are cells-are =
      let test = λ (o : LaidObject) (x : ℕ). nat_le o.first_abstract x && nat_lt x (o.first_abstract + o.abstract_cells) in
      λ i. record {
        temps = (temps-are ∙ ap (λ o. retain_keys (dropped (test o) s.temps) around.is_live) is
            ∙ ap (λ f. retain_keys (dropped f s.temps) around.is_live) (λ j x. cleared_test (test (object_at laid object) x) (open_value (abstract_at laid x).scalar) j)) i;
        cells = cells-are i;
      }

  -- a store that has targets
  pub stored_state : (v : Values) (xs : List ℕ) (temps : Table Temp) (cells : Table Cell) → (xs ≡ [] → ⊥) → temps ≡ retain_keys (dropped (is_among xs) s.temps) around.is_live
      → cells ≡ changed_table (stored_cell around v xs (single_of around.is_smashed xs)) s.cells
      → Some (record { temps = temps; cells = cells }) ≡ option_map (arrived around) (after_store around s v xs)
  stored_state v [] temps cells some temps-are cells-are = absurd (some refl)
  stored_state v (x ∷ xs) temps cells some temps-are cells-are = λ i. Some (record { temps = temps-are i; cells = cells-are i })

  -- an edge at which no copy ends
  pub kept_temps : (temps : Table Temp) → temps ≡ retain_keys (dropped (λ x. false) s.temps) around.is_live → temps ≡ retain_keys s.temps around.is_live
  kept_temps temps is = is ∙ ap (λ t. retain_keys t around.is_live) (none_dropped s.temps)
