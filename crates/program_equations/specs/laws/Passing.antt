-- What a program keeps whose tasks pass over one store: what its passes make fits, the least store is below all, and
-- more in the store gives more.
use Rattle.std.specs.Prelude.{◌≡◌, ℕ, ◌<◌, length, Option, Some, None, refl}
use Rattle.std.proofs.Common.{sym, ap, subst, ◌∙◌, inl, inr, arith}
use Rattle.std.proofs.lemmas.Bool.{cases_lt}
use Rattle.std.specs.Ordering.{nat_cmp}
use Rattle.std.specs.FinMap as map
use Rattle.std.specs.FinMap.{get, get-empty}
use Rattle.region_cells.specs.tm_lattice.Tables.{Table}
use Rattle.region_cells.specs.tm_lattice.Fitting.{IsFitting, IsMonotone}
use Rattle.region_cells.specs.tm_lattice.laws.TableLaws.{same_table}
use Rattle.edge_filters.specs.pointer_dom.Values.{Values}
use Rattle.edge_filters.specs.interfere_set.Stores.{Nested, Interferences, no_interference, rounded_store}
use Rattle.edge_filters.specs.interfere_set.laws.StoreLaws.{store_order, store_join, store_closure}
use Rattle.task_equations.specs.typed_values.Types.{HaveEnds}
use Rattle.task_equations.specs.table_covers.laws.WholeLeast as least
use Rattle.task_equations.specs.state_fits.laws.PlacesFit.{states_order, states_join}
use Rattle.program_equations.specs.Programs.{ProgramBodies, IsProgram}
use Rattle.program_equations.specs.Systems.{states, stores, FitsProgram, least_section, least_local, pass_of, IsSection}
use Rattle.program_equations.specs.Systems.{IsSectionBelow}
use Rattle.program_equations.specs.Solutions.{passing, node_count, links_in, after_in, entry_in, outward_in, heads_in}
use Rattle.program_equations.specs.Solutions.{suits_in, height_of, limit_in, added_in}
use Rattle.program_equations.specs.laws.Lawful.{pass_is, program_is_lawful}
use Rattle.program_equations.specs.laws.StoresFit.{nothing_fits, joined_fits, rounded_fits, bottom}

-- a store of no task has no entry
no_entries : (n : Nested) → ((j : ℕ) (written : Table (Table Values)) → get n j ≡ Some written → j < 0) → n ≡ map.empty
no_entries n none = same_table n map.empty (λ j. at_none j (get n j) refl ∙ sym (get-empty nat_cmp j))
  where
    at_none : (j : ℕ) (a : Option (Table (Table Values))) → get n j ≡ a → a ≡ None
    at_none j None e = refl
    at_none j (Some written) e = absurd (let lt = none j written e in omega arith)

module _ (p : ProgramBodies) (is : IsProgram p) where
  round_fits : (store : Interferences) → FitsProgram p store → FitsProgram p (rounded_store p.marks store)
  round_fits store fits = elim (cases_lt 0 (length p.bodies)) [
    | inl some ↦
        let at = is.each 0 some in
        rounded_fits p.laid p.tasks p.marks store (subst HaveEnds at.numbered.marks at.body.marks) fits
    | inr none ↦
        let no_task : p.tasks ≡ 0 = (let le = is.tasks in omega arith) in
        let weak = no_entries store.weak (λ j written e. subst (λ n. j < n) no_task (fits.weak.writers j written e)) in
        let sync = no_entries store.sync (λ j written e. subst (λ n. j < n) no_task (fits.sync.writers j written e)) in
        let same : store ≡ no_interference = (λ i. record { weak = weak i; sync = sync i }) in
        subst (FitsProgram p) (sym (ap (rounded_store p.marks) same ∙ (bottom p.marks).rounding))
        (nothing_fits p.laid p.tasks)
  ]

  pub fitting : IsFitting stores p.marks p.tasks no_interference (pass_of p) (FitsProgram p)
  fitting = record {
    marks_are = tt;
    value = λ store fits. fits.form;
    bottom_fits = nothing_fits p.laid p.tasks;
    passed_fits = λ t store lt fits. (pass_is p is t store lt fits).fits;
    joined_fits = λ one other one-fits other-fits. joined_fits p.laid p.tasks one other one-fits other-fits;
    rounded_fits = round_fits;
  }

  -- a pass over more gives more
  pub passes_rise : IsMonotone stores p.tasks (pass_of p) (FitsProgram p)
  passes_rise =
      least.passes_rise states (node_count p) (links_in p) (after_in p) (entry_in p) (outward_in p) (heads_in p)
      (suits_in p) (height_of p) (limit_in p) (added_in p) stores passing p (IsSectionBelow p) (IsSection p)
      (least_section p) (least_local p) states_order states_join store_order store_join store_closure fitting
      (bottom p.marks) (program_is_lawful p is)
