-- What code reads of the slots of a body.
use Rattle.std.specs.Prelude.{◌≡◌, ℕ, ◌<◌, Bool, true, false, cond, List, ◌∷◌, length, get_or, map, Option, Some}
use Rattle.std.specs.Prelude.{None, option_map, refl}
use Rattle.std.proofs.Common.{sym, ap, subst, ◌∙◌}
use Rattle.std.proofs.lemmas.Bool.{true≢false, false≢true, and_from}
use Rattle.std.proofs.lemmas.Simd.{map-map}
use Rattle.table_covers.specs.tm_lattice.Tables.{Table}
use Rattle.edge_actions.specs.transfer_rows.StateForms.{Temp, Cell}
use Rattle.cell_env.specs.Cells.{rounded_cell}
use Rattle.pointer_dom.specs.Values.{rounded_values}
use Rattle.cell_placings.specs.CellLists.{is_in, cells_at}
use Rattle.cell_placings.specs.OwnerTrees.{owns_in, kept_in}
use Rattle.task_equations.specs.Bodies.{Body}
use Rattle.task_equations.specs.Equations.{cells_at as rounded_cells}
use Rattle.front_constraints.specs.Standings.{fronted, changed_standing}
use Rattle.front_constraints.specs.Systems.{slot_at, entered}
use Rattle.front_constraints.specs.Rules.{part_of, targets_of}
use Rattle.slot_numbers.specs.Numberings.{has_slot}
use Rattle.body_systems.specs.Systems.{SystemOf, body_of}
use Rattle.body_fronts.specs.BodySystems.{rounded_where}
use Rattle.body_slots.specs.Slots.{Slots, SlotSystemOf, IsSlotSystem, sparse_of, is_rounded_in}
use Rattle.body_slots.specs.Rows.{Stand, Values, brought_by, held_in}
use Rattle.body_slots.specs.laws.Chosen.{listed}

same_front : (f : Option (Table Temp)) → option_map (λ t. t) f ≡ f
same_front None = refl
same_front (Some t) = refl

cond_true : {A : Type 0} (c : Bool) (x y : A) → c ≡ true → cond c x y ≡ x
cond_true true x y h = refl
cond_true false x y h = absurd (false≢true h)

cond_false : {A : Type 0} (c : Bool) (x y : A) → c ≡ false → cond c x y ≡ y
cond_false true x y h = absurd (true≢false h)
cond_false false x y h = refl

module _ (v : SlotSystemOf) (is : IsSlotSystem v) where
  abbrev w : SystemOf
  w = v.system

  abbrev s : Slots
  s = v.slots

  abbrev b : Body
  b = body_of w

  -- the cells of the list are small
  pub listed_small : (j : ℕ) → j < length s.cells → get_or s.cells j 0 < 4294967296
  listed_small j lt = (let l = listed v is in
      let h = l.cells in is.slots.small (get_or s.cells j 0) (is.slots.seen (get_or s.cells j 0) ∙ h.within j lt))

  -- a cell that the body sees has a slot where it is kept
  pub kept_has_slot : (n x : ℕ) → n < s.graph.nodes → is_in s.cells x ≡ true
      → (let k = s.numbering in has_slot k.variables (kept_in s.tree n x) x ≡ true)
  kept_has_slot n x lt seen =
      is.slots.numbered.variables.owned (kept_in s.tree n x) x (is.slots.placed.within n x lt)
      ∙ and_from (is_in s.cells x) (owns_in s.tree (kept_in s.tree n x) x) seen (is.slots.placed.kept n x lt)

  -- ## Rounding

  round_none : (keys : Option (List ℕ)) (x : ℕ) → is_rounded_in keys x ≡ false → (c : Cell)
      → rounded_where b.marks keys x c ≡ c
  round_none None x h c = refl
  round_none (Some keys) x h c = cond_false (is_in keys x) (rounded_cell (rounded_values b.marks) c) c h

  round_some : (keys : Option (List ℕ)) (x : ℕ) → is_rounded_in keys x ≡ true → (c : Cell)
      → rounded_where b.marks keys x c ≡ rounded_cell (rounded_values b.marks) c
  round_some None x h c = absurd (false≢true h)
  round_some (Some keys) x h c = cond_true (is_in keys x) (rounded_cell (rounded_values b.marks) c) c h

  same_cell : (f : Cell → Cell) → ((c : Cell) → f c ≡ c) → (y : Option Cell) → option_map f y ≡ y
  same_cell f same None = refl
  same_cell f same (Some c) = ap Some (same c)

  pub not_rounded : (n x : ℕ) → n < s.graph.nodes → is_in (cells_at s.graph.rounded.items n) x ≡ false → (u : Stand)
      → u ≡ changed_standing (λ f. f) (rounded_where b.marks (rounded_cells b n) x) u
  not_rounded n x lt h u = sym (λ i. record {
    front = same_front u.front i;
    cell = same_cell (rounded_where b.marks (rounded_cells b n) x)
        (round_none (rounded_cells b n) x (sym (is.slots.rounded n x (subst (λ m. n < m) is.slots.nodes lt)) ∙ h))
        u.cell i;
  })

  pub is_rounded : (n x : ℕ) → n < s.graph.nodes → is_in (cells_at s.graph.rounded.items n) x ≡ true
      → (f : Option (Table Temp)) (c d : Cell) → d ≡ rounded_cell (rounded_values b.marks) c
      → record { front = f; cell = Some d }
      ≡ changed_standing (λ g. g) (rounded_where b.marks (rounded_cells b n) x) (record { front = f; cell = Some c })
  is_rounded n x lt h f c d same = λ i. record {
    front = sym (same_front f) i;
    cell = Some ((same ∙ sym (round_some (rounded_cells b n) x
        (sym (is.slots.rounded n x (subst (λ m. n < m) is.slots.nodes lt)) ∙ h) c)) i);
  }

  -- ## The entry

  pub entered_is : (a : Values)
      → brought_by v entered a ≡ Some (fronted (let t = v.entry in t.temps)) ∷ held_in v.entry s.cells
  entered_is a =
      ap (λ y. map (part_of (sparse_of v) y) (targets_of (sparse_of v) entered)) is.begins
      ∙ ap (λ xs. Some (fronted (let t = v.entry in t.temps)) ∷ xs)
      (map-map (part_of (sparse_of v) (Some v.entry)) (slot_at 0) s.cells)
