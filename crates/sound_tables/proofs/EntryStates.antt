-- What the state at the entry of a body holds.
use Rattle.std.specs.Prelude.{◌≡◌, ◌≢◌, ◌⊎◌, ℕ, zero, suc, ◌<◌, ◌≤◌, ◌==◌, nat_le, Bool, true, false, cond}
use Rattle.std.specs.Prelude.{length, slice_get}
use Rattle.std.specs.Prelude.{pos, Some, None}
use Rattle.std.proofs.Common.{refl, sym, ap, subst, ◌∙◌, inl, inr, arith}
use Rattle.std.specs.Ordering.{nat_cmp}
use Rattle.std.specs.FinMap.{get, insert}
use Rattle.std.specs.FinMap as map
use Rattle.std.proofs.lemmas.Bool.{cases_eq, eq-eqb}
use Rattle.program_shape.specs.strided_dom.Progression.{single, Has}
use Rattle.program_shape.specs.tm_lattice.Tables.{Table}
use Rattle.program_shape.specs.tm_lattice.laws.TableLaws.{get-insert_here, get-insert_there}
use Rattle.program_shape.specs.tm_laid.declared.objects.Initial.{Initial}
use Rattle.program_shape.specs.tm_laid.declared.objects.Initial.TheVariants as Initials
use Rattle.program_shape.specs.tm_laid.Layouts.{LaidTree, object_at, cell_at, abstract_at}
use Rattle.program_reports.specs.pointer_dom.Pointer.{ScalarValue}
use Rattle.program_reports.specs.pointer_dom.PointerSets.{no_pointer, offsets_or_none, pointer_to}
use Rattle.program_reports.specs.pointer_dom.Values.{Values, IsValues, IsValueIn, joined_values}
use Rattle.program_reports.specs.pointer_dom.laws.ValueLaws.{values_join}
use Rattle.program_reports.proofs.low.pointer_dom.Meaning.{value_included}
use Rattle.program_reports.specs.interfere_set.laws.Joins.{none_is}
use Rattle.program_reports.specs.transfer_rows.StateForms.{Cell, State, own_value, own_of, only_pointers}
use Rattle.program_reports.specs.transfer_rows.Covering.{IsFresh, IsStored}
use Rattle.program_reports.proofs.low.transfer_rows.CoverSteps.{some_same}
use Rattle.program_reports.specs.edge_actions.Layouts.{is_reachable, is_shared_cell, open_value}
use Rattle.program_reports.specs.edge_actions.Edges.{pointer_within}
use Rattle.program_reports.proofs.low.edge_actions.Lists.{le_test}
use Rattle.program_reports.specs.typed_values.laws.TypeLaws.{typed_values}
use Rattle.program_reports.specs.state_fits.Fits.{IsSeenCell}
use Rattle.program_reports.specs.program_equations.Programs.{ProgramBodies, IsProgram}
use Rattle.program_reports.specs.program_equations.Entries.{initial_value, initial_or_none, initial_at, initial_below}
use Rattle.program_reports.specs.program_equations.Entries.{initial_of}
use Rattle.program_reports.specs.program_equations.Entries.{entry_cell, entry_cells}
use Rattle.program_reports.specs.program_equations.Entries.{entry_state}
use Rattle.sound_tables.specs.Memberships.{scalar_as}
use Rattle.sound_tables.specs.Starting.{initial_as, LiesWithin}

-- ## Cells of the entry

module _ (laid : LaidTree) (task : ℕ) (values : ℕ → Values) where
  abbrev cells : ℕ → Table Cell
  cells n = entry_cells laid task values n

  abbrev reach : ℕ → Bool
  reach x = let a = abstract_at laid x in is_reachable laid task a.object

  apart : (n x : ℕ) (b : Bool) → x ≢ n
      → get (cond b (insert (cells n) n (entry_cell laid values n)) (cells n)) x ≡ get (cells n) x
  apart n x true other = get-insert_there (cells n) n (entry_cell laid values n) x other
  apart n x false other = refl

  entry_here : (n x : ℕ) → x < n → reach x ≡ true → get (cells n) x ≡ Some (entry_cell laid values x)
  entry_here zero x lt h = absurd (omega (arith, lt))
  entry_here (suc n) x lt h = elim (cases_eq x n) [
    | inl here ↦
        let at_n : reach n ≡ true = ap reach (sym here) ∙ h in
        ap (λ b. get (cond b (insert (cells n) n (entry_cell laid values n)) (cells n)) x) at_n
        ∙ (get-insert_here (cells n) n (entry_cell laid values n) x here
        ∙ ap (λ z. Some (entry_cell laid values z)) (sym here))
    | inr there ↦ apart n x (reach n) there ∙ entry_here n x (omega (arith, lt, there)) h
  ]

  abbrev pub start : State
  start = entry_state laid task values

  pub entry_at : (x : ℕ) → IsSeenCell laid task x → get start.cells x ≡ Some (entry_cell laid values x)
  entry_at x seen = entry_here (length laid.abstract_cells) x seen.cell seen.seen

  -- a static cell has its value, and a local one what a cell may hold that was not stored yet
  pub static_own : (x : ℕ) (w : ScalarValue) → IsSeenCell laid task x → is_shared_cell laid x ≡ true
      → IsValueIn (values x) w → IsValueIn (own_of start x) w
  static_own x w seen shared h =
      subst (λ a. IsValueIn (own_value a) w) (sym (entry_at x seen))
      (subst (λ b. IsValueIn (cond b (values x) (open_value (abstract_at laid x).scalar)) w) (sym shared) h)

  pub local_own : (x : ℕ) (w : ScalarValue) → IsSeenCell laid task x → is_shared_cell laid x ≡ false
      → IsValueIn (open_value (abstract_at laid x).scalar) w → IsValueIn (own_of start x) w
  local_own x w seen local h =
      subst (λ a. IsValueIn (own_value a) w) (sym (entry_at x seen))
      (subst (λ b. IsValueIn (cond b (values x) (open_value (abstract_at laid x).scalar)) w) (sym local) h)

  false_true : false ≡ true → ⊥
  false_true e = cc

  none_marked : (n x : ℕ) (c : Cell) → get (cells n) x ≡ Some c → (c.fresh ≡ false) × (c.stored ≡ false)
  none_marked zero x c at = absurd (let e : None ≡ Some c = sym (map.get-empty nat_cmp x) ∙ at in cc)
  none_marked (suc n) x c at = elim (cases_eq x n) [
    | inl here ↦ by_reach (none_marked n x c) (reach n) at here
    | inr there ↦ none_marked n x c (sym (apart n x (reach n) there) ∙ at)
  ]
    where
      by_reach : (get (cells n) x ≡ Some c → (c.fresh ≡ false) × (c.stored ≡ false)) → (b : Bool)
          → get (cond b (insert (cells n) n (entry_cell laid values n)) (cells n)) x ≡ Some c → x ≡ n
          → (c.fresh ≡ false) × (c.stored ≡ false)
      by_reach before true at here =
          let same = some_same (get (insert (cells n) n (entry_cell laid values n)) x) (entry_cell laid values n) c
          (get-insert_here (cells n) n (entry_cell laid values n) x here) at in
          (ap (λ (d : Cell). d.fresh) (sym same), ap (λ (d : Cell). d.stored) (sym same))
      by_reach before false at here = before at

  -- nothing is fresh, and nothing stored
  pub none_fresh : (x : ℕ) → IsFresh start x → ⊥
  none_fresh x h =
      false_true (sym (none_marked (length laid.abstract_cells) x h.entry h.stands).0 ∙ h.fresh)

  pub none_stored : (x : ℕ) → IsStored start x → ⊥
  none_stored x h =
      false_true (sym (none_marked (length laid.abstract_cells) x h.entry h.stands).1 ∙ h.stored)

-- ## Initial values

module _ (p : ProgramBodies) (is : IsProgram p) where
  initial_is : (c : ℕ) → c < length p.laid.initial → IsValues (initial_at p.laid c)
  initial_is c lt =
      let a = abstract_at p.laid (cell_at p.laid c).abstract_cell in
      typed_values p.laid a.scalar (initial_at p.laid c) (is.initial c lt)

  joined_is : (b : Bool) (v w : Values) → IsValues v → IsValues w → IsValues (cond b (joined_values v w) v)
  joined_is true v w v-is w-is = values_join.value v w v-is w-is
  joined_is false v w v-is w-is = v-is

  below_is : (n x : ℕ) → n ≤ length p.laid.initial → IsValues (initial_below p.laid n x)
  below_is zero x le = none_is
  below_is (suc n) x le =
      joined_is ((cell_at p.laid n).abstract_cell == x) (initial_below p.laid n x) (initial_at p.laid n)
      (below_is n x (omega (arith, le))) (initial_is n (omega (arith, le)))

  joined_left : (b : Bool) (v u : Values) (w : ScalarValue) → IsValues v → IsValues u → IsValueIn v w
      → IsValueIn (cond b (joined_values v u) v) w
  joined_left true v u w v-is u-is h = value_included v (joined_values v u) w (values_join.left v u v-is u-is) h
  joined_left false v u w v-is u-is h = h

  initial_in : (n c x : ℕ) (w : ScalarValue) → n ≤ length p.laid.initial → c < n
      → (cell_at p.laid c).abstract_cell ≡ x → IsValueIn (initial_at p.laid c) w
      → IsValueIn (initial_below p.laid n x) w
  initial_in zero c x w le lt same h = absurd (omega (arith, lt))
  initial_in (suc n) c x w le lt same h = by_case (initial_in n c x w) (cases_eq c n)
    where
      before : IsValues (initial_below p.laid n x)
      before = below_is n x (omega (arith, le))

      last : IsValues (initial_at p.laid n)
      last = initial_is n (omega (arith, le))

      by_case : (n ≤ length p.laid.initial → c < n → (cell_at p.laid c).abstract_cell ≡ x
          → IsValueIn (initial_at p.laid c) w → IsValueIn (initial_below p.laid n x) w) → (c ≡ n) ⊎ (c ≡ n → ⊥)
          → IsValueIn (initial_below p.laid (suc n) x) w
      by_case rest (inl e) =
          let at : ((cell_at p.laid n).abstract_cell == x) ≡ true =
          eq-eqb (cell_at p.laid n).abstract_cell x (ap (λ z. (cell_at p.laid z).abstract_cell) (sym e) ∙ same) in
          subst (λ b. IsValueIn (cond b (joined_values (initial_below p.laid n x) (initial_at p.laid n))
          (initial_below p.laid n x)) w) (sym at)
          (value_included (initial_at p.laid n) (joined_values (initial_below p.laid n x) (initial_at p.laid n)) w
          (values_join.right (initial_below p.laid n x) (initial_at p.laid n) before last)
          (subst (λ z. IsValueIn (initial_at p.laid z) w) e h))
      by_case rest (inr ne) =
          joined_left ((cell_at p.laid n).abstract_cell == x) (initial_below p.laid n x) (initial_at p.laid n) w before
          last (rest (omega (arith, le)) (omega (arith, lt, ne)) same h)

  one_has : (z : _) → Has (single z) z
  unfolding Has
  one_has z = refl

  within_has : (object size offset : ℕ) (b : Bool) → nat_le offset size ≡ b → offset ≤ size
      → IsValueIn (only_pointers (pointer_within object size offset))
      (scalar_as (initial_as (Initials.To object offset)))
  within_has object size offset b e le =
      subst (λ t. IsValueIn (only_pointers (cond t (pointer_to object size offset) no_pointer))
      (scalar_as (initial_as (Initials.To object offset)))) (sym (le_test offset size le))
      (subst (λ a. (let o = offsets_or_none a in Has o.offsets (pos offset)))
      (sym (get-insert_here map.empty object (record { size = size; offsets = single (pos offset) }) object refl))
      (one_has (pos offset)))

  value_in : (i : Initial) → LiesWithin p.laid i → IsValueIn (initial_value p.laid i) (scalar_as (initial_as i))
  value_in (Initials.Number z) h = one_has z
  value_in Initials.Null h = refl
  value_in (Initials.To object offset) h = within_has object (object_at p.laid object).cells offset _ refl h

  -- the initial value of a cell is in that of its abstract cell
  pub initial_held : (c x : ℕ) (i : Initial) → slice_get p.laid.initial c ≡ Some i → LiesWithin p.laid i
      → c < length p.laid.initial → (cell_at p.laid c).abstract_cell ≡ x
      → IsValueIn (initial_of p.laid x) (scalar_as (initial_as i))
  initial_held c x i at h lt same =
      initial_in (length p.laid.initial) c x (scalar_as (initial_as i)) (omega arith) lt same
      (subst (λ o. IsValueIn (initial_or_none p.laid o) (scalar_as (initial_as i))) (sym at) (value_in i h))
