-- Declarations as the code builds them are those of the table.
use Rattle.std.proofs.Common.{◌≡◌, ℕ, zero, suc, Bool, true, false, List, [], ◌∷◌, refl, sym, ap, ◌∙◌}
use Rattle.std.specs.Prelude.{Option, Some, None}
use Rattle.tm_terms.specs.declared.places.Place.{Place}
use Rattle.tm_typed.specs.declared.types.Scalar.{Scalar}
use Rattle.tm_typed.specs.declared.types.Scalar.TheVariants as Scalars
use Rattle.tm_typed.specs.declared.scopes.ObjectNumber.TheVariants as Numbers
use Rattle.tm_typed.specs.TypedStatements.{GivenTree, LocalInitialiserTree, LocalTree}
use Rattle.tm_laid.specs.Layouts.{LaidTree, object_of, object_at}
use Rattle.flow_graph.specs.declared.operations.Into.TheVariants as Intos
use Rattle.flow_graph.specs.declared.operations.Operation.TheVariants as Op
use Rattle.body_builder.specs.concrete_steps.NextAction.{scalar_at, is_given, rest_of}
use Rattle.body_builder.specs.lowering.Steps.{Steps, no_more}
use Rattle.body_builder.specs.lowering.Table.{cell_value, cell_code, is_alone, cells_stored, initialised, local_steps}
use Rattle.body_builder.specs.lowering.Table.{locals_steps}
use Rattle.body_builder.specs.lowering.Built.{Building, AfterPart, AfterSteps, place, temp_of, code_piece, steps_piece}
use Rattle.body_builder.specs.Fragments.{calls_on}
use Rattle.body_builder.specs.Placing.{Given, new_value}
use Rattle.statement_builder.specs.reading.Locals.{value_in, part_in, cell_in, cells_in, initialised_in, local_in}
use Rattle.statement_builder.specs.reading.Locals.{locals_in}

abbrev as_given : AfterPart → Given
as_given x = record { at = x.at; temp = temp_of x.temp }

module _ (laid : LaidTree) (depth path : ℕ) where
  value_law : (s : Scalar) (found : Bool) (gs : List GivenTree) (b : Building)
      → value_in laid depth path s found gs b
      ≡ as_given (code_piece (calls_on laid depth path) (cell_value laid path s found gs) b)
  unfolding new_value
  value_law s true (g ∷ gs) b = refl
  value_law (Scalars.Int t) true [] b = refl
  value_law (Scalars.Pointer class) true [] b = refl
  value_law (Scalars.Int t) false gs b = refl
  value_law (Scalars.Pointer class) false gs b = refl

  cell_law : (alone : Bool) (o : ℕ) (p : Place) (k : ℕ) (s : Scalar) (found : Bool) (gs : List GivenTree) (b : Building)
      → cell_in laid depth path alone o p k s found gs b
      ≡ (code_piece (calls_on laid depth path)
      (cell_code laid path alone o p k s (cell_value laid path s found gs)) b).at
  unfolding cell_in new_value
  cell_law true o p k s found gs b =
      let a = new_value (Op.Base b.temps o) b in
      ap (λ (v : Given). place (Op.Store a.temp v.temp s (Intos.Object o) p) v.at) (value_law s found gs a.at)
  cell_law false o p k s found gs b =
      let a = new_value (Op.Base b.temps o) b in
      let c = part_in false k a.temp a.at in
      ap (λ (v : Given). place (Op.Store c.temp v.temp s (Intos.Object o) p) v.at) (value_law s found gs c.at)

  cells_law : (o : ℕ) (p : Place) (n k : ℕ) (gs : List GivenTree) (rest : Steps) (ts : List ℕ) (b : Building)
      → steps_piece (calls_on laid depth path) (cells_stored laid path o p n k gs rest) ts b
      ≡ steps_piece (calls_on laid depth path) rest ts (cells_in laid depth path o p n k gs b)
  cells_law o p zero k gs rest ts b = refl
  cells_law o p (suc n) k gs rest ts b =
      let found = is_given k gs in
      let s = scalar_at laid o k in
      sym (ap (λ (z : Building). steps_piece (calls_on laid depth path)
      (cells_stored laid path o p n (suc k) (rest_of found gs) rest) ts z)
      (cell_law (is_alone laid path o k) o p k s found gs b))
      ∙ cells_law o p n (suc k) (rest_of found gs) rest ts
      (cell_in laid depth path (is_alone laid path o k) o p k s found gs b)

  initialised_law : (o : ℕ) (i : Option LocalInitialiserTree) (rest : Steps) (ts : List ℕ) (b : Building)
      → steps_piece (calls_on laid depth path) (initialised laid path o i rest) ts b
      ≡ steps_piece (calls_on laid depth path) rest ts (initialised_in laid depth path o i b)
  initialised_law o None rest ts b = refl
  initialised_law o (Some i) rest ts b = cells_law o i.place (object_at laid o).cells 0 i.given rest ts b

  local_law : (l : LocalTree) (rest : Steps) (ts : List ℕ) (b : Building)
      → steps_piece (calls_on laid depth path) (local_steps laid path l rest) ts b
      ≡ steps_piece (calls_on laid depth path) rest ts (local_in laid depth path l b)
  unfolding local_in
  local_law l rest ts b =
      let o = object_of laid path (Numbers.Local l.object) in
      initialised_law o l.initialiser rest ts (place (Op.Clear o) b)

  locals_law : (ls : List LocalTree) (ts : List ℕ) (b : Building)
      → steps_piece (calls_on laid depth path) (locals_steps laid path ls) ts b
      ≡ steps_piece (calls_on laid depth path) no_more ts (locals_in laid depth path ls b)
  locals_law [] ts b = refl
  locals_law (l ∷ ls) ts b =
      local_law l (locals_steps laid path ls) ts b ∙ locals_law ls ts (local_in laid depth path l b)

  pub locals_built : (ls : List LocalTree) (b n : Building) → n ≡ locals_in laid depth path ls b
      → n ≡ (steps_piece (calls_on laid depth path) (locals_steps laid path ls) [] b).at
  locals_built ls b n e = e ∙ sym (ap (λ (x : AfterSteps). x.at) (locals_law ls [] b))
