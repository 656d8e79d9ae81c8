-- What an initial value of a type is.
use Rattle.std.specs.Prelude.{◌≡◌, ℕ, ◌<◌, nat_le, ℤ, pos, Bool, true, false, cond, length, Option, Some, None, refl}
use Rattle.std.proofs.Common.{sym, ap, subst, ◌∙◌, inl, inr}
use Rattle.std.proofs.lemmas.Bool.{cases_eq}
use Rattle.std.specs.Ordering.{nat_cmp}
use Rattle.std.specs.FinMap as map
use Rattle.std.specs.FinMap.{get, get-empty}
use Rattle.thresholds.specs.strided_dom.Progression.{single, Has}
use Rattle.thresholds.specs.tm_lattice.laws.TableLaws.{get-insert_here, get-insert_there}
use Rattle.thresholds.specs.tm_cint.declared.int_types.IntType.{IntType}
use Rattle.thresholds.specs.tm_cint.IntTypes.{IsIn}
use Rattle.thresholds.proofs.low.tm_cint.Values.{zero_in}
use Rattle.layout_laws.specs.tm_typed.declared.types.Scalar.{Scalar}
use Rattle.layout_laws.specs.tm_typed.declared.types.Scalar.TheVariants as Scalars
use Rattle.layout_laws.specs.tm_laid.declared.objects.Initial.{Initial}
use Rattle.layout_laws.specs.tm_laid.declared.objects.Initial.TheVariants as Initials
use Rattle.layout_laws.specs.tm_laid.Objects.{nothing_given}
use Rattle.layout_laws.specs.tm_laid.Layouts.{LaidTree, object_at}
use Rattle.graph_builder.specs.concrete_values.declared.values.Pointer.TheVariants as Pointers
use Rattle.graph_builder.specs.concrete_values.declared.values.Value.{Value}
use Rattle.graph_builder.specs.concrete_values.declared.values.Value.TheVariants as Constant
use Rattle.graph_builder.specs.flow_graph.declared.operations.Operation.TheVariants as Op
use Rattle.program_systems.specs.pointer_dom.OffsetSets.{OffsetSet}
use Rattle.program_systems.specs.pointer_dom.PointerSets.{Pointers, no_pointer, pointer_to}
use Rattle.program_systems.specs.pointer_dom.Values.{Values, IsValues}
use Rattle.program_systems.specs.transfer_rows.Actions.{constant, constant_is, gives, IsAction, gives_is}
use Rattle.program_systems.specs.edge_actions.Edges.{only_null, constant_value}
use Rattle.program_systems.proofs.low.edge_actions.ActionForms.{edge_is}
use Rattle.program_systems.specs.typed_values.Types.{AreObjects, IsOfType}
use Rattle.program_systems.specs.program_equations.Entries.{initial_value}

one_number : (n x : ℤ) → Has (single n) x → x ≡ n
unfolding Has
one_number n x h = h

of_constant : (to : ℕ) (v : Values) → IsAction (gives to (constant v)) → IsValues v
of_constant to v (gives_is (constant_is h)) = h

module _ (laid : LaidTree) where
  -- the value is one of the type
  abbrev pub Fits : Scalar → Initial → Type 0
  Fits s v = IsOfType laid s (initial_value laid v)

  -- a constant is a set of values
  values_are : (v : Value) → IsValues (constant_value laid v)
  values_are v = of_constant 0 (constant_value laid v) (edge_is laid 0 false false (Op.Const 0 v))

  nowhere : (p : Pointers) → p.objects ≡ map.empty → AreObjects laid p
  nowhere p none object o at = absurd (
      let e : (let n : Option OffsetSet = None in n ≡ Some o) = sym (get-empty nat_cmp object)
      ∙ (ap (λ t. get t object) (sym none) ∙ at) in cc
      )

  to_object : (object offset : ℕ) → object < length laid.objects
      → AreObjects laid (pointer_to object (object_at laid object).cells offset)
  to_object object offset exists k o at =
      let own : OffsetSet = record { size = (object_at laid object).cells; offsets = single (pos offset) } in
      elim (cases_eq k object) [
        | inl here ↦
            let found : Some own ≡ Some o = sym (get-insert_here map.empty object own k here) ∙ at in
            let same : own ≡ o = cc in (
              subst (λ z. z < length laid.objects) (sym here) exists,
              sym (ap (λ (x : OffsetSet). x.size) same) ∙ ap (λ z. (object_at laid z).cells) (sym here),
            )
        | inr there ↦ nowhere no_pointer refl k o (sym (get-insert_there map.empty object own k there) ∙ at)
      ]

  within_object : (object offset : ℕ) → object < length laid.objects → (b : Bool)
      → AreObjects laid (cond b (pointer_to object (object_at laid object).cells offset) no_pointer)
  within_object object offset exists true = to_object object offset exists
  within_object object offset exists false = nowhere no_pointer refl

  pub number_fits : (t : IntType) (z : ℤ) → IsIn t z → Fits (Scalars.Int t) (Initials.Number z)
  number_fits t z h = (record { all = λ x p. subst (λ y. IsIn t y) (sym (one_number z x p)) h }, refl)

  pub null_fits : (class : ℕ) → Fits (Scalars.Pointer class) Initials.Null
  null_fits class = (refl, values_are (Constant.Pointer Pointers.Null), nowhere only_null refl)

  pub address_fits : (class object offset : ℕ) → object < length laid.objects
      → Fits (Scalars.Pointer class) (Initials.To object offset)
  address_fits class object offset exists = (
    refl,
    values_are (Constant.Pointer (Pointers.To object offset)),
    within_object object offset exists (nat_le offset (object_at laid object).cells),
  )

  -- zero, or null
  pub nothing_fits : (s : Scalar) → Fits s (nothing_given s)
  nothing_fits (Scalars.Int t) = number_fits t (pos 0) (zero_in t)
  nothing_fits (Scalars.Pointer class) = null_fits class
