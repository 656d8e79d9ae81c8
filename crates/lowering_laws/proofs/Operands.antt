-- Each operand of a well-formed expression has a value.
use Rattle.std.proofs.Common.{◌≡◌, refl, sym, ap, ◌∙◌, ℕ, Bool, true, false, List, [], ◌∷◌}
use Rattle.std.specs.Prelude.{slice_get, Some}
use Rattle.call_graph.specs.tm_cint.declared.int_types.IntType.TheVariants as Ints
use Rattle.call_graph.specs.tm_typed.declared.types.Scalar.{Scalar}
use Rattle.call_graph.specs.tm_typed.declared.types.Scalar.TheVariants as Scalars
use Rattle.call_graph.specs.tm_typed.declared.types.CType.{CType}
use Rattle.call_graph.specs.tm_typed.declared.types.CType.TheVariants as Types
use Rattle.call_graph.specs.tm_typed.Scopes.{Function, ctype_of}
use Rattle.call_graph.specs.tm_typed.Operands.{kept_sort}
use Rattle.call_graph.specs.tm_typed.TypedTrees.{RvalueTree, a_constant, a_folded, a_null, a_load, an_address}
use Rattle.call_graph.specs.tm_typed.TypedTrees.{a_structure}
use Rattle.call_graph.specs.tm_typed.TypedTrees.{the_same, a_unary, a_binary, a_comparison_of_pointers, a_move, a_not}
use Rattle.call_graph.specs.tm_typed.TypedTrees.{an_and}
use Rattle.call_graph.specs.tm_typed.TypedTrees.{an_or, a_choice, an_assignment, a_compound, a_compound_move}
use Rattle.call_graph.specs.tm_typed.TypedTrees.{a_unit_step}
use Rattle.call_graph.specs.tm_typed.TypedTrees.{a_pointer_step, a_function_call, an_input_value, a_probe, a_comma}
use Rattle.call_graph.specs.tm_typed.TypedTrees.{a_conversion}
use Rattle.call_graph.specs.tm_typed.TypedTrees.{a_discard, LvalueTree, an_object, an_element, a_pointed_element}
use Rattle.call_graph.specs.tm_typed.TypedTrees.{a_pointed}
use Rattle.call_graph.specs.tm_typed.TypedTrees.{an_arrow, a_part, RvalueTrees, no_rvalues, and_rvalue}
use Rattle.call_graph.specs.tm_typed.WellTyped.{ValueKind, a_number, a_pointer, no_value, kind_of_scalar, kind_of}
use Rattle.call_graph.specs.tm_typed.WellTyped.{IsCondition}
use Rattle.call_graph.specs.tm_typed.WellTyped.{Context, IsRvalue, IsLvalue, AreArguments}
use Rattle.cell_layout.specs.tm_laid.Layouts.{LaidTree}
use Rattle.typed_file_laws.specs.Mentions.{Mentions, LvalueMentions, AllMention}
use Rattle.lowering.specs.Table.{is_value_type, call_has_value, has_value}
use Rattle.lowering.specs.Lowerable.{Valued, ValuedAt, AllValued, Used}

-- a number or a pointer
abbrev pub is_value : ValueKind → Bool
is_value (a_number t) = true
is_value a_pointer = true
is_value no_value = false

scalar_is_value : (s : Scalar) → is_value (kind_of_scalar s) ≡ true
scalar_is_value (Scalars.Int t) = refl
scalar_is_value (Scalars.Pointer c) = refl

condition_is_value : (k : ValueKind) → IsCondition k → is_value k ≡ true
condition_is_value (a_number t) h = refl
condition_is_value a_pointer h = refl
condition_is_value no_value h = absurd h

result_is_value : (t : CType) → is_value (kind_of (kept_sort t)) ≡ is_value_type t
result_is_value Types.Void = refl
result_is_value (Types.Int t) = refl
result_is_value (Types.Pointer q) = refl
result_is_value (Types.Array e n) = refl
result_is_value (Types.Struct k) = refl

-- the call at a site of a path gives a value exactly where the function that typing found there has a result
pub record AreCalled (laid : LaidTree) (path : ℕ) (w : Context) (calls : List ℕ) : Type 0 where
  pub call : (site f : ℕ) (g : Function) → slice_get calls site ≡ Some f → slice_get w.scope.functions f ≡ Some g
      → call_has_value laid path site ≡ is_value_type (ctype_of w.scope g.result)

module _ (laid : LaidTree) (path : ℕ) (w : Context) (defined : ℕ → Bool) (calls : List ℕ)
    (called : AreCalled laid path w calls) where
  -- an expression has a value exactly where its kind is that of a value
  pub gives : (k : ValueKind) (e : RvalueTree) → IsRvalue w k e → Mentions defined calls e
      → has_value laid path e ≡ is_value k
  gives k (a_constant t z p) h m = sym (ap is_value h.0)
  gives k (a_folded z e) h m = sym (ap is_value h.0)
  gives k (a_null p) h m = sym (ap is_value h)
  gives k (a_load s v l) h m = sym (ap is_value h.2 ∙ scalar_is_value s)
  gives k (an_address l p) h m = sym (ap is_value h.1)
  gives k (a_structure l) h m = sym (ap is_value h.1)
  gives k (the_same e p) h m = gives k e h m
  gives k (a_unary u t e p) h m = sym (ap is_value h.0)
  gives k (a_binary u t l r p) h m = sym (ap is_value h.1)
  gives k (a_comparison_of_pointers b l r p) h m = sym (ap is_value h.0)
  gives k (a_move b n f e i p) h m = sym (ap is_value h.1)
  gives k (a_not e p) h m = sym (ap is_value h.1)
  gives k (an_and l r p) h m = sym (ap is_value h.2)
  gives k (an_or l r p) h m = sym (ap is_value h.2)
  gives k (a_choice x y z p) h m = gives k y h.3 m.1
  gives k (an_assignment s l e p) h m = sym (ap is_value h.2 ∙ scalar_is_value s)
  gives k (a_compound u n t v l e p) h m = sym (ap is_value h.3)
  gives k (a_compound_move b n c l e p) h m = sym (ap is_value h.3)
  gives k (a_unit_step s n t v l p) h m = sym (ap is_value h.2)
  gives k (a_pointer_step s n c l p) h m = sym (ap is_value h.2)
  gives k (a_function_call f site es p) h m =
      called.call site f h.0 m.0 h.1 ∙ sym (ap is_value h.2 ∙ result_is_value (ctype_of w.scope h.0.result))
  gives k (an_input_value low high p) h m = sym (ap is_value h.0)
  gives k (a_probe n p) h m = sym (ap is_value h.0)
  gives k (a_comma l r p) h m = gives k r h.2 m.1
  gives k (a_conversion f t e p) h m = sym (ap is_value h.0)
  gives k (a_discard e p) h m = sym (ap is_value h.1)

  mutual
    pub valued : (k : ValueKind) (e : RvalueTree) → IsRvalue w k e → Mentions defined calls e → Valued laid path e
    valued k (a_constant t z p) h m = tt
    valued k (a_folded z e) h m = (valued (a_number Ints.Int) e h.2 m, gives (a_number Ints.Int) e h.2 m)
    valued k (a_null p) h m = tt
    valued k (a_load s v l) h m = valued_at h.0 l h.3 m.1
    valued k (an_address l p) h m = valued_at h.0 l h.2 m
    valued k (a_structure l) h m = valued_at h.0 l h.2 m
    valued k (the_same e p) h m = valued k e h m
    valued k (a_unary u t e p) h m = (valued (a_number t) e h.1 m.1, gives (a_number t) e h.1 m.1)
    valued k (a_binary u t l r p) h m = (
      (valued (a_number t) l h.3 m.0, gives (a_number t) l h.3 m.0),
      (valued (a_number h.0) r h.4 m.1, gives (a_number h.0) r h.4 m.1),
    )
    valued k (a_comparison_of_pointers b l r p) h m = (
      (valued a_pointer l h.1 m.0, gives a_pointer l h.1 m.0),
      (valued a_pointer r h.2 m.1, gives a_pointer r h.2 m.1),
    )
    valued k (a_move b n f e i p) h m = (
      (valued a_pointer e h.2 m.0, gives a_pointer e h.2 m.0),
      (valued (a_number h.0) i h.3 m.1, gives (a_number h.0) i h.3 m.1),
    )
    valued k (a_not e p) h m = (valued h.0 e h.3 m, gives h.0 e h.3 m ∙ condition_is_value h.0 h.2)
    valued k (an_and l r p) h m = (
      (valued h.0 l h.5 m.0, gives h.0 l h.5 m.0 ∙ condition_is_value h.0 h.3),
      (valued h.1 r h.6 m.1, gives h.1 r h.6 m.1 ∙ condition_is_value h.1 h.4),
    )
    valued k (an_or l r p) h m = (
      (valued h.0 l h.5 m.0, gives h.0 l h.5 m.0 ∙ condition_is_value h.0 h.3),
      (valued h.1 r h.6 m.1, gives h.1 r h.6 m.1 ∙ condition_is_value h.1 h.4),
    )
    valued k (a_choice x y z p) h m = (
      (valued h.0 x h.2 m.0, gives h.0 x h.2 m.0 ∙ condition_is_value h.0 h.1),
      valued k y h.3 m.1,
      valued k z h.4 m.2,
      gives k z h.4 m.2 ∙ sym (gives k y h.3 m.1),
    )
    valued k (an_assignment s l e p) h m = (
      valued_at h.0 l h.3 m.0,
      (valued k e h.4 m.1, gives k e h.4 m.1 ∙ ap is_value h.2 ∙ scalar_is_value s),
    )
    valued k (a_compound u n t v l e p) h m =
        (valued_at h.0 l h.5 m.0, (valued (a_number h.1) e h.6 m.1, gives (a_number h.1) e h.6 m.1))
    valued k (a_compound_move b n c l e p) h m =
        (valued_at h.0 l h.4 m.0, (valued (a_number h.1) e h.5 m.1, gives (a_number h.1) e h.5 m.1))
    valued k (a_unit_step s n t v l p) h m = valued_at h.0 l h.3 m
    valued k (a_pointer_step s n c l p) h m = valued_at h.0 l h.3 m
    valued k (a_function_call f site es p) h m = all_valued h.0.parameters es h.3 m.1
    valued k (an_input_value low high p) h m = tt
    valued k (a_probe n p) h m = tt
    valued k (a_comma l r p) h m = (valued h.0 l h.1 m.0, valued k r h.2 m.1)
    valued k (a_conversion f t e p) h m = (valued (a_number f) e h.1 m, gives (a_number f) e h.1 m)
    valued k (a_discard e p) h m = valued h.0 e h.2 m

    valued_at : (n : ℕ) (l : LvalueTree) → IsLvalue w n l → LvalueMentions defined calls l → ValuedAt laid path l
    valued_at n (an_object o p) h m = tt
    valued_at n (an_element l i c s p) h m =
        (valued_at h.0 l h.5 m.0, (valued (a_number h.1) i h.6 m.1, gives (a_number h.1) i h.6 m.1))
    valued_at n (a_pointed_element e i c t p) h m = (
      (valued a_pointer e h.4 m.0, gives a_pointer e h.4 m.0),
      (valued (a_number h.0) i h.5 m.1, gives (a_number h.0) i h.5 m.1),
    )
    valued_at n (a_pointed e t p) h m = (valued a_pointer e h.2 m, gives a_pointer e h.2 m)
    valued_at n (an_arrow e t c p) h m = (valued a_pointer e h.3 m, gives a_pointer e h.3 m)
    valued_at n (a_part l c p) h m = valued_at h.0 l h.4 m

    all_valued : (ns : List ℕ) (es : RvalueTrees) → AreArguments w ns es → AllMention defined calls es
        → AllValued laid path es
    all_valued ns no_rvalues h m = tt
    all_valued [] (and_rvalue e es) h m = absurd h
    all_valued (n ∷ ns) (and_rvalue e es) h m = (
      (valued (kind_of_scalar h.0) e h.2 m.0, gives (kind_of_scalar h.0) e h.2 m.0 ∙ scalar_is_value h.0),
      all_valued ns es h.3 m.1,
    )

  -- a value of a scalar type, and a condition, are used
  pub scalar_used : (s : Scalar) (e : RvalueTree) → IsRvalue w (kind_of_scalar s) e → Mentions defined calls e
      → Used laid path e
  scalar_used s e h m = (valued (kind_of_scalar s) e h m, gives (kind_of_scalar s) e h m ∙ scalar_is_value s)

  pub condition_used : (k : ValueKind) (e : RvalueTree) → IsCondition k → IsRvalue w k e → Mentions defined calls e
      → Used laid path e
  condition_used k e c h m = (valued k e h m, gives k e h m ∙ condition_is_value k c)
