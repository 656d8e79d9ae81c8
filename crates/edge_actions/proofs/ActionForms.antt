-- The action of every edge is one of the rows: its constants are sets of values.
use Rattle.std.specs.Prelude.{◌≡◌, ℕ, ◌≤◌, Bool, true, false, cond, nat_le, ℤ, pos, Option, Some, None, refl}
use Rattle.std.proofs.Common.{sym, ap, subst, arith}
use Rattle.std.proofs.lemmas.Int.{ints}
use Rattle.std.specs.Ordering.{nat_cmp}
use Rattle.std.specs.FinMap as map
use Rattle.std.specs.FinMap.{get-empty}
use Rattle.strided_dom.specs.Progression.{Progression, single, Has}
use Rattle.tm_lattice.specs.Tables.{IsEntry}
use Rattle.pointer_dom.specs.OffsetSets.{IsOffsetSet, HasNoOffset}
use Rattle.pointer_dom.specs.PointerSets.{Pointers, IsPointers, pointer_to, no_pointer}
use Rattle.pointer_dom.specs.Values.{Values, IsValues}
use Rattle.tm_typed.specs.declared.types.Scalar.{Scalar}
use Rattle.tm_typed.specs.declared.types.Scalar.TheVariants as Scalars
use Rattle.tm_typed.specs.declared.expressions.Unary.TheVariants as Unaries
use Rattle.tm_laid.specs.Layouts.{LaidTree, object_at, abstract_at}
use Rattle.flow_graph.specs.concrete_values.declared.values.Pointer.{Pointer}
use Rattle.flow_graph.specs.concrete_values.declared.values.Pointer.TheVariants as Pointers
use Rattle.flow_graph.specs.concrete_values.declared.values.Value.{Value}
use Rattle.flow_graph.specs.concrete_values.declared.values.Value.TheVariants as Constant
use Rattle.flow_graph.specs.declared.operations.Test.{Test}
use Rattle.flow_graph.specs.declared.operations.Test.TheVariants as Tests
use Rattle.flow_graph.specs.declared.operations.Operation.{Operation}
use Rattle.flow_graph.specs.declared.operations.Operation.TheVariants as Op
use Rattle.transfer_rows.specs.Actions.{constant_is, copied_is, negated_is, complemented_is, operated_is, converted_is, compared_is, part_is, element_is, moved_is, dereferenced_is}
use Rattle.transfer_rows.specs.Actions.{temporary_is, fixed_is, IsFilter, usable_is, numbers_compare_is, pointers_compare_is}
use Rattle.transfer_rows.specs.Actions.{IsAction, skips_is, gives_is, refines_is, loads_is, loads_any_is, stores_is, clears_is, locks_is, unlocks_is, yields_is, probes_is}
use Rattle.transfer_rows.proofs.TableChanges.{inserted_is}
use Rattle.edge_actions.proofs.Lists.{le_from}
use Rattle.edge_actions.specs.Layouts.{only_invalid, open_value}
use Rattle.edge_actions.specs.Edges.{only_null, pointer_within, pointer_value, constant_value, filter_of, cleared_value, action_of}

no_objects : (p : Pointers) → p.objects ≡ map.empty → IsPointers p
no_objects p none key = subst (IsEntry IsOffsetSet HasNoOffset) (sym (ap (λ t. map.get t key) none)) (subst (IsEntry IsOffsetSet HasNoOffset) (sym (get-empty nat_cmp key)) tt)

one_offset : (size offset : ℕ) → offset ≤ size → IsOffsetSet record { size = size; offsets = single (pos offset) }
unfolding Has
one_offset size offset le = record { within = λ v h. record { from = omega (arith, ints, h); to = omega (arith, ints, h, le) }; none = λ e. absurd (not_empty e) }
  where
    not_empty : single (pos offset) ≡ Rattle.strided_dom.specs.Progression.empty → ⊥
    not_empty e = cc

pointer_is : (object size offset : ℕ) → offset ≤ size → IsPointers (pointer_to object size offset)
pointer_is object size offset le = inserted_is IsOffsetSet HasNoOffset map.empty object record { size = size; offsets = single (pos offset) } (one_offset size offset le) (λ e. absurd (not_empty e)) (no_objects no_pointer refl)
  where
    not_empty : single (pos offset) ≡ Rattle.strided_dom.specs.Progression.empty → ⊥
    not_empty e = cc

within_is : (object size offset : ℕ) → IsPointers (pointer_within object size offset)
within_is object size offset = by_test (nat_le offset size) refl
  where
    by_test : (b : Bool) → nat_le offset size ≡ b → IsPointers (cond b (pointer_to object size offset) no_pointer)
    by_test true most = pointer_is object size offset (le_from offset size most)
    by_test false past = no_objects no_pointer refl

pointer_value_is : (laid : LaidTree) (p : Pointer) → IsPointers (pointer_value laid p)
pointer_value_is laid Pointers.Null = no_objects only_null refl
pointer_value_is laid Pointers.Invalid = no_objects only_invalid refl
pointer_value_is laid (Pointers.To object offset) = within_is object (object_at laid object).cells offset

constant_value_is : (laid : LaidTree) (v : Value) → IsValues (constant_value laid v)
constant_value_is laid (Constant.Number n) = no_objects no_pointer refl
constant_value_is laid (Constant.Pointer p) = pointer_value_is laid p

open_value_is : (scalar : Scalar) → IsValues (open_value scalar)
open_value_is (Scalars.Int t) = no_objects no_pointer refl
open_value_is (Scalars.Pointer class) = no_objects only_invalid refl

filter_is : (pointers : Bool) (test : Test) → IsFilter (filter_of pointers test)
filter_is true (Tests.Numbers operator of left right) = numbers_compare_is temporary_is temporary_is
filter_is false (Tests.Numbers operator of left right) = numbers_compare_is temporary_is temporary_is
filter_is true (Tests.Pointers equal left right) = pointers_compare_is temporary_is temporary_is
filter_is false (Tests.Pointers equal left right) = pointers_compare_is temporary_is temporary_is
filter_is true (Tests.Truth holds value) = pointers_compare_is temporary_is (fixed_is (no_objects only_null refl))
filter_is false (Tests.Truth holds value) = numbers_compare_is temporary_is (fixed_is (no_objects no_pointer refl))
filter_is true (Tests.Case holds label value) = numbers_compare_is temporary_is (fixed_is (no_objects no_pointer refl))
filter_is false (Tests.Case holds label value) = numbers_compare_is temporary_is (fixed_is (no_objects no_pointer refl))

cleared_is : (laid : LaidTree) (object x : ℕ) (v : Values) → cleared_value laid object x ≡ Some v → IsValues v
cleared_is laid object x v at = by_test (Rattle.std.specs.Prelude.◌&&◌ (nat_le (object_at laid object).first_abstract x) (Rattle.std.specs.Prelude.nat_lt x (Rattle.std.specs.Prelude.◌+◌ (object_at laid object).first_abstract (object_at laid object).abstract_cells))) at
  where
    by_test : (b : Bool) → cond b (Some (open_value (abstract_at laid x).scalar)) None ≡ Some v → IsValues v
    by_test true e = subst IsValues (same e) (open_value_is (abstract_at laid x).scalar)
      where
        same : (let w = Some (open_value (abstract_at laid x).scalar) in w ≡ Some v) → open_value (abstract_at laid x).scalar ≡ v
        same h = cc
    by_test false e = absurd (none e)
      where
        none : (let w : Option Values = None in w ≡ Some v) → ⊥
        none h = cc

pub edge_is : (laid : LaidTree) (task : ℕ) (pointers answer : Bool) (op : Operation) → IsAction (action_of laid task pointers answer op)
edge_is laid task pointers answer Op.Skip = skips_is
edge_is laid task pointers answer (Op.Const to value) = gives_is (constant_is (constant_value_is laid value))
edge_is laid task pointers answer (Op.Copy to from) = gives_is copied_is
edge_is laid task pointers answer (Op.Un to Unaries.Negate of from place) = gives_is negated_is
edge_is laid task pointers answer (Op.Un to Unaries.Complement of from place) = gives_is complemented_is
edge_is laid task pointers answer (Op.Bin to operator of left right place) = gives_is operated_is
edge_is laid task pointers answer (Op.BinPointers to equal left right) = gives_is compared_is
edge_is laid task pointers answer (Op.Convert to was of from) = gives_is converted_is
edge_is laid task pointers answer (Op.Base to object) = gives_is (constant_is (pointer_is object (object_at laid object).cells 0 (omega arith)))
edge_is laid task pointers answer (Op.Offset to from cells) = gives_is part_is
edge_is laid task pointers answer (Op.Index to from count cells by place) = gives_is element_is
edge_is laid task pointers answer (Op.Move to from cells minus by place) = gives_is moved_is
edge_is laid task pointers answer (Op.Deref to from target path place) = gives_is dereferenced_is
edge_is laid task pointers answer (Op.Load to address scalar place) = loads_is
edge_is laid task pointers answer (Op.LoadAny to address scalar place) = loads_any_is (open_value_is scalar)
edge_is laid task pointers answer (Op.Store address value scalar into place) = stores_is
edge_is laid task pointers answer (Op.Any to low high) = gives_is (constant_is (no_objects no_pointer refl))
edge_is laid task pointers answer (Op.Clear object) = clears_is (cleared_is laid object)
edge_is laid task pointers answer (Op.Usable pointer place) = refines_is usable_is
edge_is laid task pointers answer (Op.Assume test) = refines_is (filter_is pointers test)
edge_is laid task pointers answer (Op.Lock mutex place) = locks_is
edge_is laid task pointers answer (Op.Unlock mutex place) = unlocks_is
edge_is laid task pointers answer Op.Yield = yields_is
edge_is laid task pointers answer (Op.Probe to mutex place) = probes_is
