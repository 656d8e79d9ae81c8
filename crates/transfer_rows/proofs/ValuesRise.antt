-- Smaller operands give smaller values.
use Rattle.std.proofs.Common.{◌≡◌, ◌↔◌, ℕ, Bool, true, false, IsTrue, ℤ, pos, refl, sym, ◌∙◌}
use Rattle.std.proofs.lemmas.Bool.{false≢true}
use Rattle.interfere_set.specs.strided_dom.Progression.{Progression, single, IsSubset}
use Rattle.interfere_set.specs.strided_dom.Combinations.{IsProduct}
use Rattle.tm_cint.specs.declared.Class.{Class}
use Rattle.tm_cint.specs.declared.int_types.IntType.{IntType}
use Rattle.tm_cint.specs.declared.operators.BinOp.{BinOp}
use Rattle.tm_cint.specs.declared.operators.BinOp.TheVariants.{Sub}
use Rattle.operator_values.proofs.low.transfer_int.Growing.{value_grows, fail_grows}
use Rattle.operator_values.proofs.low.transfer_int.Wrapping.{conversion_grows}
use Rattle.operator_values.specs.transfer_int.Values.{ones_of}
use Rattle.interfere_set.specs.pointer_dom.PointerSets.{Pointers, IsPointers, IsPointersBelow, no_pointer}
use Rattle.interfere_set.specs.pointer_dom.Advances.{IsElementStep, directed}
use Rattle.interfere_set.specs.pointer_dom.Values.{Values, IsValues, IsValuesBelow}
use Rattle.interfere_set.specs.pointer_dom.laws.PointerLaws.{pointers_order}
use Rattle.interfere_set.specs.pointer_dom.laws.ValueLaws.{values_order}
use Rattle.interfere_set.proofs.low.pointer_dom.Meaning.{included}
use Rattle.interfere_set.proofs.low.pointer_dom.OperationMeaning.{advance_below, safe_below, hull_below, truth_below}
use Rattle.operator_values.proofs.low.filters.PointerLaws.{less_left}
use Rattle.interfere_set.specs.laws.Joins.{none_is}
use Rattle.operator_values.specs.Integers as I
use Rattle.operator_values.specs.Integers.{operated_is, converted_is, assumed_is}
use Rattle.operator_values.specs.SetsOfPointers as P
use Rattle.operator_values.specs.SetsOfPointers.{offset_by_is, offset_by_fits, indexed_is, indexed_fits, moved_is, moved_fits}
use Rattle.operator_values.specs.SetsOfPointers.{IsReachable, dereferenced_is, dereferenced_fits, equality_is}
use Rattle.operator_values.specs.SetsOfPointers.{pointers_are_assumed, left_pointers_fit, right_pointers_fit}
use Rattle.operator_values.specs.Classes.{may_fail, may_fail_is, index_fails_is, move_fails_is}
use Rattle.operator_values.specs.Classes.{dereference_fails_is}
use Rattle.transfer_rows.specs.StateForms.{State, IsStateForm, IsStateUnder, value_of, only_numbers, only_pointers}
use Rattle.transfer_rows.specs.Actions.{Calculation, constant, copied, negated, complemented, operated, converted}
use Rattle.transfer_rows.specs.Actions.{compared, part, element, moved, dereferenced, IsCalculation, constant_is, copied_is}
use Rattle.transfer_rows.specs.Actions.{negated_is, complemented_is, operated_is as operation_is, converted_is as conversion_is}
use Rattle.transfer_rows.specs.Actions.{compared_is, part_is, element_is, moved_is as move_is, dereferenced_is as reach_is}
use Rattle.transfer_rows.specs.Actions.{Side, temporary, fixed, IsSide, temporary_is, fixed_is}
use Rattle.transfer_rows.specs.Calculations.{calculated, usable_values, side_value, left_numbers, right_numbers}
use Rattle.transfer_rows.specs.Calculations.{left_addresses, right_addresses}
use Rattle.transfer_rows.specs.Reports.{CalculationMayFail, AgreeOnSizes}
use Rattle.transfer_rows.proofs.Monotone.{value_is, value_rises}

same_set : (a : Progression) → IsSubset a a
same_set a = record { within = λ v h. h }

pub numbers_rise : (a b : Progression) → IsSubset a b → IsValuesBelow (only_numbers a) (only_numbers b)
numbers_rise a b le = record { numbers = le; pointers = pointers_order.reflexive no_pointer none_is }

pub pointers_rise : (p q : Pointers) → IsPointersBelow p q → IsValuesBelow (only_pointers p) (only_pointers q)
pointers_rise p q le = record { numbers = record { within = λ v h. h }; pointers = le }

operated_rises : (op : BinOp) (t : IntType) (a b c d : Progression) → IsSubset a c → IsSubset b d → IsSubset (I.operated op t a b) (I.operated op t c d)
operated_rises op t a b c d p q = record { within = λ v h. (operated_is op t c d).complete v (value_grows op t a b c d v p q ((operated_is op t a b).sound v h)) }

converted_rises : (t : IntType) (a b : Progression) → IsSubset a b → IsSubset (I.converted t a) (I.converted t b)
converted_rises t a b p = record { within = λ v h. (converted_is t b).complete v (conversion_grows t a b v p ((converted_is t a).sound v h)) }

sides_rise : (op : BinOp) (a b c d : Progression) → IsSubset a c → IsSubset b d → IsSubset (I.left_assumed op a b) (I.left_assumed op c d) × IsSubset (I.right_assumed op a b) (I.right_assumed op c d)
sides_rise op a b c d p q =
    let h = assumed_is op a b in
    let k = assumed_is op c d in (
      h.of_left.least (I.left_assumed op c d) (λ v x. k.of_left.complete v (record { member = p.within v x.member; partner = x.partner; in_other = q.within x.partner x.in_other; related = x.related })),
      h.of_right.least (I.right_assumed op c d) (λ v x. k.of_right.complete v (record { member = q.within v x.member; partner = x.partner; in_other = p.within x.partner x.in_other; related = x.related })),
    )

equality_rises : (equal : Bool) (p q p' q' : Pointers) → IsPointersBelow p p' → IsPointersBelow q q' → IsSubset (P.equality equal p q) (P.equality equal p' q')
equality_rises equal p q p' q' h k = truth_below equal p q p' q' (P.equality equal p q) (P.equality equal p' q') (equality_is equal p q) (equality_is equal p' q') h k

part_rises : (cells : ℕ) (p p' : Pointers) → IsPointersBelow p p' → IsPointersBelow (P.offset_by cells p) (P.offset_by cells p')
part_rises cells p p' le = advance_below (λ step. step ≡ pos cells) (λ step. step ≡ pos cells) (λ v h. h) p p' le _ _ (offset_by_fits cells p) (offset_by_is cells p) (offset_by_is cells p')

element_rises : (n cells : ℕ) (s s' : Progression) (p p' : Pointers) → IsSubset s s' → IsPointersBelow p p' → IsPointersBelow (P.indexed n cells s p) (P.indexed n cells s' p')
element_rises n cells s s' p p' more le =
    advance_below (IsElementStep n cells s) (IsElementStep n cells s') (λ v h. record { index = h.index; member = more.within h.index h.member; subscript = h.subscript; step = h.step }) p p' le _ _
    (indexed_fits n cells s p) (indexed_is n cells s p) (indexed_is n cells s' p')

product_more : (n : ℤ) (s s' : Progression) → IsSubset s s' → (v : ℤ) → IsProduct s n v → IsProduct s' n v
product_more n s s' more v h = record { factor = h.factor; in_set = more.within h.factor h.in_set; product = h.product }

move_rises : (forward : Bool) (cells : ℕ) (s s' : Progression) (p p' : Pointers) → IsSubset s s' → IsPointersBelow p p' → IsPointersBelow (P.moved forward cells s p) (P.moved forward cells s' p')
move_rises forward cells s s' p p' more le =
    advance_below (IsProduct s (directed forward cells)) (IsProduct s' (directed forward cells)) (product_more (directed forward cells) s s' more) p p' le _ _
    (moved_fits forward cells s p) (moved_is forward cells s p) (moved_is forward cells s' p')

reach_rises : (alive : ℕ → Bool) (stands : ℕ → ℕ → Bool) (p p' : Pointers) → IsPointers p → IsPointersBelow p p' → IsPointersBelow (P.dereferenced alive stands p) (P.dereferenced alive stands p')
reach_rises alive stands p p' p-is le =
    hull_below (IsReachable alive stands p) (IsReachable alive stands p') p p' (P.dereferenced alive stands p) (P.dereferenced alive stands p') (λ x h. (included p p' x le h.0, h.1))
    (dereferenced_fits alive stands p p-is) le (dereferenced_is alive stands p) (dereferenced_is alive stands p')

pub usable_rise : (v w : Values) → IsValuesBelow v w → IsValuesBelow (usable_values v) (usable_values w)
usable_rise v w le = record { numbers = le.numbers; pointers = record { null = le.pointers.null; invalid = λ h. h; objects = le.pointers.objects } }

-- what is left of sides
module _ (v w v' w' : Values) (p : IsValuesBelow v v') (q : IsValuesBelow w w') where
  pub left_numbers_rise : (op : BinOp) → IsValuesBelow (left_numbers op v w) (left_numbers op v' w')
  left_numbers_rise op = numbers_rise _ _ (sides_rise op v.numbers w.numbers v'.numbers w'.numbers p.numbers q.numbers).0

  pub right_numbers_rise : (op : BinOp) → IsValuesBelow (right_numbers op v w) (right_numbers op v' w')
  right_numbers_rise op = numbers_rise _ _ (sides_rise op v.numbers w.numbers v'.numbers w'.numbers p.numbers q.numbers).1

  module _ (equal : Bool) (v-is : IsValues v) (w-is : IsValues w) where
    addresses_rise : IsPointersBelow (P.left_pointers equal v.pointers w.pointers) (P.left_pointers equal v'.pointers w'.pointers)
        × IsPointersBelow (P.right_pointers equal v.pointers w.pointers) (P.right_pointers equal v'.pointers w'.pointers)
    addresses_rise = less_left equal v.pointers w.pointers _ _ v'.pointers w'.pointers _ _ (left_pointers_fit equal v.pointers w.pointers v-is w-is) (right_pointers_fit equal v.pointers w.pointers v-is w-is)
        (pointers_are_assumed equal v.pointers w.pointers) (pointers_are_assumed equal v'.pointers w'.pointers) p.pointers q.pointers

    pub left_addresses_rise : IsValuesBelow (left_addresses equal v w) (left_addresses equal v' w')
    left_addresses_rise = pointers_rise _ _ addresses_rise.0

    pub right_addresses_rise : IsValuesBelow (right_addresses equal v w) (right_addresses equal v' w')
    right_addresses_rise = pointers_rise _ _ addresses_rise.1

-- calculations give sets of values, and rise
pub calculated_fits : (calculation : Calculation) (s : State) → IsCalculation calculation → IsStateForm s → IsValues (calculated calculation s)
unfolding calculated
calculated_fits (constant value) s (constant_is is) s-is = is
calculated_fits (copied source) s copied_is s-is = value_is s source s-is
calculated_fits (negated t source) s negated_is s-is = none_is
calculated_fits (complemented t source) s complemented_is s-is = none_is
calculated_fits (operated op t left right) s operation_is s-is = none_is
calculated_fits (converted t source) s conversion_is s-is = none_is
calculated_fits (compared equal left right) s compared_is s-is = none_is
calculated_fits (part cells source) s part_is s-is = offset_by_fits cells (value_of s source).pointers
calculated_fits (element count cells source index) s element_is s-is = indexed_fits count cells (value_of s index).numbers (value_of s source).pointers
calculated_fits (moved forward cells source count) s move_is s-is = moved_fits forward cells (value_of s count).numbers (value_of s source).pointers
calculated_fits (dereferenced alive stands source) s reach_is s-is = dereferenced_fits alive stands (value_of s source).pointers (value_is s source s-is)

module _ (s s' : State) (s-is : IsStateForm s) (s'-is : IsStateForm s') (le : IsStateUnder s s') where
  rise : (t : ℕ) → IsValuesBelow (value_of s t) (value_of s' t)
  rise t = value_rises s s' t s'-is le

  pub calculated_rises : (calculation : Calculation) → IsCalculation calculation → IsValuesBelow (calculated calculation s) (calculated calculation s')
  unfolding calculated
  calculated_rises (constant value) (constant_is is) = values_order.reflexive value is
  calculated_rises (copied source) copied_is = rise source
  calculated_rises (negated t source) negated_is = numbers_rise _ _ (operated_rises Sub t (single (pos 0)) (value_of s source).numbers (single (pos 0)) (value_of s' source).numbers (same_set (single (pos 0))) (rise source).numbers)
  calculated_rises (complemented t source) complemented_is =
      numbers_rise _ _ (operated_rises Sub t (single (ones_of t)) (value_of s source).numbers (single (ones_of t)) (value_of s' source).numbers (same_set (single (ones_of t))) (rise source).numbers)
  calculated_rises (operated op t left right) operation_is =
      numbers_rise _ _ (operated_rises op t (value_of s left).numbers (value_of s right).numbers (value_of s' left).numbers (value_of s' right).numbers (rise left).numbers (rise right).numbers)
  calculated_rises (converted t source) conversion_is = numbers_rise _ _ (converted_rises t (value_of s source).numbers (value_of s' source).numbers (rise source).numbers)
  calculated_rises (compared equal left right) compared_is =
      numbers_rise _ _ (equality_rises equal (value_of s left).pointers (value_of s right).pointers (value_of s' left).pointers (value_of s' right).pointers (rise left).pointers (rise right).pointers)
  calculated_rises (part cells source) part_is = pointers_rise _ _ (part_rises cells (value_of s source).pointers (value_of s' source).pointers (rise source).pointers)
  calculated_rises (element count cells source index) element_is =
      pointers_rise _ _ (element_rises count cells (value_of s index).numbers (value_of s' index).numbers (value_of s source).pointers (value_of s' source).pointers (rise index).numbers (rise source).pointers)
  calculated_rises (moved forward cells source count) move_is =
      pointers_rise _ _ (move_rises forward cells (value_of s count).numbers (value_of s' count).numbers (value_of s source).pointers (value_of s' source).pointers (rise count).numbers (rise source).pointers)
  calculated_rises (dereferenced alive stands source) reach_is =
      pointers_rise _ _ (reach_rises alive stands (value_of s source).pointers (value_of s' source).pointers (value_is s source s-is) (rise source).pointers)

  pub side_rises : (side : Side) → IsSide side → IsValuesBelow (side_value side s) (side_value side s')
  side_rises (temporary number) temporary_is = rise number
  side_rises (fixed value) (fixed_is is) = values_order.reflexive value is

  -- a test that holds stays so where what it refutes falls
  true_more : (b c : Bool) (A B : Type 0) → (b ≡ false) ↔ A → (c ≡ false) ↔ B → (B → A) → IsTrue b → IsTrue c
  true_more b true A B p q falls h = refl
  true_more b false A B p q falls h = absurd (false≢true (sym (p.1 (falls (q.0 refl))) ∙ h))

  fails_more : (op : BinOp) (t : IntType) (a b c d : Progression) (class : Class) → IsSubset a c → IsSubset b d → IsTrue (may_fail op t a b class) → IsTrue (may_fail op t c d class)
  fails_more op t a b c d class p q h = (may_fail_is op t c d class).1 (fail_grows op t a b c d class p q ((may_fail_is op t a b class).0 h))

  -- greater operands exclude fewer classes
  pub class_rises : AgreeOnSizes s s' → (calculation : Calculation) (class : Class) → CalculationMayFail calculation s class → CalculationMayFail calculation s' class
  unfolding CalculationMayFail
  class_rises sizes (constant value) class h = h
  class_rises sizes (copied source) class h = h
  class_rises sizes (negated t source) class h = fails_more Sub t (single (pos 0)) (value_of s source).numbers (single (pos 0)) (value_of s' source).numbers class (same_set (single (pos 0))) (rise source).numbers h
  class_rises sizes (complemented t source) class h = h
  class_rises sizes (operated op t left right) class h =
      fails_more op t (value_of s left).numbers (value_of s right).numbers (value_of s' left).numbers (value_of s' right).numbers class (rise left).numbers (rise right).numbers h
  class_rises sizes (converted t source) class h = h
  class_rises sizes (compared equal left right) class h = h
  class_rises sizes (part cells source) class h = h
  class_rises sizes (element count cells source index) class h = (
    h.0,
    true_more _ _ _ _ (index_fails_is count (value_of s index).numbers) (index_fails_is count (value_of s' index).numbers) (λ all i m. all i ((rise index).numbers.within i m)) h.1,
  )
  class_rises sizes (moved forward cells source count) class h = (
    h.0,
    true_more _ _ _ _ (move_fails_is forward cells (value_of s count).numbers (value_of s source).pointers) (move_fails_is forward cells (value_of s' count).numbers (value_of s' source).pointers)
        (safe_below (IsProduct (value_of s count).numbers (directed forward cells)) (IsProduct (value_of s' count).numbers (directed forward cells))
        (product_more (directed forward cells) (value_of s count).numbers (value_of s' count).numbers (rise count).numbers) (value_of s source).pointers (value_of s' source).pointers (rise source).pointers (sizes.sizes source))
        h.1,
  )
  class_rises sizes (dereferenced alive stands source) class h = (
    h.0,
    true_more _ _ _ _ (dereference_fails_is alive stands (value_of s source).pointers) (dereference_fails_is alive stands (value_of s' source).pointers)
        (λ all x m. all x (included (value_of s source).pointers (value_of s' source).pointers x (rise source).pointers m)) h.1,
  )
