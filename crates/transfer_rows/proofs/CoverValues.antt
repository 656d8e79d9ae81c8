-- What an operation gives on single values lies in the value that its calculation gives, and the class with which it
-- fails is not excluded.
use Rattle.std.specs.Prelude.{◌≡◌, ◌↔◌, ℕ, Bool, true, false, ℤ, pos, ◌+ℤ◌, ◌*ℤ◌, IsTrue, Option, Some, None, refl}
use Rattle.std.proofs.Common.{sym, subst, inl, inr, arith}
use Rattle.std.specs.FinMap.{get}
use Rattle.interfere_set.specs.strided_dom.Progression.{single, Has}
use Rattle.interfere_set.specs.strided_dom.Combinations.{IsProduct}
use Rattle.interfere_set.proofs.low.strided_dom.Members.{not_in_empty}
use Rattle.tm_cint.specs.declared.Class.{Class}
use Rattle.tm_cint.specs.declared.operators.BinOp.TheVariants.{Sub}
use Rattle.operator_values.specs.transfer_int.Values.{ones_of}
use Rattle.operator_values.proofs.low.transfer_int.Holding.{value_holds}
use Rattle.operator_values.proofs.low.transfer_int.Failing.{error_holds}
use Rattle.operator_values.proofs.low.transfer_int.Wrapping.{conversion_holds}
use Rattle.operator_values.proofs.low.transfer_int.Complementing.{complement_holds}
use Rattle.interfere_set.specs.pointer_dom.Offset.{IsOffset}
use Rattle.interfere_set.specs.pointer_dom.OffsetSets.{OffsetSet}
use Rattle.interfere_set.specs.pointer_dom.Pointer.{Pointer, to, ScalarValue, number, pointer}
use Rattle.interfere_set.specs.pointer_dom.PointerSets.{Pointers, IsPointer, offsets_at, offsets_or_none}
use Rattle.interfere_set.specs.pointer_dom.Values.{IsValueIn}
use Rattle.interfere_set.specs.pointer_dom.Advances.{IsAdvance, IsSafeAdvance, IsElementStep, directed}
use Rattle.interfere_set.proofs.low.pointer_dom.OperationMeaning.{advance_holds, safe_null, safe_invalid, safe_stays}
use Rattle.interfere_set.proofs.low.pointer_dom.OperationMeaning.{hull_holds}
use Rattle.operator_values.specs.Integers.{operated_is, converted_is}
use Rattle.operator_values.specs.SetsOfPointers as P
use Rattle.operator_values.specs.SetsOfPointers.{offset_by_is, indexed_is, moved_is, IsReachable, dereferenced_is, equality_is}
use Rattle.operator_values.specs.Classes.{may_fail_is, index_fails_is, move_fails_is, dereference_fails_is}
use Rattle.transfer_rows.specs.StateForms.{State, value_of}
use Rattle.transfer_rows.specs.Actions.{Calculation, constant, copied, negated, complemented, operated, converted}
use Rattle.transfer_rows.specs.Actions.{compared, part, element, moved, dereferenced}
use Rattle.transfer_rows.specs.Calculations.{calculated}
use Rattle.transfer_rows.specs.Reports.{CalculationMayFail}
use Rattle.transfer_rows.specs.Meanings.{Valuation, MayGive, Fails, IsOperand, IsMove, Strays, strays_null, strays_invalid, strays_out}
use Rattle.transfer_rows.specs.Covering.{AreIn, HasTemp, AreSized}
use Rattle.transfer_rows.proofs.CoverSteps.{in_temp}

module _ (sizes : ℕ → ℕ) (s : State) (temps : Valuation) (ins : AreIn s temps) (sized : AreSized sizes s) where
  in_numbers : (t : ℕ) (x : ℤ) → HasTemp s t → temps t ≡ number x → Has (value_of s t).numbers x
  in_numbers t x live e = subst (λ w. IsValueIn (value_of s t) w) e (in_temp s temps t ins live)

  in_pointers : (t : ℕ) (x : Pointer) → HasTemp s t → temps t ≡ pointer x → IsPointer (value_of s t).pointers x
  in_pointers t x live e = subst (λ w. IsValueIn (value_of s t) w) e (in_temp s temps t ins live)

  -- an object to which a pointer leads has its size
  size_is : (t object offset : ℕ) → IsPointer (value_of s t).pointers (to object offset) → (offsets_at (value_of s t).pointers object).size ≡ sizes object
  size_is t object offset h = by_entry (get (value_of s t).pointers.objects object) refl h
    where
      by_entry : (a : Option OffsetSet) → get (value_of s t).pointers.objects object ≡ a → Has (offsets_or_none a).offsets (pos offset) → (offsets_or_none a).size ≡ sizes object
      by_entry None e k = absurd (not_in_empty (pos offset) k)
      by_entry (Some o) e k = sized.size t object o e

  same_number : (x y : ℤ) → number x ≡ number y → y ≡ x
  same_number x y e = cc

  zero_in : (x : ℤ) → number (pos 0) ≡ number x → Has (single (pos 0)) x
  unfolding Has
  zero_in x e = same_number (pos 0) x e

  move_in : (Step : ℤ → Type 0) (t : ℕ) (r : Pointers) (step : ℤ) (w : ScalarValue) → HasTemp s t → IsAdvance Step (value_of s t).pointers r → Step step → (m : IsMove sizes step (temps t) w) → IsPointer r (to m.object m.offset)
  move_in Step t r step w live is h m =
      let at = in_pointers t (to m.object m.from) live m.is_operand in
      advance_holds Step (value_of s t).pointers r m.object m.from m.offset step is at h m.moved (omega (arith, m.within, size_is t m.object m.from at))

  pub given_in : (calculation : Calculation) (w : ScalarValue) → ((u : ℕ) → IsOperand calculation u → HasTemp s u) → MayGive sizes temps calculation w → IsValueIn (calculated calculation s) w
  unfolding calculated MayGive IsOperand
  given_in (constant value) w live h = h
  given_in (copied source) w live h = subst (IsValueIn (value_of s source)) (sym h) (in_temp s temps source ins (live source refl))
  given_in (negated t source) w live h =
      subst (IsValueIn (calculated (negated t source) s)) (sym h.is_given)
      ((operated_is Sub t (single (pos 0)) (value_of s source).numbers).complete h.result
      (value_holds Sub t (single (pos 0)) (value_of s source).numbers h.x h.y h.result h.in_left h.in_right (zero_in h.x h.is_left) (in_numbers source h.y (live source refl) h.is_right) h.gives))
  given_in (complemented t source) w live h =
      subst (IsValueIn (calculated (complemented t source) s)) (sym h.is_given)
      ((operated_is Sub t (single (ones_of t)) (value_of s source).numbers).complete _ (complement_holds t (value_of s source).numbers h.x h.in_type (in_numbers source h.x (live source refl) h.is_operand)))
  given_in (operated op t left right) w live h =
      subst (IsValueIn (calculated (operated op t left right) s)) (sym h.is_given)
      ((operated_is op t (value_of s left).numbers (value_of s right).numbers).complete h.result
      (value_holds op t (value_of s left).numbers (value_of s right).numbers h.x h.y h.result h.in_left h.in_right (in_numbers left h.x (live left (inl refl)) h.is_left) (in_numbers right h.y (live right (inr refl)) h.is_right) h.gives))
  given_in (converted t source) w live h =
      subst (IsValueIn (calculated (converted t source) s)) (sym h.is_given)
      ((converted_is t (value_of s source).numbers).complete _ (conversion_holds t (value_of s source).numbers h.x (in_numbers source h.x (live source refl) h.is_operand)))
  given_in (compared equal left right) w live h =
      subst (IsValueIn (calculated (compared equal left right) s)) (sym h.is_given)
      ((equality_is equal (value_of s left).pointers (value_of s right).pointers).complete h.result
      record { left = h.x; right = h.y; in_left = in_pointers left h.x (live left (inl refl)) h.is_left; in_right = in_pointers right h.y (live right (inr refl)) h.is_right; truth = h.truth })
  given_in (part cells source) w live h =
      subst (IsValueIn (calculated (part cells source) s)) (sym h.is_given)
      (move_in (λ step. step ≡ pos cells) source (P.offset_by cells (value_of s source).pointers) (pos cells) w (live source refl) (offset_by_is cells (value_of s source).pointers) refl h)
  given_in (element count cells source index) w live h =
      let i = in_numbers index h.i (live index (inr refl)) h.is_index in
      subst (IsValueIn (calculated (element count cells source index) s)) (sym h.element.is_given)
      (move_in (IsElementStep count cells (value_of s index).numbers) source (P.indexed count cells (value_of s index).numbers (value_of s source).pointers) (h.i *ℤ pos cells) w (live source (inl refl))
      (indexed_is count cells (value_of s index).numbers (value_of s source).pointers) record { index = h.i; member = i; subscript = h.subscript; step = refl } h.element)
  given_in (moved forward cells source count) w live h =
      let n = in_numbers count h.n (live count (inr refl)) h.is_count in
      subst (IsValueIn (calculated (moved forward cells source count) s)) (sym h.move.is_given)
      (move_in (IsProduct (value_of s count).numbers (directed forward cells)) source (P.moved forward cells (value_of s count).numbers (value_of s source).pointers) (h.n *ℤ directed forward cells) w (live source (inl refl))
      (moved_is forward cells (value_of s count).numbers (value_of s source).pointers) record { factor = h.n; in_set = n; product = refl } h.move)
  given_in (dereferenced alive stands source) w live h =
      subst (IsValueIn (calculated (dereferenced alive stands source) s)) (sym h.is_given)
      (hull_holds (IsReachable alive stands (value_of s source).pointers) (value_of s source).pointers (P.dereferenced alive stands (value_of s source).pointers) h.x (dereferenced_is alive stands (value_of s source).pointers)
      (in_pointers source h.x (live source refl) h.is_operand, h.reaches))

  -- a test that excludes what stands there is true
  refuted : (b : Bool) (A : Type 0) → (b ≡ false) ↔ A → (A → ⊥) → IsTrue b
  refuted true A is n = refl
  refuted false A is n = absurd (n (is.0 refl))

  stray_fails : (Step : ℤ → Type 0) (t : ℕ) (step : ℤ) (w : ScalarValue) → IsValueIn (value_of s t) w → Step step → Strays sizes step w → IsSafeAdvance Step (value_of s t).pointers → ⊥
  stray_fails Step t step w at h strays_null safe = safe_null Step (value_of s t).pointers safe at
  stray_fails Step t step w at h strays_invalid safe = safe_invalid Step (value_of s t).pointers safe at
  stray_fails Step t step w at h (strays_out {object} {from} out) safe =
      out (subst (λ n. IsOffset n (pos from +ℤ step)) (size_is t object from at) (safe_stays Step (value_of s t).pointers object from step safe at h))

  pub fails_in : (calculation : Calculation) (class : Class) → ((u : ℕ) → IsOperand calculation u → HasTemp s u) → Fails sizes temps calculation class → CalculationMayFail calculation s class
  unfolding CalculationMayFail Fails IsOperand
  fails_in (constant value) class live h = h
  fails_in (copied source) class live h = h
  fails_in (negated t source) class live h =
      (may_fail_is Sub t (single (pos 0)) (value_of s source).numbers class).1
      (error_holds Sub t (single (pos 0)) (value_of s source).numbers h.x h.y class h.in_left h.in_right (zero_in h.x h.is_left) (in_numbers source h.y (live source refl) h.is_right) h.gives)
  fails_in (complemented t source) class live h = h
  fails_in (operated op t left right) class live h =
      (may_fail_is op t (value_of s left).numbers (value_of s right).numbers class).1
      (error_holds op t (value_of s left).numbers (value_of s right).numbers h.x h.y class h.in_left h.in_right (in_numbers left h.x (live left (inl refl)) h.is_left) (in_numbers right h.y (live right (inr refl)) h.is_right) h.gives)
  fails_in (converted t source) class live h = h
  fails_in (compared equal left right) class live h = h
  fails_in (part cells source) class live h = h
  fails_in (element count cells source index) class live h = (
    h.0,
    refuted _ _ (index_fails_is count (value_of s index).numbers) (λ all. h.1.fails (all h.1.i (in_numbers index h.1.i (live index (inr refl)) h.1.is_index))),
  )
  fails_in (moved forward cells source count) class live h = (
    h.0,
    refuted _ _ (move_fails_is forward cells (value_of s count).numbers (value_of s source).pointers)
        (stray_fails (IsProduct (value_of s count).numbers (directed forward cells)) source (h.1.n *ℤ directed forward cells) (temps source) (in_temp s temps source ins (live source (inl refl)))
        record { factor = h.1.n; in_set = in_numbers count h.1.n (live count (inr refl)) h.1.is_count; product = refl } h.1.strays),
  )
  fails_in (dereferenced alive stands source) class live h = (
    h.0,
    refuted _ _ (dereference_fails_is alive stands (value_of s source).pointers) (λ all. h.1.fails (all h.1.x (in_pointers source h.1.x (live source refl) h.1.is_operand))),
  )
