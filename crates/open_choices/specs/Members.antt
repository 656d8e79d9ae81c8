-- MEMBER: pointers that leave the array into which they point (C99 6.5.6p8), and ends of objects that are compared with
-- the beginnings of others (6.5.9p6).
--
-- In
--     struct S { int a[2]; int b[2]; } s;
--     __task(1) void t(void) { int *p = s.a; p = p + 2; }
-- the `+` at 2:46 is listed: behind the array an int stands within s, so that nothing tells the end of s.a from s.b.
use Rattle.std.specs.Prelude.{◌≡◌, ◌≢◌, ◌⊎◌, ℕ, ℤ, pos, ◌+ℤ◌, ◌<ℤ◌, not, true, Some}
use Rattle.tm_terms.specs.declared.places.Place.{Place}
use Rattle.tm_laid.specs.Layouts.{stands_at}
use Rattle.strided_dom.specs.Progression.{Has}
use Rattle.strided_dom.specs.Combinations.{IsProduct}
use Rattle.pointer_dom.specs.PointerSets.{Pointers, offsets_at}
use Rattle.pointer_dom.specs.Advances.{directed}
use Rattle.flow_graph.specs.declared.operations.Operation.{Operation}
use Rattle.flow_graph.specs.declared.operations.Operation.TheVariants as Op
use Rattle.flow_graph.specs.declared.operations.Test.TheVariants as Tests
use Rattle.post_recheck.specs.transfer_rows.StateForms.{State, value_of}
use Rattle.path_origins.specs.declared.origins.Form.TheVariants as Forms
use Rattle.part_extents.specs.declared.extents.Extent.{Extent}
use Rattle.part_extents.specs.Parts.{array_at}
use Rattle.operand_orders.specs.Reached.{SolvedBody, HasState, origin_at}

-- an operation compares two pointers
pub data Compares : Operation → ℕ → ℕ → Type 0 where
  for_value : {to left right : ℕ} {equal : _} → Compares (Op.BinPointers to equal left right) left right
  as_branch : {left right : ℕ} {equal : _} → Compares (Op.Assume (Tests.Pointers equal left right)) left right

-- one pointer may be at the end of an object, and the other at offset 0 of another one
pub record Meets (v w : Pointers) : Type 0 where
  pub object : ℕ
  pub other : ℕ
  pub apart : object ≢ other
  pub end : (let o = offsets_at v object in Has o.offsets (pos o.size))
  pub begin : (let o = offsets_at w other in Has o.offsets (pos 0))

module _ (b : SolvedBody) where
  -- where a pointer comes to stand outside of an array, or at its end while its type stands there within the object
  abbrev pub Leaves : ℕ → ℕ → Extent → ℤ → Type 0
  Leaves object target array z = (z <ℤ pos array.begin) ⊎ ((pos array.end <ℤ z)
      ⊎ ((z ≡ pos array.end) × (stands_at b.laid object array.end target ≡ true)))

  pub data IsOfMember (place : Place) : Type 0 where
    moved : {edge to from cells by : ℕ} {minus : _} (s : State) (target object offset : ℕ) (step : ℤ)
        (array : Extent) → HasState b edge (Op.Move to from cells minus by place) s
        → (let o = origin_at b edge in o.form ≡ Forms.Move target)
        → (let v = value_of s from in let o = offsets_at v.pointers object in Has o.offsets (pos offset))
        → (let v = value_of s by in IsProduct v.numbers (directed (not minus) cells) step)
        → array_at b.laid object target offset ≡ Some array → Leaves object target array (pos offset +ℤ step)
        → IsOfMember place
    compared : {op : Operation} {left right : ℕ} (edge : ℕ) (s : State) → HasState b edge op s
        → Compares op left right → (let o = origin_at b edge in o.place ≡ place)
        → (let v = value_of s left in let w = value_of s right in
        Meets v.pointers w.pointers ⊎ Meets w.pointers v.pointers) → IsOfMember place
