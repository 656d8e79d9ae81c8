-- IMPLEMENTATION: conversions to a signed type that may not hold the value (C99 6.3.1.3p3), and shifts to the right of
-- what may be negative (6.5.7p5).
use Rattle.std.specs.Prelude.{◌≡◌, ◌⊎◌, ℕ, ℤ, pos, ◌<ℤ◌}
use Rattle.tm_cint.specs.IntTypes.{lo_of, hi_of}
use Rattle.tm_cint.specs.declared.int_types.IntType.{IntType}
use Rattle.tm_cint.specs.declared.operators.BinOp.TheVariants as Ops
use Rattle.tm_terms.specs.declared.places.Place.{Place}
use Rattle.strided_dom.specs.Progression.{Has}
use Rattle.flow_graph.specs.declared.operations.Operation.TheVariants as Op
use Rattle.post_recheck.specs.transfer_rows.StateForms.{State, value_of}
use Rattle.operand_orders.specs.Reached.{SolvedBody, HasState, origin_at}

-- a signed type that does not hold the number
pub record IsBeyond (of : IntType) (n : ℤ) : Type 0 where
  pub signed : lo_of of <ℤ pos 0
  pub beyond : (n <ℤ lo_of of) ⊎ (hi_of of <ℤ n)

module _ (b : SolvedBody) where
  pub data IsOfImplementation (place : Place) : Type 0 where
    converted : {edge to from : ℕ} {was of : _} (s : State) (n : ℤ)
        → HasState b edge (Op.Convert to was of from) s → (let v = value_of s from in Has v.numbers n)
        → IsBeyond of n → (let o = origin_at b edge in o.place ≡ place) → IsOfImplementation place
    shifted : {edge to left right : ℕ} {of : _} (s : State) (n : ℤ)
        → HasState b edge (Op.Bin to Ops.Shr of left right place) s
        → (let v = value_of s left in Has v.numbers n) → n <ℤ pos 0 → IsOfImplementation place
