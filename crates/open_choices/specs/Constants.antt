-- CONST: pointers that lose a `const`, or differ below (C99 6.5.16.1p1); and stores through pointers to what is
-- declared `const` (6.7.3p5).
use Rattle.std.specs.Prelude.{◌≡◌, ℕ, true, Contains}
use Rattle.tm_terms.specs.declared.places.Place.{Place}
use Rattle.flow_graph.specs.declared.operations.Operation.TheVariants as Op
use Rattle.flow_graph.specs.declared.operations.Into.TheVariants as Intos
use Rattle.post_recheck.specs.transfer_rows.StateForms.{State}
use Rattle.path_origins.specs.declared.origins.Passing.{Passing}
use Rattle.path_origins.specs.declared.origins.Passed.TheVariants as Passes
use Rattle.part_extents.specs.Parts.{is_constant, inside_of}
use Rattle.operand_orders.specs.Reached.{SolvedBody, HasState, targets}

module _ (b : SolvedBody) where
  pub data IsConst (place : Place) : Type 0 where
    given : (passing : Passing) → (let o = b.origins in Contains o.passings.items passing)
        → passing.passed ≡ Passes.Pointer → passing.place ≡ place → IsConst place
    stored : {edge address value : ℕ} {scalar : _} (s : State) (cell : ℕ)
        → HasState b edge (Op.Store address value scalar Intos.Pointed place) s
        → Contains (targets b scalar address s) cell → is_constant b.laid (inside_of b.laid cell) ≡ true
        → IsConst place
