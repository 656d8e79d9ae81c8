use Rattle.std.proofs.Common.{◌≢◌, ℕ, refl, sym, subst, arith}
use Rattle.std.specs.FinMap.{get}
use Rattle.tm_lattice.specs.Tables.{Table}
use Rattle.pointer_dom.specs.Values.{Values, no_value}
use Rattle.interfere_set.specs.Stores.{value_or_none}
use Rattle.std.proofs.lemmas.Bool.{true≢false}
use Rattle.operand_orders.proofs.Leaving.{leaves_by, leaves_none}
use Rattle.operand_orders.proofs.others.leaves_in.Goals as goal

pub returns-then-has_value : goal.returns-then-has_value
returns-then-has_value c = (
  λ t. leaves_by c.args.written.now c.args.cell c.entries-sets.result.now c.entries-sets.ensures c.loop-index.index
      c.index-sets-index.result (omega arith) c.index-sets-index.is
      (subst (λ (e : ℕ × Table Values). value_or_none (get e.1 c.args.cell) ≢ no_value) (sym c.index-sets-index.is)
      (c.has_value.ensures.0 c.if-has_value.true)),
  λ h. refl,
)

pub returns : goal.returns
returns c = (
  λ t. absurd (true≢false (sym t)),
  λ h. absurd (leaves_none c.args.written.now c.args.cell c.entries-sets.result.now c.entries-sets.ensures
      c.loop-index.index (omega arith) c.loop-index.invariant h),
)
