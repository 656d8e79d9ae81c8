use Rattle.std.proofs.Common.{◌≡◌, refl, arith, subst, rules}
use native.Mathlib.Decide.{dec_lt}
use Rattle.cell_placings.specs.OwnerTrees.{tree_of}
use Rattle.cell_placings.specs.Checks.{IsBelowAnother}
use Rattle.cell_placings.proofs.checks.is_tree.Goals as goal

pub loop-node-preserved : goal.loop-node-preserved
loop-node-preserved c = λ n pos lt.
    elim (dec_lt n c.loop-node.node) [
      | yes l ↦ c.loop-node.invariant n pos l
      | no m ↦ (let here : c.loop-node.node ≡ n = omega (arith, m, lt) in
          subst (λ k. IsBelowAnother c.args.nodes (tree_of c.args.owners.now) k) here
          (c.is_below_another.ensures.0 c.if-not-is_below_another.false))
    ]

pub returns : goal.returns
returns c = (
  λ e. record {
    some_node = omega arith;
    above_each = search rules;
    depth_each = search rules;
    owned_each = search rules;
    top = search rules;
    above_top = search rules;
    others = λ n pos lt. c.loop-node.invariant n pos (omega (arith, lt));
  },
  λ h. refl,
)
