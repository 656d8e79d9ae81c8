use Rattle.std.proofs.Common.{arith}
use Rattle.cell_placings.proofs.checks.are_placed.Goals as goal

pub returns : goal.returns
returns c = (
  λ y. record {
    is_tree = c.is_tree.ensures.0 c.if-not-is_tree.false;
    cells = omega arith;
    edges = c.are_edges_placed.ensures.0 c.if-not-are_edges_placed.false;
    rounded = c.are_rounded_owned.ensures.0 y;
  },
  λ p. c.are_rounded_owned.ensures.1 p.rounded,
)
