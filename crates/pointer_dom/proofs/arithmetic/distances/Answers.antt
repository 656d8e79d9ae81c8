use Rattle.std.proofs.Common.{arith, subst}
use Rattle.strided_dom.specs.Combinations.{IsProduct}
use Rattle.pointer_dom.proofs.StepFacts.{distances_in_reach, distance_short, directed_kept}
use Rattle.pointer_dom.proofs.arithmetic.distances.Goals as goal

pub times-requires : goal.times-requires
times-requires c = distances_in_reach c.args.forward c.args.cells c.args.counts.now _ (omega (arith, c.ranges.cells)) c.requires (directed_kept c.args.forward c.args.cells c.signed_cells.result (omega (arith, c.ranges.cells)) c.signed_cells.ensures)

pub returns-clause-short : goal.returns-clause-short
returns-clause-short c = λ n m. distance_short c.args.forward c.args.cells c.args.counts.now _ (omega (arith, c.ranges.cells)) c.requires (directed_kept c.args.forward c.args.cells c.signed_cells.result (omega (arith, c.ranges.cells)) c.signed_cells.ensures) n
    (subst (λ x. IsProduct c.args.counts.now x n) (directed_kept c.args.forward c.args.cells c.signed_cells.result (omega (arith, c.ranges.cells)) c.signed_cells.ensures) (c.times.ensures.sound n m))
