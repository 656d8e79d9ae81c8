use Rattle.std.proofs.Common.{◌≡◌, ◌∙◌, refl, sym, arith, subst, true}
use Rattle.cell_placings.specs.CellLists.{is_in}
use Rattle.cell_placings.specs.OwnerTrees.{tree_of, above_in}
use Rattle.cell_placings.specs.reading.Fronts.{way_of}
use Rattle.cell_placings.proofs.Checking.{climb_more, owned_more, fronts_end, fronts_broken}
use Rattle.cell_placings.proofs.checks.are_fronts_owned.Goals as goal

pub loop-init : goal.loop-init
loop-init c = record { climbs = refl; owned = λ k x lt e. absurd (omega (arith, lt)) }

pub loop-preserved : goal.loop-preserved
loop-preserved c =
    let tree = tree_of c.args.owners.now in
    record {
      climbs = c.node_above-node.ensures
          ∙ climb_more (above_in tree) c.loop.counter c.args.from c.loop.node c.loop.invariant.climbs;
      owned = owned_more tree c.args.from c.args.to c.loop.counter c.loop.node c.loop.invariant.climbs
          c.loop.invariant.owned
          (λ x e. c.are_owned.ensures.0 c.if-not-are_owned.false x
          (subst (λ xs. is_in xs x ≡ true) (sym c.listed-listed.ensures) e));
    }

pub returns-then-not-are_owned : goal.returns-then-not-are_owned
returns-then-not-are_owned c =
    fronts_broken (tree_of c.args.owners.now) c.args.from c.args.to c.loop.counter c.loop.node c.loop.invariant.climbs
    c.are_owned.result c.if-not-are_owned.true (omega (arith, c.way-steps.ensures))
    (λ all. c.are_owned.ensures.1 (λ x e. all x (subst (λ xs. is_in xs x ≡ true) c.listed-listed.ensures e)))

pub returns : goal.returns
returns c =
    let all : c.loop.counter ≡ way_of (tree_of c.args.owners.now) c.args.from c.args.to
    = omega (arith, c.way-steps.ensures) in
    fronts_end (tree_of c.args.owners.now) c.args.from c.args.to c.loop.counter c.loop.node c.loop.invariant.climbs
    c.node_above-end.result c.loop.invariant.owned all c.node_above-end.ensures
