use Rattle.std.proofs.Common.{◌∙◌, sym}
use Rattle.tm_typed.specs.Scopes.{structure_of}
use Rattle.program_equality.proofs.SameLists.{same_more, same_there}
use Rattle.program_equality.proofs.types.are_same_structures.Goals as goal

pub returns-then-not-is_same_structure : goal.returns-then-not-is_same_structure
returns-then-not-is_same_structure c = (
  λ e. absurd cc,
  λ e. sym c.if-not-is_same_structure.true
      ∙ c.is_same_structure.ensures.1 (same_there structure_of c.args.one.now c.args.other.now c.loop-index.index
      c.index-one-index.result c.index-other-index.result c.if-one-other.false c.loop-index-test.true c.index-one-index.is
      c.index-other-index.is e),
)

pub loop-index-preserved : goal.loop-index-preserved
loop-index-preserved c =
    same_more structure_of c.args.one.now c.args.other.now c.loop-index.index c.index-one-index.result c.index-other-index.result
    c.if-one-other.false c.loop-index-test.true c.index-one-index.is c.index-other-index.is c.loop-index.invariant
    (c.is_same_structure.ensures.0 c.if-not-is_same_structure.false)
