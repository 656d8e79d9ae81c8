use Rattle.std.proofs.Common.{◌+◌, ◌-◌, List, length, map, None, Some, sym, ap, ◌∙◌, arith}
use Rattle.tm_trees.specs.DeclarationTrees.{LengthTree, optional_tree, length_tree}
use Rattle.c_decl_parser.specs.reading.Parts.{seen}
use Rattle.c_decl_parser.specs.reading.DeclarationDescent.{lengths_from}
use Rattle.c_decl_parser.proofs.RepetitionSteps.{pushed_tree}
use Rattle.c_decl_parser.proofs.DeclarationSteps.{lengths_stop, lengths_done, lengths_go}
use Rattle.c_decl_parser.proofs.declarators.lengths.Goals as goal

pub returns-in-None : goal.returns-in-None
returns-in-None c =
    sym (lengths_stop c.args.types.now c.args.allowed (length c.args.tokens.now - c.lengths._i) (map length_tree c.lengths.found.items) c.lengths.rest.now (sym c.in-None.ensures)) ∙ c.lengths.invariant

pub returns-in-Stuck : goal.returns-in-Stuck
returns-in-Stuck c =
    let stuck = sym c.in_ok-at-in-Some.ensures ∙ ap (seen optional_tree) c.in-Stuck.is in
    sym (lengths_go c.args.types.now c.args.allowed (length c.args.tokens.now - c.lengths._i) (length c.args.tokens.now - (c.lengths._i + 1)) (map length_tree c.lengths.found.items) c.lengths.rest.now c.in-Some.place c.in-Some.inside.now None (omega arith) (sym c.in-Some.ensures) stuck)
    ∙ c.lengths.invariant

pub lengths-preserved : goal.lengths-preserved
lengths-preserved c =
    let one = sym c.in_ok-at-in-Some.ensures ∙ ap (seen optional_tree) c.in-Found.is in
    let rest = length c.args.tokens.now - (c.lengths._i + 1) in
    ap (λ (found : List LengthTree). lengths_from c.args.types.now c.args.allowed rest found c.in-Found.next.now) (pushed_tree length_tree _ _ _ c.in_ok-push-in-Found.ensures)
    ∙ sym (lengths_go c.args.types.now c.args.allowed (length c.args.tokens.now - c.lengths._i) rest (map length_tree c.lengths.found.items) c.lengths.rest.now c.in-Some.place c.in-Some.inside.now (Some (optional_tree c.in-Found.value, c.in-Found.next.now)) (omega arith) (sym c.in-Some.ensures) one)
    ∙ c.lengths.invariant

pub returns : goal.returns
returns c =
    sym (lengths_done c.args.types.now c.args.allowed (length c.args.tokens.now - c.lengths._i) (map length_tree c.lengths.found.items) c.lengths.rest.now (omega arith)) ∙ c.lengths.invariant
