use Rattle.std.proofs.Common.{◌+◌, ◌-◌, List, length, map, sym, ap, ◌∙◌, arith}
use Rattle.tm_trees.specs.DeclarationTrees.{EnumeratorTree, enumerator_tree}
use Rattle.c_decl_parser.specs.reading.Parts.{seen}
use Rattle.c_decl_parser.specs.reading.Repetitions.{braced}
use Rattle.c_decl_parser.specs.reading.DeclarationDescent.{enumerator}
use Rattle.c_decl_parser.proofs.RepetitionSteps.{pushed_tree, braced_done, braced_end, braced_unparted, braced_last, braced_stuck, braced_next}
use Rattle.c_decl_parser.proofs.enumerations.further_enumerators.Goals as goal

pub returns-in-Some : goal.returns-in-Some
returns-in-Some c =
    sym (braced_end (enumerator c.args.types.now c.args.allowed) (length c.args.tokens.now - c.constants._i) (length c.args.tokens.now - (c.constants._i + 1)) (map enumerator_tree c.constants.found.items) c.constants.rest.now c.in-Some.end.now (omega arith) (sym c.in-Some.ensures)) ∙ c.constants.invariant

pub returns-in-None-after : goal.returns-in-None-after
returns-in-None-after c =
    sym (braced_unparted (enumerator c.args.types.now c.args.allowed) (length c.args.tokens.now - c.constants._i) (length c.args.tokens.now - (c.constants._i + 1)) (map enumerator_tree c.constants.found.items) c.constants.rest.now (omega arith) (sym c.in-None.ensures) (sym c.in-None-after.ensures)) ∙ c.constants.invariant

pub returns-in-Some-after-2 : goal.returns-in-Some-after-2
returns-in-Some-after-2 c =
    sym (braced_last (enumerator c.args.types.now c.args.allowed) (length c.args.tokens.now - c.constants._i) (length c.args.tokens.now - (c.constants._i + 1)) (map enumerator_tree c.constants.found.items) c.constants.rest.now c.in-Some-after.parted.now c.in-Some-after-2.last.now (omega arith) (sym c.in-None.ensures) (sym c.in-Some-after.ensures) (sym c.in-Some-after-2.ensures)) ∙ c.constants.invariant

pub returns-in-Stuck : goal.returns-in-Stuck
returns-in-Stuck c =
    let stuck = sym c.in_ok-at-in-None-after-2.ensures ∙ ap (seen enumerator_tree) c.in-Stuck.is in
    sym (braced_stuck (enumerator c.args.types.now c.args.allowed) (length c.args.tokens.now - c.constants._i) (length c.args.tokens.now - (c.constants._i + 1)) (map enumerator_tree c.constants.found.items) c.constants.rest.now c.in-Some-after.parted.now (omega arith) (sym c.in-None.ensures) (sym c.in-Some-after.ensures) (sym c.in-None-after-2.ensures) stuck) ∙ c.constants.invariant

pub constants-preserved : goal.constants-preserved
constants-preserved c =
    let one = sym c.in_ok-at-in-None-after-2.ensures ∙ ap (seen enumerator_tree) c.in-Found.is in
    ap (λ (found : List EnumeratorTree). braced (enumerator c.args.types.now c.args.allowed) (length c.args.tokens.now - (c.constants._i + 1)) found c.in-Found.next.now) (pushed_tree enumerator_tree _ _ _ c.in_ok-push-in-Found.ensures)
    ∙ sym (braced_next (enumerator c.args.types.now c.args.allowed) (length c.args.tokens.now - c.constants._i) (length c.args.tokens.now - (c.constants._i + 1)) (map enumerator_tree c.constants.found.items) c.constants.rest.now c.in-Some-after.parted.now (enumerator_tree c.in-Found.constant) c.in-Found.next.now (omega arith) (sym c.in-None.ensures) (sym c.in-Some-after.ensures) (sym c.in-None-after-2.ensures) one) ∙ c.constants.invariant

pub returns : goal.returns
returns c =
    sym (braced_done (enumerator c.args.types.now c.args.allowed) (length c.args.tokens.now - c.constants._i) (map enumerator_tree c.constants.found.items) c.constants.rest.now (omega arith)) ∙ c.constants.invariant
