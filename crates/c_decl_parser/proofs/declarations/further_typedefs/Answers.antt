use Rattle.std.proofs.Common.{◌+◌, ◌-◌, List, length, map, sym, ap, ◌∙◌, arith}
use Rattle.tm_trees.specs.DeclarationTrees.{InitDeclaratorTree, init_declarator_tree}
use Rattle.c_decl_parser.specs.reading.Parts.{seen}
use Rattle.c_decl_parser.specs.reading.DeclarationDescent.{typedefs_from}
use Rattle.c_decl_parser.proofs.RepetitionSteps.{pushed_tree}
use Rattle.c_decl_parser.proofs.DeclarationSteps.{typedefs_stop, typedefs_done, typedefs_stuck, typedefs_next}
use Rattle.c_decl_parser.proofs.declarations.further_typedefs.Goals as goal

pub returns-in-None : goal.returns-in-None
returns-in-None c =
    sym (typedefs_stop c.args.allowed (length c.args.tokens.now - c.typedefs._i) c.typedefs.types (map init_declarator_tree c.typedefs.found.items) c.typedefs.rest.now (sym c.in-None.ensures)) ∙ c.typedefs.invariant

pub returns-in-Stuck : goal.returns-in-Stuck
returns-in-Stuck c =
    let stuck = sym c.in_ok-at-in-Some.ensures ∙ ap (seen (λ d. (init_declarator_tree d, c.typedef_declarator.new.types))) c.in-Stuck.is in
    sym (typedefs_stuck c.args.allowed (length c.args.tokens.now - c.typedefs._i) (length c.args.tokens.now - (c.typedefs._i + 1)) c.typedefs.types (map init_declarator_tree c.typedefs.found.items) c.typedefs.rest.now c.in-Some.parted.now (omega arith) (sym c.in-Some.ensures) stuck) ∙ c.typedefs.invariant

pub typedefs-preserved : goal.typedefs-preserved
typedefs-preserved c =
    let one = sym c.in_ok-at-in-Some.ensures ∙ ap (seen (λ d. (init_declarator_tree d, c.typedef_declarator.new.types))) c.in-Found.is in
    ap (λ (found : List InitDeclaratorTree). typedefs_from c.args.allowed (length c.args.tokens.now - (c.typedefs._i + 1)) c.typedef_declarator.new.types found c.in-Found.next.now) (pushed_tree init_declarator_tree _ _ _ c.in_ok-push-in-Found.ensures)
    ∙ sym (typedefs_next c.args.allowed (length c.args.tokens.now - c.typedefs._i) (length c.args.tokens.now - (c.typedefs._i + 1)) c.typedefs.types (map init_declarator_tree c.typedefs.found.items) c.typedefs.rest.now c.in-Some.parted.now (init_declarator_tree c.in-Found.declarator) c.typedef_declarator.new.types c.in-Found.next.now (omega arith) (sym c.in-Some.ensures) one) ∙ c.typedefs.invariant

pub returns : goal.returns
returns c =
    sym (typedefs_done c.args.allowed (length c.args.tokens.now - c.typedefs._i) c.typedefs.types (map init_declarator_tree c.typedefs.found.items) c.typedefs.rest.now (omega arith)) ∙ c.typedefs.invariant
