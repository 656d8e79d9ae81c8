use Rattle.std.proofs.Common.{◌≡◌, ◌-◌, List, Option, None, Some, IfOk, sym, ap, ◌∙◌, subst, arith}
use Rattle.tm_terms.specs.declared.tokens.Token.{Token}
use Rattle.tm_trees.specs.DeclarationTrees.{InitDeclaratorTree, declarator_tree, init_declarator_tree}
use Rattle.c_decl_parser.specs.reading.Parts.{seen}
use Rattle.c_decl_parser.proofs.DeclarationSteps.{init_declarator_is}
use Rattle.c_decl_parser.proofs.declarations.init_declarator_after.Goals as goal

pub returns-in-Stuck : goal.returns-in-Stuck
returns-in-Stuck c =
    init_declarator_is c.args.types.now c.args.allowed (c.args.allowed - 1) (omega arith) c.args.pointers.items c.args.tokens.now None (sym c.in_ok-at.ensures ∙ ap (seen declarator_tree) c.in-Stuck.is)

pub returns-in-Found : goal.returns-in-Found
returns-in-Found c =
    let same = init_declarator_is c.args.types.now c.args.allowed (c.args.allowed - 1) (omega arith) c.args.pointers.items c.args.tokens.now (Some (declarator_tree c.in-Found.declarator, c.in-Found.next.now)) (sym c.in_ok-at.ensures ∙ ap (seen declarator_tree) c.in-Found.is) in
    subst (λ (w : Option (InitDeclaratorTree × List Token)). IfOk c.valued.result (λ read. seen init_declarator_tree read ≡ w)) same c.valued.ensures
