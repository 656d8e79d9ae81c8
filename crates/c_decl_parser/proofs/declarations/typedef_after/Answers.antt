use Rattle.std.proofs.Common.{◌≡◌, ◌-◌, List, Option, None, Some, IfOk, sym, ap, ◌∙◌, subst, arith}
use Rattle.tm_terms.specs.declared.tokens.Name.{Name}
use Rattle.tm_terms.specs.declared.tokens.Token.{Token}
use Rattle.tm_terms.specs.Names.{with_typedef}
use Rattle.c_expr_parser.specs.reading.Parts.{then_read}
use Rattle.tm_trees.specs.DeclarationTrees.{InitialiserTree, InitDeclaratorTree, declared_name, declarator_tree, init_declarator_tree}
use Rattle.c_decl_parser.specs.reading.Parts.{seen}
use Rattle.c_decl_parser.specs.reading.DeclarationDescent.{initialiser, typedef_after}
use Rattle.c_decl_parser.proofs.DeclarationSteps.{typedef_is, answered_with}
use Rattle.c_decl_parser.proofs.declarations.typedef_after.Goals as goal

pub returns-in-Stuck : goal.returns-in-Stuck
returns-in-Stuck c =
    typedef_is c.args.types.now c.args.allowed (c.args.allowed - 1) (omega arith) c.args.pointers.items c.args.tokens.now None (sym c.in_ok-at.ensures ∙ ap (seen declarator_tree) c.in-Stuck.is)

pub returns-in_ok-add-in-Found : goal.returns-in_ok-add-in-Found
returns-in_ok-add-in-Found c =
    let d = declarator_tree c.in-Found.declarator in
    let before = c.args.types.now in
    let new = c.add.new.self in
    let added : new ≡ with_typedef before (declared_name d) = c.in_ok-add-in-Found.ensures.ok ∙ ap (with_typedef before) c.declared_name-name.ensures in
    let one : Option InitialiserTree → InitDeclaratorTree = λ i. record { declarator = d; initialiser = i } in
    let whole : List Name → Option ((InitDeclaratorTree × List Name) × List Token) = λ names. then_read (initialiser names (c.args.allowed - 1) c.in-Found.next.now) (λ i rest. Some ((one i, names), rest)) in
    let same : whole new ≡ typedef_after before c.args.allowed c.args.pointers.items c.args.tokens.now =
    ap whole added ∙ typedef_is before c.args.allowed (c.args.allowed - 1) (omega arith) c.args.pointers.items c.args.tokens.now (Some (d, c.in-Found.next.now)) (sym c.in_ok-at.ensures ∙ ap (seen declarator_tree) c.in-Found.is) in
    subst (λ (w : Option ((InitDeclaratorTree × List Name) × List Token)). IfOk c.valued.result (λ read. seen {B = InitDeclaratorTree × List Name} (λ x. (init_declarator_tree x, new)) read ≡ w)) same
    (answered_with init_declarator_tree new one (initialiser new (c.args.allowed - 1) c.in-Found.next.now) c.valued.result c.valued.ensures)
