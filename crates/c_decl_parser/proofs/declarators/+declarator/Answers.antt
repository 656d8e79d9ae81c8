use Rattle.std.proofs.Common.{◌≡◌, ◌-◌, List, Option, IfOk, sym, ap, ◌∙◌, subst, arith}
use Rattle.tm_terms.specs.declared.tokens.Token.{Token}
use Rattle.tm_trees.specs.DeclarationTrees.{DeclaratorTree, declarator_tree}
use Rattle.c_decl_parser.specs.reading.Parts.{seen}
use Rattle.c_decl_parser.proofs.DeclarationSteps.{named_is, nested_is, declarator_low, declarator_unnamed}
use Rattle.c_decl_parser.proofs.DeclarationSteps.{declarator_stuck, declarator_open, declarator_behind}
use Rattle.c_decl_parser.proofs.declarators.+declarator.Goals as goal

pub declarator_after-returns-in-Some-declared_at : goal.declarator_after-returns-in-Some-declared_at
declarator_after-returns-in-Some-declared_at t c =
    let found = c.in-Some-declared_at in
    let same = named_is c.args.member c.args.types.now c.args.allowed (c.args.allowed - 1) c.args.pointers.items c.args.tokens.now found.name found.place found.rest.now (omega arith) (sym c.in-None.ensures) (sym found.ensures) in
    subst (λ (w : Option (DeclaratorTree × List Token)). IfOk c.named.result (λ read. seen declarator_tree read ≡ w)) same c.named.ensures

pub declarator_after-returns-in-Some-after : goal.declarator_after-returns-in-Some-after
declarator_after-returns-in-Some-after t c =
    let inside = sym c.in_ok-at-in-Some.ensures ∙ ap (seen declarator_tree) c.in-Found.is in
    let same = nested_is c.args.member c.args.types.now c.args.allowed (c.args.allowed - 1) c.args.pointers.items c.args.tokens.now c.in-Some.opened.now (declarator_tree c.in-Found.inside) c.in-Found.next.now c.in-Some-after.rest.now (omega arith) (sym c.in-Some.ensures) inside (sym c.in-Some-after.ensures) in
    subst (λ (w : Option (DeclaratorTree × List Token)). IfOk c.nested.result (λ read. seen declarator_tree read ≡ w)) same c.nested.ensures

pub declarator_after-returns-then-allowed-eq0 : goal.declarator_after-returns-then-allowed-eq0
declarator_after-returns-then-allowed-eq0 t c =
    declarator_low c.args.member c.args.types.now c.args.allowed c.args.pointers.items c.args.tokens.now (omega arith)

pub declarator_after-returns-in-None-declared_at : goal.declarator_after-returns-in-None-declared_at
declarator_after-returns-in-None-declared_at t c =
    declarator_unnamed c.args.member c.args.types.now c.args.allowed c.args.pointers.items c.args.tokens.now
    (c.args.allowed - 1) (omega arith) (sym c.in-None.ensures) (sym c.in-None-declared_at.ensures)

pub declarator_after-returns-in-Stuck : goal.declarator_after-returns-in-Stuck
declarator_after-returns-in-Stuck t c =
    let stuck = sym c.in_ok-at-in-Some.ensures ∙ ap (seen declarator_tree) c.in-Stuck.is in
    declarator_stuck c.args.member c.args.types.now c.args.allowed c.args.pointers.items c.args.tokens.now
    (c.args.allowed - 1) c.in-Some.opened.now (omega arith) (sym c.in-Some.ensures) stuck

pub declarator_after-returns-in-None-after : goal.declarator_after-returns-in-None-after
declarator_after-returns-in-None-after t c =
    let inside = sym c.in_ok-at-in-Some.ensures ∙ ap (seen declarator_tree) c.in-Found.is in
    declarator_open c.args.member c.args.types.now c.args.allowed c.args.pointers.items c.args.tokens.now
    (c.args.allowed - 1) c.in-Some.opened.now (declarator_tree c.in-Found.inside) c.in-Found.next.now (omega arith)
    (sym c.in-Some.ensures) inside (sym c.in-None-after.ensures)

pub declarator-returns : goal.declarator-returns
declarator-returns t c =
    let same = declarator_behind c.args.member c.args.types.now c.args.allowed c.args.tokens.now
    c.in_ok-pointers.pointers.items c.in_ok-pointers.rest.now c.in_ok-pointers.ensures in
    subst (λ (w : Option (DeclaratorTree × List Token)). IfOk c.declarator_after.result
    (λ read. seen declarator_tree read ≡ w)) same c.declarator_after.ensures
