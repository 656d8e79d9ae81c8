use Rattle.std.proofs.Common.{None, Some, map, sym, ap, ◌∙◌}
use Rattle.tm_trees.specs.DeclarationTrees.{init_declarator_tree}
use Rattle.c_decl_parser.specs.reading.Parts.{seen}
use Rattle.c_decl_parser.proofs.DeclarationSteps.{none_declared, declared_none, declared_read}
use Rattle.c_decl_parser.proofs.declarations.init_declarators.Goals as goal

pub returns-in-Some : goal.returns-in-Some
returns-in-Some c =
    ap (λ items. Some (map init_declarator_tree items, c.in-Some.rest.now)) c.new.ensures.items
    ∙ sym (none_declared c.args.types.now c.args.allowed c.args.tokens.now c.in-Some.rest.now (sym c.in-Some.ensures))

pub returns-in-Stuck : goal.returns-in-Stuck
returns-in-Stuck c =
    let stuck = sym c.in_ok-at-in-None.ensures ∙ ap (seen (λ v. map init_declarator_tree v.items)) c.in-Stuck.is in
    sym (declared_none c.args.types.now c.args.allowed c.args.tokens.now (sym c.in-None.ensures) stuck)

pub returns-in-None-after : goal.returns-in-None-after
returns-in-None-after c =
    let all = sym c.in_ok-at-in-None.ensures ∙ ap (seen (λ v. map init_declarator_tree v.items)) c.in-Found.is in
    sym (declared_read c.args.types.now c.args.allowed c.args.tokens.now
    (map init_declarator_tree c.in-Found.found.items) c.in-Found.next.now None
    (sym c.in-None.ensures) all (sym c.in-None-after.ensures))

pub returns-in-Some-after : goal.returns-in-Some-after
returns-in-Some-after c =
    let all = sym c.in_ok-at-in-None.ensures ∙ ap (seen (λ v. map init_declarator_tree v.items)) c.in-Found.is in
    sym (declared_read c.args.types.now c.args.allowed c.args.tokens.now
    (map init_declarator_tree c.in-Found.found.items) c.in-Found.next.now
    (Some c.in-Some-after.rest.now) (sym c.in-None.ensures) all (sym c.in-Some-after.ensures))
