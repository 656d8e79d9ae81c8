use Rattle.std.proofs.Common.{map, sym}
use Rattle.tm_trees.specs.DeclarationTrees.{specifier_trees, init_declarator_tree}
use Rattle.c_declarations.proofs.LoneTags.{not_alone, with_declarators}
use Rattle.c_declarations.proofs.declarations.lone_tag.Goals as goal

pub returns-then-specifiers-ne1 : goal.returns-then-specifiers-ne1
returns-then-specifiers-ne1 c =
    sym (not_alone c.args.specifiers.now (map init_declarator_tree c.args.declarators.now) c.if-specifiers-ne1.true)

pub returns-then-declarators-ne0 : goal.returns-then-declarators-ne0
returns-then-declarators-ne0 c =
    sym (with_declarators (specifier_trees c.args.specifiers.now) c.args.declarators.now c.if-declarators-ne0.true)
