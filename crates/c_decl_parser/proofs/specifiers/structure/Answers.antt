use Rattle.tm_trees.proofs.Rows.{specifier_tree-struct}
use Rattle.c_decl_parser.proofs.specifiers.structure.Goals as goal

pub returns : goal.returns
returns c = specifier_tree-struct c.args.tag c.args.members c.args.place
