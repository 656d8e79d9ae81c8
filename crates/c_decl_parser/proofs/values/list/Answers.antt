use Rattle.tm_trees.proofs.Rows.{value_tree-list}
use Rattle.c_decl_parser.proofs.values.list.Goals as goal

pub returns : goal.returns
returns c = value_tree-list c.args.values c.args.place
