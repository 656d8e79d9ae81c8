use Rattle.std.proofs.Common.{max, length, [], sym, ◌∙◌, arith}
use Rattle.c_expr_parser.proofs.Tokens.{from_some}
use Rattle.tm_trees.specs.FileTrees.{tallest_item}
use Rattle.c_parser.proofs.FileComplete.{items_complete}
use Rattle.c_parser.proofs.laws.one_file.Goals as goal

pub returns : goal.returns
returns c = λ items others ts s r.
    let h = max (tallest_item items) (tallest_item others) in
    from_some (sym (items_complete items h (length ts) [] [] ts s (omega arith) (omega arith)) ∙ items_complete others h (length ts) [] [] ts r (omega arith) (omega arith))
