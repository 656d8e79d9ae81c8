use Rattle.congruence_dom.proofs.Ranges.{code_product}
use Rattle.congruence_dom.proofs.arithmetic.product.Goals as goal

pub returns : goal.returns
returns c = code_product _ _ c.ranges.x c.ranges.y c.requires.left c.requires.right
