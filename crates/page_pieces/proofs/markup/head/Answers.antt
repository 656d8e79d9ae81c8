use Rattle.std.proofs.Common.{refl}
use Rattle.page_pieces.specs.Markup.{head_text}
use Rattle.page_pieces.proofs.markup.head.Goals as goal

pub returns : goal.returns
unfolding head_text
returns c = refl
