use Rattle.page_pieces.proofs.Escapes.{is_escaped_plain}
use Rattle.page_pieces.proofs.laws.no_markup.Goals as goal

pub returns : goal.returns
returns c = is_escaped_plain
