use Rattle.open_choices.proofs.Rising.{among}
use Rattle.open_choices.proofs.beginnings.is_among.Goals as goal

pub returns : goal.returns
returns c =
    among c.args.numbers.now c.args.number c.requires c.binary_search.result c.binary_search.ensures.position
    c.is_ok.result c.is_ok.ensures.value
