use Rattle.slot_numbers.proofs.Noting.{noted_at}
use Rattle.slot_numbers.proofs.readers.note.Goals as goal

pub returns : goal.returns
returns c =
    noted_at c.args.number c.args.lists.now c.args.source c.index-lists-source.result c.push.new.self c.requires
    c.in_ok-push.ensures
