use Rattle.std.proofs.Common.{rules}
use Rattle.slot_numbers.proofs.Flat.{counted}
use Rattle.slot_numbers.proofs.flat_lists.FlatLists.len.Goals as goal

pub returns : goal.returns
returns c =
    let same = counted c.self.inside.ends.items c.self.inside.numbers.items c.args.self.now c.self.view_is in search rules
