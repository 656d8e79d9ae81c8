use Rattle.program_equality.proofs.SameLists.{same_numbers}
use Rattle.program_equality.proofs.lists.are_same_lists.Goals as goal

pub returns : goal.returns
returns c = same_numbers c.args.one.now c.args.other.now c.eq.result c.eq.ensures
