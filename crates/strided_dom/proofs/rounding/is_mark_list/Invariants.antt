use Rattle.strided_dom.proofs.MarkLists.{IsMarksUpTo}
use Rattle.strided_dom.proofs.rounding.is_mark_list.Given as goal

abbrev pub invariant-loop-i : goal.invariant-loop-i
invariant-loop-i l = IsMarksUpTo l.ends l.i l.last
