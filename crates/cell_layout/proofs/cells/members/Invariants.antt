use Rattle.tm_typed.specs.TypedFiles.{typed_file_tree}
use Rattle.cell_layout.proofs.PartSteps.{AreMembers}
use Rattle.cell_layout.proofs.cells.members.Given as goal

abbrev pub invariant-loop-member : goal.invariant-loop-member
invariant-loop-member l = AreMembers (typed_file_tree l.file) l.fn.part l.k l.member-index l.parts.items l.next
