-- What is wrong with pointers is the same over a layout and over what the equations read of it.
use Rattle.std.proofs.Common.{◌≡◌, refl, false, List}
use Rattle.std.specs.Prelude.{get_or}
use Rattle.pointer_dom.specs.PointerSets.{offsets_at}
use Rattle.pointer_dom.specs.Values.{Values, no_value}
use Rattle.tm_laid.specs.Layouts.{LaidTree}
use Rattle.flow_graph.specs.declared.operations.Operation.{Operation}
use Rattle.flow_graph.specs.declared.operations.Operation.TheVariants as Op
use Rattle.program_reports.specs.post_recheck.program_equations.Readings.{read_layout}
use Rattle.program_reports.specs.post_recheck.program_equations.laws.ReadAlike.{alive_read, stands_read}
use Rattle.alarm_contexts.specs.declared.flaws.ObjectFlaw.{ObjectFlaw}
use Rattle.alarm_contexts.specs.Flaws.{IsWrongToFollow, IsWrong, HasFlaw}

pub flaw_read : (laid : LaidTree) (operation : Operation) (operands : List Values) (f : ObjectFlaw)
    → HasFlaw (read_layout laid) operation operands f ≡ HasFlaw laid operation operands f
unfolding IsWrong
flaw_read laid (Op.Deref to from target path place) operands f =
    let pointer = get_or operands 0 no_value in
    λ i. IsWrongToFollow (λ offset. stands_read laid f.object offset target i ≡ false)
    (alive_read laid path f.object i ≡ false) (offsets_at pointer.pointers f.object) f.flaw
flaw_read laid _ operands f = refl
