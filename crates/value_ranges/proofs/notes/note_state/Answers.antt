use Rattle.std.proofs.Common.{◌≡◌, ◌+◌, ◌∙◌, ℕ, ap, length, refl, sym, subst, arith, Vec}
use Rattle.std.specs.declared.alloc.Global.{Global}
use Rattle.std.specs.Option.{option_copied}
use Rattle.pointer_dom.specs.Values.{Values}
use Rattle.program_reports.specs.post_recheck.transfer_rows.StateForms.{own_of, own_value}
use Rattle.value_ranges.specs.reading.Notes.{Noted, AreWidened, Below, IsInCell, IsInFirst, no_integer_cell}
use Rattle.value_ranges.proofs.Widening.{begins, goes_on, stays, cell_noted, cell_silent}
use Rattle.value_ranges.proofs.notes.note_state.Goals as goal
use Rattle.value_ranges.proofs.notes.note_state.Goals.{in-Some, in_default}

pub loop-index-init : goal.loop-index-init
loop-index-init c = begins (IsInCell c.args.cells.now (own_of c.args.state.now)) c.args.noted.now.items

pub note_numbers-requires : goal.note_numbers-requires
note_numbers-requires c =
    let lt = c.requires c.loop-index.index no_integer_cell c.loop-index-test.true in
    let same = c.loop-index.invariant.count in
    omega (arith, lt, same)

pub loop-index-preserved : goal.loop-index-preserved
loop-index-preserved c =
    let cells = c.args.cells.now in
    let i = c.loop-index.index in
    let value : ℕ → Values = own_of c.args.state.now in
    let Notes = λ (v : Vec Noted Global). AreWidened (λ o n. Below (IsInCell cells value o n) (i + 1))
    c.args.noted.now.items v.items in
    elim c.match-cell.branch [
      | in-Some w ↦ subst Notes (sym w.noted-is)
          (goes_on (IsInCell cells value) i c.args.noted.now.items c.loop-index.noted.items
          w.note_numbers.new.noted.items
          c.loop-index.invariant
          (cell_noted cells i _ refl value w.numbers.result
          (ap (λ v. v.numbers) (ap own_value (sym c.cell.ensures ∙ ap option_copied w.in-Some.is))
          ∙ sym w.numbers.ensures)
          c.loop-index.noted.items w.note_numbers.new.noted.items w.note_numbers.ensures))
      | in_default w ↦ subst Notes (sym w.noted-is)
          (stays (IsInCell cells value) i c.args.noted.now.items c.loop-index.noted.items c.loop-index.invariant
          (cell_silent cells i _ refl value _
          (ap (λ v. v.numbers) (ap own_value (sym c.cell.ensures ∙ ap option_copied w.in_default.is))) refl))
    ]

pub returns : goal.returns
returns c =
    let end : c.loop-index.index ≡ length c.args.cells.now = omega arith in
    subst (λ i. AreWidened (λ o n. IsInFirst c.args.cells.now (own_of c.args.state.now) i o n) c.args.noted.now.items
    c.loop-index.noted.items) end c.loop-index.invariant
