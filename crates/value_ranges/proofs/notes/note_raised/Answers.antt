use Rattle.std.proofs.Common.{◌≡◌, ◌+◌, length, get_or, sym, subst, arith, Vec}
use Rattle.std.specs.declared.alloc.Global.{Global}
use Rattle.program_reports.specs.post_recheck.task_equations.Bodies.{no_copy}
use Rattle.value_ranges.specs.reading.Notes.{Noted, AreWidened, IsInRaised, IsInCopies, raised_to}
use Rattle.value_ranges.proofs.Widening.{begins, goes_on, stays, of_those}
use Rattle.value_ranges.proofs.Noting.{raised_noted, not_raised}
use Rattle.value_ranges.proofs.notes.note_raised.Goals as goal
use Rattle.value_ranges.proofs.notes.note_raised.Goals.{in-Some, in_default}

pub loop-index-init : goal.loop-index-init
loop-index-init c =
    begins (IsInRaised c.args.cells.now c.args.edges.now c.args.copies.now c.args.table.now) c.args.noted.now.items

pub note_node-requires : goal.note_node-requires
note_node-requires c =
    of_those c.args.cells.now c.args.noted.now.items c.loop-index.noted.items c.requires c.loop-index.invariant.count

pub loop-index-preserved : goal.loop-index-preserved
loop-index-preserved c =
    let cells = c.args.cells.now in
    let edges = c.args.edges.now in
    let copies = c.args.copies.now in
    let table = c.args.table.now in
    let i = c.loop-index.index in
    let to : raised_to edges (get_or copies i no_copy) ≡ c.raised_to.result = sym c.raised_to.ensures in
    let Notes = λ (v : Vec Noted Global). AreWidened (λ o n. IsInCopies cells edges copies table (i + 1) o n)
    c.args.noted.now.items v.items in
    elim c.match-raised_to.branch [
      | in-Some w ↦ subst Notes (sym w.noted-is)
          (goes_on (IsInRaised cells edges copies table) i c.args.noted.now.items c.loop-index.noted.items
          w.note_node.new.noted.items c.loop-index.invariant
          (raised_noted cells edges copies table i c.raised_to.result to w.in-Some.node w.in-Some.is
          c.loop-index.noted.items w.note_node.new.noted.items w.note_node.ensures))
      | in_default w ↦ subst Notes (sym w.noted-is)
          (stays (IsInRaised cells edges copies table) i c.args.noted.now.items c.loop-index.noted.items
          c.loop-index.invariant
          (not_raised cells edges copies table i c.raised_to.result to w.in_default.is))
    ]

pub returns : goal.returns
returns c =
    let end : c.loop-index.index ≡ length c.args.copies.now = omega arith in
    subst (λ i. AreWidened (λ o n. IsInCopies c.args.cells.now c.args.edges.now c.args.copies.now c.args.table.now i
    o n) c.args.noted.now.items c.loop-index.noted.items) end c.loop-index.invariant
