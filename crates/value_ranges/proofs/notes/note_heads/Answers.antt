use Rattle.std.proofs.Common.{◌≡◌, ◌+◌, ◌∙◌, length, sym, subst, arith, Vec}
use Rattle.std.specs.declared.alloc.Global.{Global}
use Rattle.value_ranges.specs.reading.Notes.{Noted, AreWidened, IsInNoted, IsInHeads, is_noted}
use Rattle.value_ranges.proofs.Widening.{begins, goes_on, stays, of_those}
use Rattle.value_ranges.proofs.Noting.{looked_noted, not_looked}
use Rattle.value_ranges.proofs.notes.note_heads.Goals as goal
use Rattle.value_ranges.proofs.notes.note_heads.Goals.{then-is_noted, else-is_noted}

pub loop-node-init : goal.loop-node-init
loop-node-init c =
    let f = c.args.facts.now in
    begins (IsInNoted c.args.cells.now (is_noted c.args.all f.heads f.written c.args.nodes.now) c.args.table.now)
    c.args.noted.now.items

pub note_node-requires : goal.note_node-requires
note_node-requires c =
    of_those c.args.cells.now c.args.noted.now.items c.loop-node.noted.items c.requires c.loop-node.invariant.count

pub loop-node-preserved : goal.loop-node-preserved
loop-node-preserved c =
    let cells = c.args.cells.now in
    let f = c.args.facts.now in
    let looks = is_noted c.args.all f.heads f.written c.args.nodes.now in
    let table = c.args.table.now in
    let i = c.loop-node.node in
    let Notes = λ (v : Vec Noted Global). AreWidened (λ o n. IsInHeads cells looks table (i + 1) o n)
    c.args.noted.now.items v.items in
    elim c.if-is_noted.branch [
      | then-is_noted w ↦ subst Notes (sym w.noted-is)
          (goes_on (IsInNoted cells looks table) i c.args.noted.now.items c.loop-node.noted.items
          w.note_node.new.noted.items c.loop-node.invariant
          (looked_noted cells looks table i (sym c.is_noted.ensures ∙ w.if-is_noted.true) c.loop-node.noted.items
          w.note_node.new.noted.items w.note_node.ensures))
      | else-is_noted w ↦ subst Notes (sym w.noted-is)
          (stays (IsInNoted cells looks table) i c.args.noted.now.items c.loop-node.noted.items c.loop-node.invariant
          (not_looked cells looks table i (sym c.is_noted.ensures ∙ w.if-is_noted.false)))
    ]

pub returns : goal.returns
returns c =
    let f = c.args.facts.now in
    let end : c.loop-node.node ≡ length c.args.table.now = omega arith in
    subst (λ i. AreWidened (λ o n. IsInHeads c.args.cells.now
    (is_noted c.args.all f.heads f.written c.args.nodes.now) c.args.table.now i o n) c.args.noted.now.items
    c.loop-node.noted.items) end c.loop-node.invariant
