use Rattle.std.proofs.Common.{sym, subst, Bool, true, List}
use Rattle.request_circles.specs.declared.numbers.Numbers.{Numbers}
use Rattle.request_circles.specs.reading.Trims.{IsTrimmed}
use Rattle.request_circles.proofs.Trimming.{trimmed_more}
use Rattle.request_circles.proofs.trims.trim_once.Goals as goal
use Rattle.request_circles.proofs.trims.trim_once.Goals.{then-is_loose, else-is_loose}

pub loop-number-preserved : goal.loop-number-preserved
loop-number-preserved c =
    let requests = c.args.requests.now in
    let first = c.args.left.now.marks.items in
    let left = c.loop-number.left.marks.items in
    let k = c.loop-number.number in
    elim c.if-is_loose.branch [
      | then-is_loose w ↦ subst (λ (b : Bool). IsTrimmed requests first c.if-is_loose.left.marks.items b)
          (sym w.trimmed-is)
          (subst (λ (n : Numbers). IsTrimmed requests first n.marks.items true) (sym w.left-is)
          (subst (λ (ms : List Bool). IsTrimmed requests first ms true) (sym w.put.ensures)
          (trimmed_more requests first left c.loop-number.trimmed k c.loop-number.invariant
          (c.is_loose.ensures w.if-is_loose.true))))
      | else-is_loose w ↦ subst (λ (b : Bool). IsTrimmed requests first c.if-is_loose.left.marks.items b)
          (sym w.trimmed-is)
          (subst (λ (n : Numbers). IsTrimmed requests first n.marks.items c.loop-number.trimmed) (sym w.left-is)
          c.loop-number.invariant)
    ]
