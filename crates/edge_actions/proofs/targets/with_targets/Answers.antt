use Rattle.std.proofs.Common.{◌≡◌, ◌++◌, sym, ap, ◌∙◌, arith}
use Rattle.std.proofs.lemmas.List.{append-nil}
use Rattle.tm_laid.specs.Layouts.{laid_tree}
use Rattle.edge_actions.specs.reading.Spans.{cells_led}
use Rattle.edge_actions.proofs.LeadingCells.{led_start, led_end, led_yes, led_no}
use Rattle.edge_actions.proofs.targets.with_targets.Goals.{then-has_offset+in_ok-targets, else-has_offset}
use Rattle.edge_actions.proofs.targets.with_targets.Goals as goal

pub loop-offset-init : goal.loop-offset-init
loop-offset-init c =
    let none = led_start (laid_tree c.args.laid.now) c.args.scalar c.args.object c.args.offsets.now.offsets _ _ _ c.span_of-span.ensures in
    sym (append-nil c.args.before.items) ∙ ap (λ xs. c.args.before.items ++ xs) (sym none)

pub loop-offset-preserved : goal.loop-offset-preserved
loop-offset-preserved c =
    let a = c.args in
    let n = c.loop-offset.offset in
    elim c.if-has_offset.branch [
      | then-has_offset+in_ok-targets w ↦
          ap (λ t. t.items) w.targets-is
          ∙ led_yes (laid_tree a.laid.now) a.scalar a.object a.offsets.now.offsets a.before.items c.loop-offset.targets.items n c.loop-offset.invariant _
          (sym c.has_offset.ensures ∙ w.if-has_offset.true) w.in_ok-targets.ensures
      | else-has_offset w ↦
          ap (λ t. t.items) w.targets-is
          ∙ led_no (laid_tree a.laid.now) a.scalar a.object a.offsets.now.offsets a.before.items c.loop-offset.targets.items n c.loop-offset.invariant
          (sym c.has_offset.ensures ∙ w.if-has_offset.false)
    ]

pub returns : goal.returns
returns c =
    let a = c.args in
    let laid = laid_tree a.laid.now in
    let span = c.span_of-span.ensures in
    let n = c.loop-offset.offset in
    let most = c.loop-offset.auto.offset-end in
    let ordered = span.ordered in
    let last : n ≡ c.span_of-span.result.end = omega (arith, c.loop-offset-test.false, most ordered) in
    c.loop-offset.invariant
    ∙ ap (λ k. a.before.items ++ cells_led laid a.scalar a.object a.offsets.now.offsets k) last
    ∙ ap (λ xs. a.before.items ++ xs) (led_end laid a.scalar a.object a.offsets.now.offsets _ _ _ span)
    ∙ ap (λ o. a.before.items ++ cells_led laid a.scalar a.object a.offsets.now.offsets o.cells) c.object_at.ensures
