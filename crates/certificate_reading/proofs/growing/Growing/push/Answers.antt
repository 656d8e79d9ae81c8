use Rattle.std.proofs.Common.{◌∙◌, ap, subst, [], ◌∷◌, ◌++◌, arith}
use Rattle.certificate_reading.specs.Entries.{place_number}
use Rattle.std.specs.FinMap.{entries}
use Rattle.certificate_reading.specs.Nesting.{AllBelow}
use Rattle.certificate_reading.proofs.Rising.{below_raise, grown_more, grown_turned}
use Rattle.certificate_reading.proofs.growing.Growing.push.Goals as goal

pub put_behind-requires-after_bounds : goal.put_behind-requires-after_bounds
put_behind-requires-after_bounds c κs =
    let turned = c.turn_to.new.self in
    below_raise turned.next.cell c.args.entry.place.cell (entries turned.cells) c.in_ok-turn_to.ensures.cell
    c.in_ok-turn_to.ensures.growing.cells

pub returns-clause-growing : goal.returns-clause-growing
returns-clause-growing c =
    let turned = c.turn_to.new.self in
    let small = c.requires.small.cell in
    record {
      tasks = subst (λ k. AllBelow k (entries turned.tasks)) c.in_ok-turn_to.ensures.task
          c.in_ok-turn_to.ensures.growing.tasks;
      sets = subst (λ k. AllBelow k (entries turned.sets)) c.in_ok-turn_to.ensures.set
          c.in_ok-turn_to.ensures.growing.sets;
      cells = c.in_ok-put_behind.ensures.below;
      set = c.requires.small.set;
      cell = omega (arith, small);
    }

pub returns-clause-grown : goal.returns-clause-grown
returns-clause-grown c =
    let turned = c.turn_to.new.self in
    let place = c.args.entry.place in
    grown_more (entries turned.tasks) place.task place.set (entries turned.sets) (entries turned.cells)
    (entries c.put_behind.new.table) (place.cell, c.args.entry.value) (c.in_ok-put_behind.ensures.some c.requires.some)
    ∙ ap (λ es. es ++ (place_number place, c.args.entry) ∷ [])
    (grown_turned (entries turned.tasks) (entries turned.sets) (entries turned.cells) place.task place.set
    turned.next.task turned.next.set c.in_ok-turn_to.ensures.task c.in_ok-turn_to.ensures.set
    ∙ c.in_ok-turn_to.ensures.grown)
