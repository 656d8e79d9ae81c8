use Rattle.std.proofs.Common.{◌∙◌, ◌+◌, sym, ap, ℕ, List, min, nat_lt}
use Rattle.std.proofs.lemmas.Bool.{lt-ltb, le-ltb}
use Rattle.tm_typed.specs.TypedFiles.{typed_file_tree}
use Rattle.cell_layout.specs.reading.Counts.{beyond_number, of_statics, sum_of, total_in}
use Rattle.cell_layout.proofs.LimitCounts.{tested}
use Rattle.cell_layout.proofs.limits.within.Goals as goal

pub returns-then-count_all-number : goal.returns-then-count_all-number
returns-then-count_all-number c =
    let file = typed_file_tree c.args.file.now in
    let total : ℕ → ℕ = total_in c.in_ok-totals.totals.items in
    let e = c.count_all.ensures ∙ ap (λ (xs : List ℕ). min (beyond_number c.args.limit) (of_statics file c.args.limit file.statics + sum_of (total_in xs) c.args.bodies.now)) c.deref.ensures.value in
    sym (tested c.args.scale file c.args.file.now.order.items c.args.limit c.in_ok-totals.totals.items c.args.bodies.now c.count_all.result c.requires.layable c.requires.path c.in_ok-totals.ensures c.requires.bodies e)
    ∙ ap (λ (n : ℕ). nat_lt n c.count_all.result) (sym c.number.ensures) ∙ lt-ltb c.number.result c.count_all.result c.if-count_all-number.true

pub returns-else-count_all-number : goal.returns-else-count_all-number
returns-else-count_all-number c =
    let file = typed_file_tree c.args.file.now in
    let e = c.count_all.ensures ∙ ap (λ (xs : List ℕ). min (beyond_number c.args.limit) (of_statics file c.args.limit file.statics + sum_of (total_in xs) c.args.bodies.now)) c.deref.ensures.value in (
      sym (tested c.args.scale file c.args.file.now.order.items c.args.limit c.in_ok-totals.totals.items c.args.bodies.now c.count_all.result c.requires.layable c.requires.path c.in_ok-totals.ensures c.requires.bodies e)
          ∙ ap (λ (n : ℕ). nat_lt n c.count_all.result) (sym c.number.ensures) ∙ le-ltb c.number.result c.count_all.result c.if-count_all-number.false,
      c.in_ok-totals.ensures,
    )
