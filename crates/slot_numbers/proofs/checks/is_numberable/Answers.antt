use Rattle.std.proofs.Common.{◌≡◌, ◌∙◌, sym, subst, true, false, length, get_or, ◌<◌, List, ℕ, rules}
use Rattle.std.specs.Prelude.{EachIndex}
use Rattle.slot_numbers.proofs.Lists.{all_below, below_each, same_sets}
use Rattle.slot_numbers.proofs.checks.is_numberable.Goals as goal

pub returns-then-not-are_below : goal.returns-then-not-are_below
returns-then-not-are_below c = (
  λ e. absurd cc,
  λ p. absurd (let yes = c.are_below.ensures.1
      (subst (λ (xs : List ℕ). EachIndex xs (λ k. get_or xs k 0 < c.cells-end.result)) (sym c.cells-listed.ensures.same)
      (subst (λ e. EachIndex c.args.cells.now (λ k. get_or c.args.cells.now k 0 < e)) (sym c.cells-end.ensures)
      (below_each c.args.cells.now c.args.placing.now.cells p.placed))) in
      let no = c.if-not-are_below.true in let clash : true ≡ false = sym yes ∙ no in cc),
)

pub returns-then-not-are_counted : goal.returns-then-not-are_counted
returns-then-not-are_counted c = (
  λ e. absurd cc,
  λ p. absurd (let yes = c.are_counted.ensures.1
      (same_sets c.args.cells.now c.args.graph.now.touched.items c.as_slice-touched.result.now
      (length c.args.graph.now.links.items) c.len-edges.result (search rules) (search rules) p.touched) in
      let no = c.if-not-are_counted.true in let clash : true ≡ false = sym yes ∙ no in cc),
)

pub returns : goal.returns
returns c = (
  λ y. record {
    placed = all_below c.args.cells.now c.args.placing.now.cells
        (subst (λ e. EachIndex c.args.cells.now (λ k. get_or c.args.cells.now k 0 < e)) c.cells-end.ensures
        (subst (λ (xs : List ℕ). EachIndex xs (λ k. get_or xs k 0 < c.cells-end.result)) c.cells-listed.ensures.same
        (c.are_below.ensures.0 c.if-not-are_below.false)));
    touched = same_sets c.args.cells.now c.as_slice-touched.result.now c.args.graph.now.touched.items c.len-edges.result
        (length c.args.graph.now.links.items) (search rules) (search rules)
        (c.are_counted.ensures.0 c.if-not-are_counted.false);
    looked = same_sets c.args.cells.now c.as_slice-looked.result.now c.args.graph.now.looked.items c.len-edges.result
        (length c.args.graph.now.links.items) (search rules) (search rules) (c.are_counted-2.ensures.0 y);
  },
  λ p. c.are_counted-2.ensures.1 (same_sets c.args.cells.now c.args.graph.now.looked.items c.as_slice-looked.result.now
      (length c.args.graph.now.links.items) c.len-edges.result (search rules) (search rules) p.looked),
)
