use Rattle.std.proofs.Common.{◌≡◌, ℕ, length, ap, ◌∙◌, arith, rules}
use Rattle.tm_laid.specs.declared.layouts.Laid.{Laid}
use Rattle.tm_laid.specs.Layouts.{laid_tree}
use Rattle.mutex_configs.specs.declared.nodes.ConfiguredGraph.{ConfiguredGraph}
use Rattle.body_slots.specs.reading.Bodies.{is_seen_in}
use Rattle.body_slots.proofs.slots.BodySlots.new.Goals as goal

pub returns : goal.returns
returns c =
    let w = c.args.body.now in
    let copies : length c.configured-configured.result.now.copies.items ≡ length w.configured.copies.items =
    ap (λ (q : ConfiguredGraph). length q.copies.items) c.configured-configured.ensures in
    record {
      nodes = c.len-3.ensures.len ∙ ap (λ (q : ConfiguredGraph). length q.nodes.keys) c.configured-configured.ensures;
      links = c.in_ok-links_of.ensures;
      seen = λ x. c.in_ok-cells.ensures.seen x
          ∙ (ap (λ (l : Laid). is_seen_in (laid_tree l) c.task.result x) c.laid-laid.ensures
          ∙ ap (λ (t : ℕ). is_seen_in (laid_tree w.laid) t x) c.task.ensures);
      small = c.in_ok-cells.ensures.small;
      touched_each = first_of (omega arith, grind arith, search rules);
      carried_each = first_of (omega arith, grind arith, search rules);
      looked_each = first_of (omega arith, grind arith, search rules);
      rounded = c.in_ok-rounded_sets.ensures;
      placed = rw c.in-Some.is at c.in_ok-placing.ensures.placed;
      tree_each = rw c.in-Some.is at c.in_ok-placing.ensures.nodes;
      numbered = rw c.in-Some-2.is at c.in_ok-numbers.ensures;
    }
