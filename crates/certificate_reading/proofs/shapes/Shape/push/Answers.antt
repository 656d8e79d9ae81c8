use Rattle.std.proofs.Common.{refl, ◌∙◌, sym}
use Rattle.tm_laid.specs.Layouts.{laid_tree}
use Rattle.certificate_reading.proofs.ShapesMade.{unseen, shared_next, local_next}
use Rattle.certificate_reading.proofs.shapes.Shape.push.Goals as goal

pub returns-then-not-seen : goal.returns-then-not-seen
returns-then-not-seen c =
    unseen (laid_tree c.args.laid.now) c.args.task c.args.cell c.args.self.now
    record {
      kinds = c.push.new.self;
      seen = c.args.self.now.seen;
      shared = c.args.self.now.shared;
      local = c.args.self.now.local;
      marks = c.push-2.new.self;
      mask = c.args.self.now.mask;
    }
    c.is_reachable-seen.result
    record {
      there = c.requires.cell;
      cell = c.index-of.result.now;
      cell_is = c.index-of.ensures;
      seen_is = c.is_reachable-seen.ensures;
      before = c.requires.before;
      extent = c.scalar_extent.result;
      extent_is = c.scalar_extent.ensures;
      kinds = c.in_ok-push.ensures.items;
      marks = c.in_ok-push-2.ensures.items;
      mask = refl;
    }
    c.if-not-seen.true refl refl refl

pub returns-then-is_shared_cell : goal.returns-then-is_shared_cell
returns-then-is_shared_cell c =
    shared_next (laid_tree c.args.laid.now) c.args.task c.args.cell c.args.self.now
    record {
      kinds = c.push.new.self;
      seen = c.push-3.new.self;
      shared = c.push-then-is_shared_cell.new.self;
      local = c.args.self.now.local;
      marks = c.push-2.new.self;
      mask = c.args.self.now.mask;
    }
    c.is_reachable-seen.result
    record {
      there = c.requires.cell;
      cell = c.index-of.result.now;
      cell_is = c.index-of.ensures;
      seen_is = c.is_reachable-seen.ensures;
      before = c.requires.before;
      extent = c.scalar_extent.result;
      extent_is = c.scalar_extent.ensures;
      kinds = c.in_ok-push.ensures.items;
      marks = c.in_ok-push-2.ensures.items;
      mask = refl;
    }
    c.if-not-seen.false (sym c.is_shared_cell.ensures ∙ c.if-is_shared_cell.true) c.in_ok-push-3.ensures.items
    c.in_ok-push-4.ensures.items refl

pub returns : goal.returns
returns c =
    local_next (laid_tree c.args.laid.now) c.args.task c.args.cell c.args.self.now
    record {
      kinds = c.push.new.self;
      seen = c.push-3.new.self;
      shared = c.args.self.now.shared;
      local = c.push-4.new.self;
      marks = c.push-2.new.self;
      mask = c.args.self.now.mask;
    }
    c.is_reachable-seen.result
    record {
      there = c.requires.cell;
      cell = c.index-of.result.now;
      cell_is = c.index-of.ensures;
      seen_is = c.is_reachable-seen.ensures;
      before = c.requires.before;
      extent = c.scalar_extent.result;
      extent_is = c.scalar_extent.ensures;
      kinds = c.in_ok-push.ensures.items;
      marks = c.in_ok-push-2.ensures.items;
      mask = refl;
    }
    c.if-not-seen.false (sym c.is_shared_cell.ensures ∙ c.if-is_shared_cell.false) c.in_ok-push-3.ensures.items refl
    c.in_ok-push-5.ensures.items
