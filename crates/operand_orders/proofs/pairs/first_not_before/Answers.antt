use Rattle.std.proofs.Common.{◌+◌, ◌-◌, ◌/◌, ◌<◌, length, sym, ◌∙◌, arith}
use Rattle.std.proofs.lemmas.Bool.{true≢false}
use Rattle.operand_orders.specs.reading.Pairs.{pair}
use Rattle.operand_orders.proofs.Halving.{before_middle, after_middle}
use Rattle.operand_orders.proofs.pairs.first_not_before.Goals as goal

pub loop-low-preserved : goal.loop-low-preserved
loop-low-preserved c =
    let m = c.loop-low.low + (c.loop-low.high - c.loop-low.low) / 2 in
    let i = c.loop-low.invariant in
    let pairs = c.args.pairs.now in
    let within : m < length pairs = omega (arith, i.within) in
    record {
      ordered = omega arith;
      within = omega arith;
      before = i.before;
      after = after_middle pairs (pair c.args.first c.args.second) c.requires m within
          (λ h. true≢false (sym (c.is_before.ensures.1 h) ∙ c.if-is_before.false));
    }

pub loop-low-preserved-then-is_before : goal.loop-low-preserved-then-is_before
loop-low-preserved-then-is_before c =
    let m = c.loop-low.low + (c.loop-low.high - c.loop-low.low) / 2 in
    let i = c.loop-low.invariant in
    let pairs = c.args.pairs.now in
    let within : m < length pairs = omega (arith, i.within) in
    record {
      ordered = omega arith;
      within = i.within;
      before = before_middle pairs (pair c.args.first c.args.second) c.requires m within (c.is_before.ensures.0
          c.if-is_before.true);
      after = i.after;
    }

pub returns : goal.returns
returns c =
    let i = c.loop-low.invariant in record {
      within = omega (arith, i.within);
      before = i.before;
      after = λ k le lt. i.after k (omega arith) lt;
    }
