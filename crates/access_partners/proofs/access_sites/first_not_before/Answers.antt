use Rattle.std.proofs.Common.{◌+◌, ◌-◌, ◌/◌, ◌<◌, length, sym, ◌∙◌, arith}
use Rattle.std.proofs.lemmas.Bool.{true≢false}
use Rattle.access_partners.specs.reading.Accesses.{access_at}
use Rattle.access_partners.proofs.Search.{before_is, before_middle, after_middle}
use Rattle.access_partners.proofs.access_sites.first_not_before.Goals as goal

pub loop-low-preserved : goal.loop-low-preserved
loop-low-preserved c =
    let m = c.loop-low.low + (c.loop-low.high - c.loop-low.low) / 2 in
    let i = c.loop-low.invariant in
    let accesses = c.args.accesses.now in
    let within : m < length accesses = omega (arith, i.within) in
    record {
      ordered = omega arith;
      within = omega arith;
      before = i.before;
      after = after_middle accesses c.args.access c.requires m within
          (λ h. true≢false (sym ((before_is (access_at accesses m) c.args.access).1 h) ∙ sym c.is_before.ensures
          ∙ c.if-is_before.false));
    }

pub loop-low-preserved-then-is_before : goal.loop-low-preserved-then-is_before
loop-low-preserved-then-is_before c =
    let m = c.loop-low.low + (c.loop-low.high - c.loop-low.low) / 2 in
    let i = c.loop-low.invariant in
    let accesses = c.args.accesses.now in
    let within : m < length accesses = omega (arith, i.within) in
    record {
      ordered = omega arith;
      within = i.within;
      before = before_middle accesses c.args.access c.requires m within
          ((before_is (access_at accesses m) c.args.access).0 (sym c.is_before.ensures ∙ c.if-is_before.true));
      after = i.after;
    }

pub returns : goal.returns
returns c =
    let i = c.loop-low.invariant in record {
      within = omega (arith, i.within);
      before = i.before;
      after = λ k le lt. i.after k (omega arith) lt;
    }
