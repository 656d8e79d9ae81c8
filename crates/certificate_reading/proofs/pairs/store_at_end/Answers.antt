use Rattle.std.proofs.Common.{◌∙◌, sym}
use Rattle.tm_laid.specs.Layouts.{laid_tree}
use Rattle.certificate_reading.proofs.Matches.{on_false, on_true}
use Rattle.certificate_reading.proofs.PairsRead.{no_end, not_last, last}
use Rattle.certificate_reading.proofs.pairs.store_at_end.Goals as goal

pub returns-then-not-taken : goal.returns-then-not-taken
returns-then-not-taken c =
    no_end (laid_tree c.args.laid.now) c.args.ahead.now c.store_in.new.ahead c.in_ok-found.found c.in_ok-found.ensures
    (on_false _ _ c.in_ok-taken.taken c.in_ok-taken.ensures c.if-not-taken.true).1

pub returns-then-is_at_end : goal.returns-then-is_at_end
returns-then-is_at_end c =
    last (laid_tree c.args.laid.now) c.args.ahead.now c.store_in.new.ahead c.take.new.self
    (on_true _ _ c.in_ok-taken.taken c.in_ok-taken.ensures c.if-not-taken.false) c.in_ok-found.found c.in_ok-found.ensures
    (c.is_at_end.ensures.0 c.if-is_at_end.true)

pub returns-else-is_at_end : goal.returns-else-is_at_end
returns-else-is_at_end c =
    not_last (laid_tree c.args.laid.now) c.args.ahead.now c.store_in.new.ahead c.take.new.self
    (on_true _ _ c.in_ok-taken.taken c.in_ok-taken.ensures c.if-not-taken.false) c.in_ok-found.found c.in_ok-found.ensures
    (λ none. (let e = sym (c.is_at_end.ensures.1 none) ∙ c.if-is_at_end.false in cc))
