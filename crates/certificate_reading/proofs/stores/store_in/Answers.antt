use Rattle.tm_laid.specs.Layouts.{laid_tree}
use Rattle.certificate_reading.proofs.Matches.{on_false, on_true}
use Rattle.certificate_reading.proofs.StoresRead.{no_store, store_is}
use Rattle.certificate_reading.proofs.stores.store_in.Goals as goal

pub returns-then-not-taken : goal.returns-then-not-taken
returns-then-not-taken c =
    no_store (laid_tree c.args.laid.now) c.args.ahead.now
    (on_false _ _ c.in_ok-taken.taken c.in_ok-taken.ensures c.if-not-taken.true).1

pub returns : goal.returns
returns c =
    store_is (laid_tree c.args.laid.now) c.args.ahead.now c.take.new.self c.nested_in.new.ahead
    c.nested_in-2.new.ahead c.in_ok-weak.weak c.in_ok-sync.sync c.from_parts.result
    (on_true _ _ c.in_ok-taken.taken c.in_ok-taken.ensures c.if-not-taken.false) c.in_ok-weak.ensures c.in_ok-sync.ensures
    c.from_parts.ensures
