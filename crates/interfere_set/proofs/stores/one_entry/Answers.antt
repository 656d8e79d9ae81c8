use Rattle.std.proofs.Common.{◌≡◌}
use Rattle.std.proofs.lemmas.Result.{IfOk-weaker}
use Rattle.std.specs.FinMap.{insert, empty}
use Rattle.pointer_dom.specs.Values.{no_value}
use Rattle.interfere_set.specs.Stores.{nested_entry}
use Rattle.interfere_set.proofs.Entries.{three_entries}
use Rattle.interfere_set.proofs.stores.one_entry.Goals as goal

pub returns-clause-none : goal.returns-clause-none
returns-clause-none c = IfOk-weaker c.table_of-3.result (λ t. c.in_ok-sets.sets ≡ empty → t ≡ empty) (λ t. c.args.value ≡ no_value → t ≡ empty)
    (λ t most none. most (c.in_ok-sets.ensures.none (c.in_ok-cells.ensures.none none))) c.table_of-3.ensures.none

pub returns-clause-some : goal.returns-clause-some
returns-clause-some c = IfOk-weaker c.table_of-3.result (λ t. (c.in_ok-sets.sets ≡ empty → ⊥) → t ≡ insert empty c.args.task c.in_ok-sets.sets)
    (λ t. (c.args.value ≡ no_value → ⊥) → t ≡ nested_entry c.args.task c.args.set c.args.cell c.args.value)
    (λ t most some. three_entries c.args.task c.args.set c.args.cell c.args.value c.in_ok-cells.cells c.in_ok-sets.sets t (c.in_ok-cells.ensures.some some) c.in_ok-sets.ensures.some most)
    c.table_of-3.ensures.some
