use Rattle.std.proofs.Common.{◌∙◌, ap}
use Rattle.std.specs.FinMap.{insert}
use Rattle.interfere_set.proofs.Entries.{none_removed}
use Rattle.interfere_set.proofs.stores.table_of.Goals as goal

pub returns-clause-none : goal.returns-clause-none
returns-clause-none g c = λ none. none_removed c.args.key c.put.new.self c.new-table.result (c.in_ok-put.ensures.nothing none) c.new-table.ensures

pub returns-clause-some : goal.returns-clause-some
returns-clause-some g c = λ some. c.in_ok-put.ensures.written some ∙ ap (λ t. insert t c.args.key c.args.value) c.new-table.ensures
