use Rattle.std.proofs.Common.{List, ℕ, sym, subst}
use Rattle.graph_facts.specs.reading.Live.{HasPut, IsBrought, IsRisingList}
use Rattle.graph_facts.proofs.Puts.{brought_by}
use Rattle.graph_facts.proofs.live.brought.Goals as goal

pub put_some-requires : goal.put_some-requires
put_some-requires c = subst (λ (xs : List ℕ). IsRisingList xs) (sym c.in_ok-list.ensures.items) c.requires

pub returns : goal.returns
returns c =
    subst (λ (xs : List ℕ). HasPut (IsBrought c.args.operation c.args.behind.now) xs c.put_others.new.list.items) c.in_ok-list.ensures.items
    (brought_by c.args.operation c.used-uses.result c.args.behind.now c.in_ok-list.list.items c.put_some.new.list.items c.put_some-2.new.list.items c.put_others.new.list.items c.used-uses.ensures
    c.in_ok-put_some.ensures c.in_ok-put_some-2.ensures c.in_ok-put_others.ensures)
