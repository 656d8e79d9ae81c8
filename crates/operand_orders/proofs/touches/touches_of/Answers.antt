use Rattle.operand_orders.proofs.touches.touches_of.Goals as goal

pub returns : goal.returns
returns c = record {
  tables = record {
    loads = c.in_ok-loads.ensures.table;
    stores = c.in_ok-stores.ensures.table;
    changes = c.in_ok-changes.ensures.table;
    waits = c.in_ok-waits.ensures.marks;
    seen = c.in_ok-seen.ensures.marks;
    acting = c.in_ok-acting.ensures.marks;
  };
  loads = c.in_ok-loads.ensures;
  stores = c.in_ok-stores.ensures;
  changes = c.in_ok-changes.ensures;
  waits = c.in_ok-waits.ensures;
  seen = c.in_ok-seen.ensures;
  acting = c.in_ok-acting.ensures;
}
