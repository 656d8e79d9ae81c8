use Rattle.std.proofs.Common.{◌∙◌, ap, length, get_or, None}
use Rattle.table_covers.proofs.covers.covered_nodes.Goals as goal

pub covered_heads-requires-clause-arrived : goal.covered_heads-requires-clause-arrived
covered_heads-requires-clause-arrived g c = λ κs within.
    ap length c.deref.ensures.value ∙ c.in_ok-arrived.ensures.nodes

pub covered_heads-requires-clause-all : goal.covered_heads-requires-clause-all
covered_heads-requires-clause-all g c = λ κs within n lt head.
    ap (λ xs. get_or xs n None) c.deref.ensures.value ∙ c.in_ok-arrived.ensures.all n lt head
