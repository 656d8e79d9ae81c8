use Rattle.transfer_rows.proofs.Covers.{lock_covers, unlock_covers, held_covers, free_covers}
use Rattle.transfer_rows.proofs.coverage.mutexes_are_covered.Goals as goal

pub returns : goal.returns
returns c = record {
  locks = λ around s temps store m ins s-is store-is free. lock_covers around s temps ins s-is store store-is m free;
  unlocks = λ around s temps store m ins held. unlock_covers around s temps ins m store held;
  finds_held = λ around s temps store m target ins. held_covers around s temps ins m target store;
  finds_free = λ around s temps store m target ins s-is store-is free. free_covers around s temps ins s-is store store-is m target free;
}
