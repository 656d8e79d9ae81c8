use Rattle.std.proofs.Common.{subst}
use Rattle.interfere_set.specs.pointer_dom.Values.{IsValueIn}
use Rattle.transfer_rows.specs.StateForms.{value_of}
use Rattle.transfer_rows.proofs.CoverSteps.{in_temp}
use Rattle.transfer_rows.proofs.Covers.{target_found, load_covers, load_any_covers, store_covers}
use Rattle.transfer_rows.proofs.coverage.accesses_are_covered.Goals as goal

pub returns : goal.returns
returns c = record {
  targets = λ spots s temps address spot ins live among e. target_found spots (value_of s address).pointers spot among (subst (λ w. IsValueIn (value_of s address) w) e (in_temp s temps address ins live));
  loads = λ around s temps store spots target address x w cell ins s-is store-is among found. load_covers around s temps ins s-is store store-is spots target address x w among cell found;
  volatile_loads = λ around s temps store spots target address x range w ins among h. load_any_covers around s temps ins spots target address x range w store among h;
  stores = λ around s temps store spots address source x ins s-is among cell live. store_covers around s temps ins s-is spots address source x (temps source) store among cell (in_temp s temps source ins live);
}
