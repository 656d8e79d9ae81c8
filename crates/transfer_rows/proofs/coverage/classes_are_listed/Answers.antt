use Rattle.std.proofs.Common.{subst, refl}
use Rattle.interfere_set.specs.pointer_dom.Values.{IsValueIn}
use Rattle.transfer_rows.specs.StateForms.{value_of}
use Rattle.transfer_rows.specs.Reports.{IsListed}
use Rattle.transfer_rows.proofs.CoverSteps.{in_temp}
use Rattle.transfer_rows.proofs.CoverValues.{fails_in}
use Rattle.transfer_rows.proofs.coverage.classes_are_listed.Goals as goal

pub returns : goal.returns
unfolding IsListed
returns c = record {
  calculations = λ around sizes s temps target calculation class ins sized lives h. fails_in sizes s temps ins sized calculation class lives h;
  invalid = λ around s temps source ins live e. (refl, subst (λ w. IsValueIn (value_of s source) w) e (in_temp s temps source ins live));
  relock = λ around s m held. (refl, held);
  foreign_unlock = λ around s m free. (refl, free);
}
