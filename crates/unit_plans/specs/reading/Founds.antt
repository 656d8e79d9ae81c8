-- What the code has found so far of declarations that are left out.
use Rattle.unit_plans.specs.Copies.{Copies}
use Rattle.unit_plans.specs.declared.copies.Found.{Found}

abbrev pub copies_of : Found → Copies
copies_of found = record { knowns = found.knowns.items; kept = found.kept.items }
