use Rattle.pointer_dom.proofs.Meaning.{in_rounded, in_object, rounded_in_object}
use Rattle.pointer_dom.proofs.laws.pointers_stay_in_their_objects.Goals as goal

pub returns-clause-kept : goal.returns-clause-kept
returns-clause-kept c = in_rounded

pub returns-clause-within : goal.returns-clause-within
returns-clause-within c = in_object

pub returns-clause-rounded : goal.returns-clause-rounded
returns-clause-rounded c = rounded_in_object
