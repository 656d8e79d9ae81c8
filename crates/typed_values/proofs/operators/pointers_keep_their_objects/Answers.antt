use Rattle.typed_values.specs.laws.ObjectsKept.{part_objects, element_objects, moved_objects, reached_objects}
use Rattle.typed_values.specs.laws.ObjectsKept.{left_objects, right_objects}
use Rattle.typed_values.proofs.operators.pointers_keep_their_objects.Goals as goal

pub returns : goal.returns
returns c = record {
  parts = part_objects;
  elements = element_objects;
  moves = moved_objects;
  dereferences = reached_objects;
  left = left_objects;
  right = right_objects;
}
