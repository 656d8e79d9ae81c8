-- What the code holds of typed bodies, functions and files, as plain records.
use Rattle.std.specs.Prelude.{map, Option, Some, None, option_map}
use Rattle.tm_typed.specs.declared.files.TypedBody.{TypedBody}
use Rattle.tm_typed.specs.declared.files.TypedFunction.{TypedFunction}
use Rattle.tm_typed.specs.declared.files.TypedStatic.{TypedStatic}
use Rattle.tm_typed.specs.declared.files.TypedFile.{TypedFile}
use Rattle.tm_typed.specs.Scopes.{structure_of}
use Rattle.tm_typed.specs.States.{Static}
use Rattle.tm_typed.specs.TypedStatements.{as_typed_trees}
use Rattle.tm_typed.specs.Functions.{TypedBodyTree}
use Rattle.tm_typed.specs.Files.{TypedFunctionTree, TypedFileTree}

abbrev pub typed_body_tree : TypedBody → TypedBodyTree
typed_body_tree b = record {
  locals = b.locals.items;
  parameters = b.parameters;
  statements =
      as_typed_trees b.statements.items;
}

abbrev pub typed_function_tree : TypedFunction → TypedFunctionTree
typed_function_tree f = record {
  name = f.name;
  place = f.place;
  result = f.result;
  parameters = f.parameters.items;
  body = option_map typed_body_tree f.body;
}

abbrev pub typed_static_tree : TypedStatic → Static
typed_static_tree s = record {
  name = s.name;
  place = s.place;
  of = s.of;
  defined = s.defined;
  initialised = s.initialised;
  given = s.given.items;
}

abbrev pub typed_file_tree : TypedFile → TypedFileTree
typed_file_tree f = record {
  types = f.types.items;
  structs = map structure_of f.structs.items;
  statics = map typed_static_tree f.statics.items;
  functions = map typed_function_tree f.functions.items;
  calls = map (λ v. v.items) f.calls.items;
  tasks = f.tasks.items;
  mutexes = f.mutexes.items;
  main = f.main;
  lengths = f.lengths.items;
  constants = f.constants.items;
  labels = f.labels.items;
  sizes = f.sizes.items;
}
