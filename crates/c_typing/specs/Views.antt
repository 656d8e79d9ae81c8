-- What the code holds of files, as plain records.
use Rattle.std.specs.Prelude.{map, Option, Some, None, Result, Ok, Err}
use Rattle.tm_terms.specs.declared.refusals.Refusal.{Refusal}
use Rattle.tm_terms.specs.declared.refusals.Fail.{Fail}
use Rattle.tm_terms.specs.declared.refusals.Fail.TheVariants as Fails
use Rattle.tm_typed.specs.declared.files.TypedFile.{TypedFile}
use Rattle.tm_typed.specs.States.{State}
use Rattle.tm_typed.specs.Functions.{Head as PlainHead, FoundBody as PlainBody}
use Rattle.tm_typed.specs.Files.{FileState, TypedFileTree}
use Rattle.tm_typed.specs.TypedFiles.{typed_body_tree, typed_function_tree, typed_file_tree}
use Rattle.c_typing.specs.declared.heads.Head.{Head}
use Rattle.c_typing.specs.declared.bodies.FoundBody.{FoundBody}
use Rattle.c_typing.specs.declared.found.Found.{Found}

-- what is found so far
abbrev pub found_of : Found → FileState
found_of f = record {
  state = f.state;
  functions = map typed_function_tree f.functions.items;
  calls = map (λ v. v.items) f.calls.items;
  tasks = f.tasks.items;
  mutexes = f.mutexes.items;
  definitions = f.definitions.items;
}

abbrev pub head_of_code : Head → PlainHead
head_of_code h = record {
  name = h.name;
  place = h.place;
  result = h.result;
  parameters = h.parameters.items;
  is_definition = h.is_definition;
}

-- a body, with the state behind it
abbrev pub body_of : State → FoundBody → PlainBody
body_of s b = record { body = typed_body_tree b.body; calls = b.calls.items; state = s }

-- the answer that is given, where memory sufficed
abbrev pub answer_of : Result TypedFile Fail → Option (Result TypedFileTree Refusal)
answer_of (Ok f) = Some (Ok (typed_file_tree f))
answer_of (Err (Fails.Refused r)) = Some (Err r)
answer_of (Err Fails.NoMemory) = None
