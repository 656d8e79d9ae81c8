-- The bodies of a typed file are well formed, in the file's own tables.
use Rattle.std.specs.Prelude.{is_some, List, [], All, map, length, Option, Some, None, Ok}
use Rattle.tm_laid.specs.tm_terms.declared.tokens.Name.{Name}
use Rattle.tm_laid.specs.tm_trees.FileTrees.{ItemTree}
use Rattle.tm_laid.specs.tm_typed.declared.files.LocalEntry.{LocalEntry}
use Rattle.tm_laid.specs.tm_typed.Scopes.{Function}
use Rattle.tm_laid.specs.tm_typed.Functions.{TypedBodyTree}
use Rattle.tm_laid.specs.tm_typed.Files.{TypedFunctionTree, TypedFileTree, IsTyped}
use Rattle.tm_laid.specs.tm_typed.WellTyped.{Context}
use Rattle.typed_file_laws.specs.Lawful.{object_type, IsNumber}
use Rattle.typed_file_laws.specs.Bodies.{AreStatements}

-- a function of the file as calls see it
abbrev pub called : TypedFunctionTree → Function
called f = record { result = f.result; parameters = f.parameters; defined = is_some f.body }

-- Where a statement of the file stands: its tables, the objects of static storage and those of the body, and its
-- mutexes.
abbrev pub file_context : TypedFileTree → List LocalEntry → Context
file_context file locals = record {
  scope = record {
    names = [];
    tags = [];
    outer_names = 0;
    outer_tags = 0;
    types = file.types;
    structs = file.structs;
    functions = map called file.functions;
  };
  type_of = object_type file.statics locals;
  mutexes = length file.mutexes;
}

-- the statements of a body are well formed
abbrev pub IsBodyOf : TypedFileTree → TypedFunctionTree → Option TypedBodyTree → Type 0
IsBodyOf file f None = Unit {0}
IsBodyOf file f (Some body) = AreStatements (file_context file body.locals) f.result body.statements

abbrev pub BodiesAreWellFormed : Type 0
BodiesAreWellFormed =
    (main : Option Name) (items : List ItemTree) (file : TypedFileTree) → IsTyped main items (Ok file)
    → All (λ f. IsBodyOf file f f.body) file.functions

-- constants and labels that a file keeps are numbers of integer types
abbrev pub NumbersAreOfTypes : Type 0
NumbersAreOfTypes =
    (main : Option Name) (items : List ItemTree) (file : TypedFileTree) → IsTyped main items (Ok file)
    → All IsNumber file.constants × All IsNumber file.labels
