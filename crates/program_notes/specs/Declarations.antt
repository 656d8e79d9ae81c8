-- What a program declares, each with its place: that of the definition of a function, and else that of the first
-- declaration.
use Rattle.std.specs.Prelude.{ℕ, List, [], ◌∷◌, ◌++◌, map, slice_get, Option, Some, None}
use Rattle.tm_terms.specs.declared.tokens.Name.{Name}
use Rattle.tm_typed.specs.declared.files.TypedTask.{TypedTask}
use Rattle.tm_typed.specs.declared.files.MutexEntry.{MutexEntry}
use Rattle.tm_typed.specs.Files.{TypedFunctionTree}
use Rattle.tm_laid.specs.declared.objects.LaidObject.{LaidObject}
use Rattle.tm_laid.specs.declared.paths.CallPath.{CallPath}
use Rattle.tm_laid.specs.Layouts.{LaidTree}
use Rattle.program_notes.specs.declared.declarations.Declaration.{Declaration}
use Rattle.program_notes.specs.declared.declarations.Runner.{Runner}
use Rattle.program_notes.specs.declared.declarations.Owner.{Owner}
use Rattle.program_notes.specs.declared.declarations.DeclaredObject.{DeclaredObject}

-- a name of no bytes
abbrev pub no_name : Name
no_name = record { start = 0; length = 0 }

-- ## Tasks and mutexes

abbrev pub or_nowhere : Option TypedFunctionTree → Declaration
or_nowhere None = record { name = no_name; place = record { line = 0; col = 0 } }
or_nowhere (Some f) = record { name = f.name; place = f.place }

-- the function with this number
abbrev pub declared_function : LaidTree → ℕ → Declaration
declared_function laid k = (let file = laid.file in or_nowhere (slice_get file.functions k))

-- the tasks, and the initial section, where there is one (C99 5.1.2.2.1)
abbrev pub task_runner : LaidTree → TypedTask → Runner
task_runner laid task = record { of = declared_function laid task.function; priority = Some task.priority }

abbrev pub task_runners : LaidTree → List Runner
task_runners laid = (let file = laid.file in map (task_runner laid) file.tasks)

abbrev pub section_runners : LaidTree → Option ℕ → List Runner
section_runners laid None = []
section_runners laid (Some k) = record { of = declared_function laid k; priority = None } ∷ []

abbrev pub runners_of : LaidTree → List Runner
runners_of laid = (let file = laid.file in task_runners laid ++ section_runners laid file.main)

abbrev pub mutexes_of : LaidTree → List Declaration
mutexes_of laid =
    (let file = laid.file in map (λ (e : MutexEntry). record { name = e.name; place = e.place }) file.mutexes)

-- ## Objects

abbrev pub nobody : Owner
nobody = record { function = no_name; task = None }

abbrev pub path_owner : LaidTree → Option CallPath → Owner
path_owner laid None = nobody
path_owner laid (Some path) = (let f = declared_function laid path.function in
    record { function = f.name; task = Some path.body })

-- to what an object of a call path belongs
abbrev pub owner_of : LaidTree → Option ℕ → Owner
owner_of laid None = nobody
owner_of laid (Some path) = path_owner laid (slice_get laid.paths path)

abbrev pub declared_object : LaidTree → LaidObject → DeclaredObject
declared_object laid o = (let owner = owner_of laid o.owner in record {
  of = record { name = o.name; place = o.place };
  cells = o.cells;
  function = owner.function;
  task = owner.task;
})

abbrev pub objects_of : LaidTree → List DeclaredObject
objects_of laid = map (declared_object laid) laid.objects
