-- Names of tasks, mutexes and objects, byte for byte as in the source.
use Rattle.std.specs.Prelude.{ℕ, zero, suc, cond, List, [], ◌++◌, map, codes, slice_get, Option, Some, None}
use Rattle.tm_terms.specs.declared.tokens.Name.{Name}
use Rattle.tm_terms.specs.Spelling.{text_of}
use Rattle.tm_typed.specs.declared.files.TypedTask.{TypedTask}
use Rattle.tm_typed.specs.declared.files.MutexEntry.{MutexEntry}
use Rattle.tm_typed.specs.Files.{TypedFunctionTree}
use Rattle.tm_laid.specs.declared.objects.LaidObject.{LaidObject}
use Rattle.tm_laid.specs.Layouts.{LaidTree}
use Rattle.mutex_configs.specs.Sets.{has}
use Rattle.note_lines.specs.declared.names.ObjectName.{ObjectName}

-- a name of no bytes
abbrev pub no_name : Name
no_name = record { start = 0; length = 0 }

abbrev pub function_name : Option TypedFunctionTree → Name
function_name None = no_name
function_name (Some f) = f.name

-- the names of the tasks of a layout, which are those of their functions, and their priorities; the names of its
-- mutexes, and of its objects, these with the places where they are declared first
abbrev pub task_names : LaidTree → List Name
task_names laid = (let file = laid.file in
    map (λ (task : TypedTask). function_name (slice_get file.functions task.function)) file.tasks)

abbrev pub task_priorities : LaidTree → List ℕ
task_priorities laid = (let file = laid.file in map (λ (task : TypedTask). task.priority) file.tasks)

abbrev pub mutex_names : LaidTree → List Name
mutex_names laid = (let file = laid.file in map (λ (e : MutexEntry). e.name) file.mutexes)

abbrev pub object_names : LaidTree → List ObjectName
object_names laid = map (λ (o : LaidObject). record { name = o.name; place = o.place }) laid.objects

module _ (bytes : List ℕ) where
  -- the bytes of a name, if there is one
  abbrev pub spelled : Option Name → List ℕ
  spelled None = []
  spelled (Some name) = text_of bytes name

  abbrev pub name_at : List Name → ℕ → List ℕ
  name_at names n = spelled (slice_get names n)

  -- the name of a mutex, behind a blank, if it is in the set; and those of the first mutexes
  abbrev pub held_name : List Name → ℕ → ℕ → List ℕ
  held_name mutexes held m = cond (has held m) (codes " " ++ name_at mutexes m) []

  abbrev pub names_below : List Name → ℕ → ℕ → List ℕ
  names_below mutexes held zero = []
  names_below mutexes held (suc m) = names_below mutexes held m ++ held_name mutexes held m
