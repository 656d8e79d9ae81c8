-- Call paths as they are shown.
use Rattle.std.specs.Prelude.{ℕ, zero, suc, List, [], ◌∷◌, length, reverse, Option, Some, None, option_map, unwrap_or, get_or}
use Rattle.std.specs.Prelude.{slice_get, map, Vec}
use Rattle.std.specs.declared.alloc.Global.{Global}
use Rattle.tm_terms.specs.declared.places.Place.{Place}
use Rattle.tm_terms.specs.declared.tokens.Name.{Name}
use Rattle.tm_laid.specs.declared.paths.Caller.{Caller}
use Rattle.tm_laid.specs.Layouts.{LaidTree, path_at}
use Rattle.source_names.specs.declared.paths.NotedPath.{NotedPath}

-- what stands in place of a place and of a function that there is not
abbrev pub nowhere : Place
nowhere = record { line = 0; col = 0 }

abbrev pub nobody : Name
nobody = record { start = 0; length = 0 }

-- where a function calls, by the number of the call among those of the function
abbrev pub call_at : List (List Place) → ℕ → ℕ → Place
call_at places function site = get_or (get_or places function []) site nowhere

abbrev pub calls_by : LaidTree → List (List Place) → (ℕ → List Place) → Option Caller → List Place
calls_by laid places rest None = []
calls_by laid places rest (Some c) =
    call_at places (path_at laid c.path).function c.site ∷ rest c.path

-- the places of the last so many calls of a path, the last first
abbrev pub calls_back : LaidTree → List (List Place) → ℕ → ℕ → List Place
calls_back laid places zero path = []
calls_back laid places (suc most) path = calls_by laid places (calls_back laid places most) (path_at laid path).caller

-- a path as it is shown: its task, and the places of its calls, the outermost first
pub record ShownPath : Type 0 where
  pub task : ℕ
  pub calls : List Place

-- no chain of calls is longer than there are functions
abbrev pub path_shown : LaidTree → List (List Place) → ℕ → ShownPath
path_shown laid places path = record {
  task = (path_at laid path).body;
  calls = reverse (calls_back laid places (length laid.file.functions) path);
}

-- the function in which a path ends
abbrev pub function_of : LaidTree → Option ℕ → Name
function_of laid None = nobody
function_of laid (Some path) =
    unwrap_or (option_map (λ f. f.name) (slice_get laid.file.functions (path_at laid path).function)) nobody

-- the path on which an edge of a body stands
abbrev pub path_of : List (List ℕ) → ℕ → ℕ → ℕ
path_of edge_paths body edge = get_or (get_or edge_paths body []) edge 0

-- ## What the code holds, as plain records

abbrev pub shown_path : NotedPath → ShownPath
shown_path p = record { task = p.task; calls = p.calls.items }

abbrev pub lists_of : {A : Type 0} → List (Vec A Global) → List (List A)
lists_of rows = map (λ v. v.items) rows
