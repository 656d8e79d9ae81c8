-- Call paths, as JSON.
use Rattle.std.specs.Prelude.{List, ℕ, ◌++◌, codes}
use Rattle.source_names.specs.declared.paths.NotedPath.{NotedPath}
use Rattle.notes_json.specs.Pieces.{listed, place_text}
use Rattle.notes_json.specs.Alarms.{path_back}

-- {"calls":[PLACE,..],"task":TASK}
abbrev pub path_text : NotedPath → List ℕ
path_text p = codes "{\"calls\":[" ++ (listed place_text p.calls.items ++ path_back p.task)
