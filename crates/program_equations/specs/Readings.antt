-- What the equations read of a layout.
use Rattle.std.specs.Prelude.{[], None}
use Rattle.region_cells.specs.tm_typed.Files.{TypedFileTree}
use Rattle.region_cells.specs.tm_laid.Layouts.{LaidTree}

-- The types, by which pointed values are found, and the mutexes; the bodies of functions, and what typing keeps for
-- other layers, are left out.
abbrev pub read_file : TypedFileTree → TypedFileTree
read_file file = record {
  types = file.types;
  structs = file.structs;
  statics = [];
  functions = [];
  calls = [];
  tasks = [];
  mutexes = file.mutexes;
  main = None;
  lengths = [];
  constants = [];
  labels = [];
  sizes = [];
}

-- Of a layout its call paths, objects, cells, abstract cells, and what cells of static storage hold at first.
abbrev pub read_layout : LaidTree → LaidTree
read_layout laid = record {
  file = read_file laid.file;
  bodies = [];
  first_paths = [];
  paths = laid.paths;
  callees = [];
  first_objects = [];
  statics = [];
  objects = laid.objects;
  cells = laid.cells;
  abstract_cells = laid.abstract_cells;
  initial = laid.initial;
}
