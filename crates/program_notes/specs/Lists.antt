-- Tasks and mutexes as JSON. Names stand in it byte for byte, as in the source.
use Rattle.std.specs.Prelude.{ℕ, List}
use Rattle.tm_terms.specs.Spelling.{text_of}
use Rattle.notes_json.specs.Names.{task_text}
use Rattle.notes_json.specs.Names.{mutex_text as mutex_named}
use Rattle.program_notes.specs.declared.declarations.Declaration.{Declaration}
use Rattle.program_notes.specs.declared.declarations.Runner.{Runner}

module _ (bytes : List ℕ) where
  abbrev pub runner_text : Runner → List ℕ
  runner_text r = (let of = r.of in task_text of.place (text_of bytes of.name) r.priority)

  abbrev pub mutex_text : Declaration → List ℕ
  mutex_text d = mutex_named d.place (text_of bytes d.name)
