-- Marks and origins of the code, as those of the definitions.
use Rattle.std.specs.Prelude.{List, [], ℕ, Option, Some, None, option_map}
use Rattle.std.specs.Borrow.{Bor}
use Rattle.source_marks.specs.declared.marks.Mark.{Mark as MarkCode}
use Rattle.source_marks.specs.declared.origins.Origin.{Origin as OriginCode}
use Rattle.source_marks.specs.declared.names.Spelled.{Spelled as SpelledCode}
use Rattle.source_marks.specs.Marks.{Mark, Origin, lines_of}
use Rattle.source_marks.specs.Names.{Spelled}

abbrev pub origin_seen : OriginCode → Origin
origin_seen origin = record { name = origin.name.now; line = origin.line }

abbrev pub mark_seen : MarkCode → Mark
mark_seen mark = record { number = mark.number; name = option_map (λ name. name.now) mark.name }

abbrev pub name_seen : Option (Bor (List ℕ)) → Option (List ℕ)
name_seen name = option_map (λ n. n.now) name

abbrev pub spelled_seen : SpelledCode → Spelled
spelled_seen spelled = record { byte = spelled.byte; more = spelled.more }

-- the lines of what stands behind a line, if anything does
abbrev pub lines_behind : Option (Bor (List ℕ)) → List (List ℕ)
lines_behind None = []
lines_behind (Some rest) = lines_of rest.now
