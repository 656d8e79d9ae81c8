-- Cuts by the number of the byte at which a line begins.
use Rattle.std.specs.Prelude.{ℕ, List, ◌++◌, take, drop}
use Rattle.std.specs.List.{after_first}
use Rattle.replay_lines.specs.Cuts.{Cut, is_newline}

-- the line that begins at this byte is that of the cut
abbrev pub cut_at : List ℕ → ℕ → Cut
cut_at bytes at = record { source = take at bytes; choices = after_first is_newline (drop at bytes) }

-- bytes before a source
abbrev pub in_front : List ℕ → Cut → Cut
in_front bytes c = record c { source = bytes ++ c.source }
