use Rattle.std.proofs.Common.{◌≡◌, ◌-◌, length}
use Rattle.tm_typed.specs.TypedFiles.{typed_file_tree}
use Rattle.source_names.specs.TypeWords.{all_read, nothing_read}
use Rattle.source_names.specs.reading.Suffixes.{outside_of}
use Rattle.source_names.proofs.words.read_suffix.Given as goal

-- what is left to read, from what is read so far
abbrev pub invariant-loop-step : goal.invariant-loop-step
invariant-loop-step l = all_read (typed_file_tree l.file) (length l.file.types.items - l._step) (outside_of l.suffix) ≡ all_read (typed_file_tree l.file) (length l.file.types.items) (nothing_read l.fn.of)
