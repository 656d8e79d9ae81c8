use Rattle.std.proofs.Common.{◌≡◌, length}
use Rattle.cmd_words.specs.Words.{arguments_of, texts_of}
use Rattle.cmd_words.specs.reading.Steps.{behind}
use Rattle.cmd_words.proofs.arguments.read_arguments.Given as goal

-- the arguments so far, and then what the rest of the words stands for
abbrev pub invariant-words : goal.invariant-words
invariant-words l = behind l.arguments.items (arguments_of (texts_of l.rest)) ≡ arguments_of (texts_of l.fn.words)

abbrev pub decreases-words : goal.decreases-words
decreases-words l = length l.rest
