use Rattle.std.proofs.Common.{◌≡◌, length}
use Rattle.cmd_words.specs.Words.{numbers_of, texts_of}
use Rattle.cmd_words.specs.reading.Steps.{behind}
use Rattle.cmd_words.proofs.arguments.read_numbers.Given as goal

-- the arguments so far, and then what the rest of the words stands for
abbrev pub invariant-words : goal.invariant-words
invariant-words l = behind l.arguments.items (numbers_of (texts_of l.rest))
    ≡ behind l.fn.arguments.items (numbers_of (texts_of l.fn.words))

abbrev pub decreases-words : goal.decreases-words
decreases-words l = length l.rest
