-- How the words are read, one argument after the other.
use Rattle.std.specs.Prelude.{◌≡◌, ℕ, List, ◌∷◌, ◌++◌, codes, Option, Some, None, option_map, if◌then◌else◌, Vec}
use Rattle.std.specs.Str.{bytes_eq}
use Rattle.std.specs.declared.alloc.Global.{Global as Heap}
use Rattle.cmd_words.specs.declared.arguments.Argument.{Argument}
use Rattle.cmd_words.specs.Words.{argument_of, arguments_of, before, value_and_arguments_of}

-- the arguments in a vector
abbrev pub all_items : Option (Vec Argument Heap) → Option (List Argument)
all_items read = option_map (λ arguments. arguments.items) read

-- arguments behind others, where they are understood
abbrev pub behind : List Argument → Option (List Argument) → Option (List Argument)
behind front others = option_map (λ arguments. front ++ arguments) others

-- what a word other than `--` and the words behind it stand for
abbrev pub next_of : List ℕ → List (List ℕ) → Option (List Argument)
next_of word words =
    if bytes_eq word (codes "--workers") then value_and_arguments_of words
    else before (argument_of word) (arguments_of words)

-- the words stand for the argument and what the words behind it stand for, or for nothing
abbrev pub IsNext : Option (List Argument) → Option (Argument × List (List ℕ)) → Type 0
IsNext all None = all ≡ None
IsNext all (Some next) = all ≡ option_map (λ arguments. next.0 ∷ arguments) (arguments_of next.1)
