-- Which words are a command, and what they ask for. The words are those behind the program's name, each a list of
-- bytes.
--
--     analyse   --workers N or --workers=N, --json, --history, each once at most; any numbers; in any order
--     replay    nothing more
--     waits     nothing more
--     ranges    nothing more
--     certify   nothing more
--     check     nothing more
--     generate  one number from 1 to 400
--     demo      --workers N or --workers=N once at most; one number from 1 to 400; in any order
--
-- For `analyse`, `generate` and `demo` one word `--` may stand behind the command, but not as the value of `--workers`;
-- each word behind it is a number.
use Rattle.std.specs.Prelude.{ℕ, ◌==◌, ◌&&◌, Bool, true, false, List, [], ◌∷◌, length, take, drop, map, codes, ◌≤◌}
use Rattle.std.specs.Prelude.{nat_le, nat_lt, count_by, Option, Some, None, option_map, option_and_then}
use Rattle.std.specs.Prelude.{if◌then◌else◌, String, string_bytes}
use Rattle.std.specs.List.{filter_map}
use Rattle.std.specs.Str.{bytes_eq}
use Rattle.std.specs.declared.alloc.Global.{Global as Heap}
use Rattle.cmd_words.specs.declared.arguments.Argument.{Argument}
use Rattle.cmd_words.specs.declared.arguments.Argument.TheVariants.{Workers, Json, History, Number}
use Rattle.cmd_words.specs.declared.commands.Command.{Command}
use Rattle.cmd_words.specs.declared.commands.Command.TheVariants.{Analyse, Replay, Generate, Demo}
use Rattle.cmd_words.specs.declared.commands.Command.TheVariants.{Waits, Ranges, Certify, Check}
use Rattle.cmd_words.specs.Numbers.{number_of}

-- the words as lists of bytes
abbrev pub texts_of : List (String Heap) → List (List ℕ)
texts_of words = map (λ w. string_bytes w) words

-- ## Arguments

-- what stands behind a prefix, in a text that begins with it
abbrev pub after_prefix : List ℕ → List ℕ → Option (List ℕ)
after_prefix prefix text =
    if bytes_eq (take (length prefix) text) prefix then Some (drop (length prefix) text) else None

-- the number of workers that a text writes
abbrev pub workers_of : List ℕ → Option Argument
workers_of text = option_map Workers (number_of text)

-- the value behind `--workers=`, if there is one, or else the number that the word is
abbrev pub value_or_number : Option (List ℕ) → List ℕ → Option Argument
value_or_number (Some value) word = workers_of value
value_or_number None word = option_map Number (number_of word)

-- what one word by itself stands for
abbrev pub argument_of : List ℕ → Option Argument
argument_of word =
    if bytes_eq word (codes "--json") then Some Json
    else if bytes_eq word (codes "--history") then Some History
    else value_or_number (after_prefix (codes "--workers=") word) word

-- an argument before others, where all are understood
abbrev pub before : Option Argument → Option (List Argument) → Option (List Argument)
before (Some argument) others = option_map (λ arguments. argument ∷ arguments) others
before None others = None

-- words that are numbers, each of them
abbrev pub numbers_of : List (List ℕ) → Option (List Argument)
numbers_of [] = Some []
numbers_of (word ∷ words) = before (option_map Number (number_of word)) (numbers_of words)

abbrev mutual
  -- What the words behind the command stand for, in their order. The word behind `--workers` is its value, and the
  -- words behind `--` are numbers.
  pub arguments_of : List (List ℕ) → Option (List Argument)
  arguments_of [] = Some []
  arguments_of (word ∷ words) =
      if bytes_eq word (codes "--") then numbers_of words
      else if bytes_eq word (codes "--workers") then value_and_arguments_of words
      else before (argument_of word) (arguments_of words)

  -- the same, where the first word is the value of `--workers`
  pub value_and_arguments_of : List (List ℕ) → Option (List Argument)
  value_and_arguments_of [] = None
  value_and_arguments_of (value ∷ words) = before (workers_of value) (arguments_of words)

-- ## The table of commands

abbrev pub workers_asked : Argument → Option ℕ
workers_asked (Workers n) = Some n
workers_asked Json = None
workers_asked History = None
workers_asked (Number n) = None

abbrev pub number_given : Argument → Option ℕ
number_given (Workers n) = None
number_given Json = None
number_given History = None
number_given (Number n) = Some n

abbrev pub is_json : Argument → Bool
is_json (Workers n) = false
is_json Json = true
is_json History = false
is_json (Number n) = false

abbrev pub is_history : Argument → Bool
is_history (Workers n) = false
is_history Json = false
is_history History = true
is_history (Number n) = false

-- how often `--json` stands among the arguments
abbrev pub json_count : List Argument → ℕ
json_count arguments = count_by is_json arguments

-- how often `--history` does
abbrev pub history_count : List Argument → ℕ
history_count arguments = count_by is_history arguments

-- the numbers that stand by themselves, in their order
abbrev pub numbers_in : List Argument → List ℕ
numbers_in arguments = filter_map number_given arguments

-- from 1 to the most
abbrev pub from_one : ℕ → ℕ → Option ℕ
from_one most n = if nat_le 1 n && nat_le n most then Some n else None

-- the number of workers that a word asks for: `--workers=` and a number from 1 to 16
abbrev pub workers_named : List ℕ → Option ℕ
workers_named word = option_and_then (from_one 16) (option_and_then number_of (after_prefix (codes "--workers=") word))

-- the number of workers, by those that were asked for: 1 where none was
abbrev pub workers_by : List ℕ → Option ℕ
workers_by [] = Some 1
workers_by (n ∷ []) = from_one 16 n
workers_by (n ∷ m ∷ more) = None

-- the one number from 1 to 400
abbrev pub size_by : List ℕ → Option ℕ
size_by [] = None
size_by (n ∷ []) = from_one 400 n
size_by (n ∷ m ∷ more) = None

-- the number of workers that arguments ask for
abbrev pub workers_in : List Argument → Option ℕ
workers_in arguments = workers_by (filter_map workers_asked arguments)

-- the size that arguments ask for
abbrev pub size_in : List Argument → Option ℕ
size_in arguments = size_by (numbers_in arguments)

abbrev pub analyse_words : List Argument → ℕ → Command
analyse_words arguments workers = Analyse (record {
  workers = workers;
  json = nat_lt 0 (json_count arguments);
  history = nat_lt 0 (history_count arguments);
  thresholds = numbers_in arguments;
})

abbrev pub analyse_of : List Argument → Option Command
analyse_of arguments =
    if nat_le (json_count arguments) 1 && nat_le (history_count arguments) 1
    then option_map (analyse_words arguments) (workers_in arguments) else None

-- a command that takes no further words
abbrev pub alone : Command → List (List ℕ) → Option Command
alone command [] = Some command
alone command (word ∷ words) = None

abbrev pub generate_of : List Argument → Option Command
generate_of arguments = if length arguments == 1 then option_map Generate (size_in arguments) else None

abbrev pub demo_words : ℕ → ℕ → Command
demo_words workers count = Demo (record { workers = workers; count = count })

abbrev pub demo_of : List Argument → Option Command
demo_of arguments =
    if json_count arguments == 0 && history_count arguments == 0
    then option_and_then (λ workers. option_map (demo_words workers) (size_in arguments)) (workers_in arguments)
    else None

-- the command of a name and the words behind it
abbrev pub named_command : List ℕ → List (List ℕ) → Option Command
named_command name words =
    if bytes_eq name (codes "analyse") then option_and_then analyse_of (arguments_of words)
    else if bytes_eq name (codes "replay") then alone Replay words
    else if bytes_eq name (codes "generate") then option_and_then generate_of (arguments_of words)
    else if bytes_eq name (codes "demo") then option_and_then demo_of (arguments_of words)
    else if bytes_eq name (codes "waits") then alone Waits words
    else if bytes_eq name (codes "ranges") then alone Ranges words
    else if bytes_eq name (codes "certify") then alone Certify words
    else if bytes_eq name (codes "check") then alone Check words
    else None

-- the command that words are, if they are one
abbrev pub command_of : List (List ℕ) → Option Command
command_of [] = None
command_of (name ∷ words) = named_command name words

-- as many workers and functions as there may be: 1 to 16, and 1 to 400
abbrev pub IsWithin : Command → Type 0
IsWithin (Analyse asked) = (1 ≤ asked.workers) × (asked.workers ≤ 16)
IsWithin Replay = Unit {0}
IsWithin (Generate count) = (1 ≤ count) × (count ≤ 400)
IsWithin (Demo asked) = ((1 ≤ asked.workers) × (asked.workers ≤ 16)) × ((1 ≤ asked.count) × (asked.count ≤ 400))
IsWithin Waits = Unit {0}
IsWithin Ranges = Unit {0}
IsWithin Certify = Unit {0}
IsWithin Check = Unit {0}
