-- The choices of a replay: each line is `wake T` or `run T V`. A task T is a number of the command line; a value V is
-- 1 to 20 digits, with a minus sign before them or not.
use Rattle.std.specs.Prelude.{ℕ, ◌==◌, ℤ, pos, neg_ℤ, ◌&&◌, nat_le, nat_lt, Bool, List, [], ◌∷◌, length, take, drop}
use Rattle.std.specs.Prelude.{codes, if◌then◌else◌, Option, Some, None, option_map, option_and_then}
use Rattle.std.specs.Char.{is_ascii_digit}
use Rattle.std.specs.List.{list_all, before_first, after_first, slice_split}
use Rattle.std.specs.Str.{bytes_eq}
use Rattle.std.specs.Str.Parse.{digits_value}
use Rattle.cmd_words.specs.Numbers.{number_of}
use Rattle.concrete_steps.specs.declared.worlds.Choice.{Choice}
use Rattle.concrete_steps.specs.declared.worlds.Choice.TheVariants.{Wake, Run}
use Rattle.replay_lines.specs.Cuts.{is_newline, Cut, cut}

-- ## Values

-- one digit at least, twenty at most, and nothing else
abbrev pub has_digits_alone : List ℕ → Bool
has_digits_alone text = (nat_lt 0 (length text) && nat_le (length text) 20) && list_all is_ascii_digit text

abbrev pub digits_of : List ℕ → Option ℕ
digits_of text = if has_digits_alone text then Some (digits_value 10 text) else None

-- behind a minus sign, which is byte 45, digits stand for the opposite
abbrev pub value_of : List ℕ → Option ℤ
value_of [] = None
value_of (b ∷ text) =
    if b == 45 then option_map (λ n. neg_ℤ (pos n)) (digits_of text) else option_map pos (digits_of (b ∷ text))

-- ## Choices

abbrev pub is_space : ℕ → Bool
is_space b = b == 32

abbrev pub wake_of : List ℕ → Option Choice
wake_of text = option_map Wake (number_of text)

abbrev pub run_with : List ℕ → ℕ → Option Choice
run_with text task = option_map (Run task) (value_of text)

-- the task stands before the first space, and the value behind it
abbrev pub run_of : List ℕ → Option Choice
run_of text = option_and_then (run_with (after_first is_space text)) (number_of (before_first is_space text))

-- the choice that a line is
abbrev pub choice_of : List ℕ → Option Choice
choice_of line =
    if bytes_eq (take 5 line) (codes "wake ") then wake_of (drop 5 line)
    else if bytes_eq (take 4 line) (codes "run ") then run_of (drop 4 line)
    else None

-- ## Lists of choices

-- a byte 10 that ends the text begins no further line
abbrev pub ended : List (List ℕ) → List (List ℕ)
ended [] = []
ended (line ∷ []) = if length line == 0 then [] else line ∷ []
ended (line ∷ next ∷ lines) = line ∷ ended (next ∷ lines)

abbrev pub lines_of : List ℕ → List (List ℕ)
lines_of text = ended (slice_split is_newline text)

-- a choice before others, where there are both
abbrev pub before : Option Choice → Option (List Choice) → Option (List Choice)
before (Some choice) others = option_map (λ choices. choice ∷ choices) others
before None others = None

-- the choices that lines are, all of them
abbrev pub all_choices : List (List ℕ) → Option (List Choice)
all_choices [] = Some []
all_choices (line ∷ lines) = before (choice_of line) (all_choices lines)

abbrev pub choices_of : List ℕ → Option (List Choice)
choices_of text = all_choices (lines_of text)

-- there are 10,000 choices at most
abbrev pub counted : List Choice → Option (List Choice)
counted choices = if nat_le (length choices) 10000 then Some choices else None

-- The choices that are asked for by the bytes of a replay. None where no line is the mark, or a line behind it is no
-- choice, or there are too many of them.
abbrev pub asked_of : List ℕ → Option (List Choice)
asked_of bytes = option_and_then (λ (c : Cut). option_and_then counted (choices_of c.choices)) (cut bytes)
