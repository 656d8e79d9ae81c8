-- Choices that were read, before those that lines are.
use Rattle.std.specs.Prelude.{ℕ, ℤ, pos, neg_ℤ, List, ◌++◌, Option, option_map}
use Rattle.concrete_steps.specs.declared.worlds.Choice.{Choice}
use Rattle.replay_lines.specs.Choices.{digits_of}

abbrev pub in_front : List Choice → Option (List Choice) → Option (List Choice)
in_front choices others = option_map (λ more. choices ++ more) others

abbrev pub negated : List ℕ → Option ℤ
negated text = option_map (λ n. neg_ℤ (pos n)) (digits_of text)
