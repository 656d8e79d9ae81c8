-- The lines of assumptions. Lines, columns and numbers stand in decimal.
use Rattle.std.specs.Prelude.{ℕ, List, ◌++◌, length, codes, decimal}
use Rattle.std.specs.List.{flat_map}
use Rattle.tm_terms.specs.Texts.{line_of}
use Rattle.text_choices.specs.declared.kinds.Choice.{Choice}
use Rattle.text_choices.specs.Choices.{word}

abbrev pub choice_line : Choice → List ℕ
choice_line c =
    let p = c.place in
    line_of ((decimal p.line ++ codes ":") ++ ((decimal p.col ++ codes " ") ++ word c.kind))

-- a line for each, and how many there are
abbrev pub choices_text : List Choice → List ℕ
choices_text choices = flat_map choice_line choices ++ line_of (codes "assumptions " ++ decimal (length choices))
