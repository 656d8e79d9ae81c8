-- What all rules say: a line for each.
use Rattle.std.specs.Prelude.{ℕ, List, ◌++◌, codes}
use Rattle.std.specs.List.{flat_map}
use Rattle.tm_terms.specs.Texts.{line_of}
use Rattle.report_views.specs.Sentences.{level_text, rule_help, rule_sentence, rule_text, rules}
use Rattle.report_views.specs.declared.sentences.Rule.{Rule}

-- WORD LEVEL SENTENCE: HELP
abbrev pub rule_words : Rule → List ℕ
rule_words rule =
    line_of (rule_text rule ++ (codes " " ++ (level_text rule ++ (codes " "
    ++ (rule_sentence rule ++ (codes ": " ++ rule_help rule))))))

-- a line for each rule
abbrev pub rules_text : List ℕ
rules_text = flat_map rule_words rules
