use Rattle.std.proofs.Common.{◌≡◌, take}
use Rattle.std.specs.List.{flat_map}
use Rattle.report_views.specs.Rules.{rule_words}
use Rattle.report_views.specs.Sentences.{rules}
use Rattle.report_views.proofs.rules.rules_text.Given as goal

abbrev pub invariant-loop-rule : goal.invariant-loop-rule
invariant-loop-rule l = l.text.items ≡ flat_map rule_words (take l.rule-index rules)
