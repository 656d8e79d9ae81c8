use Rattle.report_views.specs.Rules.{rule_words}
use Rattle.report_views.specs.Sentences.{rules}
use Rattle.report_views.proofs.ClassLines.{line_more}
use Rattle.report_views.proofs.rules.rules_text.Goals as goal

pub loop-rule-preserved : goal.loop-rule-preserved
loop-rule-preserved c =
    line_more rule_words rules c.loop-rule.rule-index _ c.loop-rule.text.items _
    c.loop-rule-test.true c.loop-rule.invariant c.in_ok-push_rule.ensures
