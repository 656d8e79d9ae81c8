use Rattle.std.proofs.Common.{map}
use Rattle.report_views.specs.Sentences.{rules}
use Rattle.report_logs.specs.Sarif.{rule_data}
use Rattle.report_logs.proofs.Appending.{one}
use Rattle.report_logs.proofs.ToldOnce.{value_more, values_begun}
use Rattle.report_logs.proofs.tool.write_rules.Goals as goal

pub loop-rule-init : goal.loop-rule-init
loop-rule-init c = values_begun (map (rule_data c.args.documents.now) rules) (one c.in_ok-begin_array.ensures)

pub loop-rule-preserved : goal.loop-rule-preserved
loop-rule-preserved c =
    value_more (rule_data c.args.documents.now) rules c.loop-rule.rule-index _ c.loop-rule-test.true
    c.loop-rule.invariant c.in_ok-write_rule.ensures
