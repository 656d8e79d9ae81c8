use Rattle.std.proofs.Common.{drop, map}
use Rattle.serde_json.specs.Data.{array}
use Rattle.serde_json.specs.View.{items_of}
use Rattle.report_views.specs.Sentences.{rules}
use Rattle.report_logs.specs.Sarif.{rule_data}
use Rattle.report_logs.specs.reading.Written.{Completes, last_tokens, value_tokens}
use Rattle.report_logs.proofs.tool.write_rules.Given as goal

abbrev pub invariant-loop-rule : goal.invariant-loop-rule
invariant-loop-rule l =
    Completes l.fn.out l.out (value_tokens (array (items_of (map (rule_data l.documents) rules))))
    (last_tokens (map (rule_data l.documents) (drop l.rule-index rules)))
