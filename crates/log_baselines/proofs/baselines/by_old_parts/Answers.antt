use Rattle.std.proofs.Common.{◌∙◌, ap, map, sym}
use Rattle.std.specs.List.{list_all}
use Rattle.log_baselines.specs.Suppressions.{is_reasoned}
use Rattle.log_baselines.specs.reading.Seen.{value_seen}
use Rattle.log_baselines.proofs.Outcomes.{if_ok_by, written_by_parts}
use Rattle.log_baselines.proofs.baselines.by_old_parts.Goals as goal

pub returns-clause-ok : goal.returns-clause-ok
returns-clause-ok c =
    if_ok_by _ _ c.compared.result c.compared.ensures.ok
    (λ outcome written. written_by_parts _ _ _ _ _ c.args.olds.now.results.items c.deref-3.result.now
    c.args.olds.now.keys.items c.deref-2.result.now outcome.log.items outcome.standings.items outcome.is_worse
    (sym (c.if-not-are_reasoned.ensures ∙ ap (λ r. list_all is_reasoned (map value_seen r)) c.deref.ensures.value))
    c.deref-3.ensures.value c.deref-2.ensures.value written)
