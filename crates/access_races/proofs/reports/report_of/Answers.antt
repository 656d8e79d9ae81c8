use Rattle.std.proofs.Common.{◌↔◌, ℕ, sym, subst, Vec, List}
use Rattle.std.specs.Prelude.{Contains}
use Rattle.std.specs.declared.alloc.Global.{Global}
use Rattle.access_races.specs.declared.accesses.Way.{Way}
use Rattle.access_races.specs.reading.Ways.{list_at, IsWayTo}
use Rattle.access_races.proofs.Exact.{both_ok, exact_report}
use Rattle.access_races.proofs.reports.report_of.Goals as goal

pub returns : goal.returns
returns c =
    both_ok _ _ _ (λ report sorted same.
    exact_report c.args.accesses.now c.deref.result.now
    (subst (λ (ws : List (Vec Way Global)). (cell : ℕ) (w : Way) → Contains (list_at ws cell) w
    ↔ IsWayTo c.args.accesses.now cell w) (sym c.deref.ensures.value) c.in_ok-ways.ensures)
    c.args.alarms.items c.push_races.new.alarms.items report.alarms.items c.in_ok-push_races.ensures sorted same)
    c.sorted.result c.sorted.ensures.sorted c.sorted.ensures.same
