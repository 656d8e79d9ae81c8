use Rattle.std.proofs.Common.{◌∙◌, [], ◌∷◌, ◌++◌, take, get_or, sym, ap, subst}
use Rattle.std.proofs.lemmas.List.{take_all, take_more}
use Rattle.std.specs.Option.{option_copied}
use Rattle.calculations.specs.transfer_rows.Rows.{dropped}
use Rattle.edge_effects.specs.Endings.{is_ended}
use Rattle.edge_effects.proofs.LiveTemps.{Keeps, keeps_none, keeps_put, keeps_skip, keeps_all, dropped_there, dropped_absent}
use Rattle.edge_effects.proofs.temps.live_temps.Goals.{in-Some+in_ok-kept+in_ok-put, in_default}
use Rattle.edge_effects.proofs.temps.live_temps.Goals as goal

pub loop-temp-init : goal.loop-temp-init
loop-temp-init c =
    let before = dropped (is_ended c.args.ending.now) c.args.state.now.temps in
    subst (Keeps before []) (sym c.new-temps.ensures) (keeps_none before)

pub loop-temp-preserved : goal.loop-temp-preserved
loop-temp-preserved c =
    let test = is_ended c.args.ending.now in
    let temps = c.args.state.now.temps in
    let before = dropped test temps in
    let live = c.args.live.now in
    let i = c.loop-temp.temp-index in
    let x = get_or live i 0 in
    subst (λ xs. Keeps before xs c.match-temp.temps) (sym (take_more live i 0 c.loop-temp-test.true)) (elim c.match-temp.branch [
      | in-Some+in_ok-kept+in_ok-put w ↦
          subst (Keeps before (take i live ++ x ∷ [])) (sym (w.temps-is ∙ w.in_ok-put.ensures.written (λ e. e)))
          (keeps_put before (take i live) x w.in_ok-kept.kept c.loop-temp.temps (dropped_there test temps x w.in-Some.entry.now w.in_ok-kept.kept (sym c.temp.ensures ∙ ap option_copied w.in-Some.is) w.in_ok-kept.ensures) c.loop-temp.invariant)
      | in_default w ↦
          subst (Keeps before (take i live ++ x ∷ [])) (sym w.temps-is)
          (keeps_skip before (take i live) x c.loop-temp.temps (dropped_absent test temps x (sym c.temp.ensures ∙ ap option_copied w.in_default.is)) c.loop-temp.invariant)
    ])

pub returns : goal.returns
returns c =
    let before = dropped (is_ended c.args.ending.now) c.args.state.now.temps in
    keeps_all before c.args.live.now c.loop-temp.temps (subst (λ xs. Keeps before xs c.loop-temp.temps) (take_all c.loop-temp.temp-index c.args.live.now c.loop-temp-test.false) c.loop-temp.invariant)
