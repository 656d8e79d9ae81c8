use Rattle.std.proofs.Common.{rules, ◌≡◌, ◌<◌, [], ◌∷◌, ◌++◌, All, length, subst, sym, ◌∙◌}
use Rattle.std.proofs.lemmas.List.Elements.{All-push}
use Rattle.tm_cint.specs.declared.Class.TheVariants as Classes
use Rattle.tm_terms.specs.declared.alarms.Alarm.{Alarm}
use Rattle.note_details.specs.Races.{accesses_of, told_of, races_seen}
use Rattle.note_details.specs.Details.{races_of, HasPaths}
use Rattle.note_details.proofs.Noting.{one_noted}
use Rattle.note_details.proofs.details.alarm_details.Goals as goal

pub loop-alarm-preserved : goal.loop-alarm-preserved
loop-alarm-preserved c =
    let olds = c.loop-alarm.details.items in
    let one = c.in_ok-details_of.field-0 in
    let nothing : Alarm = record { place = record { line = 0; col = 0 }; class = Classes.Overflow } in
    let below : c.loop-alarm.alarm-index < length c.args.report.now = search rules in
    let pushed : c.push.new.self.items ≡ olds ++ one ∷ [] = c.in_ok-push.ensures.items in (
      subst (All HasPaths) (sym pushed) (All-push HasPaths olds one c.loop-alarm.invariant.0 c.in_ok-details_of.ensures.paths),
      one_noted (races_of (accesses_of c.args.from.groups.now) (told_of c.args.from.accesses.now)) (λ d. races_seen d.accesses)
          c.args.report.now c.loop-alarm.alarm-index nothing olds c.push.new.self.items one below pushed c.loop-alarm.invariant.1 c.in_ok-details_of.ensures.races,
      c.in_ok-details_of.ensures.marked ∙ c.loop-alarm.invariant.2,
    )
