use Rattle.std.proofs.Common.{◌≡◌, ◌∙◌, ◌+◌, List, [], ◌∷◌, ◌++◌, ap, append_assoc, drop, map, refl, sym, Option, Some, None}
use Rattle.std.specs.Prelude.{option_map}
use Rattle.std.proofs.lemmas.List.{append-nil, drop_all, drop_more}
use Rattle.serde_json.specs.View.{view}
use Rattle.tm_terms.specs.declared.alarms.Alarm.{Alarm}
use Rattle.report_reading.specs.reading.Found.{alarms_of, before}
use Rattle.report_reading.proofs.alarms.alarms_of.Goals as goal

front_more : (old new : List Alarm) (alarm : Alarm) (rest : Option (List Alarm)) → new ≡ old ++ alarm ∷ []
    → option_map (λ alarms. old ++ alarms) (before (Some alarm) rest) ≡ option_map (λ alarms. new ++ alarms) rest
front_more old new alarm None e = refl
front_more old new alarm (Some alarms) e =
    ap Some (sym (append_assoc old (alarm ∷ []) alarms) ∙ ap (λ front. front ++ alarms) (sym e))

pub loop-item-preserved : goal.loop-item-preserved
loop-item-preserved c =
    let items = c.args.items.now in
    let at = c.loop-item.item-index in
    let old = c.loop-item.alarms.items in
    let rest = alarms_of (map view (drop (at + 1) items)) in
    c.loop-item.invariant
    ∙ ap (λ values. option_map (λ (alarms : List Alarm). old ++ alarms) (alarms_of (map view values)))
    (drop_more items at c.item-item.result c.loop-item-test.true ∙ ap (λ item. item ∷ drop (at + 1) items) (sym c.item-item.is))
    ∙ ap (λ found. option_map (λ (alarms : List Alarm). old ++ alarms) (before found rest)) (sym c.alarm_in.ensures ∙ c.in-Some.is)
    ∙ front_more old c.push.new.self.items c.in-Some.alarm rest c.in_ok-push-in-Some.ensures.items

pub returns : goal.returns
returns c =
    let old = c.loop-item.alarms.items in
    sym (c.loop-item.invariant
    ∙ ap (λ values. option_map (λ (alarms : List Alarm). old ++ alarms) (alarms_of (map view values)))
    (drop_all c.loop-item.item-index c.args.items.now c.loop-item-test.false)
    ∙ ap Some (append-nil old))
