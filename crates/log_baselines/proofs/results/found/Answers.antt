use Rattle.std.proofs.Common.{arith, ◌≡◌, ◌∙◌, ℕ, List, ap, get_or, map}
use Rattle.std.specs.Prelude.{option_map, string_bytes}
use Rattle.std.proofs.lemmas.List.{map-append}
use Rattle.serde_json.specs.Data.{Data}
use Rattle.serde_json.specs.View.{view}
use Rattle.log_baselines.specs.reading.Seen.{value_seen}
use Rattle.log_baselines.proofs.FoundSteps.{found_more, item_at, told_at}
use Rattle.log_baselines.proofs.results.found.Goals as goal

pub loop-i-preserved : goal.loop-i-preserved
loop-i-preserved c =
    let old_keys : List (List ℕ) = map string_bytes c.args.olds.keys.now in
    let olds : List Data = map value_seen c.args.olds.results.now in
    let i : ℕ = c.loop-i.i in
    let key : c.as_str.result.now ≡ string_bytes (get_or c.args.keys.now i c.index-keys-i.result) =
    c.as_str.ensures.value ∙ ap string_bytes c.index-keys-i.is in
    let many = c.requires.keys in
    let told = c.requires.remarks in
    found_more c.args.compared old_keys olds (map string_bytes c.args.keys.now) (map view c.args.remarks.now)
    (map value_seen c.args.results.now) i _ _ _ _ _ _ (view c.in_ok-value.value)
    (item_at string_bytes c.args.keys.now i c.index-keys-i.result (omega arith))
    (item_at view c.args.remarks.now i c.index-remarks-i.result (omega arith))
    (item_at value_seen c.args.results.now i c.index-results-i.result (omega arith)) c.loop-i.invariant
    (told_at c.args.compared old_keys olds c.as_str.result.now _ (view c.index-remarks-i.result) _
    (view c.index-results-i.result.now) _ (option_map value_seen c.partner-partner.result) (view c.in_ok-value.value)
    c.in_ok-value.ensures c.partner-partner.ensures key (ap view c.index-remarks-i.is)
    (ap value_seen c.index-results-i.is))
    (ap (map view) c.in_ok-push.ensures.items ∙ map-append view c.loop-i.values.items _)
