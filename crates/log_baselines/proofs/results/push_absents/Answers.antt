use Rattle.std.proofs.Common.{arith, ◌≡◌, ◌∙◌, [], ◌∷◌, ◌++◌, ℕ, List, ap, get_or, map}
use Rattle.std.specs.Prelude.{string_bytes}
use Rattle.serde_json.specs.View.{view}
use Rattle.log_baselines.specs.Results.{absents}
use Rattle.log_baselines.specs.reading.Seen.{value_seen}
use Rattle.log_baselines.proofs.FoundSteps.{absent_more, item_at}
use Rattle.log_baselines.proofs.results.push_absents.Goals as goal

pub loop-i-preserved : goal.loop-i-preserved
loop-i-preserved c =
    let keys : List (List ℕ) = map string_bytes c.args.keys.now in
    let i : ℕ = c.loop-i.i in
    let key : c.as_str.result.now ≡ string_bytes (get_or c.args.old_keys.now i c.index-old_keys-i.result) =
    c.as_str.ensures.value ∙ ap string_bytes c.index-old_keys-i.is in
    let old : view c.index-olds-i.result.now ≡ value_seen (get_or c.args.olds.now i c.index-olds-i.result) =
    ap value_seen c.index-olds-i.is in
    absent_more keys (map string_bytes c.args.old_keys.now) (map value_seen c.args.olds.now) i _ _ _ _ _
    (item_at string_bytes c.args.old_keys.now i c.index-old_keys-i.result (omega arith))
    (item_at value_seen c.args.olds.now i c.index-olds-i.result (omega arith)) c.loop-i.invariant
    (c.in_ok-push_absent.ensures keys c.requires.indexed
    ∙ ap (λ k. map view c.loop-i.values.items ++ absents keys (k ∷ []) (view c.index-olds-i.result.now ∷ [])) key
    ∙ ap (λ o. map view c.loop-i.values.items
    ++ absents keys (string_bytes (get_or c.args.old_keys.now i c.index-old_keys-i.result) ∷ []) (o ∷ [])) old)
