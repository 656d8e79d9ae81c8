use Rattle.std.proofs.Common.{rules, ◌≡◌, ◌∙◌, [], ◌∷◌, ◌++◌, true, false, ap, append-nil, bytes_eq, cond, is_some, map, sym}
use Rattle.std.specs.HashMap.{get_by}
use Rattle.std.proofs.lemmas.List.{map-append}
use Rattle.serde_json.specs.View.{view}
use Rattle.log_baselines.specs.Results.{told_absent}
use Rattle.log_baselines.proofs.KeyPlaces.{is_some-first_at}
use Rattle.log_baselines.proofs.results.push_absent.Goals as goal

pub returns-then-contains_key : goal.returns-then-contains_key
returns-then-contains_key c =
    λ keys is.
    let there : is_some (get_by (λ k. bytes_eq c.args.key.now k.now) c.args.index.now) ≡ true = search rules in
    sym (append-nil (map view c.args.values.now.items))
    ∙ ap (λ b. map view c.args.values.now.items ++ cond b [] (told_absent (view c.args.old.now) ∷ []))
    (sym (sym (is_some-first_at c.args.key.now keys) ∙ ap is_some (sym (is c.args.key.now)) ∙ there))

pub returns : goal.returns
returns c =
    λ keys is.
    let gone : is_some (get_by (λ k. bytes_eq c.args.key.now k.now) c.args.index.now) ≡ false = search rules in
    ap (map view) c.in_ok-push.ensures.items ∙ map-append view c.args.values.now.items _
    ∙ ap (λ v. map view c.args.values.now.items ++ v ∷ []) c.in_ok-value.ensures
    ∙ ap (λ b. map view c.args.values.now.items ++ cond b [] (told_absent (view c.args.old.now) ∷ []))
    (sym (sym (is_some-first_at c.args.key.now keys) ∙ ap is_some (sym (is c.args.key.now)) ∙ gone))
