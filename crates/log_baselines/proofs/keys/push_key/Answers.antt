use Rattle.std.proofs.Common.{rules, ◌≡◌, ◌∙◌, true, false, ap, bytes_eq, cond, is_some, length, Some, sym}
use Rattle.std.specs.HashMap.{get_by}
use Rattle.std.proofs.lemmas.Map.Text.{hash_map_updates_str}
use Rattle.log_baselines.proofs.KeyPlaces.{added, known}
use Rattle.log_baselines.proofs.keys.push_key.Goals as goal

pub returns-then-contains_key : goal.returns-then-contains_key
returns-then-contains_key c =
    λ keys many is q.
    let there : is_some (get_by (λ k. bytes_eq c.args.key.now k.now) c.args.index.now) ≡ true = search rules in
    is q ∙ sym (known q c.args.key.now keys (ap is_some (sym (is c.args.key.now)) ∙ there))

pub returns : goal.returns
returns c =
    λ keys many is q.
    let gone : is_some (get_by (λ k. bytes_eq c.args.key.now k.now) c.args.index.now) ≡ false = search rules in
    let put = hash_map_updates_str c.args.key.now c.args.index.now c.insert.new.self _ c.in_ok-insert.ensures.updates in
    put q
    ∙ ap (λ n. cond (bytes_eq c.args.key.now q) (Some n) (get_by (λ k. bytes_eq q k.now) c.args.index.now)) (sym many)
    ∙ ap (cond (bytes_eq c.args.key.now q) (Some (length keys))) (is q)
    ∙ added q c.args.key.now keys (ap is_some (sym (is c.args.key.now)) ∙ gone)
