use Rattle.std.proofs.Common.{rules, arith, ◌≡◌, ◌<◌, ◌∙◌, [], ℕ, List, Bor, sym, ap, bytes_eq, count_by, get_or, length, map, take, unwrap_or, string_bytes}
use Rattle.std.specs.HashMap.{get_by}
use Rattle.std.proofs.lemmas.Grind.{common_steps}
use Rattle.std.proofs.lemmas.List.{get_or-map, length-map, map-append}
use Rattle.std.proofs.lemmas.List.Sums.{count_by-le-length}
use Rattle.std.proofs.lemmas.Map.Text.{hash_map_updates_str}
use Rattle.place_details.specs.reading.Seen.{front_seen}
use Rattle.place_details.proofs.Counted.{counted, marked, unwrapped}
use Rattle.place_details.proofs.fingerprints.fingerprints_of.Goals as goal

pub overflow_add-count : goal.overflow_add-count
overflow_add-count c =
    let fronts : List (List ℕ) = map front_seen c.args.fronts.now in
    let few = count_by-le-length (bytes_eq c.as_slice-front.result.now) (take c.loop-front.front-index fronts) in
    grind (arith, common_steps, few, count_by-le-length, c.loop-front.invariant.1 c.as_slice-front.result.now)

pub loop-front-preserved : goal.loop-front-preserved
loop-front-preserved c =
    let fronts : List (List ℕ) = map front_seen c.args.fronts.now in
    let i : ℕ = c.loop-front.front-index in
    let long = length-map c.args.fronts.now front_seen in
    let inside : i < length fronts = omega arith in
    let front : c.as_slice-front.result.now ≡ get_or fronts i [] = search (rules, get_or-map) in
    let before : List ℕ → ℕ = λ q. unwrap_or (get_by (λ k. bytes_eq q k.now) c.loop-front.counts) 0 in
    let after : List ℕ → ℕ = λ q. unwrap_or (get_by (λ k. bytes_eq q k.now) c.insert.new.self) 0 in
    let here : c.unwrap_or-count.result ≡ before c.as_slice-front.result.now = search rules in
    let n : c.unwrap_or-count.result ≡ before (get_or fronts i []) = here ∙ ap before front in
    let put = hash_map_updates_str c.as_slice-front.result.now c.loop-front.counts c.insert.new.self _ c.in_ok-insert.ensures.updates in (
      marked fronts _ _ _ i c.unwrap_or-count.result (string_bytes c.in_ok-fingerprint.field-0) inside c.loop-front.invariant.0
          (n ∙ c.loop-front.invariant.1 (get_or fronts i [])) (c.in_ok-fingerprint.ensures ∙ search (rules, front))
          (ap (map string_bytes) c.in_ok-push.ensures.items ∙ map-append string_bytes c.loop-front.texts.items _),
      counted fronts i inside before after c.unwrap_or-count.result n
          (λ q. ap (λ o. unwrap_or o 0) (put q) ∙ unwrapped (bytes_eq c.as_slice-front.result.now q) _ _ ∙ search (rules, front))
          c.loop-front.invariant.1,
    )
