use Rattle.std.proofs.Common.{rules, arith, ◌≡◌, ◌<◌, ◌∙◌, [], ℕ, List, ap, bytes_eq, get_or, length, map, take, unwrap_or, string_bytes}
use Rattle.std.specs.HashMap.{get_by}
use Rattle.std.proofs.lemmas.Grind.{common_steps}
use Rattle.std.proofs.lemmas.List.{length-map, map-append}
use Rattle.std.proofs.lemmas.List.Sums.{count_by-le-length}
use Rattle.std.proofs.lemmas.Map.Text.{hash_map_updates_str}
use Rattle.log_baselines.specs.Keys.{key_of}
use Rattle.log_baselines.specs.reading.Seen.{text_seen}
use Rattle.log_baselines.proofs.KeyCounts.{counted, marked, read_at, unwrapped}
use Rattle.log_baselines.proofs.keys.keys_of.Goals as goal

pub overflow_add-count : goal.overflow_add-count
overflow_add-count c =
    let prints : List (List ℕ) = map text_seen c.args.prints.now in
    let few = count_by-le-length (bytes_eq c.print_at-print.result.now) (take c.loop-i.i prints) in
    grind (arith, common_steps, few, count_by-le-length, c.loop-i.invariant.1 c.print_at-print.result.now)

pub loop-i-preserved : goal.loop-i-preserved
loop-i-preserved c =
    let prints : List (List ℕ) = map text_seen c.args.prints.now in
    let i : ℕ = c.loop-i.i in
    let long = length-map c.args.prints.now text_seen in
    let inside : i < length prints = omega arith in
    let print : c.print_at-print.result.now ≡ get_or prints i [] =
    read_at c.args.prints.now i c.print_at-print.result c.print_at-print.ensures in
    let before : List ℕ → ℕ = λ q. unwrap_or (get_by (λ k. bytes_eq q k.now) c.loop-i.counts) 0 in
    let after : List ℕ → ℕ = λ q. unwrap_or (get_by (λ k. bytes_eq q k.now) c.insert.new.self) 0 in
    let here : c.unwrap_or-count.result ≡ before c.print_at-print.result.now = search rules in
    let n : c.unwrap_or-count.result ≡ before (get_or prints i []) = here ∙ ap before print in
    let put = hash_map_updates_str c.print_at-print.result.now c.loop-i.counts c.insert.new.self _ c.in_ok-insert.ensures.updates in (
      marked prints _ _ _ i c.unwrap_or-count.result (string_bytes c.in_ok-key_of.field-0) inside c.loop-i.invariant.0
          (n ∙ c.loop-i.invariant.1 (get_or prints i []))
          (c.in_ok-key_of.ensures ∙ ap (λ p. key_of p c.unwrap_or-count.result) print)
          (ap (map string_bytes) c.in_ok-push.ensures.items ∙ map-append string_bytes c.loop-i.keys.items _),
      counted prints i inside before after c.unwrap_or-count.result n
          (λ q. ap (λ o. unwrap_or o 0) (put q) ∙ unwrapped (bytes_eq c.print_at-print.result.now q) _ _ ∙ search (rules, print))
          c.loop-i.invariant.1,
    )
