use Rattle.std.proofs.Common.{rules, arith, ◌≡◌, ◌<◌, ◌+◌, ◌∙◌, [], ◌∷◌, ◌++◌, ℕ, List, ap, get_or, length, map, subst, sym, take}
use Rattle.std.specs.Prelude.{string_bytes}
use Rattle.std.proofs.lemmas.List.{get_or-map, length-map, length-take-le, take_more}
use Rattle.log_baselines.specs.reading.Seen.{IsIndex}
use Rattle.log_baselines.proofs.keys.index_of.Goals as goal

pub loop-i-preserved : goal.loop-i-preserved
loop-i-preserved c =
    let keys : List (List ℕ) = map string_bytes c.args.keys.now in
    let i : ℕ = c.loop-i.i in
    let long = length-map c.args.keys.now string_bytes in
    let inside : i < length keys = omega arith in
    let key : c.as_str.result.now ≡ get_or keys i [] = search (rules, get_or-map) in
    let more : take i keys ++ c.as_str.result.now ∷ [] ≡ take (i + 1) keys =
    ap (λ k. take i keys ++ k ∷ []) key ∙ sym (take_more keys i [] inside) in
    subst (λ ks. IsIndex c.push_key.new.index ks) more
    (c.in_ok-push_key.ensures (take i keys) (length-take-le i keys (omega arith)) c.loop-i.invariant)
