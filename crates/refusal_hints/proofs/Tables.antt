-- A table of references has for a text what the table of the texts behind them has.
use Rattle.std.proofs.Common.{◌≡◌, ℕ, Bool, true, false, cond, List, [], ◌∷◌, map, Some, refl}
use Rattle.std.specs.Prelude.{bytes_eq, find, option_map}

pub found_behind : {X Y : Type 0} (key : X → List ℕ) (value : X → Y) (text : List ℕ) (xs : List X)
    → option_map value (find (λ e. bytes_eq (key e) text) xs)
    ≡ option_map (λ (e : List ℕ × Y). e.1) (find (λ e. bytes_eq e.0 text) (map (λ e. (key e, value e)) xs))
found_behind key value text [] = refl
found_behind {X} {Y} key value text (x ∷ xs) = by_case (bytes_eq (key x) text) (found_behind key value text xs)
  where
    by_case : (b : Bool) → option_map value (find (λ e. bytes_eq (key e) text) xs) ≡ option_map (λ (e : List ℕ × Y). e.1) (find (λ e. bytes_eq e.0 text) (map (λ e. (key e, value e)) xs))
        → option_map value (cond b (Some x) (find (λ e. bytes_eq (key e) text) xs)) ≡ option_map (λ (e : List ℕ × Y). e.1) (cond b (Some (key x, value x)) (find (λ e. bytes_eq e.0 text) (map (λ e. (key e, value e)) xs)))
    by_case true rest = refl
    by_case false rest = rest
