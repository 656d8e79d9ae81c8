-- Of a log there are as many keys as results.
use Rattle.std.proofs.Common.{◌≡◌, ◌∙◌, ℕ, suc, List, [], ◌∷◌, ◌++◌, length, map, Option, Some, None, String, Global, Bor, refl, sym, ap, string_bytes}
use Rattle.std.proofs.lemmas.List.{length-map}
use Rattle.serde_json.specs.Data.{Data}
use Rattle.serde_json.specs.declared.value.Value.{Value}
use Rattle.log_baselines.specs.Baselines.{IsParts}
use Rattle.log_baselines.specs.Keys.{keys_behind}
use Rattle.log_baselines.specs.Logs.{before, print_of, prints_of}
use Rattle.log_baselines.specs.reading.Seen.{value_seen}

as_many_keys : (front prints : List (List ℕ)) → length (keys_behind front prints) ≡ length prints
as_many_keys front [] = refl
as_many_keys front (print ∷ prints) = ap suc (as_many_keys (front ++ print ∷ []) prints)

one_more : (first : Option (List ℕ)) (rest : Option (List (List ℕ))) (count : ℕ)
    → ((prints : List (List ℕ)) → rest ≡ Some prints → length prints ≡ count)
    → (prints : List (List ℕ)) → before first rest ≡ Some prints → length prints ≡ suc count
one_more (Some print) None count shorter prints is = cc
one_more (Some print) (Some rest) count shorter prints is =
    let same : prints ≡ print ∷ rest = cc in ap length same ∙ ap suc (shorter rest refl)
one_more None rest count shorter prints is = cc

as_many_prints : (results : List Data) (prints : List (List ℕ)) → prints_of results ≡ Some prints
    → length prints ≡ length results
as_many_prints [] prints is = let same : prints ≡ [] = cc in ap length same
as_many_prints (result ∷ results) prints is =
    one_more (print_of result) (prints_of results) (length results) (as_many_prints results) prints is

pub as_many : (log run : Data) (results : List (Bor Value)) (keys : List (String Global))
    → IsParts log run (map value_seen results) (map string_bytes keys) → length keys ≡ length results
as_many log run results keys parts =
    sym (length-map keys string_bytes) ∙ ap length parts.keys_are ∙ as_many_keys [] parts.prints
    ∙ as_many_prints (map value_seen results) parts.prints parts.prints_are ∙ length-map results value_seen
