-- The values of an array.
use Rattle.std.proofs.Common.{◌≡◌, List, [], ◌∷◌, refl, ap}
use Rattle.serde_json.specs.Data.{Data}
use Rattle.serde_json.specs.View.{items_of}
use Rattle.log_baselines.specs.Logs.{list_of}

pub listed : (values : List Data) → list_of (items_of values) ≡ values
listed [] = refl
listed (value ∷ values) = ap (λ rest. value ∷ rest) (listed values)
