use Rattle.std.proofs.Common.{◌∙◌, ap, map, sym, Some}
use Rattle.std.specs.Prelude.{option_map}
use Rattle.serde_json.specs.View.{view}
use Rattle.log_baselines.specs.Logs.{list_of}
use Rattle.log_baselines.proofs.Listed.{listed}
use Rattle.log_baselines.proofs.values.list_at.Goals as goal

pub returns-in-Some : goal.returns-in-Some
returns-in-Some c =
    ap (λ xs. Some (map view xs)) c.as_slice.ensures.value ∙ ap Some (sym (listed (map view c.in-Some.values.now.items)))
    ∙ ap (option_map list_of) c.in-Some.ensures
