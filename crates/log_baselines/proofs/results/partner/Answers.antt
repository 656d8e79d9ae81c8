use Rattle.std.proofs.Common.{◌∙◌, ap, map, Option, ℕ}
use Rattle.std.specs.Prelude.{option_and_then, option_map, slice_get, string_bytes}
use Rattle.std.proofs.lemmas.List.{length-map}
use Rattle.log_baselines.specs.reading.Seen.{value_seen}
use Rattle.log_baselines.proofs.KeyPlaces.{partner_at}
use Rattle.log_baselines.proofs.results.partner.Goals as goal

pub returns-in-Some : goal.returns-in-Some
returns-in-Some c =
    ap (option_map value_seen) c.at_place.ensures
    ∙ ap (λ (found : Option ℕ). option_map value_seen (option_and_then (λ at. slice_get c.args.olds.results.now at) found))
    (c.in-Some.ensures.value ∙ c.requires.indexed c.args.key.now)
    ∙ partner_at value_seen c.args.key.now (map string_bytes c.args.olds.keys.now) c.args.olds.results.now
    (length-map c.args.olds.keys.now string_bytes ∙ c.requires.many)

pub returns-in-None : goal.returns-in-None
returns-in-None c =
    ap (λ (found : Option ℕ). option_map value_seen (option_and_then (λ at. slice_get c.args.olds.results.now at) found))
    (c.in-None.ensures.value ∙ c.requires.indexed c.args.key.now)
    ∙ partner_at value_seen c.args.key.now (map string_bytes c.args.olds.keys.now) c.args.olds.results.now
    (length-map c.args.olds.keys.now string_bytes ∙ c.requires.many)
