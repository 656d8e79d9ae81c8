use Rattle.std.proofs.Common.{arith, ◌≡◌, ◌∙◌, ℕ, ap, map, refl, sym}
use Rattle.std.proofs.lemmas.List.{length-map}
use Rattle.serde_json.specs.View.{view}
use Rattle.log_baselines.specs.Causes.{values_of}
use Rattle.log_baselines.specs.reading.Seen.{value_seen}
use Rattle.log_baselines.proofs.Flaws.{err_is, other_remarks, same_value}
use Rattle.log_baselines.proofs.PartCounts.{as_many}
use Rattle.log_baselines.proofs.baselines.by_remarks.Goals as goal

counted : (result len items values : ℕ) → result ≡ len → len ≡ items → values ≡ items → values ≡ result
counted result len items values is long many = omega arith

pub by_any-requires-clause-keys : goal.by_any-requires-clause-keys
by_any-requires-clause-keys c =
    as_many _ _ c.args.new.now.results.items c.args.new.now.keys.items c.requires.parts

pub returns-in-None-clause-refused : goal.returns-in-None-clause-refused
returns-in-None-clause-refused c =
    λ cause e text told is too. other_remarks text told _ (view c.args.log.now) (value_seen c.args.new.now.run)
    (map value_seen c.args.new.now.results.items) is c.requires.parts.log_is
    (λ values are many. c.in-None.ensures.none refl values
    (ap values_of (sym (same_value told (view c.args.remarks.now) are.0 too are.1)) ∙ are.2)
    (counted c.len.result _ _ _ c.len.ensures c.args.new.now.results.ok.0
    (many ∙ length-map c.args.new.now.results.items value_seen)))
    cause (err_is _ _ _ refl e)
