use Rattle.std.proofs.Common.{◌∙◌, ap, List, ℕ, ◌++◌}
use Rattle.std.specs.Prelude.{codes}
use Rattle.source_notes.specs.PartTexts.{shown}
use Rattle.source_notes.proofs.parts.parts_reply.Goals as goal

pub returns : goal.returns
returns c =
    let report = c.in_ok-status.ensures in
    let waits = c.in_ok-push_waits.ensures in
    let ranges = c.in_ok-push_ranges.ensures in
    let rings = c.in_ok-push_rings.ensures in
    let races = c.in_ok-push_races.ensures in
    let alarms = c.in_ok-push_alarms.ensures in
    let causes = c.in_ok-push_causes.ensures in
    let notes = c.in_ok-push_notes.ensures in
    let assumptions = c.in_ok-push_assumptions.ensures in
    record {
      report = report.part;
      waits = waits.part;
      ranges = ranges.part;
      rings = rings.part;
      races = races.part;
      alarms = alarms.part;
      causes = causes.part;
      notes = notes.part;
      assumptions = assumptions.part;
      comes = report.comes;
      is = assumptions.is
          ∙ ap (λ (z : List ℕ). z ++ shown (codes "assumptions") assumptions.part) (notes.is
          ∙ ap (λ (z : List ℕ). z ++ shown (codes "notes") notes.part) (causes.is
          ∙ ap (λ (z : List ℕ). z ++ shown (codes "causes") causes.part) (alarms.is
          ∙ ap (λ (z : List ℕ). z ++ shown (codes "alarms") alarms.part) (races.is
          ∙ ap (λ (z : List ℕ). z ++ shown (codes "races") races.part) (rings.is
          ∙ ap (λ (z : List ℕ). z ++ shown (codes "rings") rings.part) (ranges.is
          ∙ ap (λ (z : List ℕ). z ++ shown (codes "ranges") ranges.part) (waits.is
          ∙ ap (λ (z : List ℕ). z ++ shown (codes "waits") waits.part) (report.is
          ∙ ap (λ (z : List ℕ). z ++ shown (codes "report") report.part) c.new-text.ensures.items))))))));
    }
