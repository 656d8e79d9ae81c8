use Rattle.std.proofs.Common.{◌≡◌, ◌∙◌, ℕ, List, ap, get_or, map}
use Rattle.std.proofs.lemmas.List.{take_all}
use Rattle.place_details.specs.Details.{Sight, region_of}
use Rattle.place_details.specs.Regions.{region_at}
use Rattle.place_details.specs.declared.regions.Region.{Region}
use Rattle.place_details.specs.TextLines.{line_of}
use Rattle.place_details.specs.reading.Seen.{sight_seen}
use Rattle.place_details.proofs.Steps.{told_more}
use Rattle.place_details.proofs.details.regions_of.Goals as goal

region_told : (text lines : List ℕ) (sight : Sight) (line text_line : List ℕ) (region : Region)
    → region ≡ region_at line text_line sight.place.col → line ≡ line_of lines sight.place.line
    → text_line ≡ line_of text sight.place.line → region ≡ region_of text lines sight
region_told text lines sight line text_line region is own other =
    is ∙ ap (λ l. region_at l text_line sight.place.col) own
    ∙ ap (λ l. region_at (line_of lines sight.place.line) l sight.place.col) other

pub loop-sight-preserved : goal.loop-sight-preserved
loop-sight-preserved c =
    let text = c.args.known.text.now in
    let lines = c.args.known.lines.now in
    told_more (region_of text lines) sight_seen c.args.sights.now c.loop-sight.sight-index _ c.loop-sight.regions.items
    c.push.new.self.items _ c.loop-sight-test.true c.loop-sight.invariant c.in_ok-push.ensures.items
    (region_told text lines (sight_seen (get_or c.args.sights.now c.loop-sight.sight-index _)) _ _ _ c.in_ok-region_at.ensures
    c.line_of-line.ensures c.line_of-text_line.ensures)

pub returns : goal.returns
returns c =
    c.loop-sight.invariant
    ∙ ap (λ sights. map (region_of c.args.known.text.now c.args.known.lines.now) (map sight_seen sights))
    (take_all c.loop-sight.sight-index c.args.sights.now c.loop-sight-test.false)
