use Rattle.std.proofs.Common.{◌∙◌, ap, arith, map}
use Rattle.std.proofs.lemmas.List.{map-append, take_all}
use Rattle.place_details.specs.Details.{front_at, function_of}
use Rattle.place_details.specs.Functions.{bytes_in, code_of, scanned}
use Rattle.place_details.specs.declared.functions.Scan.{Scan}
use Rattle.place_details.specs.reading.Seen.{bytes_seen, front_seen, sight_seen}
use Rattle.place_details.proofs.Steps.{told_more}
use Rattle.place_details.proofs.details.named_in.Goals as goal

pub loop-sight-preserved : goal.loop-sight-preserved
loop-sight-preserved c =
    let text = c.args.known.text.now in
    let offset = c.offset_of-offset.result in
    let sights = c.args.sights.now in
    let at = c.loop-sight.sight-index in
    let within = c.offset_of-offset.ensures.within in
    let long = c.requires.long in (
      told_more (function_of text) sight_seen sights at _ (map bytes_seen c.loop-sight.functions.items)
          (map bytes_seen c.push.new.self.items) c.bytes_in-function.result.now c.loop-sight-test.true c.loop-sight.invariant.0
          (ap (map bytes_seen) c.in_ok-push.ensures.items ∙ map-append bytes_seen c.loop-sight.functions.items _)
          (c.bytes_in-function.ensures ∙ ap (λ (scan : Scan). bytes_in text scan.body)
          (c.scan_on-scan.ensures ∙ ap (λ code. scanned code offset) c.requires.code
          ∙ ap (scanned (code_of text)) c.offset_of-offset.ensures.value)),
      told_more (front_at c.args.folder.now text c.args.known.lines.now) sight_seen sights at _
          (map front_seen c.loop-sight.fronts.items) (map front_seen c.push-in-loop-sight.new.self.items)
          c.in_ok-front_at.field-0.items c.loop-sight-test.true c.loop-sight.invariant.1
          (ap (map front_seen) c.in_ok-push-2.ensures.items ∙ map-append front_seen c.loop-sight.fronts.items _)
          c.in_ok-front_at.ensures,
      c.scan_on-scan.ensures,
      omega (arith, within, long),
    )

pub returns-clause-functions : goal.returns-clause-functions
returns-clause-functions c =
    c.loop-sight.invariant.0
    ∙ ap (λ sights. map (function_of c.args.known.text.now) (map sight_seen sights))
    (take_all c.loop-sight.sight-index c.args.sights.now c.loop-sight-test.false)

pub returns-clause-fronts : goal.returns-clause-fronts
returns-clause-fronts c =
    c.loop-sight.invariant.1
    ∙ ap (λ sights. map (front_at c.args.folder.now c.args.known.text.now c.args.known.lines.now) (map sight_seen sights))
    (take_all c.loop-sight.sight-index c.args.sights.now c.loop-sight-test.false)
