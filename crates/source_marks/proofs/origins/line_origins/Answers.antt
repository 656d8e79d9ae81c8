use Rattle.std.proofs.Common.{◌≡◌, ◌<◌, ◌+◌, ◌++◌, ◌∷◌, ◌∙◌, [], map, length, ap, sym, arith, vec_len}
use Rattle.std.specs.Prelude.{IfSome}
use Rattle.std.specs.Borrow.{Bor}
use Rattle.std.proofs.lemmas.List.{map-append}
use Rattle.source_marks.specs.Marks.{lines_of}
use Rattle.source_marks.specs.reading.Seen.{lines_behind, origin_seen}
use Rattle.source_marks.proofs.OriginSteps.{is_broken, made_more, made_none, moved, shorter_by, still_small}
use Rattle.source_marks.proofs.origins.line_origins.Goals as goal

pub returns-in-None-clause-broken : goal.returns-in-None-clause-broken
returns-in-None-clause-broken c =
    let before = c.loop-origins.invariant in
    let parts = c.first_line.ensures.lines in
    λ n e.
    let number : c.len.result ≡ n = cc in
    let count : length before.lines.0 + 1 ≡ n = omega (arith, before.lines.2, c.in-Ok.ensures.len, c.len.ensures) in (
      made_none _ (map origin_seen c.loop-origins.origins.items) (origin_seen c.loop-origins.origin) c.first_line.result.0.now
          (lines_of c.loop-origins.rest.now) (lines_behind c.first_line.result.1) before.made parts c.in-None.ensures.value,
      is_broken (lines_of c.args.text.now) before.lines.0 (lines_behind c.first_line.result.1) c.first_line.result.0.now
          (origin_seen c.loop-origins.origin) n (before.lines.1 ∙ ap (λ ls. before.lines.0 ++ ls) parts) count
          c.in-None.ensures.value,
    )

pub loop-origins-preserved : goal.loop-origins-preserved
loop-origins-preserved c =
    let before = c.loop-origins.invariant in
    let line = c.first_line.result.0.now in
    let at = origin_seen c.loop-origins.origin in
    let done = map origin_seen c.loop-origins.origins.items in
    let behind = c.in-Some-behind.behind.now in
    let parts : lines_of c.loop-origins.rest.now ≡ line ∷ lines_of behind =
    c.first_line.ensures.lines ∙ ap (λ b. line ∷ lines_behind b) c.in-Some-behind.is in
    let pushed : map origin_seen c.push.new.self.items ≡ done ++ at ∷ [] =
    ap (map origin_seen) c.in-Ok.ensures.items ∙ map-append origin_seen c.loop-origins.origins.items (c.loop-origins.origin ∷ []) in
    let shorter : length behind < length c.loop-origins.rest.now =
    shorter_by _ c.in-Some-behind.behind _ c.first_line.ensures.smaller c.in-Some-behind.is in
    record {
      made = made_more _ done _ at (origin_seen c.in-Some.next) line _ _ before.made parts pushed c.in-Some.ensures.value;
      lines = moved _ before.lines.0 _ _ line _ _ before.lines.1 before.lines.2 parts c.in-Ok.ensures.len;
      small = still_small c.loop-origins.origin.line c.in-Some.next.line (length c.loop-origins.rest.now) (length behind)
          (length c.args.text.now) c.in-Some.ensures.bound shorter before.small before.within;
      within = omega arith;
    }
