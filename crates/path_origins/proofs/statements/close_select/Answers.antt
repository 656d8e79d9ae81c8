use Rattle.std.proofs.Common.{◌≡◌, suc, refl, ap, ◌∙◌, arith}
use Rattle.path_origins.specs.Noted.{behind, skips}
use Rattle.path_origins.specs.Shown.{shown}
use Rattle.path_origins.specs.Statements.{nowhere}
use Rattle.path_origins.specs.reading.Leaving.{missed}
use Rattle.path_origins.proofs.Laws.{then_behind}
use Rattle.path_origins.proofs.Leaving.{missed_unless}
use Rattle.path_origins.proofs.statements.close_select.Goals as goal

pub returns : goal.returns
returns c =
    let count : c.in_ok-more.field-0 ≡ suc c.args.within.now.breaks = omega (arith, c.in_ok-more.ensures) in
    record {
      noted = then_behind (shown c.args.to.now) (shown c.note_if.new.to) (shown c.note_skips.new.to)
          (missed c.args.has_default) (skips nowhere (suc c.args.within.now.breaks))
          (c.in_ok-note_if.ensures ∙ ap (behind (shown c.args.to.now)) (missed_unless c.args.has_default))
          (c.in_ok-note_skips.ensures ∙ ap (λ n. behind (shown c.note_if.new.to) (skips nowhere n)) count);
      ways = refl;
    }
