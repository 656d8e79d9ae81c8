use Rattle.std.proofs.Common.{◌≡◌, suc, refl, ap, ◌∙◌, arith}
use Rattle.path_origins.specs.Noted.{behind, skips}
use Rattle.path_origins.specs.Shown.{shown}
use Rattle.path_origins.specs.Statements.{nowhere}
use Rattle.path_origins.proofs.Laws.{then_behind}
use Rattle.path_origins.proofs.statements.close_loop.Goals as goal

pub returns : goal.returns
returns c =
    let count : c.in_ok-more.field-0 ≡ suc c.args.others = omega (arith, c.in_ok-more.ensures) in
    record {
      noted = then_behind (shown c.args.to.now) (shown c.note_skips.new.to) (shown c.note_skips-2.new.to)
          (skips nowhere (suc c.args.others)) (skips nowhere c.args.within.now.breaks)
          (c.in_ok-note_skips.ensures ∙ ap (λ n. behind (shown c.args.to.now) (skips nowhere n)) count)
          c.in_ok-note_skips-2.ensures;
      ways = refl;
    }
