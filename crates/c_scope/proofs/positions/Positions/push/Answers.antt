use Rattle.std.proofs.Common.{◌∙◌, ap, sym}
use Rattle.c_scope.specs.declared.positions.Declared.{Declared}
use Rattle.c_scope.specs.reading.Positions.{last_position}
use Rattle.c_scope.proofs.Pushed.{indexed, hiding}
use Rattle.c_scope.proofs.positions.Positions.push.Goals as goal

pub invariant_of-self : goal.invariant_of-self
invariant_of-self c =
    let x : Declared = record { name = c.args.name; before = c.last-before.result } in
    let items = c.self.inside.declared.items in (
      (λ n. indexed items c.push.new.self.items x c.len-position.result n _ _ c.in-Ok.ensures.items (c.len-position.ensures ∙ c.self.inside.declared.ok.0) (c.in-Ok-insert.ensures.updates.0 n) (c.self.invariant.0 n)),
      hiding items c.push.new.self.items x c.in-Ok.ensures.items (c.last-before.ensures ∙ ap (λ ns. last_position ns c.args.name) (sym c.self.view_is)) c.self.invariant.1,
    )
