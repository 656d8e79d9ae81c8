use Rattle.std.proofs.Common.{◌∙◌, ap, sym}
use Rattle.text_choices.specs.declared.static_names.Declared.{Declared}
use Rattle.text_choices.specs.reading.Named.{last_position}
use Rattle.text_choices.proofs.Named.{indexed, hiding}
use Rattle.text_choices.proofs.static_names.StaticNames.push.Goals as goal

pub invariant_of-self : goal.invariant_of-self
invariant_of-self c =
    let x : Declared = record { name = c.args.name; place = c.args.place; before = c.latest_of-before.result } in
    let items = c.self.inside.declared.items in (
      (λ n. indexed items c.push.new.self.items x c.len-position.result n _ _ c.in-Ok.ensures.items (c.len-position.ensures ∙ c.self.inside.declared.ok.0) (c.in-Ok-insert.ensures.updates.0 n) (c.self.invariant.0 n)),
      hiding items c.push.new.self.items x c.in-Ok.ensures.items (c.latest_of-before.ensures ∙ ap (λ ns. last_position ns c.args.name) (sym c.self.view_is)) c.self.invariant.1,
    )
