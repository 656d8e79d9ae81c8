use Rattle.std.proofs.Common.{◌∙◌, ◌∷◌, ◌++◌, [], ap, arith, length}
use Rattle.std.proofs.lemmas.List.{length_push}
use Rattle.place_details.specs.Functions.{code_of, mode_behind}
use Rattle.place_details.proofs.Steps.{shown_more}
use Rattle.place_details.proofs.code.code_of.Goals as goal

pub loop-i-preserved : goal.loop-i-preserved
loop-i-preserved c =
    let long = ap length c.in_ok-push.ensures.items ∙ length_push c.loop-i.code.items c.shown_in.result in (
      shown_more (code_of c.args.text.now) c.loop-i.code.items c.push.new.self.items c.args.text.now c.loop-i.i c.loop-i.mode
          c.mode_behind-next.result c.loop-i-test.true c.loop-i.invariant.0
          (c.mode_behind-next.ensures ∙ ap (mode_behind c.loop-i.mode _) c.byte_at.ensures.value)
          (c.in_ok-push.ensures.items ∙ ap (λ b. c.loop-i.code.items ++ b ∷ []) c.shown_in.ensures),
      omega (arith, long, c.loop-i.invariant.1),
    )
