use Rattle.std.proofs.Common.{◌≡◌, ◌↔◌, ◌≤◌, ◌∙◌, length, subst, arith}
use Rattle.std.specs.Prelude.{Contains}
use Rattle.std.proofs.lemmas.List.{take_all}
use Rattle.access_races.specs.reading.Ways.{list_at}
use Rattle.access_races.proofs.Joins.{grown}
use Rattle.operand_orders.proofs.Elements.{none}
use Rattle.operand_orders.proofs.Lives.{life_more}
use Rattle.operand_orders.proofs.scopes.lives_of.Goals as goal

pub loop-life-init : goal.loop-life-init
loop-life-init c = λ o life. (
  λ h. absurd (none life (subst (λ ls. Contains ls life) (c.in_ok-by_object.ensures.none o) h)),
  λ h. absurd (none life h.0),
)

pub loop-life-preserved : goal.loop-life-preserved
loop-life-preserved c = λ o life.
    grown (c.in_ok-add_life.ensures o life) (c.loop-life.invariant o life)
    (life_more c.deref-life-items.result.now c.loop-life.life-index _ (omega arith) o life)

pub returns : goal.returns
returns c = record {
  each = λ o life.
      let lives = c.deref-life-items.result.now in
      let end : length lives ≤ c.loop-life.life-index = omega arith in
      subst (λ xs. Contains (list_at c.loop-life.by_object.items o) life ↔ (Contains xs life × (life.object ≡ o)))
      (take_all c.loop-life.life-index lives end ∙ c.deref-life-items.ensures.value) (c.loop-life.invariant o life);
}
