use Rattle.std.proofs.Common.{refl, sym, ◌∙◌}
use Rattle.std.proofs.lemmas.Bool.{false≢true}
use Rattle.pointer_dom.specs.PointerForms.{pointer_of}
use Rattle.pointer_dom.proofs.EqualityFacts.{none_differ_left, none_differ_right, differ_left, differ_right}
use Rattle.pointer_dom.proofs.comparisons.may_differ.Goals as goal

pub returns-then-is_nothing : goal.returns-then-is_nothing
returns-then-is_nothing c = (λ e. absurd (false≢true e), λ d. absurd (none_differ_left c.args.p.now c.args.q.now (c.is_nothing.ensures.nothing.0 c.if-is_nothing.true) d))

pub returns-then-is_nothing-2 : goal.returns-then-is_nothing-2
returns-then-is_nothing-2 c = (λ e. absurd (false≢true e), λ d. absurd (none_differ_right c.args.p.now c.args.q.now (c.is_nothing-2.ensures.nothing.0 c.if-is_nothing-2.true) d))

pub returns-in-None : goal.returns-in-None
returns-in-None c = (
  λ e. differ_left c.args.p.now c.args.q.now (λ n. false≢true (sym c.if-is_nothing.false ∙ c.is_nothing.ensures.nothing.1 n)) (λ n. false≢true (sym c.if-is_nothing-2.false ∙ c.is_nothing-2.ensures.nothing.1 n))
      c.in-None.ensures c.only-right.result c.only-right.ensures,
  λ d. refl,
)

pub returns-in-None-right : goal.returns-in-None-right
returns-in-None-right c = (
  λ e. differ_right c.args.p.now c.args.q.now (pointer_of c.in-Some.left) (λ n. false≢true (sym c.if-is_nothing-2.false ∙ c.is_nothing-2.ensures.nothing.1 n)) c.in-Some.ensures c.in-None-right.ensures,
  λ d. refl,
)
