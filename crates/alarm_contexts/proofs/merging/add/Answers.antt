use Rattle.std.proofs.Common.{ap, sym, ◌∙◌, [], ◌∷◌, ◌++◌, rules}
use Rattle.std.proofs.lemmas.Bool.{true≢false}
use Rattle.alarm_contexts.specs.reading.Merging.IsAdded.{begins, joins, behind}
use Rattle.alarm_contexts.proofs.merging.add.Goals as goal

pub returns-in_default : goal.returns-in_default
returns-in_default c =
    begins c.in_ok-alone.field-0 (search rules) c.in_ok-alone.ensures (search rules)

pub returns-then-is_of : goal.returns-then-is_of
returns-then-is_of c =
    let front = c.pop.new.self.items in
    joins front c.in-Some.last c.in_ok-joined.field-0 c.in-Some.ensures.items (c.is_of.ensures.0 c.if-is_of.true)
    c.in_ok-joined.ensures c.in_ok-push-2.ensures.items

pub returns : goal.returns
returns c =
    let front = c.pop.new.self.items in
    behind front c.in-Some.last c.in_ok-alone-2.field-0 c.in-Some.ensures.items
    (λ same. true≢false (sym (c.is_of.ensures.1 same) ∙ c.if-is_of.false)) c.in_ok-alone-2.ensures
    (c.in_ok-push-4.ensures.items ∙ ap (λ xs. xs ++ c.in_ok-alone-2.field-0 ∷ []) c.in_ok-push-3.ensures.items)
