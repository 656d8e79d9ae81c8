use Rattle.std.proofs.Common.{ap, sym, ◌∙◌, [], ◌∷◌, ◌++◌}
use Rattle.std.proofs.lemmas.Bool.{true≢false}
use Rattle.access_groups.specs.reading.Merging.IsAdded.{joins, follows}
use Rattle.access_groups.proofs.merging.add.Goals as goal

pub returns-then-is_alike : goal.returns-then-is_alike
returns-then-is_alike c =
    let front = c.pop.new.self.items in
    joins front c.in-Some.last c.in-Some.ensures.items (c.is_alike.ensures.0 c.if-is_alike.true)
    (c.in_ok-push-2.ensures.items ∙ ap (λ j. front ++ j ∷ []) c.joined.ensures)

pub returns : goal.returns
returns c =
    let front = c.pop.new.self.items in
    follows front c.in-Some.last c.in-Some.ensures.items
    (λ same. true≢false (sym (c.is_alike.ensures.1 same) ∙ c.if-is_alike.false))
    (c.in_ok-push-4.ensures.items ∙ ap (λ xs. xs ++ c.args.access ∷ []) c.in_ok-push-3.ensures.items)
