use Rattle.std.proofs.Common.{◌≡◌, ◌∙◌, ap, ◌++◌, [], ◌∷◌}
use Rattle.std.specs.Prelude.{option_to_list}
use Rattle.c_scope.proofs.Popped.{indexed_again, hidden_before, hiding_still, has_entry}
use Rattle.c_scope.proofs.positions.Positions.pop.Goals as goal

pub invariant_of-self : goal.invariant_of-self
invariant_of-self c =
    let old = c.self.inside.declared.items in
    let front = c.pop.new.self.items in
    let d = c.in-Some.declared in
    let e : old ≡ front ++ d ∷ [] = c.pop.ensures.items ∙ ap (λ o. front ++ option_to_list o) c.in-Some.is in (
      (λ n. indexed_again old front d n _ _ e (c.in-Ok.ensures.updates.0 n) (c.self.invariant.0 n) (hidden_before old front d e c.self.invariant.1)),
      hiding_still old front d e c.self.invariant.1,
    )

pub unreachable-requires : goal.unreachable-requires
unreachable-requires c =
    let old = c.self.inside.declared.items in
    let front = c.pop.new.self.items in
    let d = c.in-Some.declared in
    let e : old ≡ front ++ d ∷ [] = c.pop.ensures.items ∙ ap (λ o. front ++ option_to_list o) c.in-Some.is in
    has_entry old front d _ e (c.self.invariant.0 d.name) c.in-Err.ensures.absent
