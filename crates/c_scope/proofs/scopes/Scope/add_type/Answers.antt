use Rattle.std.proofs.Common.{◌≡◌, ◌∙◌, ap}
use Rattle.tm_typed.specs.TypeRows.{with_row}
use Rattle.c_scope.proofs.scopes.Scope.add_type.Goals as goal

pub returns-clause-ok : goal.returns-clause-ok
returns-clause-ok c =
    c.in_ok-add_row-2.ensures.ok
    ∙ ap (λ s. with_row s c.args.ctype) (c.in_ok-add_row.ensures.ok ∙ ap (λ t. with_row c.args.self.now t) c.apart_from_const-apart.ensures)
