use Rattle.std.proofs.Common.{◌≡◌, sym, subst}
use Rattle.body_builder.specs.lowering.Table.{is_alone}
use Rattle.body_builder.specs.Fragments.{tree_in}
use Rattle.statement_builder.proofs.locals.is_alone.Goals as goal

pub returns-then-cell-eq0 : goal.returns-then-cell-eq0
returns-then-cell-eq0 c =
    λ path. subst (λ k. c.is_scalar_object.result ≡ is_alone (tree_in c.args.laid.now) path c.args.object k)
    (sym c.if-cell-eq0.true) (c.is_scalar_object.ensures path)
