use Rattle.std.proofs.Common.{sym, ap, subst, ◌∙◌, ◌↔◌, IsTrue, false}
use Rattle.operand_orders.specs.reading.Views.{solved}
use Rattle.open_choices.specs.reading.Found.{AreUninitialised}
use Rattle.open_choices.proofs.Searching.{not_found}
use Rattle.open_choices.proofs.Unsets.{shared_set, stored_set, found_unset, unset_found}
use Rattle.open_choices.proofs.unset.finds_unset.Goals as goal

pub returns-then-is_static : goal.returns-then-is_static
returns-then-is_static c =
    not_found (shared_set (solved c.args.view) c.args.edge c.args.state.now c.args.cell c.abstract_at-object.result.object
    (ap (λ a. a.object) c.abstract_at-object.ensures) (sym c.is_static.ensures ∙ c.if-is_static.true))

pub returns-then-is_stored : goal.returns-then-is_stored
returns-then-is_stored c =
    not_found (stored_set (solved c.args.view) c.args.edge c.args.state.now c.args.cell c.abstract_at-object.result.object
    (ap (λ a. a.object) c.abstract_at-object.ensures) (sym c.is_stored.ensures ∙ c.if-is_stored.true))

pub returns : goal.returns
returns c =
    let b = solved c.args.view in
    let edge = c.args.edge in
    let s = c.args.state.now in
    let object = c.abstract_at-object.result.object in
    let is = ap (λ a. a.object) c.abstract_at-object.ensures in
    let lives = c.args.lives.now in
    let all = subst (λ xs. IsTrue c.are_uninitialised.result ↔ AreUninitialised edge xs) c.of.ensures
    c.are_uninitialised.ensures in (
      λ e. found_unset b edge s c.args.cell object is lives c.requires
          (sym c.is_static.ensures ∙ c.if-is_static.false) (sym c.is_stored.ensures ∙ c.if-is_stored.false)
          (all.0 e),
      λ h. all.1 (unset_found b edge s c.args.cell object is lives c.requires h),
    )
