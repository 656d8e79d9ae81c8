use Rattle.std.proofs.Common.{◌≡◌, sym, ◌∙◌, [], ◌∷◌, ◌++◌, Option, Some, subst, cond}
use Rattle.std.specs.BTreeMap.{get}
use Rattle.std.specs.Ordering.{is_eq}
use Rattle.unit_plans.specs.declared.declarations.Local.{Local}
use Rattle.unit_plans.specs.reading.Tables.{IsTable, local_cmp}
use Rattle.unit_plans.proofs.TableSteps.{IsTable-none, IsTable-known, IsTable-new}
use Rattle.unit_plans.proofs.tables.note.Goals as goal

pub returns-in_default : goal.returns-in_default
returns-in_default c = λ names is count.
    subst (λ (n : Option Local). IsTable c.args.table.now (names ++ n ∷ [])) (sym c.in_default.is)
    (IsTable-none c.args.table.now names is)

pub returns-then-contains_key : goal.returns-then-contains_key
returns-then-contains_key c = λ names is count.
    subst (λ (n : Option Local). IsTable c.args.table.now (names ++ n ∷ [])) (sym c.in-Some.is)
    (IsTable-known c.args.table.now names c.in-Some.name is (sym c.contains_key.ensures ∙ c.if-contains_key.true))

pub returns-in-Ok : goal.returns-in-Ok
returns-in-Ok c = λ names is count.
    subst (λ (n : Option Local). IsTable c.insert.new.self (names ++ n ∷ [])) (sym c.in-Some.is)
    (IsTable-new c.args.table.now c.insert.new.self names c.in-Some.name is
    (sym c.contains_key.ensures ∙ c.if-contains_key.false)
    (λ q. subst (λ n. get local_cmp c.insert.new.self q
    ≡ cond (is_eq (local_cmp c.in-Some.name q)) (Some n) (get local_cmp c.args.table.now q)) count
    (c.in-Ok.ensures.updates.0 q)))
