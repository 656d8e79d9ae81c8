use Rattle.std.proofs.Common.{◌≡◌, ◌∙◌, Result, Ok, Err, Some, sym, ap, subst}
use Rattle.std.specs.Option.{option_copied}
use Rattle.std.specs.Result.{OnOk}
use Rattle.std.specs.FinMap as map
use Rattle.tm_lattice.specs.Tables.{Table, IsEntry}
use Rattle.tm_lattice.proofs.Rounding.{absent_selected, written_selected, rounded_some}
use Rattle.state_tree.proofs.Parting.{written_again}
use Rattle.state_tree.proofs.trees.Tree.round_entry.Goals as goal

pub returns-in_default : goal.returns-in_default
returns-in_default g c = absent_selected (g.V.Lattice.rounded c.args.marks.now) c.args.self.now c.args.key (sym c.get.ensures ∙ ap option_copied c.in_default.is)

pub returns-then-below : goal.returns-then-below
returns-then-below g c =
    let met = g.met.V.Lattice g.world.𝓛 g.world.𝓜 g.world.𝓡 ((λ s x. x), (λ x. x), (λ x. x), λ x. x) in
    let value = c.in-Some.value.now in
    let outer = c.in_ok-outer.outer in
    let stands : map.get c.args.self.now c.args.key ≡ Some value = sym c.get.ensures ∙ ap option_copied c.in-Some.is in
    let value-is = (subst (IsEntry g.V.Lattice.is_value g.V.Lattice.nothing) stands (c.is_nothing-empty.ensures.value c.args.key)).0 in
    let outer-is = subst g.V.Lattice.is_value (sym c.in_ok-outer.ensures) (met.closure.value c.args.marks.now value c.requires value-is) in
    let above = subst (g.V.Lattice.leq value) (sym c.in_ok-outer.ensures) (met.closure.extensive c.args.marks.now value c.requires value-is) in
    let same = met.order.antisymmetric outer value outer-is value-is (c.below.ensures.0 c.if-below.true) above in
    written_again c.args.self.now c.args.key value outer stands same
    ∙ written_selected (g.V.Lattice.rounded c.args.marks.now) c.args.self.now c.args.key value outer stands c.in_ok-outer.ensures

-- what is written where the value is not nothing
on_ok : {V A E : Type 0} (r : Result A E) (P : Type 0) (t u w : Table V) → (P → ⊥) → u ≡ w → OnOk r ((P → ⊥) → t ≡ u) → OnOk r (t ≡ w)
on_ok (Ok a) P t u w some same then = then some ∙ same
on_ok (Err e) P t u w some same then = tt

pub returns : goal.returns
returns g c =
    let met = g.met.V.Lattice g.world.𝓛 g.world.𝓜 g.world.𝓡 ((λ s x. x), (λ x. x), (λ x. x), λ x. x) in
    let stands : map.get c.args.self.now c.args.key ≡ Some c.in-Some.value.now = sym c.get.ensures ∙ ap option_copied c.in-Some.is in
    let some = rounded_some g.V.Lattice.is_value g.V.Lattice.is_marks g.V.Lattice.leq g.V.Lattice.rounded g.V.Lattice.nothing met.order met.closure met.nothing_laws
    c.args.marks.now c.args.self.now c.args.key c.in-Some.value.now c.in_ok-outer.outer c.requires c.is_nothing-empty.ensures.value stands c.in_ok-outer.ensures in
    let selects = written_selected (g.V.Lattice.rounded c.args.marks.now) c.args.self.now c.args.key c.in-Some.value.now c.in_ok-outer.outer stands c.in_ok-outer.ensures in
    on_ok c.put.result (g.V.Lattice.nothing c.in_ok-outer.outer) c.put.new.self _ _ some selects c.put.ensures.written
