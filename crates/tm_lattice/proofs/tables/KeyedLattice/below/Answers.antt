use Rattle.std.proofs.Common.{◌≡◌, ◌∙◌, Some, None, ap, sym, drop, arith}
use Rattle.std.specs.declared.cmp.Ordering.TheVariants.{Less, Equal, Greater}
use Rattle.std.proofs.lemmas.Bool.{false≢true}
use Rattle.tm_lattice.specs.reading.Listed.{order_of_first}
use Rattle.tm_lattice.proofs.Merging.{equal_within, greater_within, equal_at, equal_left, greater_left}
use Rattle.tm_lattice.proofs.Comparing.{stop_less, stop_equal, go_equal, go_greater, all_compared, read_leq, told_no, told_yes}
use Rattle.tm_lattice.proofs.tables.KeyedLattice.below.Goals as goal

pub returns-in-Less : goal.returns-in-Less
returns-in-Less g c =
    let leq = g.V.Lattice.leq in
    let one = c.as_slice-one.result.now in
    let other = c.as_slice-other.result.now in
    let order : order_of_first (drop c.loop-order.i one) (drop c.loop-order.j other) ≡ Some Less = sym c.first_of.ensures ∙ c.in-Some.is ∙ ap Some c.in-Less.is in
    told_no leq one other c.self.inside.entries.items c.other.inside.entries.items c.args.self.now c.args.other.now c.as_slice-one.ensures.value c.as_slice-other.ensures.value
    c.self.invariant.sorted c.other.invariant.sorted c.self.view_is c.other.view_is
    (stop_less leq one other c.loop-order.i c.loop-order.j (rw c.as_slice-one.ensures.value c.self.invariant.sorted) (rw c.as_slice-other.ensures.value c.other.invariant.sorted) order c.loop-order.invariant)

pub returns-then-not-below : goal.returns-then-not-below
returns-then-not-below g c =
    let leq = g.V.Lattice.leq in
    let one = c.as_slice-one.result.now in
    let other = c.as_slice-other.result.now in
    let order : order_of_first (drop c.loop-order.i one) (drop c.loop-order.j other) ≡ Some Equal = sym c.first_of.ensures ∙ c.in-Some.is ∙ ap Some c.in-Equal.is in
    told_no leq one other c.self.inside.entries.items c.other.inside.entries.items c.args.self.now c.args.other.now c.as_slice-one.ensures.value c.as_slice-other.ensures.value
    c.self.invariant.sorted c.other.invariant.sorted c.self.view_is c.other.view_is
    (stop_equal leq one other c.loop-order.i c.loop-order.j (rw c.as_slice-one.ensures.value c.self.invariant.sorted) (rw c.as_slice-other.ensures.value c.other.invariant.sorted)
    c.index-one-i.result c.index-other-j.result order c.index-one-i.is c.index-other-j.is c.loop-order.invariant (λ le. false≢true (sym c.if-not-below.true ∙ c.below.ensures.1 (read_leq leq c.index-one-i.result c.index-other-j.result _ _ c.index-one-i.is c.index-other-j.is le))))

pub loop-order-preserved-in-Equal : goal.loop-order-preserved-in-Equal
loop-order-preserved-in-Equal g c =
    let leq = g.V.Lattice.leq in
    let one = c.as_slice-one.result.now in
    let other = c.as_slice-other.result.now in
    let order : order_of_first (drop c.loop-order.i one) (drop c.loop-order.j other) ≡ Some Equal = sym c.first_of.ensures ∙ c.in-Some.is ∙ ap Some c.in-Equal.is in
    go_equal leq one other c.loop-order.i c.loop-order.j (rw c.as_slice-one.ensures.value c.self.invariant.sorted) (rw c.as_slice-other.ensures.value c.other.invariant.sorted)
    c.index-one-i.result c.index-other-j.result order c.index-one-i.is c.index-other-j.is c.loop-order.invariant (read_leq leq _ _ c.index-one-i.result c.index-other-j.result (sym c.index-one-i.is) (sym c.index-other-j.is) (c.below.ensures.0 c.if-not-below.false))

pub loop-order-preserved : goal.loop-order-preserved
loop-order-preserved g c =
    let leq = g.V.Lattice.leq in
    let one = c.as_slice-one.result.now in
    let other = c.as_slice-other.result.now in
    let order : order_of_first (drop c.loop-order.i one) (drop c.loop-order.j other) ≡ Some Greater = sym c.first_of.ensures ∙ c.in-Some.is ∙ ap Some c.in-Greater.is in
    go_greater leq one other c.loop-order.i c.loop-order.j (rw c.as_slice-one.ensures.value c.self.invariant.sorted) (rw c.as_slice-other.ensures.value c.other.invariant.sorted) order c.loop-order.invariant

pub returns : goal.returns
returns g c =
    let leq = g.V.Lattice.leq in
    let one = c.as_slice-one.result.now in
    let other = c.as_slice-other.result.now in
    let order : order_of_first (drop c.loop-order.i one) (drop c.loop-order.j other) ≡ None = sym c.first_of.ensures ∙ c.in_default.is in
    told_yes leq one other c.self.inside.entries.items c.other.inside.entries.items c.args.self.now c.args.other.now c.as_slice-one.ensures.value c.as_slice-other.ensures.value
    c.self.invariant.sorted c.other.invariant.sorted c.self.view_is c.other.view_is
    (all_compared leq one other c.loop-order.i c.loop-order.j (rw c.as_slice-one.ensures.value c.self.invariant.sorted) (rw c.as_slice-other.ensures.value c.other.invariant.sorted) order c.loop-order.invariant)

-- the entries that are compared are there, and fewer are left
pub bounds-one-i : goal.bounds-one-i
bounds-one-i g c = (equal_within g.V.Lattice.joined c.as_slice-one.result.now c.as_slice-other.result.now c.loop-order.i c.loop-order.j (sym c.first_of.ensures ∙ c.in-Some.is ∙ ap Some c.in-Equal.is)).0

pub offset_bounds-one-i : goal.offset_bounds-one-i
offset_bounds-one-i g c = (equal_at g.V.Lattice.joined c.as_slice-one.result.now c.as_slice-other.result.now c.loop-order.i c.loop-order.j (sym c.first_of.ensures ∙ c.in-Some.is ∙ ap Some c.in-Equal.is)).0

pub bounds-other-j : goal.bounds-other-j
bounds-other-j g c = (equal_within g.V.Lattice.joined c.as_slice-one.result.now c.as_slice-other.result.now c.loop-order.i c.loop-order.j (sym c.first_of.ensures ∙ c.in-Some.is ∙ ap Some c.in-Equal.is)).1

pub offset_bounds-other-j : goal.offset_bounds-other-j
offset_bounds-other-j g c = (equal_at g.V.Lattice.joined c.as_slice-one.result.now c.as_slice-other.result.now c.loop-order.i c.loop-order.j (sym c.first_of.ensures ∙ c.in-Some.is ∙ ap Some c.in-Equal.is)).1

pub overflow_add-i : goal.overflow_add-i
overflow_add-i g c = omega (arith, c.as_slice-one.type_inv.0, (equal_within g.V.Lattice.joined c.as_slice-one.result.now c.as_slice-other.result.now c.loop-order.i c.loop-order.j (sym c.first_of.ensures ∙ c.in-Some.is ∙ ap Some c.in-Equal.is)).0)

pub overflow_add-j : goal.overflow_add-j
overflow_add-j g c = omega (arith, c.as_slice-other.type_inv.0, (equal_within g.V.Lattice.joined c.as_slice-one.result.now c.as_slice-other.result.now c.loop-order.i c.loop-order.j (sym c.first_of.ensures ∙ c.in-Some.is ∙ ap Some c.in-Equal.is)).1)

pub overflow_add-j-in-Greater : goal.overflow_add-j-in-Greater
overflow_add-j-in-Greater g c = omega (arith, c.as_slice-other.type_inv.0, greater_within g.V.Lattice.joined c.as_slice-one.result.now c.as_slice-other.result.now c.loop-order.i c.loop-order.j (sym c.first_of.ensures ∙ c.in-Some.is ∙ ap Some c.in-Greater.is))

pub loop-order-smaller-in-Equal : goal.loop-order-smaller-in-Equal
loop-order-smaller-in-Equal g c = equal_left g.V.Lattice.joined c.as_slice-one.result.now c.as_slice-other.result.now c.loop-order.i c.loop-order.j (sym c.first_of.ensures ∙ c.in-Some.is ∙ ap Some c.in-Equal.is)

pub loop-order-smaller : goal.loop-order-smaller
loop-order-smaller g c = greater_left g.V.Lattice.joined c.as_slice-one.result.now c.as_slice-other.result.now c.loop-order.i c.loop-order.j (sym c.first_of.ensures ∙ c.in-Some.is ∙ ap Some c.in-Greater.is)
