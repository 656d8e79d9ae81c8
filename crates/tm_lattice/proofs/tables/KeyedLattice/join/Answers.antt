use Rattle.std.proofs.Common.{◌≡◌, ◌∙◌, ◌+◌, ◌++◌, ◌∷◌, [], ℕ, Some, None, ap, subst, sym, drop, get_or, arith}
use Rattle.std.specs.declared.cmp.Ordering.TheVariants.{Less, Equal, Greater}
use Rattle.std.proofs.lemmas.List.{get_or_default}
use Rattle.std.specs.FinMap.{from_sorted}
use Rattle.tm_lattice.specs.Tables.{joined_table}
use Rattle.tm_lattice.specs.reading.Listed.{IsListed, order_of_first}
use Rattle.tm_lattice.proofs.Edits.{merged_listed, merged_joins}
use Rattle.tm_lattice.proofs.Merging.{merged, merged_end, all_pushed, came, pushed, step_less, step_equal, step_greater, less_within, equal_within, greater_within, less_at, equal_at, greater_at, less_left, equal_left, greater_left}
use Rattle.tm_lattice.proofs.tables.KeyedLattice.join.Given.{Over}
use Rattle.tm_lattice.proofs.tables.KeyedLattice.join.Goals as goal
use Rattle.tm_lattice.proofs.tables.KeyedLattice.join.Goals.{In_default}

pub loop-order-preserved-in-Less : goal.loop-order-preserved-in-Less
loop-order-preserved-in-Less g c =
    let join = g.V.Lattice.joined in
    let one = c.as_slice-one.result.now in
    let other = c.as_slice-other.result.now in
    let i = c.loop-order.i in
    let j = c.loop-order.j in
    let a = c.index-one-i.result in
    let a' = c.index-one-i-in-Less.result in
    let order : order_of_first (drop i one) (drop j other) ≡ Some Less = sym c.first_of.ensures ∙ c.in-Some.is ∙ ap Some c.in-Less.is in
    let same : get_or one i a' ≡ a = get_or_default one i a' a (less_within join one other i j order) ∙ sym c.index-one-i.is in
    let more = c.in_ok-push_entry-in-Less.ensures in
    let value = came c.copied.result more.entry _ more.came c.copied.ensures ∙ ap (λ (e : ℕ × g.row.V.Denot). e.1) same in
    let items = more.added ∙ ap (λ v. c.loop-order.both.items ++ ((get_or one i a).0, v) ∷ []) value ∙ ap (λ (e : ℕ × g.row.V.Denot). c.loop-order.both.items ++ (e.0, a.1) ∷ []) (sym c.index-one-i.is) in
    ap (λ es. es ++ merged join (drop (i + 1) one) (drop j other)) items
    ∙ pushed join c.loop-order.both.items (merged join (drop i one) (drop j other)) (merged join (drop (i + 1) one) (drop j other)) (merged join one other) a c.loop-order.invariant
    (step_less join one other i j a order c.index-one-i.is)

pub loop-order-preserved-in-Equal : goal.loop-order-preserved-in-Equal
loop-order-preserved-in-Equal g c =
    let join = g.V.Lattice.joined in
    let one = c.as_slice-one.result.now in
    let other = c.as_slice-other.result.now in
    let i = c.loop-order.i in
    let j = c.loop-order.j in
    let a = c.index-one-i-in-Equal.result in
    let a' = c.index-one-i-in-Equal-2.result in
    let b = c.index-other-j.result in
    let order : order_of_first (drop i one) (drop j other) ≡ Some Equal = sym c.first_of.ensures ∙ c.in-Some.is ∙ ap Some c.in-Equal.is in
    let within = equal_within join one other i j order in
    let same : get_or one i a' ≡ a = get_or_default one i a' a within.0 ∙ sym c.index-one-i-in-Equal.is in
    let more = c.in_ok-push_entry-in-Equal.ensures in
    let value = came c.join.result more.entry _ more.came c.join.ensures ∙ ap (λ (e : ℕ × g.row.V.Denot). join e.1 (get_or other j b).1) same ∙ ap (λ (e : ℕ × g.row.V.Denot). join a.1 e.1) (sym c.index-other-j.is) in
    let items = more.added ∙ ap (λ v. c.loop-order.both.items ++ ((get_or one i a).0, v) ∷ []) value ∙ ap (λ (e : ℕ × g.row.V.Denot). c.loop-order.both.items ++ (e.0, join a.1 b.1) ∷ []) (sym c.index-one-i-in-Equal.is) in
    ap (λ es. es ++ merged join (drop (i + 1) one) (drop (j + 1) other)) items
    ∙ pushed join c.loop-order.both.items (merged join (drop i one) (drop j other)) (merged join (drop (i + 1) one) (drop (j + 1) other)) (merged join one other) (a.0, join a.1 b.1) c.loop-order.invariant
    (step_equal join one other i j a b order c.index-one-i-in-Equal.is c.index-other-j.is)

pub loop-order-preserved : goal.loop-order-preserved
loop-order-preserved g c =
    let join = g.V.Lattice.joined in
    let one = c.as_slice-one.result.now in
    let other = c.as_slice-other.result.now in
    let i = c.loop-order.i in
    let j = c.loop-order.j in
    let b = c.index-other-j-in-Greater.result in
    let b' = c.index-other-j-in-Greater-2.result in
    let order : order_of_first (drop i one) (drop j other) ≡ Some Greater = sym c.first_of.ensures ∙ c.in-Some.is ∙ ap Some c.in-Greater.is in
    let same : get_or other j b' ≡ b = get_or_default other j b' b (greater_within join one other i j order) ∙ sym c.index-other-j-in-Greater.is in
    let more = c.in_ok-push_entry-in-Greater.ensures in
    let value = came c.copied-in-Greater.result more.entry _ more.came c.copied-in-Greater.ensures ∙ ap (λ (e : ℕ × g.row.V.Denot). e.1) same in
    let items = more.added ∙ ap (λ v. c.loop-order.both.items ++ ((get_or other j b).0, v) ∷ []) value ∙ ap (λ (e : ℕ × g.row.V.Denot). c.loop-order.both.items ++ (e.0, b.1) ∷ []) (sym c.index-other-j-in-Greater.is) in
    ap (λ es. es ++ merged join (drop i one) (drop (j + 1) other)) items
    ∙ pushed join c.loop-order.both.items (merged join (drop i one) (drop j other)) (merged join (drop i one) (drop (j + 1) other)) (merged join one other) b c.loop-order.invariant
    (step_greater join one other i j b order c.index-other-j-in-Greater.is)

-- the entries that are read are there, and fewer are left
pub loop-order-init : goal.loop-order-init
loop-order-init g c = ap (λ es. es ++ merged g.V.Lattice.joined c.as_slice-one.result.now c.as_slice-other.result.now) c.new-both.ensures.items

pub bounds-one-i : goal.bounds-one-i
bounds-one-i g c = less_within g.V.Lattice.joined c.as_slice-one.result.now c.as_slice-other.result.now c.loop-order.i c.loop-order.j (sym c.first_of.ensures ∙ c.in-Some.is ∙ ap Some c.in-Less.is)

pub bounds-one-i-in-Less : goal.bounds-one-i-in-Less
bounds-one-i-in-Less g c = less_within g.V.Lattice.joined c.as_slice-one.result.now c.as_slice-other.result.now c.loop-order.i c.loop-order.j (sym c.first_of.ensures ∙ c.in-Some.is ∙ ap Some c.in-Less.is)

pub bounds-one-i-in-Less-2 : goal.bounds-one-i-in-Less-2
bounds-one-i-in-Less-2 g c = less_within g.V.Lattice.joined c.as_slice-one.result.now c.as_slice-other.result.now c.loop-order.i c.loop-order.j (sym c.first_of.ensures ∙ c.in-Some.is ∙ ap Some c.in-Less.is)

pub offset_bounds-one-i : goal.offset_bounds-one-i
offset_bounds-one-i g c = less_at g.V.Lattice.joined c.as_slice-one.result.now c.as_slice-other.result.now c.loop-order.i c.loop-order.j (sym c.first_of.ensures ∙ c.in-Some.is ∙ ap Some c.in-Less.is)

pub offset_bounds-one-i-in-Less : goal.offset_bounds-one-i-in-Less
offset_bounds-one-i-in-Less g c = less_at g.V.Lattice.joined c.as_slice-one.result.now c.as_slice-other.result.now c.loop-order.i c.loop-order.j (sym c.first_of.ensures ∙ c.in-Some.is ∙ ap Some c.in-Less.is)

pub overflow_add-i : goal.overflow_add-i
overflow_add-i g c = omega (arith, c.as_slice-one.type_inv.0, less_within g.V.Lattice.joined c.as_slice-one.result.now c.as_slice-other.result.now c.loop-order.i c.loop-order.j (sym c.first_of.ensures ∙ c.in-Some.is ∙ ap Some c.in-Less.is))

pub loop-order-smaller-in-Less : goal.loop-order-smaller-in-Less
loop-order-smaller-in-Less g c = less_left g.V.Lattice.joined c.as_slice-one.result.now c.as_slice-other.result.now c.loop-order.i c.loop-order.j (sym c.first_of.ensures ∙ c.in-Some.is ∙ ap Some c.in-Less.is)

pub bounds-one-i-in-Equal : goal.bounds-one-i-in-Equal
bounds-one-i-in-Equal g c = (equal_within g.V.Lattice.joined c.as_slice-one.result.now c.as_slice-other.result.now c.loop-order.i c.loop-order.j (sym c.first_of.ensures ∙ c.in-Some.is ∙ ap Some c.in-Equal.is)).0

pub bounds-one-i-in-Equal-2 : goal.bounds-one-i-in-Equal-2
bounds-one-i-in-Equal-2 g c = (equal_within g.V.Lattice.joined c.as_slice-one.result.now c.as_slice-other.result.now c.loop-order.i c.loop-order.j (sym c.first_of.ensures ∙ c.in-Some.is ∙ ap Some c.in-Equal.is)).0

pub bounds-one-i-in-Equal-3 : goal.bounds-one-i-in-Equal-3
bounds-one-i-in-Equal-3 g c = (equal_within g.V.Lattice.joined c.as_slice-one.result.now c.as_slice-other.result.now c.loop-order.i c.loop-order.j (sym c.first_of.ensures ∙ c.in-Some.is ∙ ap Some c.in-Equal.is)).0

pub offset_bounds-one-i-in-Equal : goal.offset_bounds-one-i-in-Equal
offset_bounds-one-i-in-Equal g c = (equal_at g.V.Lattice.joined c.as_slice-one.result.now c.as_slice-other.result.now c.loop-order.i c.loop-order.j (sym c.first_of.ensures ∙ c.in-Some.is ∙ ap Some c.in-Equal.is)).0

pub offset_bounds-one-i-in-Equal-2 : goal.offset_bounds-one-i-in-Equal-2
offset_bounds-one-i-in-Equal-2 g c = (equal_at g.V.Lattice.joined c.as_slice-one.result.now c.as_slice-other.result.now c.loop-order.i c.loop-order.j (sym c.first_of.ensures ∙ c.in-Some.is ∙ ap Some c.in-Equal.is)).0

pub offset_bounds-other-j : goal.offset_bounds-other-j
offset_bounds-other-j g c = (equal_at g.V.Lattice.joined c.as_slice-one.result.now c.as_slice-other.result.now c.loop-order.i c.loop-order.j (sym c.first_of.ensures ∙ c.in-Some.is ∙ ap Some c.in-Equal.is)).1

pub bounds-other-j : goal.bounds-other-j
bounds-other-j g c = (equal_within g.V.Lattice.joined c.as_slice-one.result.now c.as_slice-other.result.now c.loop-order.i c.loop-order.j (sym c.first_of.ensures ∙ c.in-Some.is ∙ ap Some c.in-Equal.is)).1

pub overflow_add-i-in-Equal : goal.overflow_add-i-in-Equal
overflow_add-i-in-Equal g c = omega (arith, c.as_slice-one.type_inv.0, (equal_within g.V.Lattice.joined c.as_slice-one.result.now c.as_slice-other.result.now c.loop-order.i c.loop-order.j (sym c.first_of.ensures ∙ c.in-Some.is ∙ ap Some c.in-Equal.is)).0)

pub overflow_add-j : goal.overflow_add-j
overflow_add-j g c = omega (arith, c.as_slice-other.type_inv.0, (equal_within g.V.Lattice.joined c.as_slice-one.result.now c.as_slice-other.result.now c.loop-order.i c.loop-order.j (sym c.first_of.ensures ∙ c.in-Some.is ∙ ap Some c.in-Equal.is)).1)

pub loop-order-smaller-in-Equal : goal.loop-order-smaller-in-Equal
loop-order-smaller-in-Equal g c = equal_left g.V.Lattice.joined c.as_slice-one.result.now c.as_slice-other.result.now c.loop-order.i c.loop-order.j (sym c.first_of.ensures ∙ c.in-Some.is ∙ ap Some c.in-Equal.is)

pub bounds-other-j-in-Greater : goal.bounds-other-j-in-Greater
bounds-other-j-in-Greater g c = greater_within g.V.Lattice.joined c.as_slice-one.result.now c.as_slice-other.result.now c.loop-order.i c.loop-order.j (sym c.first_of.ensures ∙ c.in-Some.is ∙ ap Some c.in-Greater.is)

pub bounds-other-j-in-Greater-2 : goal.bounds-other-j-in-Greater-2
bounds-other-j-in-Greater-2 g c = greater_within g.V.Lattice.joined c.as_slice-one.result.now c.as_slice-other.result.now c.loop-order.i c.loop-order.j (sym c.first_of.ensures ∙ c.in-Some.is ∙ ap Some c.in-Greater.is)

pub bounds-other-j-in-Greater-3 : goal.bounds-other-j-in-Greater-3
bounds-other-j-in-Greater-3 g c = greater_within g.V.Lattice.joined c.as_slice-one.result.now c.as_slice-other.result.now c.loop-order.i c.loop-order.j (sym c.first_of.ensures ∙ c.in-Some.is ∙ ap Some c.in-Greater.is)

pub offset_bounds-other-j-in-Greater : goal.offset_bounds-other-j-in-Greater
offset_bounds-other-j-in-Greater g c = greater_at g.V.Lattice.joined c.as_slice-one.result.now c.as_slice-other.result.now c.loop-order.i c.loop-order.j (sym c.first_of.ensures ∙ c.in-Some.is ∙ ap Some c.in-Greater.is)

pub offset_bounds-other-j-in-Greater-2 : goal.offset_bounds-other-j-in-Greater-2
offset_bounds-other-j-in-Greater-2 g c = greater_at g.V.Lattice.joined c.as_slice-one.result.now c.as_slice-other.result.now c.loop-order.i c.loop-order.j (sym c.first_of.ensures ∙ c.in-Some.is ∙ ap Some c.in-Greater.is)

pub loop-order-smaller : goal.loop-order-smaller
loop-order-smaller g c = greater_left g.V.Lattice.joined c.as_slice-one.result.now c.as_slice-other.result.now c.loop-order.i c.loop-order.j (sym c.first_of.ensures ∙ c.in-Some.is ∙ ap Some c.in-Greater.is)

pub overflow_add-j-in-Greater : goal.overflow_add-j-in-Greater
overflow_add-j-in-Greater g c =
    let order : order_of_first (drop c.loop-order.i c.as_slice-one.result.now) (drop c.loop-order.j c.as_slice-other.result.now) ≡ Some Greater = sym c.first_of.ensures ∙ c.in-Some.is ∙ ap Some c.in-Greater.is in
    omega (arith, c.as_slice-other.type_inv.0, greater_within g.V.Lattice.joined c.as_slice-one.result.now c.as_slice-other.result.now c.loop-order.i c.loop-order.j order)

all_merged : (g : Over) (c : In_default g) → c.loop-order.both.items ≡ merged g.V.Lattice.joined c.self.inside.entries.items c.other.inside.entries.items
all_merged g c =
    let join = g.V.Lattice.joined in
    let one = c.as_slice-one.result.now in
    let other = c.as_slice-other.result.now in
    let order : order_of_first (drop c.loop-order.i one) (drop c.loop-order.j other) ≡ None = sym c.first_of.ensures ∙ c.in_default.is in
    all_pushed join c.loop-order.both.items (merged join (drop c.loop-order.i one) (drop c.loop-order.j other)) (merged join one other) c.loop-order.invariant (merged_end join (drop c.loop-order.i one) (drop c.loop-order.j other) order)
    ∙ ap (λ es. merged join es other) c.as_slice-one.ensures.value ∙ ap (merged join c.self.inside.entries.items) c.as_slice-other.ensures.value

pub invariant_of-result : goal.invariant_of-result
invariant_of-result g c =
    let met = g.met.V.Lattice in
    subst (IsListed g.V.Lattice.is_value g.V.Lattice.nothing) (sym (all_merged g c))
    (merged_listed g.V.Lattice met.order met.join_laws met.closure met.nothing_laws c.self.inside.entries.items c.other.inside.entries.items c.self.invariant c.other.invariant)

pub returns : goal.returns
returns g c =
    let met = g.met.V.Lattice in
    let join = g.V.Lattice.joined in
    ap from_sorted (all_merged g c)
    ∙ merged_joins g.V.Lattice met.order met.join_laws met.closure met.nothing_laws c.self.inside.entries.items c.other.inside.entries.items c.self.invariant c.other.invariant
    ∙ ap (λ t. joined_table join t (from_sorted c.other.inside.entries.items)) c.self.view_is ∙ ap (joined_table join c.args.self.now) c.other.view_is
