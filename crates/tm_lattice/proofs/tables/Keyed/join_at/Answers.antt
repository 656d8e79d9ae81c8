use Rattle.std.proofs.Common.{◌≡◌, ◌≢◌, ◌∙◌, subst, sym, set}
use Rattle.std.proofs.lemmas.Bool.{false≢true}
use Rattle.std.specs.List.{insert}
use Rattle.std.specs.FinMap.{from_sorted}
use Rattle.std.specs.Ordering.{nat_cmp}
use Rattle.tm_lattice.specs.Tables.{with_entry}
use Rattle.tm_lattice.specs.reading.Listed.{IsListed}
use Rattle.tm_lattice.proofs.Edits.{set_listed, set_joins, keeps, set_rises, insert_listed, insert_joins, insert_rises}
use Rattle.tm_lattice.proofs.tables.Keyed.join_at.Goals as goal

-- the value is below what stands there
pub returns-then-below-clause-joined : goal.returns-then-below-clause-joined
returns-then-below-clause-joined g c = λ some.
    let met = g.met.V.Lattice g.world.𝓛 g.world.𝓜 g.world.𝓡 ((λ s x. x), (λ x. x), (λ x. x), λ x. x) in
    let es = c.self.inside.entries.items in
    rw (← c.self.view_is)
    (keeps g.V.Lattice met.order met.join_laws met.closure met.nothing_laws es c.self.invariant c.args.key c.args.value.now c.is_nothing.ensures.value some
    c.in-Ok.at c.index.result.now (rw c.deref.ensures.value at c.in-Ok.ensures.found) c.index.ensures (c.below.ensures.0 c.if-below.true))

-- the join is written over it
pub invariant_of-self : goal.invariant_of-self
invariant_of-self g c =
    let met = g.met.V.Lattice g.world.𝓛 g.world.𝓜 g.world.𝓡 ((λ s x. x), (λ x. x), (λ x. x), λ x. x) in
    let es = c.self.inside.entries.items in
    let some : g.V.Lattice.nothing c.args.value.now → ⊥ = λ none. false≢true (c.if-is_nothing.ensures.nothing.1 none) in
    subst (λ v. IsListed g.V.Lattice.is_value g.V.Lattice.nothing (set es c.in-Ok.at (c.args.key, v))) (sym c.in_ok-joined-in-Ok.ensures)
    (set_listed g.V.Lattice met.order met.join_laws met.closure met.nothing_laws es c.self.invariant c.args.key c.args.value.now c.is_nothing.ensures.value some
    c.in-Ok.at c.index.result.now (rw c.deref.ensures.value at c.in-Ok.ensures.found) c.index.ensures)

pub returns-in_ok-joined-in-Ok-clause-joined : goal.returns-in_ok-joined-in-Ok-clause-joined
returns-in_ok-joined-in-Ok-clause-joined g c = λ some.
    let met = g.met.V.Lattice g.world.𝓛 g.world.𝓜 g.world.𝓡 ((λ s x. x), (λ x. x), (λ x. x), λ x. x) in
    let es = c.self.inside.entries.items in
    subst (λ t. from_sorted {R = nat_cmp} (set es c.in-Ok.at (c.args.key, c.in_ok-joined-in-Ok.joined)) ≡ with_entry g.V.Lattice.joined t c.args.key c.args.value.now) c.self.view_is
    (subst (λ v. from_sorted {R = nat_cmp} (set es c.in-Ok.at (c.args.key, v)) ≡ with_entry g.V.Lattice.joined (from_sorted es) c.args.key c.args.value.now) (sym c.in_ok-joined-in-Ok.ensures)
    (set_joins g.V.Lattice met.order met.join_laws met.closure met.nothing_laws es c.self.invariant c.args.key c.args.value.now c.is_nothing.ensures.value some
    c.in-Ok.at c.index.result.now (rw c.deref.ensures.value at c.in-Ok.ensures.found) c.index.ensures))

pub returns-in_ok-joined-in-Ok-clause-rose : goal.returns-in_ok-joined-in-Ok-clause-rose
returns-in_ok-joined-in-Ok-clause-rose g c =
    let met = g.met.V.Lattice g.world.𝓛 g.world.𝓜 g.world.𝓡 ((λ s x. x), (λ x. x), (λ x. x), λ x. x) in
    let es = c.self.inside.entries.items in
    let some : g.V.Lattice.nothing c.args.value.now → ⊥ = λ none. false≢true (c.if-is_nothing.ensures.nothing.1 none) in
    let over : g.V.Lattice.leq c.args.value.now c.index.result.now.1 → ⊥ = λ le. false≢true (sym c.if-below.false ∙ c.below.ensures.1 le) in
    subst (λ t. from_sorted {R = nat_cmp} (set es c.in-Ok.at (c.args.key, c.in_ok-joined-in-Ok.joined)) ≢ t) c.self.view_is
    (subst (λ v. from_sorted {R = nat_cmp} (set es c.in-Ok.at (c.args.key, v)) ≢ from_sorted es) (sym c.in_ok-joined-in-Ok.ensures)
    (set_rises g.V.Lattice met.order met.join_laws met.closure met.nothing_laws es c.self.invariant c.args.key c.args.value.now c.is_nothing.ensures.value some
    c.in-Ok.at c.index.result.now (rw c.deref.ensures.value at c.in-Ok.ensures.found) c.index.ensures over))

-- the key was absent
pub invariant_of-self-in-Continue-branch-3 : goal.invariant_of-self-in-Continue-branch-3
invariant_of-self-in-Continue-branch-3 g c =
    let met = g.met.V.Lattice g.world.𝓛 g.world.𝓜 g.world.𝓡 ((λ s x. x), (λ x. x), (λ x. x), λ x. x) in
    let es = c.self.inside.entries.items in
    let some : g.V.Lattice.nothing c.args.value.now → ⊥ = λ none. false≢true (c.if-is_nothing.ensures.nothing.1 none) in
    subst (IsListed g.V.Lattice.is_value g.V.Lattice.nothing) (sym c.in_ok-insert-in-Err.ensures.items)
    (subst (λ v. IsListed g.V.Lattice.is_value g.V.Lattice.nothing (insert es c.in-Err.at (c.args.key, v))) (sym c.in_ok-first-in-Err.ensures)
    (insert_listed g.V.Lattice met.order met.join_laws met.closure met.nothing_laws es c.self.invariant c.args.key c.args.value.now c.is_nothing.ensures.value some
    c.in-Err.at (rw c.deref.ensures.value at c.in-Err.ensures.absent)))

pub returns-in_ok-insert-in-Err-clause-joined : goal.returns-in_ok-insert-in-Err-clause-joined
returns-in_ok-insert-in-Err-clause-joined g c = λ some.
    let met = g.met.V.Lattice g.world.𝓛 g.world.𝓜 g.world.𝓡 ((λ s x. x), (λ x. x), (λ x. x), λ x. x) in
    let es = c.self.inside.entries.items in
    subst (λ l. from_sorted {R = nat_cmp} l ≡ with_entry g.V.Lattice.joined c.args.self.now c.args.key c.args.value.now) (sym c.in_ok-insert-in-Err.ensures.items)
    (subst (λ t. from_sorted {R = nat_cmp} (insert es c.in-Err.at (c.args.key, c.in_ok-first-in-Err.first)) ≡ with_entry g.V.Lattice.joined t c.args.key c.args.value.now) c.self.view_is
    (subst (λ v. from_sorted {R = nat_cmp} (insert es c.in-Err.at (c.args.key, v)) ≡ with_entry g.V.Lattice.joined (from_sorted es) c.args.key c.args.value.now) (sym c.in_ok-first-in-Err.ensures)
    (insert_joins g.V.Lattice met.order met.join_laws met.closure met.nothing_laws es c.self.invariant c.args.key c.args.value.now c.is_nothing.ensures.value some
    c.in-Err.at (rw c.deref.ensures.value at c.in-Err.ensures.absent))))

pub returns-in_ok-insert-in-Err-clause-rose : goal.returns-in_ok-insert-in-Err-clause-rose
returns-in_ok-insert-in-Err-clause-rose g c =
    let met = g.met.V.Lattice g.world.𝓛 g.world.𝓜 g.world.𝓡 ((λ s x. x), (λ x. x), (λ x. x), λ x. x) in
    let es = c.self.inside.entries.items in
    let some : g.V.Lattice.nothing c.args.value.now → ⊥ = λ none. false≢true (c.if-is_nothing.ensures.nothing.1 none) in
    subst (λ l. from_sorted {R = nat_cmp} l ≢ c.args.self.now) (sym c.in_ok-insert-in-Err.ensures.items)
    (subst (λ t. from_sorted {R = nat_cmp} (insert es c.in-Err.at (c.args.key, c.in_ok-first-in-Err.first)) ≢ t) c.self.view_is
    (subst (λ v. from_sorted {R = nat_cmp} (insert es c.in-Err.at (c.args.key, v)) ≢ from_sorted es) (sym c.in_ok-first-in-Err.ensures)
    (insert_rises g.V.Lattice met.order met.join_laws met.closure met.nothing_laws es c.self.invariant c.args.key c.args.value.now c.is_nothing.ensures.value some
    c.in-Err.at (rw c.deref.ensures.value at c.in-Err.ensures.absent))))
