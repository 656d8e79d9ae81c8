use Rattle.std.proofs.Common.{◌≡◌, ◌↔◌, ◌∙◌, ℕ, ◌<◌, sym, subst, refl, arith, get_or, IsTrue, true, false, length}
use Rattle.std.proofs.lemmas.Bool.{false≢true}
use Rattle.table_covers.specs.Solutions.{at, IsCovered, IsEdgeCovered, IsFirstUncovered, edge_count}
use Rattle.table_covers.proofs.Rechecks.{entry_covered, edge_covered, solution_from}
use Rattle.table_covers.specs.declared.covers.Uncovered.TheVariants.{Edge}
use Rattle.table_covers.proofs.covers.first_uncovered.Goals as goal

pub returns-then-not-branch-clause-solution : goal.returns-then-not-branch-clause-solution
returns-then-not-branch-clause-solution g c =
    let met = g.met.E.State.Lattice g.world.𝓛 g.world.𝓜 g.world.𝓡 ((λ s x. x), (λ x. x), (λ x. x), λ x. x) in
    let law = g.met.E.Equations.lawful c.args.system.now c.requires.system in (
      λ none. absurd (cc),
      λ solution. absurd (false≢true (sym c.if-not-branch.true
          ∙ c.in_ok-is_entry_covered.ensures.1 (entry_covered g.E.State.Lattice (g.E.Equations.fits c.args.system.now)
          (g.E.Equations.system_of c.args.system.now) met.order met.join_laws law (at c.args.table.now) c.requires.fits solution))),
    )

pub returns-then-not-branch-clause-first : goal.returns-then-not-branch-clause-first
returns-then-not-branch-clause-first g c = λ covered.
    false≢true (sym c.if-not-branch.true ∙ c.in_ok-is_entry_covered.ensures.1 covered)

pub is_edge_covered-requires-clause-covered : goal.is_edge_covered-requires-clause-covered
is_edge_covered-requires-clause-covered g c = λ κs within.
    subst (λ xs. (n : ℕ) → n < (g.E.Equations.system_of c.args.system.now).node_count → (g.E.Equations.system_of c.args.system.now).heads n ≡ true
    → (IsTrue (get_or xs n false) ↔ IsCovered g.E.State.Lattice (g.E.Equations.fits c.args.system.now)
    (g.E.Equations.system_of c.args.system.now) (at c.args.table.now) n))
    (sym c.deref.ensures.value) c.in_ok-covered.ensures.covered

pub returns-then-not-branch-2-clause-solution : goal.returns-then-not-branch-2-clause-solution
returns-then-not-branch-2-clause-solution g c =
    let met = g.met.E.State.Lattice g.world.𝓛 g.world.𝓜 g.world.𝓡 ((λ s x. x), (λ x. x), (λ x. x), λ x. x) in
    let law = g.met.E.Equations.lawful c.args.system.now c.requires.system in
    let told : IsTrue c.in_ok-is_edge_covered.field-0 ↔ IsEdgeCovered g.E.State.Lattice (g.E.Equations.fits c.args.system.now)
    (g.E.Equations.system_of c.args.system.now) (at c.args.table.now) c.loop-edge.edge = c.in_ok-is_edge_covered.ensures in
    let within : c.loop-edge.edge < edge_count g.E.State.Lattice (g.E.Equations.fits c.args.system.now)
    (g.E.Equations.system_of c.args.system.now) = subst (λ ls. c.loop-edge.edge < length ls) c.links-edge-end.ensures.links c.loop-edge-test.true in (
      λ none. absurd (cc),
      λ solution. absurd (false≢true (sym c.if-not-branch-2.true ∙ told.1 (edge_covered g.E.State.Lattice (g.E.Equations.fits c.args.system.now)
          (g.E.Equations.system_of c.args.system.now) met.order met.join_laws law (at c.args.table.now) c.requires.fits solution c.loop-edge.edge within))),
    )

pub returns-then-not-branch-2-clause-first : goal.returns-then-not-branch-2-clause-first
returns-then-not-branch-2-clause-first g c =
    let here : IsTrue c.in_ok-is_edge_covered.field-0 ↔ IsEdgeCovered g.E.State.Lattice (g.E.Equations.fits c.args.system.now)
    (g.E.Equations.system_of c.args.system.now) (at c.args.table.now) c.loop-edge.edge = c.in_ok-is_edge_covered.ensures in
    let within : c.loop-edge.edge < edge_count g.E.State.Lattice (g.E.Equations.fits c.args.system.now)
    (g.E.Equations.system_of c.args.system.now) = subst (λ ls. c.loop-edge.edge < length ls) c.links-edge-end.ensures.links c.loop-edge-test.true in
    let all : IsFirstUncovered g.E.State.Lattice (g.E.Equations.fits c.args.system.now)
    (g.E.Equations.system_of c.args.system.now) (at c.args.table.now) (Edge c.loop-edge.edge) =
    (c.in_ok-is_entry_covered.ensures.0 c.if-not-branch.false, within, c.loop-edge.invariant, λ covered. false≢true (sym c.if-not-branch-2.true ∙ here.1 covered)) in
    all

pub returns-clause-solution : goal.returns-clause-solution
returns-clause-solution g c =
    let met = g.met.E.State.Lattice g.world.𝓛 g.world.𝓜 g.world.𝓡 ((λ s x. x), (λ x. x), (λ x. x), λ x. x) in
    let law = g.met.E.Equations.lawful c.args.system.now c.requires.system in
    let each = subst (λ ls. (e : ℕ) → e < length ls → IsEdgeCovered g.E.State.Lattice (g.E.Equations.fits c.args.system.now)
    (g.E.Equations.system_of c.args.system.now) (at c.args.table.now) e) c.links-edge-end.ensures.links (λ e lt. c.loop-edge.invariant e (omega (arith, c.loop-edge-test.false))) in (
      λ none. solution_from g.E.State.Lattice (g.E.Equations.fits c.args.system.now)
          (g.E.Equations.system_of c.args.system.now) met.order met.join_laws law (at c.args.table.now) c.requires.fits (c.in_ok-is_entry_covered.ensures.0 c.if-not-branch.false) each,
      λ solution. refl,
    )
