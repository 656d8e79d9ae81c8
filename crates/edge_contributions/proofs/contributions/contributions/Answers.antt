use Rattle.std.proofs.Common.{◌≡◌, sym, ap, subst, ◌∙◌, ◌∷◌, [], ◌++◌, ◌+◌, ◌<◌, length, IfSome}
use Rattle.table_covers.specs.Solutions.{at}
use Rattle.table_covers.specs.Passes.{added_below}
use Rattle.edge_contributions.specs.reading.Bounds.{AddTo}
use Rattle.edge_contributions.proofs.BoundsKept.{add_none, add_marked, add_without, add_with}
use Rattle.edge_contributions.proofs.contributions.contributions.Goals as goal
use Rattle.edge_contributions.proofs.contributions.contributions.Goals.{then-may_add+in_ok-more+in-Some+in_ok-push}
use Rattle.edge_contributions.proofs.contributions.contributions.Goals.{then-may_add+in_ok-more+in_default, else-may_add}

pub loop-edge-init : goal.loop-edge-init
loop-edge-init g c =
    let met = g.met.C.Added.Lattice g.world.𝓛 g.world.𝓜 g.world.𝓡 ((λ s x. x), (λ x. x), (λ x. x), λ x. x) in
    let nothing = g.C.Contributions.nothing_added c.args.system.now in
    subst (AddTo g.C.Added.Lattice.is_value g.C.Added.Lattice.leq nothing nothing) (sym c.new-parts.ensures.items)
    (add_none g.C.Added.Lattice.is_value g.C.Added.Lattice.leq g.C.Added.Lattice.joined met.order met.join_laws nothing
    c.requires.nothing)

pub loop-edge-preserved : goal.loop-edge-preserved
loop-edge-preserved g c =
    let met = g.met.C.Added.Lattice g.world.𝓛 g.world.𝓜 g.world.𝓡 ((λ s x. x), (λ x. x), (λ x. x), λ x. x) in
    let system = c.args.system.now in
    let links = (g.C.Equations.system_of system).links in
    let nothing = g.C.Contributions.nothing_added system in
    let table = at c.args.table.now in
    let e = c.loop-edge.edge in
    let xs = c.loop-edge.parts.items in
    let total = added_below links nothing (g.C.Contributions.contributed system) g.C.Added.Lattice.joined (e + 1) table in
    elim c.if-may_add.branch [
      | then-may_add+in_ok-more+in-Some+in_ok-push w ↦
          subst (AddTo g.C.Added.Lattice.is_value g.C.Added.Lattice.leq nothing total)
          (sym w.in_ok-push.ensures.items ∙ sym (ap (λ v. v.items) w.parts-is))
          (add_with g.C.Added.Lattice.is_value g.C.Added.Lattice.leq g.C.Added.Lattice.joined met.order met.join_laws links
          nothing (g.C.Contributions.contributed system) table c.requires.nothing c.requires.least e xs
          w.in_ok-more.field-0 w.in-Some.more w.in_ok-more.ensures.is w.in-Some.is
          (subst (λ f. IfSome f g.C.Added.Lattice.is_value) w.in-Some.is w.in_ok-more.ensures.value)
          c.loop-edge.invariant)
      | then-may_add+in_ok-more+in_default w ↦
          subst (AddTo g.C.Added.Lattice.is_value g.C.Added.Lattice.leq nothing total)
          (sym (ap (λ v. v.items) w.parts-is))
          (add_without g.C.Added.Lattice.is_value g.C.Added.Lattice.leq g.C.Added.Lattice.joined met.order met.join_laws
          links nothing (g.C.Contributions.contributed system) table c.requires.nothing c.requires.least e xs
          w.in_ok-more.field-0 w.in_ok-more.ensures.is w.in_default.is c.loop-edge.invariant)
      | else-may_add w ↦
          let l : e < length links =
          subst (λ ls. e < length ls) c.links-edge-end.ensures.links c.loop-edge-test.true in
          subst (AddTo g.C.Added.Lattice.is_value g.C.Added.Lattice.leq nothing total)
          (sym (ap (λ v. v.items) w.parts-is))
          (add_marked g.C.Added.Lattice.is_value g.C.Added.Lattice.leq g.C.Added.Lattice.joined met.order met.join_laws
          links nothing (g.C.Contributions.contributed system) table c.requires.nothing c.requires.least e xs
          (c.requires.adds e l (sym c.may_add.ensures ∙ w.if-may_add.false)) c.loop-edge.invariant)
    ]
