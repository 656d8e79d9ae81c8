use Rattle.std.proofs.Common.{◌≡◌, ◌<◌, ◌∙◌, None, true, get_or, set, length, sym, ap, subst, inl, inr, arith}
use Rattle.std.proofs.lemmas.Bool.{cases_eq, false≢true}
use Rattle.std.proofs.lemmas.List.{get_or_default, get_or-set_same, get_or-set_other}
use Rattle.table_covers.specs.Systems.{from_of}
use Rattle.least_tables.specs.reading.WorkLists.{IsLastBelow}
use Rattle.least_tables.proofs.Marking.{IsFollowed, next_followed, chain_falls, past_number}
use Rattle.least_tables.proofs.leaving_edges.Leaving.mark.Goals as goal
use Rattle.least_tables.proofs.leaving_edges.Leaving.mark.Goals.{After-at-in-Some-1}

pub bounds-pending-edge : goal.bounds-pending-edge
bounds-pending-edge c =
    let here = c.loop-at.invariant.0.at_node c.in-Some.edge c.in-Some.is in
    omega (arith, here.0, c.loop-at.auto.pending, c.requires.edges)

pub index-at-requires-in-Some : goal.index-at-requires-in-Some
index-at-requires-in-Some c =
    let here = c.loop-at.invariant.0.at_node c.in-Some.edge c.in-Some.is in
    omega (arith, here.0, c.requires.index.edge_count)

-- the edge that was read is the one before in the chain
before_is : (c : After-at-in-Some-1) → IsLastBelow c.args.self.now.links.now (from_of c.args.self.now.links.now c.in-Some.edge) c.in-Some.edge c.index-at-in-Some.result.now
before_is c =
    let links = c.args.self.now.links.now in
    let edge = c.in-Some.edge in
    let before = c.args.self.now.before.items in
    let here = c.loop-at.invariant.0.at_node edge c.in-Some.is in
    let within : edge < length before = omega (arith, here.0, c.requires.index.edge_count) in
    subst (IsLastBelow links (from_of links edge) edge) (sym (c.index-at-in-Some.ensures ∙ sym (get_or_default before edge None c.index-at-in-Some.result.now within))) (c.requires.index.goes_on edge here.0)

pub loop-at-smaller : goal.loop-at-smaller
loop-at-smaller c =
    let falls = chain_falls c.args.self.now.links.now (from_of c.args.self.now.links.now c.in-Some.edge) c.in-Some.edge c.index-at-in-Some.result.now (before_is c) in
    subst (λ x. past_number c.index-at-in-Some.result.now < past_number x) (sym c.in-Some.is) falls

pub loop-at-preserved : goal.loop-at-preserved
loop-at-preserved c =
    let links = c.args.self.now.links.now in
    let edge = c.in-Some.edge in
    let pending = c.loop-at.pending in
    let followed = subst (IsFollowed links c.args.node pending) c.in-Some.is c.loop-at.invariant.0 in
    let here = c.loop-at.invariant.0.at_node edge c.in-Some.is in
    let within : edge < length pending = omega (arith, here.0, c.loop-at.auto.pending, c.requires.edges) in
    let set_here : get_or (set pending edge true) edge true ≡ true = get_or-set_same pending edge true true within in (
      next_followed links c.args.node edge pending (set pending edge true) c.index-at-in-Some.result.now followed (before_is c) set_here (λ k marked. elim (cases_eq k edge) [
        | inl same ↦ subst (λ i. get_or (set pending edge true) i true ≡ true) (sym same) set_here
        | inr other ↦ get_or-set_other pending edge k true true other ∙ marked
      ]),
      λ k quiet. elim (cases_eq k edge) [
        | inl same ↦ absurd (false≢true (sym quiet ∙ ap (λ i. get_or (set pending edge true) i true) same ∙ set_here))
        | inr other ↦ c.loop-at.invariant.1 k (sym (get_or-set_other pending edge k true true other) ∙ quiet)
      ],
    )
