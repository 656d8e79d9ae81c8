use Rattle.std.proofs.Common.{◌≡◌, ◌≤◌, ◌∙◌, List, length, sym, ap, subst, arith, rules, true, false}
use Rattle.std.specs.Prelude.{leb}
use Rattle.std.specs.List.Sorted.{IsNonDecreasingBy, IsPartitionPoint}
use Rattle.std.proofs.lemmas.List.Sorted.{IsPartitionPoint-from_clause, IsPartitionedBy-leb}
use Rattle.cell_placings.specs.declared.histories.Change.{Change}
use Rattle.cell_placings.specs.Histories.{node_at}
use Rattle.cell_placings.proofs.Noting.{found_none, found_one}
use Rattle.cell_placings.proofs.histories.History.at.Goals as goal

pub returns-then-behind-eq0 : goal.returns-then-behind-eq0
returns-then-behind-eq0 c =
    let rising = subst (λ (xs : List Change). IsNonDecreasingBy (λ (y : Change). y.time) xs) (sym c.deref.ensures.value) c.self.invariant in
    let parts = IsPartitionPoint-from_clause (λ (y : Change). leb y.time c.args.time) c.deref.result.now
    c.partition_point-behind.result c.partition_point-behind.ensures.partitioned
    (IsPartitionedBy-leb (λ (y : Change). y.time) c.deref.result.now c.args.time rising)
    (λ a r f called. search rules) in
    sym (subst (λ xs. node_at 0 xs c.args.time ≡ 0) (c.deref.ensures.value ∙ c.self.view_is)
    (found_none c.deref.result.now c.args.time c.partition_point-behind.result parts
    c.partition_point-behind.ensures.bound c.if-behind-eq0.true))

pub returns : goal.returns
returns c =
    let rising = subst (λ (xs : List Change). IsNonDecreasingBy (λ (y : Change). y.time) xs) (sym c.deref.ensures.value) c.self.invariant in
    let parts = IsPartitionPoint-from_clause (λ (y : Change). leb y.time c.args.time) c.deref.result.now
    c.partition_point-behind.result c.partition_point-behind.ensures.partitioned
    (IsPartitionedBy-leb (λ (y : Change). y.time) c.deref.result.now c.args.time rising)
    (λ a r f called. search rules) in
    let parts' = subst (λ xs. IsPartitionPoint (λ (y : Change). leb y.time c.args.time ≡ true)
    (λ (y : Change). leb y.time c.args.time ≡ false) xs c.partition_point-behind.result) c.deref.ensures.value parts in
    let bound = subst (λ (xs : List Change). c.partition_point-behind.result ≤ length xs) c.deref.ensures.value
    c.partition_point-behind.ensures.bound in
    ap (λ (y : Change). y.node) c.index.ensures
    ∙ sym (found_one c.self.inside.changes.items c.args.time c.partition_point-behind.result parts' bound
    c.index.result.now (omega arith))
    ∙ ap (λ xs. node_at 0 xs c.args.time) c.self.view_is
