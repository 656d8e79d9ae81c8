use Rattle.std.proofs.Common.{◌≡◌, ◌<◌, ◌∙◌, ap, sym, map, length, arith, get_or, true}
use Rattle.std.specs.Prelude.{slice_set}
use Rattle.std.proofs.lemmas.List.{map-set, length-map}
use Rattle.indexmap.specs.IndexMap.{get}
use Rattle.tm_typed.specs.declared.scopes.StructEntry.{StructEntry}
use Rattle.tm_typed.specs.Scopes.{Structure, structure_of, no_structure}
use Rattle.c_scope.specs.reading.Members.{is_same_key}
use Rattle.c_scope.proofs.Members.{IsIndexed, indexed_still, entry_at}
use Rattle.c_scope.proofs.structures.Structures.open.Goals as goal

pub invariant_of-self : goal.invariant_of-self
invariant_of-self c =
    let xs = c.self.inside.entries.items in
    let n = c.args.number in
    let x : StructEntry = c.index_mut.result.now in
    let new : StructEntry = record x { opened = true } in
    let h : n < length xs = omega (arith, c.if-index-len.true, c.len.ensures, c.self.inside.entries.ok.0) in
    let e = entry_at xs n x h c.index_mut.ensures.value in
    let i = indexed_still (λ k. get is_same_key c.self.inside.members k) (map structure_of xs) (map structure_of (slice_set xs n new)) n (structure_of new)
    (map-set structure_of xs n new) (omega (arith, h, length-map xs structure_of))
    (ap (λ (s : Structure). s.members) (sym e)) (ap (λ (s : Structure). s.complete) (sym e))
    (record { members = c.self.invariant.0; none = c.self.invariant.1 }) in
    (i.members, i.none)

pub returns-then-index-len : goal.returns-then-index-len
returns-then-index-len c =
    let xs = c.self.inside.entries.items in
    let n = c.args.number in
    let x : StructEntry = c.index_mut.result.now in
    let new : StructEntry = record x { opened = true } in
    let h : n < length xs = omega (arith, c.if-index-len.true, c.len.ensures, c.self.inside.entries.ok.0) in
    let e = entry_at xs n x h c.index_mut.ensures.value in
    map-set structure_of xs n new
    ∙ ap (λ (s : Structure). slice_set (map structure_of xs) n (record s { opened = true })) (sym e)
    ∙ ap (λ ys. slice_set ys n (record (get_or ys n no_structure) { opened = true })) c.self.view_is
