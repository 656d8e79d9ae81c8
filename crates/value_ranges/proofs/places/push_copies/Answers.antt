use Rattle.std.proofs.Common.{◌≡◌, ◌+◌, ◌∙◌, length, sym, subst, arith, None, Vec}
use Rattle.std.specs.declared.alloc.Global.{Global}
use Rattle.std.proofs.lemmas.List.{get_or_default}
use Rattle.program_reports.specs.post_recheck.task_equations.Bodies.{no_copy}
use Rattle.tm_terms.specs.declared.places.Place.{Place}
use Rattle.value_ranges.specs.reading.Reached.{AddsPlaces, IsOfCopy, IsOfCopies}
use Rattle.value_ranges.proofs.Adding.{adds_nothing, adds_more, adds_same, copy_added, no_copy_added}
use Rattle.value_ranges.proofs.places.push_copies.Goals as goal
use Rattle.value_ranges.proofs.places.push_copies.Goals.{then-is_some+in_ok-push_place_of, else-is_some}

pub loop-copy-init : goal.loop-copy-init
loop-copy-init c =
    adds_nothing (λ q k. IsOfCopy c.args.edges.now c.args.copies.now c.args.table.now q k) c.args.places.now.items

pub loop-copy-preserved : goal.loop-copy-preserved
loop-copy-preserved c =
    let edges = c.args.edges.now in
    let copies = c.args.copies.now in
    let table = c.args.table.now in
    let i = c.loop-copy.copy in
    let lt = (c.requires i no_copy c.loop-copy-test.true).1 in
    let here = get_or_default table _ None c.index-table-at.result lt ∙ sym c.index-table-at.is in
    let Places = λ (v : Vec Place Global). AddsPlaces (λ q. IsOfCopies edges copies table (i + 1) q)
    c.args.places.now.items v.items in
    elim c.if-is_some.branch [
      | then-is_some+in_ok-push_place_of w ↦ subst Places (sym w.places-is)
          (adds_more (λ q k. IsOfCopy edges copies table q k) i c.args.places.now.items c.loop-copy.places.items
          w.push_place_of.new.places.items c.loop-copy.invariant
          (copy_added edges copies table i c.index-table-at.result here (sym c.is_some.ensures ∙ w.if-is_some.true)
          c.loop-copy.places.items w.push_place_of.new.places.items w.in_ok-push_place_of.ensures))
      | else-is_some w ↦ subst Places (sym w.places-is)
          (adds_same (λ q k. IsOfCopy edges copies table q k) i c.args.places.now.items c.loop-copy.places.items
          c.loop-copy.invariant
          (no_copy_added edges copies table i c.index-table-at.result here
          (sym c.is_some.ensures ∙ w.if-is_some.false)))
    ]

pub returns : goal.returns
returns c =
    let end : c.loop-copy.copy ≡ length c.args.copies.now = omega arith in
    subst (λ i. AddsPlaces (λ place. IsOfCopies c.args.edges.now c.args.copies.now c.args.table.now i place)
    c.args.places.now.items c.loop-copy.places.items) end c.loop-copy.invariant
