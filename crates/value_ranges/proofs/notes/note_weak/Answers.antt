use Rattle.std.proofs.Common.{◌≡◌, ◌∙◌, ℕ, ap, length, subst, arith}
use Rattle.std.specs.Prelude.{get_or}
use Rattle.std.specs.FinMap as map
use Rattle.std.specs.FinMap.{entries}
use Rattle.std.proofs.lemmas.List.{get_or_default}
use Rattle.tm_lattice.specs.Tables.{Table}
use Rattle.pointer_dom.specs.Values.{Values}
use Rattle.value_ranges.specs.reading.Notes.{AreWidened, IsInWritten, IsInWeak, written_at}
use Rattle.value_ranges.proofs.Widening.{begins, goes_on, of_those}
use Rattle.value_ranges.proofs.notes.note_weak.Goals as goal

pub loop-index-init : goal.loop-index-init
loop-index-init c =
    begins (λ o n k. (let w = written_at c.args.cells.now c.args.store.now.weak k in
    IsInWritten c.args.cells.now w (length (entries w)) o n)) c.args.noted.now.items

pub note_written-requires : goal.note_written-requires
note_written-requires c =
    of_those c.args.cells.now c.args.noted.now.items c.loop-index.noted.items c.requires c.loop-index.invariant.count

pub loop-index-preserved : goal.loop-index-preserved
loop-index-preserved c =
    let cells = c.args.cells.now in
    let i = c.loop-index.index in
    let items = c.entries-tasks.result.now in
    let e = get_or_default items i c.index-tasks-index.result (0, map.empty) c.loop-index-test.true
    ∙ ap (λ xs. get_or xs i (0, map.empty)) (c.entries-tasks.ensures ∙ ap entries c.weak.ensures) in
    goes_on
    (λ o n k. (let w = written_at cells c.args.store.now.weak k in IsInWritten cells w (length (entries w)) o n))
    i c.args.noted.now.items c.loop-index.noted.items c.note_written.new.noted.items c.loop-index.invariant
    (subst (λ (x : ℕ × Table (Table Values)). AreWidened (λ o n. IsInWritten cells x.1 (length (entries x.1)) o n)
    c.loop-index.noted.items c.note_written.new.noted.items) e c.note_written.ensures)

pub returns : goal.returns
returns c =
    let count = ap length (c.entries-tasks.ensures ∙ ap entries c.weak.ensures) in
    let end : c.loop-index.index ≡ length (entries c.args.store.now.weak) = omega (arith, count) in
    subst (λ i. AreWidened (λ o n. IsInWeak c.args.cells.now c.args.store.now.weak i o n) c.args.noted.now.items
    c.loop-index.noted.items) end c.loop-index.invariant
