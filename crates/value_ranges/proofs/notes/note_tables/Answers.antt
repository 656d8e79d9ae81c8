use Rattle.std.proofs.Common.{◌≡◌, ◌∙◌, ap, length, get_or, sym, subst, arith}
use Rattle.std.specs.Prelude.{nat_le}
use Rattle.program_reports.specs.post_recheck.program_equations.Programs.{body_at}
use Rattle.program_reports.specs.post_recheck.program_equations.Solutions.{table_at}
use Rattle.program_reports.specs.post_recheck.program_systems.ProgramFacts.{program_with}
use Rattle.program_reports.specs.post_recheck.Pairs.{lists_of}
use Rattle.program_reports.proofs.low.post_recheck.Found.{table_read}
use Rattle.value_ranges.specs.reading.Notes.{AreWidened, IsInTable, IsInTables}
use Rattle.value_ranges.proofs.Widening.{begins, goes_on, of_those}
use Rattle.value_ranges.proofs.Noting.{body_noted}
use Rattle.value_ranges.proofs.notes.note_tables.Goals as goal

pub loop-number-init : goal.loop-number-init
loop-number-init c =
    let p = program_with c.args.program.now c.args.facts.now in
    let lists = lists_of c.args.tables.now in
    begins (λ o n t. IsInTable c.args.cells.now (nat_le p.tasks t) (body_at p t) (table_at lists t) o n)
    c.args.noted.now.items

pub note_table-requires : goal.note_table-requires
note_table-requires c =
    of_those c.args.cells.now c.args.noted.now.items c.loop-number.noted.items c.requires.objects
    c.loop-number.invariant.count

pub loop-number-preserved : goal.loop-number-preserved
loop-number-preserved c =
    let program = c.args.program.now in
    let facts = c.args.facts.now in
    let p = program_with program facts in
    let cells = c.args.cells.now in
    let lists = lists_of c.args.tables.now in
    let i = c.loop-number.number in
    let lt = c.loop-number-test.true in
    let few = c.requires.count in
    let table = c.deref.ensures.value ∙ ap (λ v. v.items) c.index-tables-number.is
    ∙ sym (table_read c.args.tables.now i c.index-tables-number.result lt) in
    goes_on (λ o n t. IsInTable cells (nat_le p.tasks t) (body_at p t) (table_at lists t) o n) i
    c.args.noted.now.items c.loop-number.noted.items c.note_table.new.noted.items c.loop-number.invariant
    (body_noted program facts c.requires.analysable c.requires.facts i (omega (arith, lt, few)) c.index.result.now
    c.index-in-loop-number.result.now c.index-bodies-number.result c.index.ensures c.index-in-loop-number.ensures
    (c.index-bodies-number.is ∙ ap (λ fs. get_or fs i c.index-bodies-number.result) c.bodies.ensures) cells
    c.is_section.result (nat_le p.tasks i) c.is_section.ensures c.deref.result.now (table_at lists i) table
    c.loop-number.noted.items c.note_table.new.noted.items c.note_table.ensures)

pub returns : goal.returns
returns c =
    let p = program_with c.args.program.now c.args.facts.now in
    let end : c.loop-number.number ≡ length c.args.tables.now = omega arith in
    subst (λ i. AreWidened (λ o n. IsInTables c.args.cells.now p (lists_of c.args.tables.now) i o n)
    c.args.noted.now.items c.loop-number.noted.items) end c.loop-number.invariant
