use Rattle.std.proofs.Common.{◌≡◌, length, map, ap, ◌∙◌, arith}
use Rattle.tm_typed.specs.TypedStatements.{given_tree}
use Rattle.tm_laid.specs.Layouts.{laid_tree, object_at}
use Rattle.tm_laid.specs.declared.objects.LaidObject.{LaidObject}
use Rattle.path_origins.specs.Noted.{nothing, behind}
use Rattle.path_origins.specs.Opens.{is_among}
use Rattle.path_origins.specs.Shown.{shown, sizes_in}
use Rattle.path_origins.specs.Statements.{cells_stored}
use Rattle.path_origins.proofs.Beside.{sequenced_noted}
use Rattle.path_origins.proofs.Cells.{cells_first, cells_more, cells_last}
use Rattle.path_origins.proofs.statements.walk_cells.Goals as goal

pub loop-number-init : goal.loop-number-init
loop-number-init c =
    cells_first (laid_tree c.args.here.now.laid.now) (is_among c.args.here.now.opens.now)
    (sizes_in c.args.here.now.sizes.now) c.args.here.now.path c.args.at.object c.args.at.of c.args.at.place
    c.object_at-number-end.result.cells (map given_tree c.args.given.now) c.args.to.now

pub loop-number-preserved : goal.loop-number-preserved
loop-number-preserved c =
    let laid = laid_tree c.args.here.now.laid.now in
    let is_open = is_among c.args.here.now.opens.now in
    let sizes = sizes_in c.args.here.now.sizes.now in
    let path = c.args.here.now.path in
    let at = c.args.at in
    let n = c.object_at-number-end.result.cells in
    cells_more laid is_open sizes path at.object at.of at.place n c.loop-number.number
    (map given_tree c.loop-number.rest.now) (map given_tree c.rest_of-rest.result.now)
    (cells_stored laid is_open sizes path at.object at.of at.place n 0 (map given_tree c.args.given.now) nothing)
    c.is_given.result c.since-before.result c.since-edges.result c.args.to.now c.loop-number.to c.walk_cell.new.to
    c.note_against.new.to c.loop-number-test.true c.is_given.ensures c.rest_of-rest.ensures c.in_ok-walk_cell.ensures
    c.since-before.ensures.first c.since-before.ensures.end c.since-edges.ensures.first c.since-edges.ensures.end
    c.in_ok-note_against.ensures
    c.loop-number.invariant

pub returns : goal.returns
returns c =
    let laid = laid_tree c.args.here.now.laid.now in
    let is_open = is_among c.args.here.now.opens.now in
    let sizes = sizes_in c.args.here.now.sizes.now in
    let path = c.args.here.now.path in
    let at = c.args.at in
    let n = c.object_at-number-end.result.cells in
    let gs = map given_tree c.args.given.now in
    let a = c.args.to.now in
    let b = c.loop-number.to in
    let all = cells_last laid is_open sizes path at.object at.of at.place n c.loop-number.number
    (map given_tree c.loop-number.rest.now)
    (cells_stored laid is_open sizes path at.object at.of at.place n 0 gs nothing) a b c.loop-number-test.false
    c.loop-number.invariant in
    let cells = ap (λ (o : LaidObject). o.cells) c.object_at-number-end.ensures in
    let own = all ∙ ap (λ m. behind (shown a)
    (cells_stored laid is_open sizes path at.object at.of at.place m 0 gs nothing))
    cells in
    let pending : c.len-pending.result ≡ length a.pending.items =
    omega (arith, c.len-pending.ensures, a.pending.ok.0) in
    sequenced_noted c.len-pending.result (shown a) (shown b) (shown c.sequence.new.to)
    (cells_stored laid is_open sizes path at.object at.of at.place (object_at laid at.object).cells 0 gs nothing)
    pending own c.sequence.ensures
