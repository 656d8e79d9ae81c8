use Rattle.std.proofs.Common.{◌≡◌, ◌≤◌, ◌-◌, ◌∙◌, sym, ap, subst, drop, length}
use Rattle.std.specs.Prelude.{option_map}
use Rattle.tm_laid.specs.Layouts.{laid_tree}
use Rattle.temporary_extents.specs.Extents.{extents_in}
use Rattle.certificate_reading.specs.Series.{IsRowIn}
use Rattle.certificate_reading.specs.Tables.{EndsAnyTable, EndsTable, FitsNodes, FitsTable, IsReadTable, lines_of_table}
use Rattle.certificate_reading.proofs.HeldTexts.{kept_rest, kept_short}
use Rattle.certificate_reading.proofs.tables.table_from.Goals as goal

pub keep-requires : goal.keep-requires
keep-requires c =
    let body = c.args.body in
    let text = c.args.text.now in
    let old = c.in_ok-ahead.ahead in
    let new = c.table_in.new.ahead in
    let table = c.in-Some.table.items in
    let nodes = c.args.configured.now.nodes.keys in
    let known = FitsNodes (laid_tree c.args.laid.now) body (extents_in c.args.graph.now.edges.items) nodes
    c.args.known.now.live in
    let row = subst (λ r. IsReadTable (λ t. FitsTable known (length nodes)) body old (option_map (λ v. v.items) r) new)
    c.in-Some.is c.in_ok-found.ensures in
    subst (λ xs. length xs ≤ length text) (sym c.rest-left.ensures)
    (kept_short (lines_of_table body table) old text new (c.in_ok-ahead.ensures ∙ c.rest.ensures) row.is)

pub returns-in-Some : goal.returns-in-Some
returns-in-Some c =
    let body = c.args.body in
    let text = c.args.text.now in
    let old = c.in_ok-ahead.ahead in
    let new = c.table_in.new.ahead in
    let table = c.in-Some.table.items in
    let nodes = c.args.configured.now.nodes.keys in
    let known = FitsNodes (laid_tree c.args.laid.now) body (extents_in c.args.graph.now.edges.items) nodes
    c.args.known.now.live in
    let same = c.in_ok-ahead.ensures ∙ c.rest.ensures in
    let row = subst (λ r. IsReadTable (λ t. FitsTable known (length nodes)) body old (option_map (λ v. v.items) r) new)
    c.in-Some.is c.in_ok-found.ensures in
    let kept : c.keep.new.self ≡ new =
    c.keep.ensures
    ∙ (ap (λ xs. drop (length text - length xs) text) c.rest-left.ensures
    ∙ kept_rest (lines_of_table body table) old text new same row.is) in
    subst (IsRowIn lines_of_table (λ t. FitsTable known (length nodes)) EndsAnyTable EndsTable body text table)
    (sym kept)
    (subst (λ given. IsRowIn lines_of_table (λ t. FitsTable known (length nodes)) EndsAnyTable EndsTable body given
    table new) same row)
