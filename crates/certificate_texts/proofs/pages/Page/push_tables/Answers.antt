use Rattle.std.proofs.Common.{refl, ap, arith}
use Rattle.std.specs.List.{enumerate_from}
use Rattle.post_recheck.specs.Pairs.{lists_of}
use Rattle.certificate_texts.specs.TableLines.{table_lines}
use Rattle.certificate_texts.proofs.Adding.{no_lines, as_lines, lines_next, flat_map_all}
use Rattle.certificate_texts.proofs.Tabling.{numbered_table, tables_count}
use Rattle.certificate_texts.proofs.pages.Page.push_tables.Goals as goal

pub loop-body-init : goal.loop-body-init
loop-body-init c = no_lines _ _ refl

pub loop-body-preserved : goal.loop-body-preserved
loop-body-preserved c =
    let tables = c.args.tables.now in
    let body = c.loop-body.body in
    let table = c.index-tables-body.result in
    let at = numbered_table tables body table (omega arith) c.index-tables-body.is in
    lines_next table_lines (enumerate_from 0 (lists_of tables)) body (body, table.items) _ _ _ at.0 at.1
    c.loop-body.invariant (as_lines c.in_ok-push_table.ensures (ap (λ t. table_lines (body, t)) c.deref.ensures.value))

pub returns : goal.returns
returns c =
    let tables = c.args.tables.now in
    let size = tables_count tables in
    as_lines c.loop-body.invariant (flat_map_all table_lines (enumerate_from 0 (lists_of tables))
    (enumerate_from 0 (lists_of tables)) c.loop-body.body (omega (arith, size)) refl)
