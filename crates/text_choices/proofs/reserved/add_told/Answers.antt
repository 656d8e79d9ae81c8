use Rattle.std.proofs.Common.{get_or, arith}
use Rattle.indexmap.specs.IndexMap.{get}
use Rattle.tm_terms.specs.Names.{is_same_name}
use Rattle.text_choices.specs.reading.Foremost.{no_declared}
use Rattle.text_choices.proofs.DeclaredLemmas.{told_by, told_more, told_all}
use Rattle.text_choices.proofs.reserved.add_told.Goals as goal

pub loop-it-preserved : goal.loop-it-preserved
loop-it-preserved c =
    let it = get_or c.args.declared.now c.loop-it.it-index no_declared in
    told_more c.args.bytes.now c.args.declared.now c.loop-it.it-index c.is_told-told.result
    c.args.choices.now.items c.loop-it.choices.items c.add_where.new.choices.items c.loop-it-test.true
    (told_by c.args.bytes.now c.args.declared.now it (get is_same_name c.args.found.now it.name) c.is_told-told.result (c.requires it.name) c.is_told-told.ensures)
    c.loop-it.invariant c.in_ok-add_where.ensures

pub returns : goal.returns
returns c =
    told_all c.args.bytes.now c.args.declared.now c.loop-it.it-index c.args.choices.now.items c.loop-it.choices.items
    (omega arith) c.loop-it.invariant
