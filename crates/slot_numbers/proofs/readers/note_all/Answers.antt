use Rattle.std.proofs.Common.{◌<◌, arith, sym, subst, get_or}
use Rattle.cell_placings.proofs.Members.{in_at}
use Rattle.slot_numbers.proofs.Noting.{noted_none, noted_next, noted_all}
use Rattle.slot_numbers.proofs.readers.note_all.Goals as goal

pub note-requires : goal.note-requires
note-requires c =
    subst (λ n. get_or c.args.sources.now c.loop-source.source-index 0 < n) (sym c.loop-source.invariant.each)
    (c.requires (get_or c.args.sources.now c.loop-source.source-index 0)
    (in_at c.args.sources.now c.loop-source.source-index (omega arith)))

pub loop-source-init : goal.loop-source-init
loop-source-init c = noted_none c.args.number c.args.lists.now

pub loop-source-preserved : goal.loop-source-preserved
loop-source-preserved c =
    noted_next c.args.number c.args.sources.now c.loop-source.source-index c.args.lists.now c.loop-source.lists
    c.note.new.lists (omega arith) c.loop-source.invariant c.in_ok-note.ensures

pub returns : goal.returns
returns c =
    noted_all c.args.number c.args.sources.now c.loop-source.source-index c.args.lists.now c.loop-source.lists
    (omega arith) c.loop-source.invariant
