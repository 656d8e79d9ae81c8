use Rattle.std.proofs.Common.{rules, ◌-◌, ◌<◌, length, sym, ◌∙◌}
use Rattle.tm_typed.specs.TypedFiles.{typed_file_tree}
use Rattle.source_names.specs.TypeWords.{all_read, nothing_read}
use Rattle.source_names.specs.reading.Suffixes.{outside_of}
use Rattle.source_names.proofs.Reading.{stops, goes_on}
use Rattle.source_names.proofs.words.read_suffix.Goals as goal

pub returns-then-is_base : goal.returns-then-is_base
returns-then-is_base c =
    let all = length c.args.file.now.types.items in
    let file = typed_file_tree c.args.file.now in
    stops file (all - c.loop-step._step) c.type_at-here.result (outside_of c.loop-step.suffix) (all_read file all (nothing_read c.args.of))
    c.type_at-here.ensures (sym c.is_base.ensures ∙ c.if-is_base.true) c.loop-step.invariant

pub loop-step-preserved : goal.loop-step-preserved
loop-step-preserved c =
    let all = length c.args.file.now.types.items in
    let file = typed_file_tree c.args.file.now in
    let below : c.loop-step._step < all = search rules in
    goes_on file all c.loop-step._step c.type_at-here.result (outside_of c.loop-step.suffix) (outside_of c.read_one.new.suffix) (all_read file all (nothing_read c.args.of))
    below c.type_at-here.ensures c.in_ok-read_one.ensures c.loop-step.invariant
