use Rattle.tm_trees.specs.FileTrees.{file_tree}
use Rattle.tm_laid.specs.tm_typed.TypedFiles.{typed_file_tree}
use Rattle.tm_laid.specs.Layouts.{laid_tree}
use Rattle.source_programs.proofs.Analysing.{program_analysable}
use Rattle.source_programs.proofs.Stations.{typing_refused, layout_refused, laid_source, laid_file, layable, order_kept}
use Rattle.source_programs.proofs.Stations.{program_accepted, program_refused, objects_kept, source_kept, prepared_kept}
use Rattle.source_programs.proofs.sources.typed_program.Goals as goal

pub lay-requires : goal.lay-requires
lay-requires c = record {
  layable =
      layable c.main_in.result (file_tree c.args.file.now) c.in-Ok.typed c.in-Ok.ensures.told c.in-Ok.ensures.order;
}

pub returns-in-Ok-lay-clause-analysable : goal.returns-in-Ok-lay-clause-analysable
returns-in-Ok-lay-clause-analysable c =
    program_analysable c.args.scale c.in-Ok-lay.laid
    (laid_file c.args.scale c.main_in.result (file_tree c.args.file.now) (typed_file_tree c.in-Ok.typed)
    (laid_tree c.in-Ok-lay.laid) c.in-Ok.ensures.told c.in-Ok-lay.ensures.told)
    (order_kept c.args.scale c.in-Ok.typed c.in-Ok-lay.laid c.in-Ok-lay.ensures.told c.in-Ok-lay.ensures.order
    c.in-Ok.ensures.order)
    c.args.given.now c.laid_program.result c.laid_program.ensures.prepared c.laid_program.ensures.laid
    c.laid_program.ensures.order
    c.laid_program.ensures.marks

pub returns-in-Ok-lay-clause-numbered : goal.returns-in-Ok-lay-clause-numbered
returns-in-Ok-lay-clause-numbered c =
    objects_kept c.in-Ok-lay.laid c.laid_program.result c.laid_program.ensures.laid c.in-Ok-lay.ensures.numbered

pub returns-in-Ok-lay-clause-accepted : goal.returns-in-Ok-lay-clause-accepted
returns-in-Ok-lay-clause-accepted c =
    program_accepted c.args.scale c.args.bytes.now c.in-Ok-lay.laid
    (laid_source c.args.scale c.args.bytes.now c.requires.short c.args.tokens.now c.requires.lexed c.main_in.result
    c.main_in.ensures (file_tree c.args.file.now) c.requires.parsed (typed_file_tree c.in-Ok.typed) c.in-Ok.ensures.told
    (laid_tree c.in-Ok-lay.laid) c.in-Ok-lay.ensures.told)
    c.args.given.now c.laid_program.result c.laid_program.ensures.prepared c.laid_program.ensures.laid
    c.laid_program.ensures.marks

pub returns-in-Ok-lay-clause-source : goal.returns-in-Ok-lay-clause-source
returns-in-Ok-lay-clause-source c =
    source_kept c.args.scale c.args.bytes.now c.in-Ok-lay.laid
    (laid_source c.args.scale c.args.bytes.now c.requires.short c.args.tokens.now c.requires.lexed c.main_in.result
    c.main_in.ensures (file_tree c.args.file.now) c.requires.parsed (typed_file_tree c.in-Ok.typed) c.in-Ok.ensures.told
    (laid_tree c.in-Ok-lay.laid) c.in-Ok-lay.ensures.told) c.laid_program.result c.laid_program.ensures.laid

pub returns-in-Ok-lay-clause-prepared : goal.returns-in-Ok-lay-clause-prepared
returns-in-Ok-lay-clause-prepared c =
    prepared_kept c.args.scale c.in-Ok-lay.laid c.laid_program.result c.laid_program.ensures.prepared
    c.laid_program.ensures.laid

pub returns-in-Ok-lay-clause-refused : goal.returns-in-Ok-lay-clause-refused
returns-in-Ok-lay-clause-refused c =
    program_refused c.args.scale c.args.bytes.now c.in-Ok-lay.laid
    (laid_source c.args.scale c.args.bytes.now c.requires.short c.args.tokens.now c.requires.lexed c.main_in.result
    c.main_in.ensures (file_tree c.args.file.now) c.requires.parsed (typed_file_tree c.in-Ok.typed) c.in-Ok.ensures.told
    (laid_tree c.in-Ok-lay.laid) c.in-Ok-lay.ensures.told)
    c.laid_program.result c.laid_program.ensures.prepared

pub returns-in-Err-lay-clause-refused : goal.returns-in-Err-lay-clause-refused
returns-in-Err-lay-clause-refused c =
    layout_refused c.args.scale c.args.bytes.now c.requires.short c.args.tokens.now c.requires.lexed c.main_in.result
    c.main_in.ensures (file_tree c.args.file.now) c.requires.parsed (typed_file_tree c.in-Ok.typed)
    c.in-Ok.ensures.told c.in-Err-lay.fail c.in-Err-lay.ensures.told

pub returns-in-Err-clause-refused : goal.returns-in-Err-clause-refused
returns-in-Err-clause-refused c =
    typing_refused c.args.scale c.args.bytes.now c.requires.short c.args.tokens.now c.requires.lexed c.main_in.result
    c.main_in.ensures (file_tree c.args.file.now) c.requires.parsed c.in-Err.fail c.in-Err.ensures.told
