use Rattle.tm_trees.specs.FileTrees.{file_tree}
use Rattle.tm_laid.specs.declared.scales.Scale.TheVariants as Scales
use Rattle.source_tests.proofs.Chain.{layable, laid_file, worlds}
use Rattle.source_tests.proofs.sources.laid_in.Goals as goal

pub lay-requires : goal.lay-requires
lay-requires c = record {
  layable =
      layable c.typed_files_can_be_laid_out.ensures c.args.main (file_tree c.args.file.now) c.in-Ok.typed c.in-Ok.ensures.told
      c.in-Ok.ensures.order;
}

pub returns-in-Ok-clause-worlds : goal.returns-in-Ok-clause-worlds
returns-in-Ok-clause-worlds c =
    worlds c.laid_files_have_worlds.ensures Scales.Usual c.in-Ok.typed
    (layable c.typed_files_can_be_laid_out.ensures c.args.main (file_tree c.args.file.now) c.in-Ok.typed c.in-Ok.ensures.told
    c.in-Ok.ensures.order)
    c.lay.result c.lay.ensures.told c.lay.ensures.order

pub returns-in-Ok-clause-typed : goal.returns-in-Ok-clause-typed
returns-in-Ok-clause-typed c = laid_file Scales.Usual c.args.main (file_tree c.args.file.now) c.in-Ok.typed c.in-Ok.ensures.told c.lay.result c.lay.ensures.told
