use Rattle.std.proofs.Common.{◌≡◌, ◌++◌, List, map, ap, subst, ◌∙◌}
use Rattle.std.specs.Prelude.{OnOk}
use Rattle.tm_trees.specs.declared.files.Item.{Item}
use Rattle.tm_trees.specs.FileTrees.{item_tree, file_tree}
use Rattle.tm_typed.specs.TypedFiles.{typed_static_tree}
use Rattle.tm_laid.specs.Layouts.{laid_tree}
use Rattle.text_choices.specs.reading.Files.{file_choices}
use Rattle.text_choices.specs.reading.Named.{named_static}
use Rattle.text_choices.proofs.Listed.{adds_file}
use Rattle.text_choices.proofs.static_initialisers.add_static_moves.Goals as goal

pub push_items-requires : goal.push_items-requires
push_items-requires c = record {
  indexed = record {
    layable = c.requires.layable;
    few = c.requires.few;
    named = c.in_ok-names.ensures ∙ ap (λ ss. map named_static (map typed_static_tree ss)) c.deref.ensures.value;
  };
}

pub returns : goal.returns
returns c =
    let laid = laid_tree c.args.laid.now in
    let old = c.args.choices.now.items in
    let new = c.push_items.new.choices.items in
    let P : List Item → Type 0 = λ items. OnOk c.push_items.result (new ≡ old ++ file_choices laid (map item_tree items)) in
    adds_file laid c.push_items.result old new (file_tree c.args.file.now) (subst P c.deref-2.ensures.value c.push_items.ensures)
