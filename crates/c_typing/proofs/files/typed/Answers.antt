use Rattle.std.proofs.Common.{List, map, subst, Err}
use Rattle.tm_trees.specs.declared.files.Item.{Item}
use Rattle.tm_trees.specs.FileTrees.{item_tree, file_tree}
use Rattle.tm_typed.specs.Refusals.{Gives}
use Rattle.tm_typed.specs.Files.{FileState, first_file_state, items_in}
use Rattle.c_typing.specs.Views.{found_of}
use Rattle.c_typing.proofs.Orders.{items_refused}
use Rattle.c_typing.proofs.files.typed.Goals as goal

pub returns-in-Err-clause-told : goal.returns-in-Err-clause-told
returns-in-Err-clause-told c =
    let view : Unit {0} → FileState = λ u. first_file_state in
    let P : List Item → Type 0 = λ items. Gives view (Err c.in-Err.fail) (items_in (found_of c.in_ok-found.found) (map item_tree items)) in
    let Q : FileState → Type 0 = λ f. Gives view (Err c.in-Err.fail) (items_in f (file_tree c.args.file.now)) in
    items_refused view c.args.main (file_tree c.args.file.now) c.in-Err.fail
    (subst Q c.in_ok-found.ensures (subst P c.deref.ensures.value c.in-Err.ensures))
