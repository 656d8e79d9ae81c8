use Rattle.std.proofs.Common.{◌≡◌, ◌+◌, ◌-◌, List, length, map, sym, ap, ◌∙◌, arith}
use Rattle.tm_trees.specs.declared.files.Item.{Item}
use Rattle.tm_trees.specs.FileTrees.{ItemTree, item_tree}
use Rattle.c_decl_parser.specs.reading.Parts.{seen}
use Rattle.c_parser.specs.reading.FileDescent.{items_from}
use Rattle.c_decl_parser.proofs.RepetitionSteps.{pushed_tree}
use Rattle.c_parser.proofs.FileSteps.{items_end, items_done, items_stuck, items_next}
use Rattle.c_parser.proofs.files.file.Goals as goal

pub returns-then-is_end : goal.returns-then-is_end
returns-then-is_end c =
    sym (items_end 498 (length c.args.tokens.now - c.items._i) c.items.types (map item_tree c.items.items.items) c.items.rest.now (sym c.if-is_end.ensures)) ∙ c.items.invariant

pub returns-in-Stuck : goal.returns-in-Stuck
returns-in-Stuck c =
    let stuck = sym c.in_ok-at.ensures ∙ ap (seen (λ (i : Item). (item_tree i, c.item.new.types))) c.in-Stuck.is in
    sym (items_stuck 498 (length c.args.tokens.now - c.items._i) c.items.types (map item_tree c.items.items.items) c.items.rest.now (sym c.if-is_end.ensures) stuck) ∙ c.items.invariant

pub items-preserved : goal.items-preserved
items-preserved c =
    let one = sym c.in_ok-at.ensures ∙ ap (seen (λ (i : Item). (item_tree i, c.item.new.types))) c.in-Found.is in
    let rest = length c.args.tokens.now - (c.items._i + 1) in
    ap (λ (found : List ItemTree). items_from 498 rest c.item.new.types found c.in-Found.next.now) (pushed_tree item_tree _ _ _ c.in_ok-push-in-Found.ensures)
    ∙ sym (items_next 498 (length c.args.tokens.now - c.items._i) rest c.items.types c.item.new.types (map item_tree c.items.items.items) c.items.rest.now (item_tree c.in-Found.one) c.in-Found.next.now (omega arith) (sym c.if-is_end.ensures) one)
    ∙ c.items.invariant

pub returns-then-is_end-2 : goal.returns-then-is_end-2
returns-then-is_end-2 c =
    sym (items_end 498 (length c.args.tokens.now - c.items._i) c.items.types (map item_tree c.items.items.items) c.items.rest.now (sym c.if-is_end-2.ensures)) ∙ c.items.invariant

pub returns : goal.returns
returns c =
    sym (items_done 498 (length c.args.tokens.now - c.items._i) c.items.types (map item_tree c.items.items.items) c.items.rest.now (omega arith) (sym c.if-is_end-2.ensures)) ∙ c.items.invariant
