use Rattle.std.proofs.Common.{◌≡◌, ◌+◌, ◌<◌, ◌∙◌, ◌∷◌, ap, sym, subst, drop, get_or, length, false, ℕ, List, arith}
use Rattle.std.proofs.lemmas.List.{drop_more}
use Rattle.tm_typed.specs.declared.scopes.Member.{Member}
use Rattle.tm_typed.specs.TypedFiles.{typed_file_tree}
use Rattle.tm_laid.specs.TypeCells.{structure_in}
use Rattle.cell_layout.specs.declared.cells.TypePart.{TypePart}
use Rattle.cell_layout.proofs.PartSteps.{AreMembers, members_first, member_room, members_more, members_all}
use Rattle.cell_layout.proofs.cells.members.Goals as goal

absent : Member
absent = record { name = record { start = 0; length = 0 }; part = record { of = record { number = 0; constant = false; volatile = false }; cell = 0 } }

opened : (ms items : List Member) (i : ℕ) → items ≡ ms → i < length items → drop i ms ≡ get_or items i absent ∷ drop (i + 1) ms
opened ms items i e lt =
    drop_more ms i absent (let a = ap length e in omega (arith, a, lt)) ∙ ap (λ (xs : List Member). get_or xs i absent ∷ drop (i + 1) ms) (sym e)

pub loop-member-init : goal.loop-member-init
loop-member-init c =
    let file = typed_file_tree c.args.file.now in
    let P : List TypePart → Type 0 = λ ps. AreMembers file c.args.part c.args.k 0 ps c.args.part in
    subst P (sym c.new-parts.ensures.items) (members_first file c.args.file.now.order.items c.requires.layable c.args.part c.args.k c.requires.small c.requires.structure)

pub behind-next-requires-clause-cells : goal.behind-next-requires-clause-cells
unfolding absent
behind-next-requires-clause-cells c =
    let file = typed_file_tree c.args.file.now in
    let i : ℕ = c.loop-member.member-index in
    let m : Member = get_or c.members_of-member-items.result.now i absent in
    let r = member_room file c.args.file.now.order.items c.requires.layable c.args.part c.args.k i c.cell_column.result c.abstract_column.result m c.loop-member.parts.items c.loop-member.next
    (opened (structure_in file c.args.k).members c.members_of-member-items.result.now i c.members_of-member-items.ensures c.loop-member-test.true)
    c.cell_column.ensures c.abstract_column.ensures c.loop-member.invariant in
    let a = r.2 in omega (arith, a)

pub behind-next-requires-clause-abstract_cells : goal.behind-next-requires-clause-abstract_cells
unfolding absent
behind-next-requires-clause-abstract_cells c =
    let file = typed_file_tree c.args.file.now in
    let i : ℕ = c.loop-member.member-index in
    let m : Member = get_or c.members_of-member-items.result.now i absent in
    let r = member_room file c.args.file.now.order.items c.requires.layable c.args.part c.args.k i c.cell_column.result c.abstract_column.result m c.loop-member.parts.items c.loop-member.next
    (opened (structure_in file c.args.k).members c.members_of-member-items.result.now i c.members_of-member-items.ensures c.loop-member-test.true)
    c.cell_column.ensures c.abstract_column.ensures c.loop-member.invariant in
    let a = r.3 in omega (arith, a)

pub loop-member-preserved : goal.loop-member-preserved
unfolding absent
loop-member-preserved c =
    let file = typed_file_tree c.args.file.now in
    let i : ℕ = c.loop-member.member-index in
    let m : Member = get_or c.members_of-member-items.result.now i absent in
    let o = opened (structure_in file c.args.k).members c.members_of-member-items.result.now i c.members_of-member-items.ensures c.loop-member-test.true in
    let r = member_room file c.args.file.now.order.items c.requires.layable c.args.part c.args.k i c.cell_column.result c.abstract_column.result m c.loop-member.parts.items c.loop-member.next
    o c.cell_column.ensures c.abstract_column.ensures c.loop-member.invariant in
    members_more file c.args.part c.args.k i c.cell_column.result c.abstract_column.result m c.loop-member.parts.items c.push.new.self.items c.loop-member.next c.behind-next.result
    o r.0 r.1 c.in_ok-push.ensures.items c.behind-next.ensures c.loop-member.invariant

pub returns : goal.returns
returns c =
    let a = c.loop-member-test.false in
    let b = ap length c.members_of-member-items.ensures in
    members_all (typed_file_tree c.args.file.now) c.args.part c.args.k c.loop-member.member-index
    c.loop-member.parts.items c.loop-member.next (omega (arith, a, b)) c.loop-member.invariant
