use Rattle.std.proofs.Common.{◌≡◌, ◌+◌, length, sym, subst, arith, Vec}
use Rattle.std.specs.declared.alloc.Global.{Global}
use Rattle.value_ranges.specs.declared.object_bounds.ObjectBounds.{ObjectBounds}
use Rattle.value_ranges.specs.reading.Notes.{AreListed}
use Rattle.value_ranges.proofs.Listing.{listed_none, listed_same, listed_more}
use Rattle.value_ranges.proofs.bounds.listed.Goals as goal
use Rattle.value_ranges.proofs.bounds.listed.Goals.{in-Some+in_ok-push, in_default}

pub loop-object-init : goal.loop-object-init
loop-object-init c =
    subst (λ xs. AreListed c.args.noted.now 0 xs) (sym c.new-list.ensures.items) (listed_none c.args.noted.now)

pub loop-object-preserved : goal.loop-object-preserved
loop-object-preserved c =
    let noted = c.args.noted.now in
    let i = c.loop-object.object in
    let List = λ (v : Vec ObjectBounds Global). AreListed noted (i + 1) v.items in
    elim c.match-noted-object.branch [
      | in-Some+in_ok-push w ↦ subst List (sym w.list-is)
          (subst (λ xs. AreListed noted (i + 1) xs) (sym w.in_ok-push.ensures.items)
          (listed_more noted c.requires i c.loop-object.list.items w.in-Some.bounds w.in-Some.is
          c.loop-object.invariant))
      | in_default w ↦ subst List (sym w.list-is)
          (listed_same noted i c.loop-object.list.items w.in_default.is c.loop-object.invariant)
    ]

pub returns : goal.returns
returns c =
    let end : c.loop-object.object ≡ length c.args.noted.now = omega arith in
    subst (λ i. AreListed c.args.noted.now i c.loop-object.list.items) end c.loop-object.invariant
