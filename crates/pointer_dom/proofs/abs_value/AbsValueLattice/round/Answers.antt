use Rattle.std.proofs.Common.{refl, sym, ap, ◌∙◌}
use Rattle.strided_dom.specs.Progression.{empty}
use Rattle.strided_dom.proofs.Thresholds.{rounding_empty}
use Rattle.pointer_dom.specs.PointerSets.{no_pointer}
use Rattle.pointer_dom.specs.Forms.{values_of}
use Rattle.pointer_dom.proofs.ValueFacts.{none_rounded, rounded_by}
use Rattle.pointer_dom.proofs.abs_value.AbsValueLattice.round.Goals as goal

pub returns-in-Int : goal.returns-in-Int
returns-in-Int c =
    c.from_numbers.ensures
    ∙ rounded_by c.args.marks.now c.args.self.now c.in-Int.numbers c.round.result no_pointer no_pointer (sym c.self.view_is ∙ ap values_of c.in-Int.is) c.round.ensures (none_rounded c.args.marks.now)

pub returns-in_ok-round-in-Ptr : goal.returns-in_ok-round-in-Ptr
returns-in_ok-round-in-Ptr c =
    c.from_pointers.ensures
    ∙ rounded_by c.args.marks.now c.args.self.now empty empty c.in-Ptr.pointers c.in_ok-round-in-Ptr.field-0 (sym c.self.view_is ∙ ap values_of c.in-Ptr.is) (rounding_empty c.args.marks.now empty refl) c.in_ok-round-in-Ptr.ensures

pub returns-in_ok-round-in-Both : goal.returns-in_ok-round-in-Both
returns-in_ok-round-in-Both c =
    c.from_parts.ensures
    ∙ rounded_by c.args.marks.now c.args.self.now c.in-Both.numbers c.round-in-Both.result c.in-Both.pointers c.in_ok-round-in-Both.field-0 (sym c.self.view_is ∙ ap values_of c.in-Both.is) c.round-in-Both.ensures c.in_ok-round-in-Both.ensures
