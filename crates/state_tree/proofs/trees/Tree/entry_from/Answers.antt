use Rattle.std.proofs.Common.{◌∙◌, ◌+◌, sym, subst}
use Rattle.std.specs.Option.{MatchOption}
use Rattle.tm_lattice.specs.Tables.{IsPast, IsNext}
use Rattle.state_tree.specs.reading.Parts.{part_at}
use Rattle.state_tree.proofs.Parting.{next_in_part, none_later, next_later, part_of_stands, have_parts, at_either, at_some, at_none}
use Rattle.state_tree.proofs.trees.Tree.entry_from.Goals as goal

pub returns-then-is_some : goal.returns-then-is_some
returns-then-is_some g c =
    let parts = c.self.inside.parts in
    let now = c.args.self.now in
    let key = c.args.key in
    at_some c.entry_of_part-next.result (IsPast (part_at 8 parts key) key) (IsPast now key) (λ e. IsNext (part_at 8 parts key) key e.0 e.1.now) (λ e. IsNext now key e.0 e.1.now)
    (sym c.is_some.ensures ∙ c.if-is_some.true) c.entry_of_part-next.ensures
    (λ e next. next_in_part 8 parts now key e.0 e.1.now c.self.invariant c.self.view_is next)

pub returns-in-None : goal.returns-in-None
returns-in-None g c =
    let parts = c.self.inside.parts in
    let now = c.args.self.now in
    let key = c.args.key in
    let past = at_none c.entry_of_part-next.result (IsPast (part_at 8 parts key) key) (λ e. IsNext (part_at 8 parts key) key e.0 e.1.now)
    (sym c.is_some.ensures ∙ c.if-is_some.false) c.entry_of_part-next.ensures in
    none_later 8 parts now key c.part_of.result c.self.invariant c.self.view_is c.part_of.ensures.value past
    (subst (λ o. MatchOption o (IsPast parts (c.part_of.result + 1)) (λ e. IsNext parts (c.part_of.result + 1) e.0 e.1.now)) c.in-None.is c.entry_from.ensures)

pub returns-in-Some : goal.returns-in-Some
returns-in-Some g c =
    let parts = c.self.inside.parts in
    let now = c.args.self.now in
    let key = c.args.key in
    let part = c.in-Some.part.now in
    let number = c.in-Some.field-0-0 in
    let past = at_none c.entry_of_part-next.result (IsPast (part_at 8 parts key) key) (λ e. IsNext (part_at 8 parts key) key e.0 e.1.now)
    (sym c.is_some.ensures ∙ c.if-is_some.false) c.entry_of_part-next.ensures in
    let later : IsNext parts (c.part_of.result + 1) number part =
    subst (λ o. MatchOption o (IsPast parts (c.part_of.result + 1)) (λ e. IsNext parts (c.part_of.result + 1) e.0 e.1.now)) c.in-Some.is c.entry_from.ensures in
    let have = have_parts g.V.Lattice.is_value g.V.Lattice.nothing parts c.is_nothing-empty.ensures.value in
    at_either c.entry_from-in-Some.result (IsPast part 0) (IsPast now key) (λ e. IsNext part 0 e.0 e.1.now) (λ e. IsNext now key e.0 e.1.now) c.entry_from-in-Some.ensures
    (λ none. absurd (part_of_stands parts (c.part_of.result + 1) number part have later none))
    (λ e next. next_later 8 parts now key c.part_of.result c.self.invariant c.self.view_is c.part_of.ensures.value past number e.0 part e.1.now later next)
