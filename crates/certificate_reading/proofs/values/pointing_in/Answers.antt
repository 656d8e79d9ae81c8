use Rattle.std.proofs.Common.{subst}
use Rattle.std.specs.Prelude.{MatchOption}
use Rattle.pointer_dom.specs.PointerSets.{Pointers}
use Rattle.tm_laid.specs.Layouts.{laid_tree}
use Rattle.certificate_words.specs.Lines.{words_of}
use Rattle.certificate_parts.specs.Pointers.{ArePointers, HasNoPointers}
use Rattle.certificate_reading.proofs.ValuesRead.{nothing_pointing, no_pointers, read_pointers, not_so}
use Rattle.certificate_reading.proofs.values.pointing_in.Goals as goal

pub returns-then-is_nothing : goal.returns-then-is_nothing
returns-then-is_nothing c =
    nothing_pointing (laid_tree c.args.laid.now) c.args.sizes.now c.requires.sizes (words_of c.args.words.now)
    c.nothing.result c.nothing.ensures (c.is_nothing.ensures.0 c.if-is_nothing.true)

pub returns-in-None : goal.returns-in-None
returns-in-None c =
    no_pointers (laid_tree c.args.laid.now) c.args.sizes.now c.requires.sizes (words_of c.args.words.now)
    (not_so c.is_nothing.ensures.1 c.if-is_nothing.false) (words_of c.in-Some.rest.now) c.in-Some.ensures
    (subst (λ r. MatchOption r (HasNoPointers c.args.sizes.now (words_of c.in-Some.rest.now))
    (λ (p : Pointers). ArePointers c.args.sizes.now (words_of c.in-Some.rest.now) p)) c.in-None.is
    c.in_ok-pointers_in.ensures)

pub returns-in-Some-2 : goal.returns-in-Some-2
returns-in-Some-2 c =
    read_pointers (laid_tree c.args.laid.now) c.args.sizes.now c.requires.sizes (words_of c.args.words.now)
    (not_so c.is_nothing.ensures.1 c.if-is_nothing.false) (words_of c.in-Some.rest.now) c.in-Some.ensures
    c.in-Some-2.pointers
    (subst (λ r. MatchOption r (HasNoPointers c.args.sizes.now (words_of c.in-Some.rest.now))
    (λ (p : Pointers). ArePointers c.args.sizes.now (words_of c.in-Some.rest.now) p)) c.in-Some-2.is
    c.in_ok-pointers_in.ensures) c.some_pointers.result c.some_pointers.ensures
