use Rattle.std.proofs.Common.{sym, subst, []}
use Rattle.std.specs.Prelude.{MatchOption}
use Rattle.std.specs.FinMap.{FinMap, entries}
use Rattle.std.specs.Ordering.{nat_cmp}
use Rattle.pointer_dom.specs.OffsetSets.{OffsetSet}
use Rattle.certificate_words.specs.Lines.{words_of}
use Rattle.certificate_parts.specs.Risings.{AreEntries}
use Rattle.certificate_parts.specs.Objects.{object_onto, FitsObject, IsNoWord, HasNoObjects}
use Rattle.certificate_parts.specs.Pointers.{ArePointers}
use Rattle.certificate_parts.proofs.PointersRead.{none_left, are_pointers}
use Rattle.certificate_parts.proofs.pointers.pointers_in.Goals as goal

pub returns-in-None : goal.returns-in-None
returns-in-None c =
    none_left c.args.sizes.now (words_of c.args.words.now) c.in-Some.null (words_of c.in-Some.behind.now) c.in-Some.ensures
    c.in-Some-bit_in.invalid (words_of c.in-Some-bit_in.more.now) c.in-Some-bit_in.ensures
    (subst (λ r. MatchOption r (HasNoObjects c.args.sizes.now (words_of c.in-Some-bit_in.more.now))
    (λ (t : FinMap nat_cmp OffsetSet). AreEntries object_onto (FitsObject c.args.sizes.now) IsNoWord
    (words_of c.in-Some-bit_in.more.now) (entries t) [])) c.in-None.is c.in_ok-objects_in.ensures)

pub returns-in-Some-2 : goal.returns-in-Some-2
returns-in-Some-2 c =
    subst (ArePointers c.args.sizes.now (words_of c.args.words.now)) (sym c.from_parts.ensures)
    (are_pointers c.args.sizes.now (words_of c.args.words.now) c.in-Some.null (words_of c.in-Some.behind.now)
    c.in-Some.ensures c.in-Some-bit_in.invalid (words_of c.in-Some-bit_in.more.now) c.in-Some-bit_in.ensures
    c.in-Some-2.objects
    (subst (λ r. MatchOption r (HasNoObjects c.args.sizes.now (words_of c.in-Some-bit_in.more.now))
    (λ (t : FinMap nat_cmp OffsetSet). AreEntries object_onto (FitsObject c.args.sizes.now) IsNoWord
    (words_of c.in-Some-bit_in.more.now) (entries t) [])) c.in-Some-2.is c.in_ok-objects_in.ensures))
