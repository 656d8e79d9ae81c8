use Rattle.std.proofs.Common.{◌≡◌, ◌↔◌, ℕ, refl, sym, ap, ◌∙◌, Some, Bool, true, false, not, IsTrue, option_copied}
use Rattle.std.specs.FinMap as map
use Rattle.strided_dom.specs.Progression.{Progression, empty}
use Rattle.pointer_dom.specs.Values.{Values}
use Rattle.pointer_dom.specs.Forms.{pointers_or_none}
use Rattle.pointer_dom.specs.OffsetSets.{OffsetSet}
use Rattle.pointer_dom.specs.PointerSets.{Pointers}
use Rattle.open_choices.specs.Lifetimes.{PointsTo}
use Rattle.open_choices.proofs.Searching.{is_found, not_found, not_so}
use Rattle.open_choices.proofs.Leftover.{points_none, points_nowhere, points_no_offset, points_there}
use Rattle.open_choices.proofs.beginnings.points_to.Goals as goal

pub returns-in-None : goal.returns-in-None
returns-in-None c =
    not_found (points_nowhere c.args.value.now c.args.object
    (sym c.pointers.ensures.value ∙ ap (λ o. pointers_or_none (option_copied o)) c.in-None.is))

pub returns-in-None-offsets_of : goal.returns-in-None-offsets_of
returns-in-None-offsets_of c =
    let same = sym c.pointers.ensures.value ∙ ap (λ o. pointers_or_none (option_copied o)) c.in-Some.is in
    not_found (points_none c.args.value.now c.args.object
    (ap (λ (p : Pointers). map.get p.objects c.args.object) same ∙ sym c.offsets_of.ensures ∙ ap option_copied
    c.in-None-offsets_of.is))

-- offsets are told apart from none by a test
test : (v : Values) (object : ℕ) (o : OffsetSet) (s : Progression) → map.get (let p = v.pointers in p.objects) object ≡
    Some o → s ≡ o.offsets
    → (x : Bool) → (IsTrue x ↔ (s ≡ empty)) → IsTrue (not x) ↔ PointsTo v object
test v object o s there e true h = not_found (points_no_offset v object o there (sym e ∙ h.0 refl))
test v object o s there e false h = is_found (points_there v object o there (λ n. not_so false h refl (e ∙ n)))

pub returns-in-Some-offsets_of : goal.returns-in-Some-offsets_of
returns-in-Some-offsets_of c =
    let same = sym c.pointers.ensures.value ∙ ap (λ o. pointers_or_none (option_copied o)) c.in-Some.is in
    test c.args.value.now c.args.object c.in-Some-offsets_of.offsets.now c.set.result
    (ap (λ (p : Pointers). map.get p.objects c.args.object) same ∙ sym c.offsets_of.ensures ∙ ap option_copied
    c.in-Some-offsets_of.is)
    c.set.ensures.value c.is_empty.result c.is_empty.ensures
