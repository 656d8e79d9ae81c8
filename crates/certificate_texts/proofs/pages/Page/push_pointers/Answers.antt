use Rattle.std.proofs.Common.{refl, ap, ◌∙◌, [], ◌∷◌}
use Rattle.std.specs.FinMap.{entries}
use Rattle.certificate_texts.specs.ValueWords.{bit_word, object_words}
use Rattle.certificate_texts.proofs.Adding.{no_words, as_words, words_then, words_next, flat_map_all}
use Rattle.certificate_texts.proofs.Telling.{has_offset}
use Rattle.certificate_texts.proofs.pages.Page.push_pointers.Goals as goal

pub loop-object-init : goal.loop-object-init
loop-object-init c = no_words _ _ refl refl

pub push_object-requires : goal.push_object-requires
push_object-requires c =
    has_offset c.args.pointers.now c.entries-object-items.result.now c.loop-object.object-index c.loop-object-item.result
    c.objects.ensures.within (c.entries-object-items.ensures ∙ ap entries c.objects.ensures.value) c.loop-object-test.true
    c.loop-object-item.is

pub loop-object-preserved : goal.loop-object-preserved
loop-object-preserved c =
    words_next object_words c.entries-object-items.result.now c.loop-object.object-index c.loop-object-item.result _ _ _
    c.loop-object-test.true c.loop-object-item.is c.loop-object.invariant c.in_ok-push_object.ensures

pub returns : goal.returns
returns c =
    let null = as_words c.in_ok-push_bit.ensures (ap (λ b. bit_word b ∷ []) c.has_null.ensures) in
    let invalid = as_words c.in_ok-push_bit-2.ensures (ap (λ b. bit_word b ∷ []) c.has_invalid.ensures) in
    words_then (words_then (words_then c.in_ok-push_tag.ensures null) invalid)
    (as_words c.loop-object.invariant (flat_map_all object_words c.entries-object-items.result.now _
    c.loop-object.object-index c.loop-object-test.false (c.entries-object-items.ensures ∙ ap entries c.objects.ensures.value)))
