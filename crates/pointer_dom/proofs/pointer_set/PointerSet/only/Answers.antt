use Rattle.std.proofs.Common.{◌∙◌, ap, arith}
use Rattle.std.specs.FinMap as map
use Rattle.pointer_dom.proofs.OnlyFacts.{no_entry, one_entry, only_flags, not_empty, flag_and_object, two_offsets, one_offset, two_objects}
use Rattle.pointer_dom.proofs.pointer_set.PointerSet.only.Goals as goal

pub returns-then-has_null-has_invalid : goal.returns-then-has_null-has_invalid
returns-then-has_null-has_invalid c =
    flag_and_object c.args.self.now c.objects.ensures.within c.entries.result.now (c.entries.ensures ∙ ap map.entries c.objects.ensures.value) _ _
    (one_entry c.entries.result.now c.index-object-0.result c.index-offsets-0.result c.in-len1.len_at_least (omega (arith, c.in-len1.len_below)))
    c.has_null-in-len1.result c.has_invalid-in-len1.result c.has_null-in-len1.ensures c.has_invalid-in-len1.ensures c.if-has_null-has_invalid.true

pub only_offset-requires : goal.only_offset-requires
only_offset-requires c =
    not_empty c.args.self.now c.objects.ensures.within c.entries.result.now (c.entries.ensures ∙ ap map.entries c.objects.ensures.value) _ _
    (one_entry c.entries.result.now c.index-object-0.result c.index-offsets-0.result c.in-len1.len_at_least (omega (arith, c.in-len1.len_below)))

pub returns-in-empty : goal.returns-in-empty
returns-in-empty c =
    only_flags c.args.self.now c.objects.ensures.within c.entries.result.now (c.entries.ensures ∙ ap map.entries c.objects.ensures.value)
    (no_entry c.entries.result.now (omega (arith, c.in-empty.len_below)))
    c.has_null.result c.has_invalid.result c.only_flag.result c.has_null.ensures c.has_invalid.ensures c.only_flag.ensures

pub returns-in-None : goal.returns-in-None
returns-in-None c =
    two_offsets c.args.self.now c.objects.ensures.within c.entries.result.now (c.entries.ensures ∙ ap map.entries c.objects.ensures.value) _ _
    (one_entry c.entries.result.now c.index-object-0.result c.index-offsets-0.result c.in-len1.len_at_least (omega (arith, c.in-len1.len_below))) c.in-None.ensures

pub returns-in-Some : goal.returns-in-Some
returns-in-Some c =
    one_offset c.args.self.now c.objects.ensures.within c.entries.result.now (c.entries.ensures ∙ ap map.entries c.objects.ensures.value) _ _
    (one_entry c.entries.result.now c.index-object-0.result c.index-offsets-0.result c.in-len1.len_at_least (omega (arith, c.in-len1.len_below)))
    c.has_null-in-len1.result c.has_invalid-in-len1.result c.in-Some.offset c.has_null-in-len1.ensures c.has_invalid-in-len1.ensures c.if-has_null-has_invalid.false c.in-Some.ensures

pub returns-in_default : goal.returns-in_default
returns-in_default c =
    two_objects c.args.self.now c.objects.ensures.within c.entries.result.now (c.entries.ensures ∙ ap map.entries c.objects.ensures.value) c.in_default.len_at_least
