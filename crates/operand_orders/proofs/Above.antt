-- Values that are above others, whatever they are.
use Rattle.std.proofs.Common.{◌≡◌, refl, sym, subst, Option}
use Rattle.std.proofs.Common.{Some, None, arith}
use Rattle.std.specs.FinMap.{get, get-empty}
use Rattle.std.specs.Ordering.{nat_cmp}
use Rattle.std.proofs.lemmas.Bool.{or_cases, or_left, or_right}
use Rattle.tm_lattice.specs.Tables.{IsBelow, joined_at}
use Rattle.tm_lattice.specs.laws.TableLaws.{get-joined_table}
use Rattle.pointer_dom.specs.OffsetSets.{OffsetSet, IsOffsetsBelow, joined_offsets}
use Rattle.pointer_dom.specs.PointerSets.{no_pointer}
use Rattle.pointer_dom.specs.Values.{Values, no_value, IsValuesBelow, joined_values}
use Rattle.pointer_dom.specs.laws.OffsetLaws.{hull_left, hull_right, hull_least, empty_below}
use Rattle.access_races.proofs.Joins.{either}

-- ## Offsets

offsets_same : (o : OffsetSet) → IsOffsetsBelow o o
offsets_same o = record { size = omega arith; offsets = record { within = λ v p. p } }

offsets_through : (o p q : OffsetSet) → IsOffsetsBelow o p → IsOffsetsBelow p q → IsOffsetsBelow o q
offsets_through o p q h k = record {
  size = omega (arith, h.size, k.size);
  offsets = record { within = λ v m. k.offsets.within v (h.offsets.within v m) };
}

offsets_left : (o p : OffsetSet) → IsOffsetsBelow o (joined_offsets o p)
offsets_left o p = record { size = omega arith; offsets = hull_left o.offsets p.offsets }

offsets_right : (o p : OffsetSet) → IsOffsetsBelow p (joined_offsets o p)
offsets_right o p = record { size = omega arith; offsets = hull_right o.offsets p.offsets }

offsets_least : (o p q : OffsetSet) → IsOffsetsBelow o q → IsOffsetsBelow p q → IsOffsetsBelow (joined_offsets o p) q
offsets_least o p q h k = record {
  size = omega (arith, h.size, k.size);
  offsets = hull_least o.offsets p.offsets q.offsets h.offsets k.offsets;
}

-- ## At a key

at_through : (a b c : Option OffsetSet) → IsBelow IsOffsetsBelow a b → IsBelow IsOffsetsBelow b c
    → IsBelow IsOffsetsBelow a c
at_through None b c h k = tt
at_through (Some o) None c h k = absurd h
at_through (Some o) (Some p) None h k = absurd k
at_through (Some o) (Some p) (Some q) h k = offsets_through o p q h k

at_left : (a b : Option OffsetSet) → IsBelow IsOffsetsBelow a (joined_at joined_offsets a b)
at_left None b = tt
at_left (Some o) None = offsets_same o
at_left (Some o) (Some p) = offsets_left o p

at_right : (a b : Option OffsetSet) → IsBelow IsOffsetsBelow b (joined_at joined_offsets a b)
at_right None None = tt
at_right None (Some p) = offsets_same p
at_right (Some o) None = tt
at_right (Some o) (Some p) = offsets_right o p

at_least : (a b c : Option OffsetSet) → IsBelow IsOffsetsBelow a c → IsBelow IsOffsetsBelow b c
    → IsBelow IsOffsetsBelow (joined_at joined_offsets a b) c
at_least None b c h k = k
at_least (Some o) None c h k = h
at_least (Some o) (Some p) None h k = absurd h
at_least (Some o) (Some p) (Some q) h k = offsets_least o p q h k

at_none : (a b : Option OffsetSet) → a ≡ None → IsBelow IsOffsetsBelow a b
at_none None b e = tt
at_none (Some o) b e = absurd cc

-- ## Values

pub values_same : (v : Values) → IsValuesBelow v v
values_same v = record {
  numbers = record { within = λ n p. p };
  pointers = record { null = λ t. t; invalid = λ t. t; objects = λ key. same (get v.pointers.objects key) };
}
  where
    same : (a : Option OffsetSet) → IsBelow IsOffsetsBelow a a
    same None = tt
    same (Some o) = offsets_same o

pub values_through : (u v w : Values) → IsValuesBelow u v → IsValuesBelow v w → IsValuesBelow u w
values_through u v w h k = record {
  numbers = record { within = λ n p. k.numbers.within n (h.numbers.within n p) };
  pointers = record {
    null = λ t. k.pointers.null (h.pointers.null t);
    invalid = λ t. k.pointers.invalid (h.pointers.invalid t);
    objects = λ key. at_through (get u.pointers.objects key) (get v.pointers.objects key) (get w.pointers.objects key)
        (h.pointers.objects key) (k.pointers.objects key);
  };
}

pub values_left : (v w : Values) → IsValuesBelow v (joined_values v w)
values_left v w = record {
  numbers = hull_left v.numbers w.numbers;
  pointers = record {
    null = λ t. or_left v.pointers.null w.pointers.null t;
    invalid = λ t. or_left v.pointers.invalid w.pointers.invalid t;
    objects = λ key. subst (λ at. IsBelow IsOffsetsBelow (get v.pointers.objects key) at)
        (sym (get-joined_table joined_offsets v.pointers.objects w.pointers.objects key))
        (at_left (get v.pointers.objects key) (get w.pointers.objects key));
  };
}

pub values_right : (v w : Values) → IsValuesBelow w (joined_values v w)
values_right v w = record {
  numbers = hull_right v.numbers w.numbers;
  pointers = record {
    null = λ t. or_right v.pointers.null w.pointers.null t;
    invalid = λ t. or_right v.pointers.invalid w.pointers.invalid t;
    objects = λ key. subst (λ at. IsBelow IsOffsetsBelow (get w.pointers.objects key) at)
        (sym (get-joined_table joined_offsets v.pointers.objects w.pointers.objects key))
        (at_right (get v.pointers.objects key) (get w.pointers.objects key));
  };
}

pub values_least : (v w x : Values) → IsValuesBelow v x → IsValuesBelow w x → IsValuesBelow (joined_values v w) x
values_least v w x h k = record {
  numbers = hull_least v.numbers w.numbers x.numbers h.numbers k.numbers;
  pointers = record {
    null = λ t. either h.pointers.null k.pointers.null (or_cases v.pointers.null w.pointers.null t);
    invalid = λ t. either h.pointers.invalid k.pointers.invalid (or_cases v.pointers.invalid w.pointers.invalid t);
    objects = λ key. subst (λ at. IsBelow IsOffsetsBelow at (get x.pointers.objects key))
        (sym (get-joined_table joined_offsets v.pointers.objects w.pointers.objects key))
        (at_least (get v.pointers.objects key) (get w.pointers.objects key) (get x.pointers.objects key)
        (h.pointers.objects key) (k.pointers.objects key));
  };
}

pub nothing_below : (v : Values) → IsValuesBelow no_value v
nothing_below v = record {
  numbers = empty_below _ v.numbers refl;
  pointers = record {
    null = λ t. absurd cc;
    invalid = λ t. absurd cc;
    objects = λ key. at_none (get no_pointer.objects key) (get v.pointers.objects key) (get-empty nat_cmp key);
  };
}
