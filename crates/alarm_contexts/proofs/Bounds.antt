-- Least upper bounds of sets of values, one by one.
use Rattle.std.proofs.Common.{◌≡◌, ◌⊎◌, sym, subst}
use Rattle.interfere_set.specs.pointer_dom.Values.{Values, IsValues, IsValuesBelow, joined_values, no_value}
use Rattle.interfere_set.specs.pointer_dom.laws.ValueLaws.{values_order, values_join}
use Rattle.interfere_set.specs.laws.Joins.{none_is, none_below}
use Rattle.access_races.proofs.Joins.{either}
use Rattle.alarm_contexts.specs.Bounds.{IsLeastAbove}

-- nothing is above nothing
pub least_none : (P : Values → Type 0) → ((w : Values) → P w → ⊥) → IsLeastAbove P no_value
least_none P none = record {
  form = none_is;
  above = λ w h. absurd (none w h);
  least = λ u u-is h. none_below u u-is;
}

-- one value is above itself
pub least_one : (P : Values → Type 0) (v : Values) → IsValues v → P v → ((w : Values) → P w → w ≡ v) → IsLeastAbove P v
least_one P v v-is has all = record {
  form = v-is;
  above = λ w h. subst (λ z. IsValuesBelow z v) (sym (all w h)) (values_order.reflexive v v-is);
  least = λ u u-is h. h v has;
}

-- what is above the ones and what is above the others are joined above all
pub least_both : (P Q R : Values → Type 0) (v w : Values) → IsLeastAbove P v → IsLeastAbove Q w
    → ((x : Values) → R x → P x ⊎ Q x) → ((x : Values) → P x → R x) → ((x : Values) → Q x → R x)
    → ((x : Values) → R x → IsValues x) → IsLeastAbove R (joined_values v w)
least_both P Q R v w h k split from_one from_other are = record {
  form = values_join.value v w h.form k.form;
  above = λ x r.
      let both = values_join.value v w h.form k.form in
      either (λ p. values_order.transitive x v (joined_values v w) (are x r) h.form both (h.above x p)
      (values_join.left v w h.form k.form))
      (λ q. values_order.transitive x w (joined_values v w) (are x r) k.form both (k.above x q)
      (values_join.right v w h.form k.form)) (split x r);
  least = λ u u-is all. values_join.least v w u h.form k.form u-is
      (h.least u u-is (λ x p. all x (from_one x p))) (k.least u u-is (λ x q. all x (from_other x q)));
}

-- the same ones
pub least_same : (P Q : Values → Type 0) (v : Values) → IsLeastAbove P v → ((x : Values) → P x → Q x)
    → ((x : Values) → Q x → P x) → IsLeastAbove Q v
least_same P Q v h to from = record {
  form = h.form;
  above = λ w q. h.above w (from w q);
  least = λ u u-is all. h.least u u-is (λ w p. all w (to w p));
}

-- there is one
pub one_least : (P : Values → Type 0) (v w : Values) → IsLeastAbove P v → IsLeastAbove P w → v ≡ w
one_least P v w h k =
    values_order.antisymmetric v w h.form k.form (h.least w k.form k.above) (k.least v h.form h.above)
