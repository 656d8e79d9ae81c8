-- Values joined with what adds nothing.
use Rattle.std.specs.Prelude.{◌≡◌}
use Rattle.pointer_dom.specs.Values.{Values, IsValues, IsValuesBelow, joined_values}
use Rattle.pointer_dom.specs.laws.ValueLaws.{values_order, values_join}

-- what is below adds nothing
pub join_below : (v w : Values) → IsValues v → IsValues w → IsValuesBelow w v → joined_values v w ≡ v
join_below v w v-is w-is le =
    values_order.antisymmetric (joined_values v w) v (values_join.value v w v-is w-is) v-is
    (values_join.least v w v v-is w-is v-is (values_order.reflexive v v-is) le) (values_join.left v w v-is w-is)
