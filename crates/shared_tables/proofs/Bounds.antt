-- The join of two values of which one is above the other.
use Rattle.std.proofs.Common.{◌≡◌, ◌∙◌, sym, ap}
use Rattle.tm_lattice.specs.LatticeLaws.{IsOrder, IsJoin}

module _ {V : Type 0} (is_value : V → Type 0) (leq : V → V → Type 0) (joined : V → V → V)
    (order : IsOrder is_value leq) (join : IsJoin is_value leq joined) where
  left_is : (x y : V) → is_value x → is_value y → leq y x → x ≡ joined x y
  left_is x y x-is y-is le = order.antisymmetric x (joined x y) x-is (join.value x y x-is y-is)
      (join.left x y x-is y-is) (join.least x y x x-is y-is x-is (order.reflexive x x-is) le)

  right_is : (x y : V) → is_value x → is_value y → leq x y → y ≡ joined x y
  right_is x y x-is y-is le = order.antisymmetric y (joined x y) y-is (join.value x y x-is y-is)
      (join.right x y x-is y-is) (join.least x y y x-is y-is y-is le (order.reflexive y y-is))

  pub left_stays : (one other x y both : V) → x ≡ one → y ≡ other → is_value x → is_value y → leq y x → both ≡ one → both ≡ joined one other
  left_stays one other x y both x= y= x-is y-is le same =
      same ∙ sym x= ∙ left_is x y x-is y-is le ∙ ap (λ z. joined z y) x= ∙ ap (joined one) y=

  pub right_stays : (one other x y both : V) → x ≡ one → y ≡ other → is_value x → is_value y → leq x y → both ≡ other → both ≡ joined one other
  right_stays one other x y both x= y= x-is y-is le same =
      same ∙ sym y= ∙ right_is x y x-is y-is le ∙ ap (λ z. joined z y) x= ∙ ap (joined one) y=
