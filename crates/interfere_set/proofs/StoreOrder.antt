-- Two tests, of the weak and of the sync entries, make one of stores.
use Rattle.std.proofs.Common.{◌≡◌, ◌↔◌, ◌∙◌, Bool, false, IsTrue, sym, subst}
use Rattle.std.proofs.lemmas.Bool.{false≢true}
use Rattle.interfere_set.specs.Stores.{Interferences, IsNestedBelow, IsStoreBelow}

module _ (s t u v : Interferences) (e : s ≡ u) (f : t ≡ v) where
  moved : (b : Bool) → (IsTrue b ↔ IsStoreBelow s t) → IsTrue b ↔ IsStoreBelow u v
  moved b told = subst (λ x. IsTrue b ↔ IsStoreBelow x v) e (subst (λ x. IsTrue b ↔ IsStoreBelow s x) f told)

  pub both_below : (b : Bool) → IsNestedBelow s.weak t.weak → (IsTrue b ↔ IsNestedBelow s.sync t.sync) → IsTrue b ↔ IsStoreBelow u v
  both_below b weak told = moved b (λ yes. record { weak = weak; sync = told.0 yes }, λ below. told.1 below.sync)

  pub not_below : (b : Bool) → (IsTrue b ↔ IsNestedBelow s.weak t.weak) → b ≡ false → IsTrue b ↔ IsStoreBelow u v
  not_below b told no_b = moved b (λ yes. absurd (false≢true (sym no_b ∙ yes)), λ below. told.1 below.weak)
