-- The definition of configured nodes gives what the theorem asks of held and found sets.
use Rattle.std.proofs.Common.{◌≡◌, ◌⊎◌, inl, inr, true, false, IsTrue, refl}
use Rattle.tm_soundness.specs.Rows.{pick}
use Rattle.tm_soundness.specs.Configured.{MutexSet, no_mutex, with_mutex, without_mutex}

module _ (M : Type 0) (same : (m n : M) → Dec (m ≡ n)) where
  pub in_with : (l : MutexSet M same) (m n : M) → IsTrue (with_mutex M same l m n) → IsTrue (l n) ⊎ (n ≡ m)
  in_with l m n = by_case (same n m)
    where
      by_case : (d : Dec (n ≡ m)) → IsTrue (pick d true (l n)) → IsTrue (l n) ⊎ (n ≡ m)
      by_case (yes e) h = inr e
      by_case (no d) h = inl h

  pub with_old : (l : MutexSet M same) (m n : M) → IsTrue (l n) → IsTrue (with_mutex M same l m n)
  with_old l m n = by_case (same n m)
    where
      by_case : (d : Dec (n ≡ m)) → IsTrue (l n) → IsTrue (pick d true (l n))
      by_case (yes e) h = refl
      by_case (no d) h = h

  pub with_new : (l : MutexSet M same) (m : M) → IsTrue (with_mutex M same l m m)
  with_new l m = by_case (same m m)
    where
      by_case : (d : Dec (m ≡ m)) → IsTrue (pick d true (l m))
      by_case (yes e) = refl
      by_case (no d) = absurd (d refl)

  pub in_without : (l : MutexSet M same) (m n : M) → IsTrue (without_mutex M same l m n) → IsTrue (l n) × (n ≡ m → ⊥)
  in_without l m n = by_case (same n m)
    where
      by_case : (d : Dec (n ≡ m)) → IsTrue (pick d false (l n)) → IsTrue (l n) × (n ≡ m → ⊥)
      by_case (yes e) h = cc
      by_case (no d) h = (h, d)

  pub without_old : (l : MutexSet M same) (m n : M) → (n ≡ m → ⊥) → IsTrue (l n) → IsTrue (without_mutex M same l m n)
  without_old l m n not = by_case (same n m)
    where
      by_case : (d : Dec (n ≡ m)) → IsTrue (l n) → IsTrue (pick d false (l n))
      by_case (yes e) h = absurd (not e)
      by_case (no d) h = h

  pub none_in : (n : M) → IsTrue (no_mutex M same n) → ⊥
  none_in n h = cc
