-- The join of what all edges contribute is the pass: it holds all contributions, and is the least that does.
use Rattle.std.proofs.Common.{◌≡◌, ℕ, zero, suc, ◌<◌, ◌≤◌, List, Option, Some, None, length, sym, ap}
use Rattle.std.proofs.Common.{subst, ◌∙◌, inl, inr, refl, arith}
use Rattle.std.proofs.lemmas.Bool.{cases_lt}
use Rattle.tm_lattice.specs.declared.lattices.Lattice as lattice
use Rattle.tm_lattice.specs.LatticeLaws.{IsOrder, IsJoin}
use Rattle.table_covers.specs.declared.links.Link.{Link}
use Rattle.table_covers.specs.Systems.{from_of}
use Rattle.table_covers.specs.Solutions.{NodeTable}
use Rattle.table_covers.specs.Passes.{with_added, added_below}

module _ {S V M : Type 0} (store : lattice.Ghosts S M) (Fits : S → Type 0) (bottom : S) (links : List Link) (added : ℕ
    → V → S) (table : NodeTable V)
    (order : IsOrder store.is_value store.leq) (join : IsJoin store.is_value store.leq store.joined)
    (value : (s : S) → Fits s → store.is_value s) (bottom_fits : Fits bottom) (bottom_below : (s : S)
    → store.is_value s → store.leq bottom s)
    (joined_fits : (s t : S) → Fits s → Fits t → Fits (store.joined s t))
    (added_fits : (e : ℕ) (v : V) → e < length links → table (from_of links e) ≡ Some v → Fits (added e v)) where
  abbrev total : ℕ → S
  total k = added_below links bottom added store.joined k table

  abbrev with : ℕ → S → Option V → S
  with e s x = with_added links bottom added store.joined e s x

  with_fits : (e : ℕ) (s : S) (x : Option V) → e < length links → table (from_of links e) ≡ x → Fits s
      → Fits (with e s x)
  with_fits e s None lt is s-fits = s-fits
  with_fits e s (Some v) lt is s-fits = joined_fits s (added e v) s-fits (added_fits e v lt is)

  pub total_fits : (k : ℕ) → k ≤ length links → Fits (total k)
  total_fits zero le = bottom_fits
  total_fits (suc e) le = with_fits e (total e) (table (from_of links e)) (omega arith) refl
      (total_fits e (omega arith))

  with_left : (e : ℕ) (s : S) (x : Option V) → e < length links → table (from_of links e) ≡ x → Fits s
      → store.leq s (with e s x)
  with_left e s None lt is s-fits = order.reflexive s (value s s-fits)
  with_left e s (Some v) lt is s-fits = join.left s (added e v) (value s s-fits) (value _ (added_fits e v lt is))

  with_right : (e : ℕ) (s : S) (x : Option V) (v : V) → e < length links → table (from_of links e) ≡ x → x ≡ Some v
      → Fits s → store.leq (added e v) (with e s x)
  with_right e s x v lt is some s-fits =
      let a-fits = added_fits e v lt (is ∙ some) in
      subst (λ y. store.leq (added e v) (with e s y)) (sym some)
      (join.right s (added e v) (value s s-fits) (value _ a-fits))

  with_least : (e : ℕ) (s : S) (x : Option V) (bound : S) → e < length links → table (from_of links e) ≡ x → Fits s
      → Fits bound → store.leq s bound → ((v : V) → x ≡ Some v → store.leq (added e v) bound)
      → store.leq (with e s x) bound
  with_least e s None bound lt is s-fits b-fits le each = le
  with_least e s (Some v) bound lt is s-fits b-fits le each = join.least s (added e v) bound (value s s-fits)
      (value _ (added_fits e v lt is)) (value bound b-fits) le (each v refl)

  pub total_holds : (k e : ℕ) (v : V) → k ≤ length links → e < k → table (from_of links e) ≡ Some v
      → store.leq (added e v) (total k)
  total_holds zero e v le lt is = absurd (omega arith)
  total_holds (suc k) e v le lt is =
      let rest-fits = total_fits k (omega arith) in
      let x = table (from_of links k) in
      elim (cases_lt e k) [
        | inl before ↦
            order.transitive (added e v) (total k) (total (suc k)) (value _ (added_fits e v (omega arith) is))
            (value _ rest-fits) (value _ (total_fits (suc k) le)) (total_holds k e v (omega arith) before is)
            (with_left k (total k) x (omega arith) refl rest-fits)
        | inr last ↦
            let same : e ≡ k = omega arith in
            subst (λ i. store.leq (added i v) (total (suc k))) (sym same)
            (with_right k (total k) x v (omega arith) refl (ap (λ i. table (from_of links i)) (sym same)
            ∙ is) rest-fits)
      ]

  pub total_least : (k : ℕ) (bound : S) → k ≤ length links → Fits bound
      → ((e : ℕ) (v : V) → e < k → table (from_of links e) ≡ Some v → store.leq (added e v) bound)
      → store.leq (total k) bound
  total_least zero bound le b-fits each = bottom_below bound (value bound b-fits)
  total_least (suc k) bound le b-fits each =
      with_least k (total k) (table (from_of links k)) bound (omega arith) refl (total_fits k (omega arith)) b-fits
      (total_least k bound (omega arith) b-fits (λ e v lt. each e v (omega arith)))
      (λ v is. each k v (omega arith) is)
