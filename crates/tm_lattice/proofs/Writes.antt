-- What writing at a key, and taking an entry away, do to the list of entries.
use Rattle.std.proofs.Common.{◌≡◌, ◌≢◌, ℕ, zero, suc, List, [], ◌∷◌, set, cond, Option, None, T, sym, ap, subst, ◌∙◌, inl, inr, arith}
use Rattle.std.specs.List.{insert, remove}
use Rattle.std.specs.Ordering.{nat_cmp}
use Rattle.std.specs.Cmp.{nat_cmp_total}
use Rattle.std.proofs.lemmas.Bool.{cases_eq}
use Rattle.std.specs.FinMap as fin
use Rattle.std.specs.FinMap.{find, is_sorted, get, from_sorted, get-from_sorted, get-remove}
use Rattle.tm_lattice.specs.laws.Keys.{AllAbove, AllAbove-rest, is_sorted-rest, is_sorted-cons, find-here, find-there, find_below, same_key, other_key}
use Rattle.tm_lattice.specs.Tables.{Table, IsEntry}
use Rattle.tm_lattice.specs.reading.Listed.{IsListed, IsAt, IsGapFor}
use Rattle.tm_lattice.specs.laws.TableLaws.{same_table}
use Rattle.tm_lattice.proofs.Search.{set_at, insert_gap, put_inserts, at_rest, above_first, find_gap}
use Rattle.tm_lattice.proofs.Edits.{put_listed}

module _ {V : Type 0} (is_value nothing : V → Type 0) (es : List (ℕ × V)) (listed : IsListed is_value nothing es) (key : ℕ) where
  module _ (v : V) (is : is_value v) (some : nothing v → ⊥) where
    pub write_listed : (at : ℕ) → IsAt es key at → IsListed is_value nothing (set es at (key, v))
    write_listed at here = subst (IsListed is_value nothing) (sym (set_at es key at v listed.sorted here)) (put_listed is_value nothing es key v listed is some)

    pub write_inserts : (at : ℕ) → IsAt es key at → from_sorted {R = nat_cmp} (set es at (key, v)) ≡ fin.insert (from_sorted es) key v
    write_inserts at here = ap from_sorted (set_at es key at v listed.sorted here) ∙ put_inserts es key v listed.sorted

    pub enter_listed : (at : ℕ) → IsGapFor es key at → IsListed is_value nothing (insert es at (key, v))
    enter_listed at gap = subst (IsListed is_value nothing) (sym (insert_gap es key at v gap)) (put_listed is_value nothing es key v listed is some)

    pub enter_inserts : (at : ℕ) → IsGapFor es key at → from_sorted {R = nat_cmp} (insert es at (key, v)) ≡ fin.insert (from_sorted es) key v
    enter_inserts at gap = ap from_sorted (insert_gap es key at v gap) ∙ put_inserts es key v listed.sorted

module _ {V : Type 0} where
  removed_above : (k : ℕ) (es : List (ℕ × V)) (at : ℕ) → AllAbove k es → AllAbove k (remove es at)
  removed_above k [] zero h = tt
  removed_above k [] (suc at) h = tt
  removed_above k (e ∷ es) zero h = h.1
  removed_above k (e ∷ es) (suc at) h = (h.0, removed_above k es at h.1)

  removed_sorted : (es : List (ℕ × V)) (at : ℕ) → T (is_sorted nat_cmp es) → T (is_sorted nat_cmp (remove es at))
  removed_sorted [] zero h = tt
  removed_sorted [] (suc at) h = tt
  removed_sorted (e ∷ es) zero h = is_sorted-rest e es h
  removed_sorted (e ∷ es) (suc at) h = is_sorted-cons e (remove es at) (removed_above e.0 es at (AllAbove-rest e es h)) (removed_sorted es at (is_sorted-rest e es h))

  -- what is found when the entry of a key is gone
  removed_here : (es : List (ℕ × V)) (key at : ℕ) → T (is_sorted nat_cmp es) → IsAt es key at → find nat_cmp key (remove es at) ≡ None
  removed_here [] key at sorted is = absurd (omega (arith, is.in_range))
  removed_here (e ∷ es) key zero sorted is = find_below key es (subst (λ k. AllAbove k es) (is.has_key e) (AllAbove-rest e es sorted))
  removed_here (e ∷ es) key (suc at) sorted is =
      find-there key e (remove es at) (λ same. (let less = above_first e es key at sorted is in absurd (omega (arith, less, same)))) ∙ removed_here es key at (is_sorted-rest e es sorted) (at_rest e es key at is)

  removed_there : (es : List (ℕ × V)) (key at q : ℕ) → IsAt es key at → q ≢ key → find nat_cmp q (remove es at) ≡ find nat_cmp q es
  removed_there [] key at q is differ = absurd (omega (arith, is.in_range))
  removed_there (e ∷ es) key zero q is differ = sym (find-there q e es (λ same. differ (same ∙ is.has_key e)))
  removed_there (e ∷ es) key (suc at) q is differ = elim (cases_eq q e.0) [
    | inl here ↦ find-here q e (remove es at) here ∙ sym (find-here q e es here)
    | inr there ↦ find-there q e (remove es at) there ∙ removed_there es key at q (at_rest e es key at is) differ ∙ sym (find-there q e es there)
  ]

  gone_here : (t : Table V) (key q : ℕ) → q ≡ key → get (fin.remove t key) q ≡ None
  gone_here t key q same = get-remove nat_cmp_total t key q ∙ ap (λ b. cond b None (get t q)) (same_key q key same)

  gone_there : (t : Table V) (key q : ℕ) → q ≢ key → get (fin.remove t key) q ≡ get t q
  gone_there t key q differ = get-remove nat_cmp_total t key q ∙ ap (λ b. cond b None (get t q)) (other_key q key differ)

  pub remove_removes : (es : List (ℕ × V)) (key at : ℕ) → T (is_sorted nat_cmp es) → IsAt es key at → from_sorted {R = nat_cmp} (remove es at) ≡ fin.remove (from_sorted es) key
  remove_removes es key at sorted is = same_table _ _ (λ q.
      get-from_sorted nat_cmp (remove es at) q (removed_sorted es at sorted)
      ∙ elim (cases_eq q key) [
        | inl here ↦ ap (λ k. find nat_cmp k (remove es at)) here ∙ removed_here es key at sorted is ∙ sym (gone_here (from_sorted es) key q here)
        | inr there ↦ removed_there es key at q is there ∙ sym (get-from_sorted nat_cmp es q sorted) ∙ sym (gone_there (from_sorted es) key q there)
      ])

  pub absent_removes : (es : List (ℕ × V)) (key at : ℕ) → T (is_sorted nat_cmp es) → IsGapFor es key at → from_sorted {R = nat_cmp} es ≡ fin.remove (from_sorted es) key
  absent_removes es key at sorted gap = same_table _ _ (λ q. elim (cases_eq q key) [
    | inl here ↦ get-from_sorted nat_cmp es q sorted ∙ ap (λ k. find nat_cmp k es) here ∙ find_gap es key at gap ∙ sym (gone_here (from_sorted es) key q here)
    | inr there ↦ sym (gone_there (from_sorted es) key q there)
  ])

module _ {V : Type 0} (is_value nothing : V → Type 0) where
  entry_where : (a b : Option V) → a ≡ b → IsEntry is_value nothing b → IsEntry is_value nothing a
  entry_where a b same h = subst (IsEntry is_value nothing) (sym same) h

  pub remove_listed : (es : List (ℕ × V)) (key at : ℕ) → IsListed is_value nothing es → IsAt es key at → IsListed is_value nothing (remove es at)
  remove_listed es key at listed is = record {
    sorted = removed_sorted es at listed.sorted;
    values = λ q. elim (cases_eq q key) [
      | inl here ↦ entry_where (find nat_cmp q (remove es at)) None (ap (λ k. find nat_cmp k (remove es at)) here ∙ removed_here es key at listed.sorted is) tt
      | inr there ↦ entry_where (find nat_cmp q (remove es at)) (find nat_cmp q es) (removed_there es key at q is there) (listed.values q)
    ];
  }
