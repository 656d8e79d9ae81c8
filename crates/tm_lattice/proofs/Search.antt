-- What a search finds among entries in the order of their keys, and what an edit at that place does.
use Rattle.std.proofs.Common.{◌≡◌, ℕ, zero, suc, ◌<◌, ◌≤◌, List, [], ◌∷◌, length, get_or, set, Some, None, Result, Ok, Err, IfOk, IfErr, T, refl, sym, ap, subst, ◌∙◌, arith}
use Rattle.std.specs.List.{insert}
use Rattle.std.specs.List.Sorted.{IsSearchInRange, IsBinarySearchResult, IsNonDecreasingBy}
use Rattle.std.specs.Ordering.{nat_cmp, ordering_index}
use Rattle.std.proofs.lemmas.Cmp.{ranked}
use Rattle.std.proofs.lemmas.Bool.Decides.{nat_tests}
use Rattle.std.specs.Cmp.{nat_cmp_total}
use Rattle.std.specs.FinMap as map
use Rattle.std.specs.FinMap.{find, put, is_sorted, from_sorted, get-from_sorted, entries-insert, entries-from_sorted, entries_sorted, same_entries_map}
use Rattle.tm_lattice.specs.laws.Keys.{AllAbove, AllAbove-rest, is_sorted-rest, find-here, find-there, find_below}
use Rattle.std.proofs.lemmas.List.{get_or_default}
use Rattle.tm_lattice.specs.Tables.{IsPast, IsNext}
use Rattle.tm_lattice.specs.reading.Listed.{key_at, IsAt, IsGapFor, IsFirstFrom}
use Rattle.tm_lattice.proofs.Merging.{cmp_less, cmp_equal, cmp_greater}

module _ {V : Type 0} where
  AllAbove-at : (k : ℕ) (es : List (ℕ × V)) (i : ℕ) (d : ℕ × V) → AllAbove k es → i < length es → k < key_at es i d
  AllAbove-at k [] i d above within = absurd (omega arith)
  AllAbove-at k (e ∷ es) zero d above within = above.0
  AllAbove-at k (e ∷ es) (suc i) d above within = AllAbove-at k es i d above.1 (omega arith)

  pub keys_rise : (es : List (ℕ × V)) (i j : ℕ) (d : ℕ × V) → T (is_sorted nat_cmp es) → i ≤ j → j < length es → key_at es i d ≤ key_at es j d
  keys_rise [] i j d sorted le within = absurd (omega arith)
  keys_rise (e ∷ es) zero zero d sorted le within = omega arith
  keys_rise (e ∷ es) zero (suc j) d sorted le within = omega (arith, AllAbove-at e.0 es j d (AllAbove-rest e es sorted) (omega arith))
  keys_rise (e ∷ es) (suc i) zero d sorted le within = absurd (omega arith)
  keys_rise (e ∷ es) (suc i) (suc j) d sorted le within = keys_rise es i j d (is_sorted-rest e es sorted) (omega arith) (omega arith)

  keys_climb : (es : List (ℕ × V)) (i j : ℕ) (d : ℕ × V) → T (is_sorted nat_cmp es) → i < j → j < length es → key_at es i d < key_at es j d
  keys_climb [] i j d sorted lt within = absurd (omega arith)
  keys_climb (e ∷ es) i zero d sorted lt within = absurd (omega arith)
  keys_climb (e ∷ es) zero (suc j) d sorted lt within = AllAbove-at e.0 es j d (AllAbove-rest e es sorted) (omega arith)
  keys_climb (e ∷ es) (suc i) (suc j) d sorted lt within = keys_climb es i j d (is_sorted-rest e es sorted) (omega arith) (omega arith)

  -- where the key stands, or the gap for it, is the first place from it on
  pub first_at : (es : List (ℕ × V)) (k at : ℕ) → T (is_sorted nat_cmp es) → IsAt es k at → IsFirstFrom es k at
  first_at es k at sorted is = record {
    smaller_before = λ i d lt. omega (arith, keys_climb es i at d sorted lt is.in_range, is.has_key d);
    at_least_after = λ i d le lt. omega (arith, keys_rise es at i d sorted le lt, is.has_key d);
  }

  pub first_gap : (es : List (ℕ × V)) (k at : ℕ) → IsGapFor es k at → IsFirstFrom es k at
  first_gap es k at gap = record {
    smaller_before = gap.smaller_before;
    at_least_after = λ i d le lt. omega (arith, gap.greater_after i d le lt);
  }

  -- a binary search by key ends at the key, or at the gap for it
  pub searched : (es : List (ℕ × V)) (k : ℕ) (r : Result ℕ ℕ) → T (is_sorted nat_cmp es) → IsSearchInRange r (length es) → IsBinarySearchResult (λ e. nat_cmp e.0 k) es r
      → record { found : IfOk r (IsAt es k); absent : IfErr r (IsGapFor es k) }
  searched es k (Ok at) sorted in_range equal = record { found = record { in_range = in_range; has_key = λ d. ranked _ k _ (sym (equal d)) }; absent = tt }
  searched es k (Err at) sorted in_range parted =
      let rises : IsNonDecreasingBy (λ (e : ℕ × V). ordering_index (nat_cmp e.0 k)) es = λ i j d le within.
      let le' : key_at es i d ≤ key_at es j d = keys_rise es i j d sorted le within in grind (arith, nat_tests) in
      record {
        found = tt;
        absent = record {
          in_range = in_range;
          smaller_before = λ i d lt. ranked _ k _ (sym ((parted rises).0 i d (omega arith) lt));
          greater_after = λ i d le lt. ranked _ k _ (sym ((parted rises).1 i d le lt));
        };
      }

  pub at_rest : (e : ℕ × V) (es : List (ℕ × V)) (k at : ℕ) → IsAt (e ∷ es) k (suc at) → IsAt es k at
  at_rest e es k at is = record { in_range = omega (arith, is.in_range); has_key = is.has_key }

  pub above_first : (e : ℕ × V) (es : List (ℕ × V)) (k at : ℕ) → T (is_sorted nat_cmp (e ∷ es)) → IsAt (e ∷ es) k (suc at) → e.0 < k
  above_first e es k at sorted is =
      let there = at_rest e es k at is in
      omega (arith, AllAbove-at e.0 es at e (AllAbove-rest e es sorted) there.in_range, there.has_key e)

  pub find_at : (es : List (ℕ × V)) (k at : ℕ) (d : ℕ × V) → T (is_sorted nat_cmp es) → IsAt es k at → find nat_cmp k es ≡ Some (get_or es at d).1
  find_at [] k at d sorted is = absurd (omega (arith, is.in_range))
  find_at (e ∷ es) k zero d sorted is = find-here k e es (sym (is.has_key d))
  find_at (e ∷ es) k (suc at) d sorted is =
      find-there k e es (omega (arith, above_first e es k at sorted is)) ∙ find_at es k at d (is_sorted-rest e es sorted) (at_rest e es k at is)

  gap_rest : (e : ℕ × V) (es : List (ℕ × V)) (k at : ℕ) → IsGapFor (e ∷ es) k (suc at) → IsGapFor es k at
  gap_rest e es k at gap = record {
    in_range = omega (arith, gap.in_range);
    smaller_before = λ i d lt. gap.smaller_before (suc i) d (omega arith);
    greater_after = λ i d le lt. gap.greater_after (suc i) d (omega arith) (omega arith);
  }

  gap_first : (es : List (ℕ × V)) (k : ℕ) → IsGapFor es k zero → AllAbove k es
  gap_first [] k gap = tt
  gap_first (e ∷ es) k gap =
      (gap.greater_after zero e (omega arith) (omega arith), gap_first es k (record { in_range = omega arith; smaller_before = λ i d lt. absurd (omega arith); greater_after = λ i d le lt. gap.greater_after (suc i) d (omega arith) (omega arith) }))

  pub find_gap : (es : List (ℕ × V)) (k at : ℕ) → IsGapFor es k at → find nat_cmp k es ≡ None
  find_gap es k zero gap = find_below k es (gap_first es k gap)
  find_gap [] k (suc at) gap = refl
  find_gap (e ∷ es) k (suc at) gap =
      find-there k e es (omega (arith, gap.smaller_before zero e (omega arith))) ∙ find_gap es k at (gap_rest e es k at gap)

  -- to write at the key's place is to put the entry
  pub set_at : (es : List (ℕ × V)) (k at : ℕ) (v : V) → T (is_sorted nat_cmp es) → IsAt es k at → set es at (k, v) ≡ put nat_cmp k v es
  set_at [] k at v sorted is = absurd (omega (arith, is.in_range))
  set_at (e ∷ es) k zero v sorted is = rw (cmp_equal k e.0 (sym (is.has_key e))) (ap (λ key. (key, v) ∷ es) (sym (is.has_key e)))
  set_at (e ∷ es) k (suc at) v sorted is =
      rw (cmp_greater k e.0 (above_first e es k at sorted is)) (ap (λ rest. e ∷ rest) (set_at es k at v (is_sorted-rest e es sorted) (at_rest e es k at is)))

  -- and so it is to insert it in the gap
  pub insert_gap : (es : List (ℕ × V)) (k at : ℕ) (v : V) → IsGapFor es k at → insert es at (k, v) ≡ put nat_cmp k v es
  insert_gap [] k zero v gap = refl
  insert_gap (e ∷ es) k zero v gap = rw (cmp_less k e.0 (gap.greater_after zero e (omega arith) (omega arith))) refl
  insert_gap [] k (suc at) v gap = absurd (omega (arith, gap.in_range))
  insert_gap (e ∷ es) k (suc at) v gap =
      rw (cmp_greater k e.0 (gap.smaller_before zero e (omega arith))) (ap (λ rest. e ∷ rest) (insert_gap es k at v (gap_rest e es k at gap)))

  -- a list into which an entry is put is that of the map into which it is inserted
  pub put_sorted : (es : List (ℕ × V)) (k : ℕ) (v : V) → T (is_sorted nat_cmp es) → T (is_sorted nat_cmp (put nat_cmp k v es))
  put_sorted es k v sorted =
      subst (λ l. T (is_sorted nat_cmp l)) (entries-insert nat_cmp_total (from_sorted es) k v ∙ ap (put nat_cmp k v) (entries-from_sorted nat_cmp es sorted)) (entries_sorted (map.insert (from_sorted es) k v))

  pub put_inserts : (es : List (ℕ × V)) (k : ℕ) (v : V) → T (is_sorted nat_cmp es) → from_sorted {R = nat_cmp} (put nat_cmp k v es) ≡ map.insert (from_sorted es) k v
  put_inserts es k v sorted =
      same_entries_map (from_sorted (put nat_cmp k v es)) (map.insert (from_sorted es) k v)
      (entries-from_sorted nat_cmp (put nat_cmp k v es) (put_sorted es k v sorted) ∙ sym (entries-insert nat_cmp_total (from_sorted es) k v ∙ ap (put nat_cmp k v) (entries-from_sorted nat_cmp es sorted)))

  -- no key from this one on
  pub past_end : (es : List (ℕ × V)) (k at : ℕ) → T (is_sorted nat_cmp es) → IsFirstFrom es k at → length es ≤ at → IsPast (from_sorted es) k
  past_end es k at sorted first past q le =
      get-from_sorted nat_cmp es q sorted ∙ find_gap es q (length es) (record {
        in_range = omega arith;
        smaller_before = λ i d lt. omega (arith, first.smaller_before i d (omega arith));
        greater_after = λ i d le' lt. absurd (omega arith);
      })

  -- the entry at that place is the next one
  pub next_there : (es : List (ℕ × V)) (k at : ℕ) (e : ℕ × V) → T (is_sorted nat_cmp es) → IsFirstFrom es k at → at < length es → e ≡ get_or es at e → IsNext (from_sorted es) k e.0 e.1
  next_there es k at e sorted first within read =
      let here : key_at es at e ≡ e.0 = ap (λ (x : ℕ × V). x.0) (sym read) in
      record {
        at_least = omega (arith, first.at_least_after at e (omega arith) within);
        stands = get-from_sorted nat_cmp es e.0 sorted
            ∙ find_at es e.0 at e sorted (record { in_range = within; has_key = λ d. ap (λ (x : ℕ × V). x.0) (get_or_default es at d e within ∙ sym read) })
            ∙ ap (λ (x : ℕ × V). Some x.1) (sym read);
        none_between = λ q le lt. get-from_sorted nat_cmp es q sorted ∙ find_gap es q at (record {
          in_range = omega arith;
          smaller_before = λ i d lt'. omega (arith, first.smaller_before i d lt');
          greater_after = λ i d le' lt'.
              let same : key_at es at d ≡ key_at es at e = ap (λ (x : ℕ × V). x.0) (get_or_default es at d e within) in
              omega (arith, keys_rise es at i d sorted le' lt');
        });
      }
