-- The cells that an address reaches, found by its objects and offsets, are the targets of the rows, in the same order.
use Rattle.std.specs.Prelude.{◌≡◌, ◌↔◌, ℕ, zero, suc, ℤ, ◌≤ℤ◌, min, IsTrue, ◌+◌, ◌-◌, ◌<◌, ◌≤◌, Bool, true, false, ◌&&◌, ◌||◌, cond, pos, List, [], ◌∷◌, ◌++◌, length, get_or, drop, Some, None, T, refl}
use Rattle.std.proofs.Common.{sym, ap, subst, ◌∙◌, inl, inr, arith}
use Rattle.std.proofs.lemmas.List.{append-nil, append_assoc, drop_more, get_or_past}
use Rattle.std.specs.List.{list_all, list_any}
use Rattle.std.specs.Ordering.{nat_cmp}
use Rattle.std.specs.FinMap.{find, is_sorted, get, entries, get-entries, entries_sorted}
use Rattle.tm_lattice.specs.laws.Keys.{AllAbove, AllAbove-rest, is_sorted-rest, find-here, find-there}
use Rattle.tm_lattice.specs.laws.Keys.{find_below, AllAbove-lower}
use Rattle.std.proofs.lemmas.Int.{ints}
use Rattle.strided_dom.specs.Progression.{Progression, Has}
use Rattle.strided_dom.proofs.Members.{spaced_from, not_in_empty}
use Rattle.pointer_dom.specs.OffsetSets.{OffsetSet, AreEnds, no_offset}
use Rattle.pointer_dom.specs.PointerSets.{Pointers, offsets_or_none, offsets_at}
use Rattle.tm_typed.specs.declared.types.Scalar.{Scalar}
use Rattle.tm_laid.specs.Layouts.{LaidTree, object_at, no_object, cell_at, cell_of, abstract_of}
use Rattle.tm_laid.specs.Layouts.{is_same_scalar}
use Rattle.transfer_rows.specs.Actions.{Spot}
use Rattle.transfer_rows.specs.Accesses.{has_number, leads, targets_at}
use Rattle.transfer_rows.proofs.Leading.{number_is, is_number}
use Rattle.edge_actions.specs.Layouts.{is_reachable, spot_at, spots_in, spots_before, spots_of}
use Rattle.edge_actions.proofs.Lists.{decided}
use Rattle.edge_actions.specs.reading.Spans.{cell_of_type, cells_led, IsSpanOf}

-- nothing where there is nothing
both_nil : {A : Type 0} (b : Bool) → (let none : List A = [] in cond b none none ≡ none)
both_nil true = refl
both_nil false = refl

module _ (p : Pointers) where
  targets_append : (xs ys : List Spot) → targets_at (xs ++ ys) p ≡ targets_at xs p ++ targets_at ys p
  targets_append [] ys = refl
  targets_append (x ∷ xs) ys = by_test (leads p x.object x.offset) (targets_append xs ys)
    where
      by_test : (b : Bool) → targets_at (xs ++ ys) p ≡ targets_at xs p ++ targets_at ys p
          → cond b (x.cell ∷ targets_at (xs ++ ys) p) (targets_at (xs ++ ys) p) ≡ cond b (x.cell ∷ targets_at xs p) (targets_at xs p) ++ targets_at ys p
      by_test true rest = ap (λ l. x.cell ∷ l) rest
      by_test false rest = rest

  one_spot : (b : Bool) (s : Spot) → targets_at (cond b (s ∷ []) []) p ≡ cond (leads p s.object s.offset) (cond b (s.cell ∷ []) []) []
  one_spot true s = refl
  one_spot false s = sym (both_nil (leads p s.object s.offset))

  targets_where : (b : Bool) (xs : List Spot) → targets_at (cond b xs []) p ≡ cond b (targets_at xs p) []
  targets_where true xs = refl
  targets_where false xs = refl

module _ (laid : LaidTree) (scalar : Scalar) where
  -- in one object
  object_targets : (p : Pointers) (object count : ℕ) → targets_at (spots_in laid scalar object count) p ≡ cells_led laid scalar object (offsets_at p object).offsets count
  object_targets p object zero = refl
  object_targets p object (suc k) =
      targets_append p (spots_in laid scalar object k) (spot_at laid scalar object k)
      ∙ ap (λ xs. xs ++ targets_at (spot_at laid scalar object k) p) (object_targets p object k)
      ∙ ap (λ ys. cells_led laid scalar object (offsets_at p object).offsets k ++ ys)
      (one_spot p (is_same_scalar (cell_at laid (cell_of laid object k)).scalar scalar) record { object = object; offset = k; cell = abstract_of laid object k })

  -- offsets that are no members reach nothing
  led_skip : (object : ℕ) (offsets : Progression) (n : ℕ) → has_number offsets (pos n) ≡ false → cells_led laid scalar object offsets (suc n) ≡ cells_led laid scalar object offsets n
  led_skip object offsets n fails =
      ap (λ b. cells_led laid scalar object offsets n ++ cond b (cell_of_type laid scalar object n) []) fails ∙ append-nil (cells_led laid scalar object offsets n)

  led_skips : (object : ℕ) (offsets : Progression) (from more : ℕ) → ((k : ℕ) → from ≤ k → k < from + more → has_number offsets (pos k) ≡ false)
      → cells_led laid scalar object offsets (from + more) ≡ cells_led laid scalar object offsets from
  led_skips object offsets from zero none = (let same : from + 0 ≡ from = omega arith in ap (cells_led laid scalar object offsets) same)
  led_skips object offsets from (suc more) none =
      let next : from + suc more ≡ suc (from + more) = omega arith in
      ap (cells_led laid scalar object offsets) next ∙ led_skip object offsets (from + more) (none (from + more) (omega arith) (omega arith))
      ∙ led_skips object offsets from more (λ k least less. none k least (omega (arith, less)))

  -- the same up to a number at least as great
  pub led_to : (object : ℕ) (offsets : Progression) (from to : ℕ) → from ≤ to → ((k : ℕ) → from ≤ k → k < to → has_number offsets (pos k) ≡ false)
      → cells_led laid scalar object offsets to ≡ cells_led laid scalar object offsets from
  led_to object offsets from to le none =
      let whole : to ≡ from + (to - from) = omega (arith, le) in
      ap (cells_led laid scalar object offsets) whole ∙ led_skips object offsets from (to - from) (λ k least less. none k least (omega (arith, less, le)))

  led_nothing : (object : ℕ) (offsets : Progression) (count : ℕ) → ((k : ℕ) → has_number offsets (pos k) ≡ false) → cells_led laid scalar object offsets count ≡ []
  led_nothing object offsets count none = led_to object offsets 0 count (omega arith) (λ k least less. none k)

  module _ (task : ℕ) (p : Pointers) where
    -- what is found in the object of an entry, and in those of some entries
    abbrev pub found : ℕ × OffsetSet → List ℕ
    found e = cond (is_reachable laid task e.0) (cells_led laid scalar e.0 e.1.offsets (object_at laid e.0).cells) []

    abbrev pub found_all : List (ℕ × OffsetSet) → List ℕ
    found_all [] = []
    found_all (e ∷ es) = found e ++ found_all es

    abbrev up_to : ℕ → List ℕ
    up_to n = targets_at (spots_before laid task scalar n) p

    next_object : (n : ℕ) → up_to (suc n) ≡ up_to n ++ cond (is_reachable laid task n) (cells_led laid scalar n (offsets_at p n).offsets (object_at laid n).cells) []
    next_object n =
        let own = cond (is_reachable laid task n) (spots_in laid scalar n (object_at laid n).cells) [] in
        targets_append p (spots_before laid task scalar n) own
        ∙ ap (λ ys. up_to n ++ ys) (targets_where p (is_reachable laid task n) (spots_in laid scalar n (object_at laid n).cells)
        ∙ ap (λ ys. cond (is_reachable laid task n) ys []) (object_targets p n (object_at laid n).cells))

    empty_object : (n : ℕ) → cells_led laid scalar n (offsets_at p n).offsets (object_at laid n).cells ≡ [] → up_to (suc n) ≡ up_to n
    empty_object n none =
        next_object n ∙ ap (λ ys. up_to n ++ cond (is_reachable laid task n) ys []) none
        ∙ ap (λ ys. up_to n ++ ys) (both_nil (is_reachable laid task n)) ∙ append-nil (up_to n)

    skip_object : (n : ℕ) → get p.objects n ≡ None → up_to (suc n) ≡ up_to n
    skip_object n absent = empty_object n
        (ap (λ a. cells_led laid scalar n (offsets_or_none a).offsets (object_at laid n).cells) absent
        ∙ led_nothing n no_offset.offsets (object_at laid n).cells (λ k. refl))

    skip_objects : (from more : ℕ) → ((k : ℕ) → from ≤ k → k < from + more → get p.objects k ≡ None) → up_to (from + more) ≡ up_to from
    skip_objects from zero none = (let same : from + 0 ≡ from = omega arith in ap up_to same)
    skip_objects from (suc more) none =
        let next : from + suc more ≡ suc (from + more) = omega arith in
        ap up_to next ∙ skip_object (from + more) (none (from + more) (omega arith) (omega arith)) ∙ skip_objects from more (λ k least less. none k least (omega (arith, less)))

    -- there are no objects past the last
    past_object : (n : ℕ) → length laid.objects ≤ n → up_to (suc n) ≡ up_to n
    past_object n past = empty_object n (ap (λ o. cells_led laid scalar n (offsets_at p n).offsets o.cells) (get_or_past laid.objects n no_object past))

    past_objects : (more : ℕ) → up_to (length laid.objects + more) ≡ up_to (length laid.objects)
    past_objects zero = (let same : length laid.objects + 0 ≡ length laid.objects = omega arith in ap up_to same)
    past_objects (suc more) =
        let next : length laid.objects + suc more ≡ suc (length laid.objects + more) = omega arith in
        ap up_to next ∙ past_object (length laid.objects + more) (omega arith) ∙ past_objects more

    abbrev bound : ℕ → List (ℕ × OffsetSet) → ℕ
    bound b [] = b
    bound b (e ∷ es) = bound (suc e.0) es

    -- the keys are all at least b
    abbrev AllFrom : ℕ → List (ℕ × OffsetSet) → Type 0
    AllFrom b [] = Unit {0}
    AllFrom b (e ∷ es) = b ≤ e.0

    from_above : (k : ℕ) (es : List (ℕ × OffsetSet)) → AllAbove k es → AllFrom (suc k) es
    from_above k [] above = tt
    from_above k (e ∷ es) above = omega (arith, above.0)

    walk : (b : ℕ) (es : List (ℕ × OffsetSet)) → T (is_sorted nat_cmp es) → AllFrom b es → ((k : ℕ) → b ≤ k → get p.objects k ≡ find nat_cmp k es)
        → up_to (bound b es) ≡ up_to b ++ found_all es
    walk b [] sorted least same = sym (append-nil (up_to b))
    walk b (e ∷ es) sorted least same =
        let above = AllAbove-rest e es sorted in
        let gap : (k : ℕ) → b ≤ k → k < e.0 → get p.objects k ≡ None = λ k low high.
        same k low ∙ find-there k e es (omega (arith, high)) ∙ find_below k es (AllAbove-lower k e.0 es (omega (arith, high)) above) in
        let before : up_to e.0 ≡ up_to b = to_object e.0 least gap in
        let here : get p.objects e.0 ≡ Some e.1 = same e.0 least ∙ find-here e.0 e es refl in
        let one : up_to (suc e.0) ≡ up_to b ++ found e =
        next_object e.0 ∙ ap (λ a. up_to e.0 ++ cond (is_reachable laid task e.0) (cells_led laid scalar e.0 (offsets_or_none a).offsets (object_at laid e.0).cells) []) here
        ∙ ap (λ xs. xs ++ found e) before in
        walk (suc e.0) es (is_sorted-rest e es sorted) (from_above e.0 es above) (λ k low. same k (omega (arith, low, least)) ∙ find-there k e es (omega (arith, low)))
        ∙ ap (λ xs. xs ++ found_all es) one ∙ append_assoc (up_to b) (found e) (found_all es)
      where
        to_object : (n : ℕ) → b ≤ n → ((k : ℕ) → b ≤ k → k < n → get p.objects k ≡ None) → up_to n ≡ up_to b
        to_object n low none =
            let whole : n ≡ b + (n - b) = omega (arith, low) in
            ap up_to whole ∙ skip_objects b (n - b) (λ k least' less. none k least' (omega (arith, less, low)))

    behind : (b : ℕ) (es : List (ℕ × OffsetSet)) → T (is_sorted nat_cmp es) → AllFrom b es → ((k : ℕ) → b ≤ k → get p.objects k ≡ find nat_cmp k es)
        → (b ≤ bound b es) × ((k : ℕ) → bound b es ≤ k → get p.objects k ≡ None)
    behind b [] sorted least same = (omega arith, λ k low. same k low)
    behind b (e ∷ es) sorted least same =
        let rest = behind (suc e.0) es (is_sorted-rest e es sorted) (from_above e.0 es (AllAbove-rest e es sorted)) (λ k low. same k (omega (arith, low, least)) ∙ find-there k e es (omega (arith, low))) in
        (omega (arith, least, rest.0), rest.1)

    from_zero : (es : List (ℕ × OffsetSet)) → AllFrom 0 es
    from_zero [] = tt
    from_zero (e ∷ es) = omega arith

    -- all entries together reach the targets
    pub all_found : found_all (entries p.objects) ≡ targets_at (spots_of laid task scalar) p
    unfolding spots_of
    all_found =
        let es = entries p.objects in
        let sorted = entries_sorted p.objects in
        let same : (k : ℕ) → 0 ≤ k → get p.objects k ≡ find nat_cmp k es = λ k low. get-entries p.objects k in
        let n = length laid.objects in
        let last = bound 0 es in
        let none = (behind 0 es sorted (from_zero es) same).1 in
        let turned : last + n ≡ n + last = omega arith in
        sym (walk 0 es sorted (from_zero es) same) ∙ sym (skip_objects last n (λ k low less. none k low))
        ∙ ap up_to turned ∙ past_objects last

    -- one entry more
    pub more_found : (items : List (ℕ × OffsetSet)) (i : ℕ) (e : ℕ × OffsetSet) (before after whole : List ℕ) → i < length items → e ≡ get_or items i e
        → before ++ found_all (drop i items) ≡ whole → after ≡ before ++ found e → after ++ found_all (drop (i + 1) items) ≡ whole
    more_found items i e before after whole less is so next =
        ap (λ xs. xs ++ found_all (drop (i + 1) items)) next ∙ append_assoc before (found e) (found_all (drop (i + 1) items))
        ∙ sym (ap (λ l. before ++ found_all l) (drop_more items i e less ∙ ap (λ x. x ∷ drop (i + 1) items) (sym is))) ∙ so

-- ---- the offsets of one object, from the first one on

module _ (laid : LaidTree) (scalar : Scalar) (object : ℕ) (offsets : Progression) where
  -- a number that is no member is none of the test
  not_number : (k : ℕ) → (Has offsets (pos k) → ⊥) → has_number offsets (pos k) ≡ false
  not_number k absent = elim (decided (has_number offsets (pos k))) [ inl holds ↦ absurd (absent (number_is offsets (pos k) holds)) | inr fails ↦ fails ]

  pub led_start : (cells first end : ℕ) → IsSpanOf offsets cells first end → cells_led laid scalar object offsets first ≡ []
  led_start cells first end span = led_to laid scalar object offsets 0 first (omega arith) (λ k low less. not_number k (span.before k less))

  pub led_end : (cells first end : ℕ) → IsSpanOf offsets cells first end → cells_led laid scalar object offsets end ≡ cells_led laid scalar object offsets cells
  led_end cells first end span = (let within = span.within in sym (led_to laid scalar object offsets end cells within (λ k low less. not_number k (span.behind k low less))))

module _ (laid : LaidTree) (scalar : Scalar) (object : ℕ) (offsets : Progression) (before here : List ℕ) (n : ℕ) (so : here ≡ before ++ cells_led laid scalar object offsets n) where
  pub led_yes : (after : List ℕ) → has_number offsets (pos n) ≡ true → after ≡ here ++ cell_of_type laid scalar object n → after ≡ before ++ cells_led laid scalar object offsets (n + 1)
  led_yes after holds next =
      let same : suc n ≡ n + 1 = omega arith in
      next ∙ ap (λ xs. xs ++ cell_of_type laid scalar object n) so ∙ append_assoc before (cells_led laid scalar object offsets n) (cell_of_type laid scalar object n)
      ∙ ap (λ b. before ++ (cells_led laid scalar object offsets n ++ cond b (cell_of_type laid scalar object n) [])) (sym holds)
      ∙ ap (λ k. before ++ cells_led laid scalar object offsets k) same

  pub led_no : has_number offsets (pos n) ≡ false → here ≡ before ++ cells_led laid scalar object offsets (n + 1)
  led_no fails =
      let same : suc n ≡ n + 1 = omega arith in
      so ∙ ap (λ xs. before ++ xs) (sym (led_skip laid scalar object offsets n fails)) ∙ ap (λ k. before ++ cells_led laid scalar object offsets k) same

-- ---- the span of a set of offsets

pub span_none : (offsets : Progression) (cells : ℕ) → offsets ≡ no_offset.offsets → IsSpanOf offsets cells 0 0
span_none offsets cells none = record {
  ordered = omega arith;
  within = omega arith;
  before = λ k less h. not_in_empty (pos k) (subst (λ s. Has s (pos k)) none h);
  behind = λ k least less h. not_in_empty (pos k) (subst (λ s. Has s (pos k)) none h);
}

pub span_some : (o : OffsetSet) (cells first last f end : ℕ) → AreEnds o first last → end ≡ min (last + 1) cells → f ≡ min first end → IsSpanOf o.offsets cells f end
span_some o cells first last f end ends end-is f-is = record {
  ordered = omega (arith, f-is);
  within = omega (arith, end-is);
  before = λ k less h. (let low = subst (λ x. x ≤ℤ pos k) ends.first_is (spaced_from o.offsets (pos k) h).from in omega (arith, ints, less, low, f-is));
  behind = λ k least less h. (let high = subst (λ x. pos k ≤ℤ x) ends.last_is (spaced_from o.offsets (pos k) h).to in omega (arith, ints, least, less, high, end-is));
}

-- the code's test for an offset
pub offset_test : (offsets set : Progression) (b : Bool) (v : ℤ) (k : ℕ) → set ≡ offsets → v ≡ pos k → IsTrue b ↔ Has set v → b ≡ has_number offsets (pos k)
offset_test offsets set b v k same at h = same_test b (has_number offsets (pos k))
    (λ holds. is_number offsets (pos k) (subst (Has offsets) at (subst (λ s. Has s v) same (h.0 holds))))
    (λ holds. h.1 (subst (λ s. Has s v) (sym same) (subst (Has offsets) (sym at) (number_is offsets (pos k) holds))))
  where
    same_test : (a c : Bool) → (a ≡ true → c ≡ true) → (c ≡ true → a ≡ true) → a ≡ c
    same_test true true f g = refl
    same_test false false f g = refl
    same_test true false f g = sym (f refl)
    same_test false true f g = g refl

-- ---- tests of all numbers of a list

module _ (f : ℕ → Bool) (xs : List ℕ) (i x : ℕ) (less : i < length xs) (is : x ≡ get_or xs i x) where
  rest_is : drop i xs ≡ x ∷ drop (i + 1) xs
  rest_is = drop_more xs i x less ∙ ap (λ y. y ∷ drop (i + 1) xs) (sym is)

  pub all_next : f x ≡ true → list_all f (drop i xs) ≡ list_all f xs → list_all f (drop (i + 1) xs) ≡ list_all f xs
  all_next holds so = sym (ap (λ b. b && list_all f (drop (i + 1) xs)) holds) ∙ sym (ap (list_all f) rest_is) ∙ so

  pub all_stop : f x ≡ false → list_all f (drop i xs) ≡ list_all f xs → false ≡ list_all f xs
  all_stop fails so = sym (ap (λ b. b && list_all f (drop (i + 1) xs)) fails) ∙ sym (ap (list_all f) rest_is) ∙ so

  pub any_next : f x ≡ false → list_any f (drop i xs) ≡ list_any f xs → list_any f (drop (i + 1) xs) ≡ list_any f xs
  any_next fails so = sym (ap (λ b. b || list_any f (drop (i + 1) xs)) fails) ∙ sym (ap (list_any f) rest_is) ∙ so

  pub any_stop : f x ≡ true → list_any f (drop i xs) ≡ list_any f xs → true ≡ list_any f xs
  any_stop holds so = sym (ap (λ b. b || list_any f (drop (i + 1) xs)) holds) ∙ sym (ap (list_any f) rest_is) ∙ so
