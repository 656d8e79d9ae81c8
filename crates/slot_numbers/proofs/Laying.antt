-- The slots of one more node.
use Rattle.std.proofs.Common.{◌≡◌, ℕ, ◌+◌, ◌-◌, ◌<◌, true, List, [], ◌∷◌, ◌++◌, map, length, get_or, refl, sym, ap, ◌∙◌, subst, arith, inl, inr}
use Rattle.std.specs.List.Sorted.{IsStrictlyIncreasing}
use Rattle.std.proofs.lemmas.Bool.{cases_lt}
use Rattle.std.proofs.lemmas.List.{get_or_append_left, get_or_push, get_or-append-add, get_or-map, length-append, length-map}
use Rattle.cell_placings.specs.declared.cell_graphs.CellGraph.{CellGraph}
use Rattle.cell_placings.specs.CellLists.{is_in, cells_at}
use Rattle.cell_placings.specs.OwnerTrees.{OwnerTree}
use Rattle.cell_placings.proofs.Members.{in_at}
use Rattle.slot_numbers.specs.declared.names.OwnedCell.{OwnedCell}
use Rattle.slot_numbers.specs.Numberings.{at_node, no_slot, slot_place, place_in}
use Rattle.slot_numbers.specs.Numbered.{AreLaid, is_own}
use Rattle.slot_numbers.specs.reading.Building.{AreSlotsOf}
use Rattle.slot_numbers.proofs.Lists.{place_lt, place_at, place_of_at}

module _ (owned : List (List ℕ)) (starts : List ℕ) (slots : List OwnedCell) (own : List ℕ)
    (rising : IsStrictlyIncreasing own) (laid : AreLaid owned starts slots) where
  abbrev owned' : List (List ℕ)
  owned' = owned ++ own ∷ []

  abbrev starts' : List ℕ
  starts' = starts ++ length slots ∷ []

  abbrev slots' : List OwnedCell
  slots' = slots ++ map (at_node (length owned)) own

  more_nodes : length owned' ≡ length owned + 1
  more_nodes = length-append owned (own ∷ [])

  more_starts : length starts' ≡ length starts + 1
  more_starts = length-append starts (length slots ∷ [])

  more_slots : length slots' ≡ length slots + length own
  more_slots =
      length-append slots (map (at_node (length owned)) own)
      ∙ ap (λ z. length slots + z) (length-map own (at_node (length owned)))

  earlier_cells : (m : ℕ) → m < length owned → cells_at owned' m ≡ cells_at owned m
  earlier_cells m lt = get_or_append_left owned (own ∷ []) [] m lt

  last_cells : cells_at owned' (length owned) ≡ own
  last_cells = get_or_push owned own [] (length owned) refl

  earlier_place : (m x : ℕ) → m < length owned → slot_place owned' starts' m x ≡ slot_place owned starts m x
  earlier_place m x lt =
      let l : m < length starts = subst (λ z. m < z) (sym laid.starts_each) lt in
      ap (λ z. z + place_in (cells_at owned' m) x) (get_or_append_left starts (length slots ∷ []) 0 m l)
      ∙ ap (λ ys. get_or starts m 0 + place_in ys x) (earlier_cells m lt)

  last_place : (x : ℕ) → slot_place owned' starts' (length owned) x ≡ length slots + place_in own x
  last_place x =
      ap (λ z. z + place_in (cells_at owned' (length owned)) x)
      (get_or_push starts (length slots) 0 (length owned) laid.starts_each)
      ∙ ap (λ ys. length slots + place_in ys x) last_cells

  earlier_slot : (i : ℕ) → i < length slots → get_or slots' i no_slot ≡ get_or slots i no_slot
  earlier_slot i lt = get_or_append_left slots (map (at_node (length owned)) own) no_slot i lt

  last_slot : (j : ℕ) → j < length own → get_or slots' (length slots + j) no_slot ≡ at_node (length owned) (get_or own j 0)
  last_slot j lt =
      get_or-append-add slots (map (at_node (length owned)) own) j no_slot
      ∙ get_or-map (at_node (length owned)) own j 0 no_slot lt

  abbrev IsPlaced : ℕ → Type 0
  IsPlaced m = (x : ℕ) → is_in (cells_at owned' m) x ≡ true
      → (slot_place owned' starts' m x < length slots')
      × (get_or slots' (slot_place owned' starts' m x) no_slot ≡ at_node m x)

  earlier_placed : (m : ℕ) → m < length owned → IsPlaced m
  earlier_placed m lt = λ x e.
      let at = laid.placed m x lt (subst (λ ys. is_in ys x ≡ true) (earlier_cells m lt) e) in
      let l = at.0 in
      subst (λ i. (i < length slots') × (get_or slots' i no_slot ≡ at_node m x)) (sym (earlier_place m x lt))
      (omega (arith, l, more_slots), earlier_slot (slot_place owned starts m x) at.0 ∙ at.1)

  last_placed : IsPlaced (length owned)
  last_placed = λ x e.
      let has = subst (λ ys. is_in ys x ≡ true) last_cells e in
      let l = place_lt own x has in
      subst (λ i. (i < length slots') × (get_or slots' i no_slot ≡ at_node (length owned) x)) (sym (last_place x))
      (omega (arith, l, more_slots), last_slot (place_in own x) l ∙ ap (at_node (length owned)) (place_at own x has))

  placed : (m x : ℕ) → m < length owned' → is_in (cells_at owned' m) x ≡ true
      → (slot_place owned' starts' m x < length slots')
      × (get_or slots' (slot_place owned' starts' m x) no_slot ≡ at_node m x)
  placed m x lt e =
      elim (cases_lt m (length owned)) [
        | inl l ↦ earlier_placed m l x e
        | inr ge ↦ (let same : length owned ≡ m = omega (arith, ge, lt, more_nodes) in
            subst IsPlaced same last_placed x e)
      ]

  record IsSlotAt (s : OwnedCell) (i : ℕ) : Type 0 where
    node : s.node < length owned'
    cell : is_in (cells_at owned' s.node) s.cell ≡ true
    place : slot_place owned' starts' s.node s.cell ≡ i

  earlier_at : (i : ℕ) → i < length slots → IsSlotAt (get_or slots' i no_slot) i
  earlier_at i lt =
      let s = get_or slots i no_slot in
      let within = laid.node i lt in
      subst (λ z. IsSlotAt z i) (sym (earlier_slot i lt))
      record {
        node = omega (arith, within, more_nodes);
        cell = subst (λ ys. is_in ys s.cell ≡ true) (sym (earlier_cells s.node within)) (laid.cell i lt);
        place = earlier_place s.node s.cell within ∙ laid.place i lt;
      }

  last_at : (j : ℕ) → j < length own → IsSlotAt (get_or slots' (length slots + j) no_slot) (length slots + j)
  last_at j lt =
      let y = get_or own j 0 in
      subst (λ z. IsSlotAt z (length slots + j)) (sym (last_slot j lt))
      record {
        node = omega (arith, more_nodes);
        cell = subst (λ ys. is_in ys y ≡ true) (sym last_cells) (in_at own j lt);
        place = last_place y ∙ ap (λ z. length slots + z) (place_of_at own rising j lt);
      }

  at_each : (i : ℕ) → i < length slots' → IsSlotAt (get_or slots' i no_slot) i
  at_each i lt =
      elim (cases_lt i (length slots)) [
        | inl l ↦ earlier_at i l
        | inr ge ↦ (let j = i - length slots in
            let same : length slots + j ≡ i = omega (arith, ge) in
            let below : j < length own = omega (arith, ge, lt, more_slots) in
            subst (λ z. IsSlotAt (get_or slots' z no_slot) z) same (last_at j below))
      ]

  laid_more : AreLaid owned' starts' slots'
  laid_more = record {
    starts_each = omega (arith, more_starts, more_nodes, laid.starts_each);
    placed = placed;
    node = λ i lt. (at_each i lt).node;
    cell = λ i lt. (at_each i lt).cell;
    place = λ i lt. (at_each i lt).place;
  }

module _ (graph : CellGraph) (tree : OwnerTree) (cells : List ℕ) where
  pub slots_begun : (owned : List (List ℕ)) (starts : List ℕ) (slots : List OwnedCell) → owned ≡ [] → starts ≡ []
      → slots ≡ [] → AreSlotsOf graph tree cells 0 owned starts slots
  slots_begun owned starts slots is_owned is_starts is_slots =
      subst (λ os. AreSlotsOf graph tree cells 0 os starts slots) (sym is_owned)
      (subst (λ ss. AreSlotsOf graph tree cells 0 [] ss slots) (sym is_starts)
      (subst (λ ss. AreSlotsOf graph tree cells 0 [] [] ss) (sym is_slots)
      record {
        each = refl;
        own = λ n x lt. absurd (omega (arith, lt));
        laid = record {
          starts_each = refl;
          placed = λ n x lt. absurd (omega (arith, lt));
          node = λ i lt. absurd (omega (arith, lt));
          cell = λ i lt. absurd (omega (arith, lt));
          place = λ i lt. absurd (omega (arith, lt));
        };
      }))

  -- one more node, as the code adds it
  pub slots_more : (m : ℕ) (owned owned' : List (List ℕ)) (starts starts' : List ℕ) (slots slots' : List OwnedCell)
      (own : List ℕ) → IsStrictlyIncreasing own → ((x : ℕ) → is_in own x ≡ is_own graph tree cells m x)
      → AreSlotsOf graph tree cells m owned starts slots → owned' ≡ owned ++ own ∷ []
      → (count : ℕ) → count ≡ length slots → starts' ≡ starts ++ count ∷ [] → slots' ≡ slots ++ map (at_node m) own
      → AreSlotsOf graph tree cells (m + 1) owned' starts' slots'
  slots_more m owned owned' starts starts' slots slots' own rising has before is_owned count counted pushed is_slots =
      let is_starts : starts' ≡ starts ++ length slots ∷ [] = pushed ∙ ap (λ z. starts ++ z ∷ []) counted in
      let same : slots' ≡ slots ++ map (at_node (length owned)) own
      = is_slots ∙ ap (λ z. slots ++ map (at_node z) own) (sym before.each) in
      let more = length-append owned (own ∷ []) in
      let all : length owned' ≡ m + 1 = ap length is_owned ∙ more ∙ ap (λ z. z + 1) before.each in
      record {
        each = all;
        own = λ n x lt.
            subst (λ os. is_in (cells_at os n) x ≡ is_own graph tree cells n x) (sym is_owned)
            (elim (cases_lt n m) [
              | inl l ↦ (let b : n < length owned = subst (λ z. n < z) (sym before.each) l in
                  ap (λ ys. is_in ys x) (get_or_append_left owned (own ∷ []) [] n b) ∙ before.own n x l)
              | inr ge ↦ (let at : m ≡ n = omega (arith, ge, lt) in
                  subst (λ z. is_in (cells_at (owned ++ own ∷ []) z) x ≡ is_own graph tree cells z x) at
                  (ap (λ ys. is_in ys x) (get_or_push owned own [] m before.each) ∙ has x))
            ]);
        laid =
            subst (λ os. AreLaid os starts' slots') (sym is_owned)
            (subst (λ ss. AreLaid (owned ++ own ∷ []) ss slots') (sym is_starts)
            (subst (λ ss. AreLaid (owned ++ own ∷ []) (starts ++ length slots ∷ []) ss) (sym same)
            (laid_more owned starts slots own rising before.laid)));
      }
