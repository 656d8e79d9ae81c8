-- States of values of one kind have one list of lines.
use Rattle.std.proofs.Common.{◌≡◌, refl, sym, ap, subst, ◌∙◌, ℕ, zero, suc, Bool, true, false, cond}
use Rattle.std.proofs.Common.{List, [], ◌∷◌, ◌++◌, Option, Some, None, inl, inr, pos, lit<, append_assoc}
use Rattle.std.specs.Prelude.{negsuc}
use Rattle.std.specs.Prelude.{codes, eqb, ◌&&◌}
use Rattle.std.proofs.lemmas.Bool.{cases_eq}
use Rattle.std.specs.List.{flat_map}
use Rattle.std.specs.FinMap.{entries, entries_sorted, same_entries_map}
use Rattle.transfer_rows.specs.StateForms.{Temp, Cell, State}
use Rattle.certificate_words.specs.Words.{Word, tag, number, Line}
use Rattle.certificate_texts.specs.ValueWords.{value_words}
use Rattle.certificate_texts.specs.StateLines.{paired, temp_lines, cell_lines, pending_lines, pending_line_of}
use Rattle.certificate_texts.specs.StateLines.{marked_lines, fresh_lines, stored_lines, copy_line_of, copy_lines, state_lines}
use Rattle.certificate_texts.proofs.Blocks.{AllHave, IsBehind, behind_block, cut, flat_have, AllEntries}
use Rattle.certificate_texts.proofs.Blocks.{alike_both, alike_equal, lines_alike, entries_alike}
use Rattle.certificate_texts.proofs.Telling.{pending_none, pending_some}
use Rattle.certificate_texts.proofs.OneValue.{natural, split, IsOneKind, one_value}

-- ## The tags, by their order

abbrev same_letters : List ℕ → List ℕ → Bool
same_letters [] [] = true
same_letters [] (y ∷ ys) = false
same_letters (x ∷ xs) [] = false
same_letters (x ∷ xs) (y ∷ ys) = eqb x y && same_letters xs ys

abbrev rank_among : ℕ → List (List ℕ) → List ℕ → ℕ
rank_among n [] letters = n
rank_among n (t ∷ ts) letters = cond (same_letters t letters) n (rank_among (suc n) ts letters)

abbrev tags : List (List ℕ)
tags = codes "t" ∷ codes "c" ∷ codes "p" ∷ codes "f" ∷ codes "s" ∷ codes "k" ∷ codes "node" ∷ codes "task"
    ∷ codes "store" ∷ codes "w" ∷ codes "y" ∷ codes "end" ∷ []

abbrev rank_of : Word → ℕ
rank_of (tag letters) = rank_among 0 tags letters
rank_of (number z) = 0

-- by its tag, where a line stands among the lines of other kinds
abbrev pub rank : Line → ℕ
rank l = rank_of l.first

-- ## The numbers behind the tag

abbrev number_in : Word → ℕ
number_in (tag letters) = 0
number_in (number (pos n)) = n
number_in (number (negsuc n)) = 0

abbrev nth_number : ℕ → List Word → ℕ
nth_number n [] = 0
nth_number zero (w ∷ ws) = number_in w
nth_number (suc n) (w ∷ ws) = nth_number n ws

abbrev pub first_number : Line → ℕ
first_number l = nth_number 0 l.rest

abbrev pub second_number : Line → ℕ
second_number l = nth_number 1 l.rest

abbrev pub third_number : Line → ℕ
third_number l = nth_number 2 l.rest

-- the rest of two lines
pub rest_of : (l m : Line) → l ∷ [] ≡ m ∷ [] → l.rest ≡ m.rest
rest_of l m e = let f : l ≡ m = cc in ap (λ (x : Line). x.rest) f

-- ## Each kind of lines

temp_ranked : (e : ℕ × Temp) → AllHave rank 0 (temp_lines e)
temp_ranked e = (refl, tt)

temp_keyed : (e : ℕ × Temp) → AllHave first_number e.0 (temp_lines e)
temp_keyed e = (refl, tt)

cell_ranked : (e : ℕ × Cell) → AllHave rank 1 (cell_lines e)
cell_ranked e = (refl, tt)

cell_keyed : (e : ℕ × Cell) → AllHave first_number e.0 (cell_lines e)
cell_keyed e = (refl, tt)

pending_have : (r : Line → ℕ) (n x p : ℕ) → AllHave r n (paired (codes "p") x p ∷ []) → AllHave r n (pending_line_of x p)
pending_have r n x p h = elim (cases_eq p 0) [
  | inl none ↦ subst (AllHave r n) (sym (pending_none x p none)) tt
  | inr some ↦ subst (AllHave r n) (sym (pending_some x p some)) h
]

pending_ranked : (e : ℕ × Cell) → AllHave rank 2 (pending_lines e)
pending_ranked e = pending_have rank 2 e.0 e.1.pending (refl, tt)

pending_keyed : (e : ℕ × Cell) → AllHave first_number e.0 (pending_lines e)
pending_keyed e = pending_have first_number e.0 e.0 e.1.pending (refl, tt)

marked_have : (r : Line → ℕ) (n : ℕ) (letters : List ℕ) (mark : Bool) (x : ℕ)
    → AllHave r n (marked_lines letters true x) → AllHave r n (marked_lines letters mark x)
marked_have r n letters true x h = h
marked_have r n letters false x h = tt

fresh_ranked : (e : ℕ × Cell) → AllHave rank 3 (fresh_lines e)
fresh_ranked e = marked_have rank 3 (codes "f") e.1.fresh e.0 (refl, tt)

fresh_keyed : (e : ℕ × Cell) → AllHave first_number e.0 (fresh_lines e)
fresh_keyed e = marked_have first_number e.0 (codes "f") e.1.fresh e.0 (refl, tt)

stored_ranked : (e : ℕ × Cell) → AllHave rank 4 (stored_lines e)
stored_ranked e = marked_have rank 4 (codes "s") e.1.stored e.0 (refl, tt)

stored_keyed : (e : ℕ × Cell) → AllHave first_number e.0 (stored_lines e)
stored_keyed e = marked_have first_number e.0 (codes "s") e.1.stored e.0 (refl, tt)

copy_have : (r : Line → ℕ) (n t : ℕ) (copy : Option ℕ) → ((x : ℕ) → AllHave r n (copy_line_of t (Some x)))
    → AllHave r n (copy_line_of t copy)
copy_have r n t None h = tt
copy_have r n t (Some x) h = h x

copy_ranked : (e : ℕ × Temp) → AllHave rank 5 (copy_lines e)
copy_ranked e = copy_have rank 5 e.0 e.1.copy (λ x. (refl, tt))

copy_keyed : (e : ℕ × Temp) → AllHave first_number e.0 (copy_lines e)
copy_keyed e = copy_have first_number e.0 e.0 e.1.copy (λ x. (refl, tt))

-- ## What lines tell

temp_told : (sizes : ℕ → ℕ) (k : ℕ) (v w : Temp) → IsOneKind sizes v.value → IsOneKind sizes w.value
    → temp_lines (k, v) ≡ temp_lines (k, w) → v.value ≡ w.value
temp_told sizes k v w v-is w-is e =
    let t = split (number (pos k)) (number (pos k)) (value_words v.value) (value_words w.value) (rest_of _ _ e) in
    one_value sizes v.value w.value v-is w-is t.1

cell_told : (sizes : ℕ → ℕ) (k : ℕ) (v w : Cell) → IsOneKind sizes v.value → IsOneKind sizes w.value
    → cell_lines (k, v) ≡ cell_lines (k, w) → v.value ≡ w.value
cell_told sizes k v w v-is w-is e =
    let t = split (number (pos k)) (number (pos k)) (value_words v.value) (value_words w.value) (rest_of _ _ e) in
    one_value sizes v.value w.value v-is w-is t.1

no_line : (l : Line) → [] ≡ l ∷ [] → ⊥
no_line l e = cc

pending_told : (k p q : ℕ) → pending_line_of k p ≡ pending_line_of k q → p ≡ q
pending_told k p q e = elim (cases_eq p 0) [
  | inl none ↦ elim (cases_eq q 0) [
    | inl none' ↦ none ∙ sym none'
    | inr some' ↦ absurd (no_line (paired (codes "p") k q) (sym (pending_none k p none) ∙ e ∙ pending_some k q some'))
  ]
  | inr some ↦ elim (cases_eq q 0) [
    | inl none' ↦ absurd (no_line (paired (codes "p") k p) (sym (pending_none k q none') ∙ sym e ∙ pending_some k p some))
    | inr some' ↦
        let same = sym (pending_some k p some) ∙ e ∙ pending_some k q some' in
        let t = split (number (pos k)) (number (pos k)) _ _ (rest_of (paired (codes "p") k p) (paired (codes "p") k q) same) in
        let u = split (number (pos p)) (number (pos q)) [] [] t.1 in
        natural p q u.0
  ]
]

marked_told : (letters : List ℕ) (k : ℕ) (a b : Bool) → marked_lines letters a k ≡ marked_lines letters b k → a ≡ b
marked_told letters k true true e = refl
marked_told letters k true false e = absurd (cc)
marked_told letters k false true e = absurd (cc)
marked_told letters k false false e = refl

copy_told : (k : ℕ) (a b : Option ℕ) → copy_line_of k a ≡ copy_line_of k b → a ≡ b
copy_told k None None e = refl
copy_told k None (Some y) e = absurd (cc)
copy_told k (Some x) None e = absurd (cc)
copy_told k (Some x) (Some y) e =
    let t = split (number (pos k)) (number (pos k)) _ _ (rest_of _ _ e) in
    let u = split (number (pos x)) (number (pos y)) [] [] t.1 in
    ap Some (natural x y u.0)

-- ## States

-- values of a state of one kind each
pub record IsPlainState (sizes : ℕ → ℕ) (s : State) : Type 0 where
  pub temps : AllEntries (λ (e : ℕ × Temp). IsOneKind sizes e.1.value) (entries s.temps)
  pub cells : AllEntries (λ (e : ℕ × Cell). IsOneKind sizes e.1.value) (entries s.cells)

-- kinds of which each entry has a line
all_lines : {V : Type 0} (f : ℕ × V → List Line) → ((e : ℕ × V) → f e ≡ [] → ⊥) → (es : List (ℕ × V))
    → AllEntries (λ e. f e ≡ [] → ⊥) es
all_lines f some [] = tt
all_lines f some (e ∷ es) = (some e, all_lines f some es)

module _ (s : State) (rest : List Line) where
  abbrev from_copies : List Line
  from_copies = flat_map copy_lines (entries s.temps) ++ rest

  abbrev from_stored : List Line
  from_stored = flat_map stored_lines (entries s.cells) ++ from_copies

  abbrev from_fresh : List Line
  from_fresh = flat_map fresh_lines (entries s.cells) ++ from_stored

  abbrev from_pending : List Line
  from_pending = flat_map pending_lines (entries s.cells) ++ from_fresh

  abbrev from_cells : List Line
  from_cells = flat_map cell_lines (entries s.cells) ++ from_pending

  pub grouped : state_lines s ++ rest ≡ flat_map temp_lines (entries s.temps) ++ from_cells
  grouped = simp append_assoc

  module _ (behind : IsBehind rank 5 rest) where
    behind_copies : IsBehind rank 4 from_copies
    behind_copies = behind_block rank 4 5 _ rest (lit< tt) (flat_have rank copy_lines 5 copy_ranked (entries s.temps)) behind

    behind_stored : IsBehind rank 3 from_stored
    behind_stored = behind_block rank 3 4 _ from_copies (lit< tt)
        (flat_have rank stored_lines 4 stored_ranked (entries s.cells)) behind_copies

    behind_fresh : IsBehind rank 2 from_fresh
    behind_fresh = behind_block rank 2 3 _ from_stored (lit< tt)
        (flat_have rank fresh_lines 3 fresh_ranked (entries s.cells)) behind_stored

    behind_pending : IsBehind rank 1 from_pending
    behind_pending = behind_block rank 1 2 _ from_fresh (lit< tt)
        (flat_have rank pending_lines 2 pending_ranked (entries s.cells)) behind_fresh

    behind_cells : IsBehind rank 0 from_cells
    behind_cells = behind_block rank 0 1 _ from_pending (lit< tt)
        (flat_have rank cell_lines 1 cell_ranked (entries s.cells)) behind_pending

-- the lines of two states and what is behind them
module _ (sizes : ℕ → ℕ) (s t : State) (rest more : List Line) (s-is : IsPlainState sizes s) (t-is : IsPlainState sizes t)
    (behind : IsBehind rank 5 rest) (after : IsBehind rank 5 more)
    (same : state_lines s ++ rest ≡ state_lines t ++ more) where
  temps : (flat_map temp_lines (entries s.temps) ≡ flat_map temp_lines (entries t.temps))
      × (from_cells s rest ≡ from_cells t more)
  temps = cut rank 0 _ _ (from_cells s rest) (from_cells t more) (flat_have rank temp_lines 0 temp_ranked (entries s.temps))
      (flat_have rank temp_lines 0 temp_ranked (entries t.temps)) (behind_cells s rest behind) (behind_cells t more after)
      (sym (grouped s rest) ∙ same ∙ grouped t more)

  cells : (flat_map cell_lines (entries s.cells) ≡ flat_map cell_lines (entries t.cells))
      × (from_pending s rest ≡ from_pending t more)
  cells = cut rank 1 _ _ (from_pending s rest) (from_pending t more)
      (flat_have rank cell_lines 1 cell_ranked (entries s.cells)) (flat_have rank cell_lines 1 cell_ranked (entries t.cells))
      (behind_pending s rest behind) (behind_pending t more after) temps.1

  pending : (flat_map pending_lines (entries s.cells) ≡ flat_map pending_lines (entries t.cells))
      × (from_fresh s rest ≡ from_fresh t more)
  pending = cut rank 2 _ _ (from_fresh s rest) (from_fresh t more)
      (flat_have rank pending_lines 2 pending_ranked (entries s.cells))
      (flat_have rank pending_lines 2 pending_ranked (entries t.cells)) (behind_fresh s rest behind)
      (behind_fresh t more after) cells.1

  fresh : (flat_map fresh_lines (entries s.cells) ≡ flat_map fresh_lines (entries t.cells))
      × (from_stored s rest ≡ from_stored t more)
  fresh = cut rank 3 _ _ (from_stored s rest) (from_stored t more)
      (flat_have rank fresh_lines 3 fresh_ranked (entries s.cells))
      (flat_have rank fresh_lines 3 fresh_ranked (entries t.cells)) (behind_stored s rest behind)
      (behind_stored t more after) pending.1

  stored : (flat_map stored_lines (entries s.cells) ≡ flat_map stored_lines (entries t.cells))
      × (from_copies s rest ≡ from_copies t more)
  stored = cut rank 4 _ _ (from_copies s rest) (from_copies t more)
      (flat_have rank stored_lines 4 stored_ranked (entries s.cells))
      (flat_have rank stored_lines 4 stored_ranked (entries t.cells)) (behind_copies s rest behind)
      (behind_copies t more after) fresh.1

  copies : (flat_map copy_lines (entries s.temps) ≡ flat_map copy_lines (entries t.temps)) × (rest ≡ more)
  copies = cut rank 5 _ _ rest more (flat_have rank copy_lines 5 copy_ranked (entries s.temps))
      (flat_have rank copy_lines 5 copy_ranked (entries t.temps)) behind after stored.1

  same_temps : entries s.temps ≡ entries t.temps
  same_temps =
      let es = entries s.temps in
      let fs = entries t.temps in
      let values = entries_alike first_number temp_lines temp_keyed es fs (entries_sorted s.temps) (entries_sorted t.temps)
      (all_lines temp_lines (λ e none. (cc)) es) (all_lines temp_lines (λ e none. (cc)) fs) temps.0 in
      let marks = lines_alike first_number copy_lines copy_keyed _ es fs (entries_sorted s.temps) (entries_sorted t.temps)
      values copies.0 in
      alike_equal (λ (e : ℕ × Temp). IsOneKind sizes e.1.value) _ told es fs s-is.temps t-is.temps
      (alike_both _ _ es fs values marks)
    where
      told : (k : ℕ) (v w : Temp) → IsOneKind sizes v.value → IsOneKind sizes w.value
          → (temp_lines (k, v) ≡ temp_lines (k, w)) × (copy_lines (k, v) ≡ copy_lines (k, w)) → v ≡ w
      told k v w v-is w-is e =
          let value = temp_told sizes k v w v-is w-is e.0 in
          let copy = copy_told k v.copy w.copy e.1 in
          (λ i. record { value = value i; copy = copy i })

  same_cells : entries s.cells ≡ entries t.cells
  same_cells =
      let es = entries s.cells in
      let fs = entries t.cells in
      let s-sorted = entries_sorted s.cells in
      let t-sorted = entries_sorted t.cells in
      let values = entries_alike first_number cell_lines cell_keyed es fs s-sorted t-sorted
      (all_lines cell_lines (λ e none. (cc)) es) (all_lines cell_lines (λ e none. (cc)) fs) cells.0 in
      let pendings = lines_alike first_number pending_lines pending_keyed _ es fs s-sorted t-sorted values pending.0 in
      let freshs = lines_alike first_number fresh_lines fresh_keyed _ es fs s-sorted t-sorted values fresh.0 in
      let storeds = lines_alike first_number stored_lines stored_keyed _ es fs s-sorted t-sorted values stored.0 in
      alike_equal (λ (e : ℕ × Cell). IsOneKind sizes e.1.value) _ told es fs s-is.cells t-is.cells
      (alike_both _ _ es fs values (alike_both _ _ es fs pendings (alike_both _ _ es fs freshs storeds)))
    where
      told : (k : ℕ) (v w : Cell) → IsOneKind sizes v.value → IsOneKind sizes w.value
          → (cell_lines (k, v) ≡ cell_lines (k, w)) × ((pending_lines (k, v) ≡ pending_lines (k, w))
          × ((fresh_lines (k, v) ≡ fresh_lines (k, w)) × (stored_lines (k, v) ≡ stored_lines (k, w)))) → v ≡ w
      told k v w v-is w-is e =
          let value = cell_told sizes k v w v-is w-is e.0 in
          let pending = pending_told k v.pending w.pending e.1.0 in
          let fresh = marked_told (codes "f") k v.fresh w.fresh e.1.1.0 in
          let stored = marked_told (codes "s") k v.stored w.stored e.1.1.1 in
          (λ i. record { value = value i; pending = pending i; fresh = fresh i; stored = stored i })

  pub one_state : (s ≡ t) × (rest ≡ more)
  one_state =
      let temps = same_entries_map s.temps t.temps same_temps in
      let cells = same_entries_map s.cells t.cells same_cells in
      ((λ i. record { temps = temps i; cells = cells i }), copies.1)
