-- The lists of a state that fits, by its entries, and what stands in its lines.
use Rattle.std.proofs.Common.{◌≡◌, refl, sym, ap, subst, ◌∙◌, ℕ, ◌<◌, ◌^◌, Bool, true, false, cond, List, [], ◌∷◌}
use Rattle.std.proofs.Common.{◌++◌, map, get_or, Option, Some, None, inl, inr}
use Rattle.std.specs.Prelude.{codes, eqb, not}
use Rattle.std.specs.List.{filter, flat_map}
use Rattle.std.specs.FinMap.{entries}
use Rattle.std.proofs.lemmas.Bool.{cases_eq, eq-eqb, ne_eqb}
use Rattle.tm_laid.specs.Layouts.{LaidTree}
use Rattle.cell_env.specs.Cells.{IsWithin}
use Rattle.pointer_dom.specs.Values.{Values}
use Rattle.interfere_set.specs.laws.Joins.{IsOf}
use Rattle.transfer_rows.specs.StateForms.{Temp, Cell, State}
use Rattle.edge_actions.specs.Layouts.{is_shared_cell}
use Rattle.certificate_words.specs.Words.{Line, AreLines}
use Rattle.certificate_parts.specs.declared.rows.Allowed.TheVariants.{Within}
use Rattle.certificate_parts.specs.Runs.{AllFit}
use Rattle.certificate_parts.specs.Rows.{mark_row, AnyMark, mark_after}
use Rattle.certificate_parts.specs.Numbers.{FitsNumber, number_row, number_after}
use Rattle.certificate_texts.specs.StateLines.{pending_line_of, copy_line_of}
use Rattle.certificate_texts.proofs.Telling.{pending_some}
use Rattle.certificate_reading.specs.Rows.{value_line, value_row, FitsRow, AnyText}
use Rattle.certificate_reading.specs.reading.Parts.{Parts, FitsMarked, temps_of, or_none, cells_of}
use Rattle.certificate_reading.proofs.StateKeys.{keys}

-- ## The lists

-- none where no mutex is pending
abbrev pub some_pending : ℕ → Option ℕ
some_pending p = cond (eqb p 0) None (Some p)

-- the entries of shared cells, and those of the others
abbrev pub shared_in : {V : Type 0} → (ℕ → Bool) → List (ℕ × V) → List (ℕ × V)
shared_in shared es = filter (λ e. shared e.0) es

abbrev pub local_in : {V : Type 0} → (ℕ → Bool) → List (ℕ × V) → List (ℕ × V)
local_in shared es = filter (λ e. not (shared e.0)) es

abbrev pub state_parts : LaidTree → State → Parts
state_parts laid t = let shared = is_shared_cell laid in record {
  temps = map (λ (e : ℕ × Temp). e.1.value) (entries t.temps);
  cells = map (λ (e : ℕ × Cell). e.1.value) (entries t.cells);
  pending = map (λ (e : ℕ × Cell). some_pending e.1.pending) (shared_in shared (entries t.cells));
  fresh = map (λ (e : ℕ × Cell). e.1.fresh) (entries t.cells);
  stored = map (λ (e : ℕ × Cell). e.1.stored) (local_in shared (entries t.cells));
  copies = map (λ (e : ℕ × Temp). e.1.copy) (entries t.temps);
}

-- ## Their entries

pub same_temps : (es : List (ℕ × Temp))
    → temps_of (keys es) (map (λ (e : ℕ × Temp). e.1.value) es) (map (λ (e : ℕ × Temp). e.1.copy) es) ≡ es
same_temps [] = refl
same_temps (e ∷ es) = ap (λ rest. e ∷ rest) (same_temps es)

no_set : (p : ℕ) → p ≡ 0 → some_pending p ≡ None
no_set p none = ap (λ b. cond b None (Some p)) (eq-eqb p 0 none)

some_set : (p : ℕ) → (p ≡ 0 → ⊥) → some_pending p ≡ Some p
some_set p some = ap (λ b. cond b None (Some p)) (ne_eqb p 0 some)

-- of the set of a number
same_set : (p : ℕ) → or_none (some_pending p) ≡ p
same_set p = elim (cases_eq p 0) [
  | inl none ↦ ap or_none (no_set p none) ∙ sym none
  | inr some ↦ ap or_none (some_set p some)
]

-- nothing is pending in a local cell, and of a shared one it is not said that it is stored
pub record IsSharedOrLocal (is_shared : Bool) (c : Cell) : Type 0 where
  pub local : is_shared ≡ false → c.pending ≡ 0
  pub shared : is_shared ≡ true → c.stored ≡ false

module _ (shared : ℕ → Bool) where
  abbrev pub cells_back : List (ℕ × Cell) → List (ℕ × Cell)
  cells_back es = cells_of shared (keys es) (map (λ (e : ℕ × Cell). e.1.value) es)
      (map (λ (e : ℕ × Cell). some_pending e.1.pending) (shared_in shared es)) (map (λ (e : ℕ × Cell). e.1.fresh) es)
      (map (λ (e : ℕ × Cell). e.1.stored) (local_in shared es))

  same_cell : (b : Bool) (e : ℕ × Cell) (es : List (ℕ × Cell)) → shared e.0 ≡ b → IsSharedOrLocal b e.1
      → cells_back es ≡ es → cells_back (e ∷ es) ≡ e ∷ es
  same_cell true e es h is rest =
      let none = sym (is.shared refl) in
      let set = same_set e.1.pending in
      rw h (λ i.
      (e.0, record { value = e.1.value; pending = set i; fresh = e.1.fresh; stored = none i }) ∷ rest i)
  same_cell false e es h is rest =
      let none = sym (is.local refl) in
      rw h (λ i. (e.0, record e.1 { pending = none i }) ∷ rest i)

  pub same_cells : (es : List (ℕ × Cell)) → ((e : ℕ × Cell) → IsOf es e → IsSharedOrLocal (shared e.0) e.1)
      → cells_back es ≡ es
  same_cells [] each = refl
  same_cells (e ∷ es) each =
      same_cell (shared e.0) e es refl (each e (inl refl)) (same_cells es (λ d m. each d (inr m)))

-- ## What stands in lines

abbrev pub AllValues : List ℕ → (ℕ → Values → Type 0) → List ℕ → List Values → Type 0
AllValues letters Fits = AllFit (value_row letters) (FitsRow Fits) AnyText

abbrev pub AllPending : ℕ → List ℕ → List (Option ℕ) → Type 0
AllPending mask = AllFit (number_row (codes "p")) (FitsNumber (Within mask)) (number_after (codes "p"))

abbrev pub AllMarks : List ℕ → List ℕ → List Bool → Type 0
AllMarks letters = AllFit (mark_row letters) AnyMark (mark_after letters)

abbrev pub AllCopies : List Bool → List ℕ → List (Option ℕ) → Type 0
AllCopies marks = AllFit (number_row (codes "k")) (FitsMarked marks) (number_after (codes "k"))

-- where each entry has at its key what may stand there, all keys have; which rows and texts there are plays no part
module _ {V Z : Type 0} (Fits : ℕ → Z → Type 0) (part : V → Z) where
  abbrev AllHave : List ℕ → List Z → Type 0
  AllHave = AllFit (λ key z. []) Fits (λ key text. Unit {0})

  each_fits : (es : List (ℕ × V)) → ((e : ℕ × V) → IsOf es e → Fits e.0 (part e.1))
      → AllHave (keys es) (map (λ (e : ℕ × V). part e.1) es)
  each_fits [] h = tt
  each_fits (e ∷ es) h = (h e (inl refl), each_fits es (λ d m. h d (inr m)))

  pub all_fit : (es : List (ℕ × V)) (ks : List ℕ) → keys es ≡ ks → ((e : ℕ × V) → IsOf es e → Fits e.0 (part e.1))
      → AllHave ks (map (λ (e : ℕ × V). part e.1) es)
  all_fit es ks same h = subst (λ ls. AllHave ls (map (λ (e : ℕ × V). part e.1) es)) same (each_fits es h)

pub lines_split : (ls ms : List Line) → AreLines (ls ++ ms) → AreLines ls × AreLines ms
lines_split [] ms h = (tt, h)
lines_split (l ∷ ls) ms h = let r = lines_split ls ms h.1 in ((h.0, r.0), r.1)

pub lines_of_each : {A : Type 0} (f : A → List Line) (xs : List A) → AreLines (flat_map f xs) → (x : A) → IsOf xs x
    → AreLines (f x)
lines_of_each f [] h x m = absurd m
lines_of_each f (y ∷ ys) h x (inl e) = subst (λ z. AreLines (f z)) (sym e) (lines_split (f y) (flat_map f ys) h).0
lines_of_each f (y ∷ ys) h x (inr m) = lines_of_each f ys (lines_split (f y) (flat_map f ys) h).1 x m

pub row_fits : (Fits : ℕ → Values → Type 0) (letters : List ℕ) (key : ℕ) (v : Values) → Fits key v
    → AreLines (value_line letters key v ∷ []) → FitsRow Fits key v
row_fits Fits letters key v fits h = record { fits = fits; small = h.0.1.0; lawful = h.0.1.1 }

pub pending_fits : (mask x p : ℕ) → x < 2 ^ 64 → IsWithin p mask → AreLines (pending_line_of x p)
    → FitsNumber (Within mask) x (some_pending p)
pending_fits mask x p key within h = elim (cases_eq p 0) [
  | inl none ↦ subst (FitsNumber (Within mask) x) (sym (no_set p none)) key
  | inr some ↦ subst (FitsNumber (Within mask) x) (sym (some_set p some))
      (key, (subst AreLines (pending_some x p some) h).0.1.1.0, record { some = some; within = within })
]

pub copy_fits : (marks : List Bool) (t : ℕ) (copy : Option ℕ) → t < 2 ^ 64
    → ((x : ℕ) → copy ≡ Some x → get_or marks x false ≡ true) → AreLines (copy_line_of t copy) → FitsMarked marks t copy
copy_fits marks t None key seen h = key
copy_fits marks t (Some x) key seen h = (key, h.0.1.1.0, seen x refl)
