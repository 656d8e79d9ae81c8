-- What is listed of cells.
use Rattle.std.proofs.Common.{◌≡◌, refl, sym, ap, ◌∙◌, ℕ, ◌+◌, ◌<◌, List, [], ◌∷◌, ◌++◌, length, get_or, append_assoc, arith}
use Rattle.std.specs.Ordering.{nat_cmp}
use Rattle.std.specs.FinMap.{entries, empty, len, len-entries, len-empty}
use Rattle.std.specs.List.{flat_map}
use Rattle.std.proofs.lemmas.List.{length-map, map-append}
use Rattle.std.proofs.Math.ListN.{get_or-map}
use Rattle.tm_lattice.specs.Tables.{Table, IsNext}
use Rattle.transfer_rows.specs.StateForms.{Cell, State}
use Rattle.certificate_texts.specs.declared.cells.CellEntry.{CellEntry}
use Rattle.certificate_texts.specs.StateLines.{temp_lines, cell_lines, pending_lines, fresh_lines, stored_lines}
use Rattle.certificate_texts.specs.StateLines.{copy_lines, state_lines}
use Rattle.certificate_texts.specs.reading.CellLines.{cells_lines}
use Rattle.certificate_texts.specs.reading.Pages.{entries_of}
use Rattle.certificate_texts.proofs.Walking.{from_key, next_entry}

pub listed_count : (es : List CellEntry) → length (entries_of es) ≡ length es
listed_count es = length-map es (λ (e : CellEntry). (e.cell, e.entry.now))

pub listed_entry : (es : List CellEntry) (i : ℕ) (e : CellEntry) → i < length es → e ≡ get_or es i e
    → (i < length (entries_of es)) × ((e.cell, e.entry.now) ≡ get_or (entries_of es) i (e.cell, e.entry.now))
listed_entry es i e less is =
    let size = listed_count es in (
      omega (arith, size, less),
      ap (λ (d : CellEntry). (d.cell, d.entry.now)) is
          ∙ sym (get_or-map (λ (d : CellEntry). (d.cell, d.entry.now)) es i e),
    )

-- one more is listed
pub listed_next : (cells : Table Cell) (es all : List CellEntry) (from n : ℕ) (e : CellEntry) → all ≡ es ++ (e ∷ [])
    → n ≡ e.cell → IsNext cells from e.cell e.entry.now → entries_of es ++ from_key from (entries cells) ≡ entries cells
    → entries_of all ++ from_key (n + 1) (entries cells) ≡ entries cells
listed_next cells es all from n e more number next so =
    ap (λ (ds : List CellEntry). entries_of ds ++ from_key (n + 1) (entries cells)) more
    ∙ ap (λ t. t ++ from_key (n + 1) (entries cells)) (map-append (λ (d : CellEntry). (d.cell, d.entry.now)) es (e ∷ []))
    ∙ append_assoc (entries_of es) ((e.cell, e.entry.now) ∷ []) (from_key (n + 1) (entries cells))
    ∙ ap (λ k. entries_of es ++ ((e.cell, e.entry.now) ∷ from_key (k + 1) (entries cells))) number
    ∙ ap (λ t. entries_of es ++ t) (sym (next_entry cells from e.cell e.entry.now next)) ∙ so

-- no cells have no lines
nothing_in : {V : Type 0} (es : List (ℕ × V)) → length es ≡ 0 → es ≡ []
nothing_in [] none = refl
nothing_in (e ∷ es) none = absurd (omega (arith, none))

pub no_cells : (cells : Table Cell) → cells ≡ empty → cells_lines cells ≡ []
no_cells cells none =
    ap (λ es. flat_map cell_lines es ++ (flat_map pending_lines es ++ (flat_map fresh_lines es ++ flat_map stored_lines es)))
    (nothing_in (entries cells) (sym (len-entries cells) ∙ (ap len none ∙ len-empty nat_cmp Cell)))

-- the lines of a state, those of its cells together
pub of_cells : (s : State)
    → flat_map temp_lines (entries s.temps) ++ (cells_lines s.cells ++ flat_map copy_lines (entries s.temps)) ≡ state_lines s
of_cells s =
    let own = flat_map cell_lines (entries s.cells) in
    let pending = flat_map pending_lines (entries s.cells) in
    let fresh = flat_map fresh_lines (entries s.cells) in
    let stored = flat_map stored_lines (entries s.cells) in
    let copies = flat_map copy_lines (entries s.temps) in
    ap (λ t. flat_map temp_lines (entries s.temps) ++ t) (append_assoc own (pending ++ (fresh ++ stored)) copies
    ∙ ap (λ t. own ++ t) (append_assoc pending (fresh ++ stored) copies
    ∙ ap (λ t. pending ++ t) (append_assoc fresh stored copies)))
