-- States at entries, cell by cell.
use Rattle.std.proofs.Common.{◌≡◌, ◌∙◌, ℕ, zero, suc, ◌+◌, ◌<◌, ◌≤◌, true, false, cond, slice_get, List, length, get_or}
use Rattle.std.proofs.Common.{refl, ap, sym, subst, arith}
use Rattle.std.proofs.lemmas.List.{get_or_read}
use Rattle.std.proofs.lemmas.Bool.{cond-true, cond-false}
use Rattle.std.proofs.lemmas.Option.{slice_get-get_or}
use Rattle.std.specs.FinMap.{empty as no_entry, insert}
use Rattle.tm_lattice.specs.Tables.{Table}
use Rattle.tm_laid.specs.declared.cells.AbstractCell.{AbstractCell}
use Rattle.tm_laid.specs.Layouts.{LaidTree, abstract_at, no_abstract_cell}
use Rattle.pointer_dom.specs.Values.{Values, no_value}
use Rattle.body_systems.specs.edge_actions.transfer_rows.StateForms.{Cell, State}
use Rattle.body_systems.specs.edge_actions.Layouts.{is_reachable}
use Rattle.body_systems.specs.program_equations.Entries.{entry_cell, entry_cells, entry_state, first_state, initial_of}
use Rattle.entry_states.specs.Beginnings.{AreInitialValues}
use Rattle.entry_states.specs.reading.Holdings.{value_or_none}

abbrev pub with_cells : Table Cell → State
with_cells cells = record { temps = no_entry; cells = cells }

-- where cells of static storage have the same values, entries have the same cells
same_cells : (laid : LaidTree) (task : ℕ) (one other : ℕ → Values) (count : ℕ)
    → ((x : ℕ) → x < count → one x ≡ other x) → entry_cells laid task one count ≡ entry_cells laid task other count
same_cells laid task one other zero same = refl
same_cells laid task one other (suc x) same =
    let less : entry_cells laid task one x ≡ entry_cells laid task other x =
    same_cells laid task one other x (λ y lt. same y (omega (arith, lt))) in
    let cell : entry_cell laid one x ≡ entry_cell laid other x =
    ap (λ (v : Values). entry_cell laid (λ y. v) x) (same x (omega arith)) in
    ap (λ (cells : Table Cell). cond (is_reachable laid task (abstract_at laid x).object) (insert cells x (entry_cell laid one x)) cells) less
    ∙ ap (λ (c : Cell). cond (is_reachable laid task (abstract_at laid x).object)
    (insert (entry_cells laid task other x) x c) (entry_cells laid task other x)) cell

-- one more abstract cell is static or the body's own, or is not
pub one_entered : (laid : LaidTree) (task : ℕ) (shared : ℕ → Values) (x : ℕ) (a : AbstractCell) (before : Table Cell)
    (c : Cell) → x < length laid.abstract_cells → a ≡ get_or laid.abstract_cells x a
    → is_reachable laid task a.object ≡ true → before ≡ entry_cells laid task shared x
    → c ≡ entry_cell laid shared x → insert before x c ≡ entry_cells laid task shared (x + 1)
one_entered laid task shared x a before c within stands reached so is =
    ap (λ (cells : Table Cell). insert cells x c) so
    ∙ ap (λ (d : Cell). insert (entry_cells laid task shared x) x d) is
    ∙ sym (cond-true (is_reachable laid task (abstract_at laid x).object)
    (insert (entry_cells laid task shared x) x (entry_cell laid shared x)) (entry_cells laid task shared x)
    (ap (λ (b : AbstractCell). is_reachable laid task b.object) (sym (get_or_read laid.abstract_cells x a within stands no_abstract_cell)) ∙ reached))
    ∙ ap (λ n. entry_cells laid task shared n) (let next : suc x ≡ x + 1 = omega arith in next)

pub one_passed : (laid : LaidTree) (task : ℕ) (shared : ℕ → Values) (x : ℕ) (a : AbstractCell) (before : Table Cell)
    → x < length laid.abstract_cells → a ≡ get_or laid.abstract_cells x a
    → is_reachable laid task a.object ≡ false → before ≡ entry_cells laid task shared x
    → before ≡ entry_cells laid task shared (x + 1)
one_passed laid task shared x a before within stands reached so =
    so ∙ sym (cond-false (is_reachable laid task (abstract_at laid x).object)
    (insert (entry_cells laid task shared x) x (entry_cell laid shared x)) (entry_cells laid task shared x)
    (ap (λ (b : AbstractCell). is_reachable laid task b.object) (sym (get_or_read laid.abstract_cells x a within stands no_abstract_cell)) ∙ reached))
    ∙ ap (λ n. entry_cells laid task shared n) (let next : suc x ≡ x + 1 = omega arith in next)

pub all_entered : (laid : LaidTree) (task : ℕ) (shared : ℕ → Values) (x : ℕ) (cells : Table Cell)
    → length laid.abstract_cells ≤ x → x ≤ length laid.abstract_cells → cells ≡ entry_cells laid task shared x
    → with_cells cells ≡ entry_state laid task shared
all_entered laid task shared x cells least most so =
    let is : x ≡ length laid.abstract_cells = omega (arith, least, most) in
    ap with_cells (so ∙ ap (λ n. entry_cells laid task shared n) is)

-- before anything has run cells have the values that are listed
pub first_listed : (laid : LaidTree) (task : ℕ) (values : List Values) → AreInitialValues laid values
    → entry_state laid task (λ x. value_or_none (slice_get values x)) ≡ first_state laid task
first_listed laid task values h =
    ap with_cells
    (same_cells laid task (λ x. value_or_none (slice_get values x)) (initial_of laid) (length laid.abstract_cells)
    (λ x within. (let lt : x < length values = subst (λ n. x < n) (sym h.count) within in
    ap value_or_none (slice_get-get_or values x no_value lt) ∙ h.each x lt)))
