-- States that fit a place are joined and rounded to states that fit it.
use Rattle.std.specs.Prelude.{◌≡◌, ℕ, ◌==◌, eqb, ◌&&◌, Bool, true, false, cond, bit_or, ℤ, List, Option, Some, None}
use Rattle.std.proofs.Common.{sym, ap, subst, ◌∙◌}
use Rattle.std.specs.FinMap.{get}
use Rattle.std.specs.List.{list_any}
use Rattle.value_heights.specs.tm_lattice.LatticeLaws.{IsOrder, IsJoin, IsClosure}
use Rattle.value_heights.specs.tm_lattice.Tables.{joined_at, rounded_among}
use Rattle.value_heights.specs.tm_lattice.laws.TableLaws.{get-joined_table}
use Rattle.temporary_types.specs.tm_laid.Layouts.{LaidTree, abstract_at}
use Rattle.value_heights.specs.pointer_dom.Values.{Values, IsValues, IsValuesBelow, joined_values, rounded_values}
use Rattle.value_heights.specs.pointer_dom.laws.ValueLaws.{values_order, values_join, values_closure}
use Rattle.edge_actions.specs.cell_env.Cells.{joined_cell, rounded_cell}
use Rattle.edge_actions.specs.cell_env.Temps.{joined_copy, joined_temp}
use Rattle.edge_actions.specs.cell_env.States.{joined_state, rounded_state_at}
use Rattle.edge_actions.specs.cell_env.laws.Bits.{within_least}
use Rattle.edge_actions.specs.cell_env.laws.StateLaws.{state_order, state_join, state_closure_at}
use Rattle.edge_actions.specs.transfer_rows.StateForms.{Temp, Cell, State, IsStateForm, IsStateUnder}
use Rattle.typed_values.specs.Types.{HaveEnds}
use Rattle.typed_values.specs.laws.TypeLaws.{joined_of_type, rounded_of_type}
use Rattle.state_fits.specs.Fits.{AreKinds, file_set, FitsTemp, IsSeenCopy, FitsCopy, FitsCell, IsCellOf, FitsPlace}
use Rattle.state_fits.specs.laws.EffectsFit.{changed_cells}

abbrev Values_are : Values → Type 0
Values_are v = IsValues v

abbrev Values_under : Values → Values → Type 0
Values_under v w = IsValuesBelow v w

abbrev AnyMarks : List ℤ → Type 0
AnyMarks marks = Unit {0}

pub states_order : IsOrder IsStateForm IsStateUnder
states_order = state_order Values_are AnyMarks Values_under joined_values rounded_values values_order values_join
    values_closure

pub states_join : IsJoin IsStateForm IsStateUnder (joined_state joined_values)
states_join = state_join Values_are AnyMarks Values_under joined_values rounded_values values_order values_join
    values_closure

pub states_round : (cells : List ℕ)
    → IsClosure IsStateForm AnyMarks IsStateUnder (λ marks. rounded_state_at (rounded_values marks) cells)
states_round cells = state_closure_at Values_are AnyMarks Values_under joined_values rounded_values values_order
    values_join values_closure cells

module _ (laid : LaidTree) (task : ℕ) (Holds : ℕ → Values → Type 0) (kinds : AreKinds laid Holds) (live : List ℕ) where
  join_temp : (t : ℕ) (a b : Option Temp) → FitsTemp Holds live t a → FitsTemp Holds live t b
      → FitsTemp Holds live t (joined_at (joined_temp joined_values) a b)
  join_temp t None b h k = k
  join_temp t (Some e) None h k = h
  join_temp t (Some e) (Some f) h k = (h.0, kinds.joined t e.value f.value h.1 k.1)

  both_seen : (a b : Option ℕ) → IsSeenCopy laid task a → IsSeenCopy laid task (joined_copy a b)
  both_seen None b h = tt
  both_seen (Some x) None h = tt
  both_seen (Some x) (Some y) h = by_test (eqb x y)
    where
      by_test : (b : Bool) → IsSeenCopy laid task (cond b (Some x) None)
      by_test true = h
      by_test false = tt

  join_copies : (a b : Option Temp) → FitsCopy laid task a → FitsCopy laid task b
      → FitsCopy laid task (joined_at (joined_temp joined_values) a b)
  join_copies None b h k = k
  join_copies (Some e) None h k = h
  join_copies (Some e) (Some f) h k = both_seen e.copy f.copy h

  both_none : (p q : ℕ) → p ≡ 0 → q ≡ 0 → bit_or p q ≡ 0
  both_none p q h k = ap (λ z. bit_or z q) h ∙ ap (bit_or 0) k

  join_cell : (x : ℕ) (a b : Option Cell) → FitsCell laid task x a → FitsCell laid task x b
      → FitsCell laid task x (joined_at (joined_cell joined_values) a b)
  join_cell x None b h k = k
  join_cell x (Some c) None h k = h
  join_cell x (Some c) (Some d) h k = (
    h.0,
    record {
      value = (let a = abstract_at laid x in joined_of_type laid a.scalar c.value d.value h.1.value k.1.value);
      pending = within_least c.pending d.pending (file_set laid) h.1.pending k.1.pending;
      local = λ is. both_none c.pending d.pending (h.1.local is) (k.1.local is);
      shared = λ is. ap (λ b. b && d.stored) (h.1.shared is);
    },
  )

  pub joined_fits : (s t : State) → FitsPlace laid task Holds live s → FitsPlace laid task Holds live t
      → FitsPlace laid task Holds live (joined_state joined_values s t)
  joined_fits s t h k = record {
    form = states_join.value s t h.form k.form;
    temps = λ u. subst (FitsTemp Holds live u)
        (sym (get-joined_table (joined_temp joined_values) s.temps t.temps u))
        (join_temp u (get s.temps u) (get t.temps u) (h.temps u) (k.temps u));
    copies = λ u. subst (FitsCopy laid task) (sym (get-joined_table (joined_temp joined_values) s.temps t.temps u))
        (join_copies (get s.temps u) (get t.temps u) (h.copies u) (k.copies u));
    cells = λ x. subst (FitsCell laid task x) (sym (get-joined_table (joined_cell joined_values) s.cells t.cells x))
        (join_cell x (get s.cells x) (get t.cells x) (h.cells x) (k.cells x));
  }

  round_cell : (marks : List ℤ) (cells : List ℕ) → HaveEnds marks → (x : ℕ) (c : Cell) → IsCellOf laid x c
      → IsCellOf laid x (rounded_among (rounded_cell (rounded_values marks)) cells x c)
  round_cell marks cells ends x c h = by_test (list_any (λ k. k == x) cells)
    where
      by_test : (b : Bool) → IsCellOf laid x (cond b (rounded_cell (rounded_values marks) c) c)
      by_test true = record {
        value =
            (let a = abstract_at laid x in rounded_of_type laid marks a.scalar c.value ends h.value);
        pending =
            h.pending;
        local = h.local;
        shared = h.shared;
      }
      by_test false = h

  pub rounded_fits : (marks : List ℤ) (cells : List ℕ) (s : State) → HaveEnds marks → FitsPlace laid task Holds live s
      → FitsPlace laid task Holds live (rounded_state_at (rounded_values marks) cells s)
  rounded_fits marks cells s ends h = record {
    form = (states_round cells).value marks s tt h.form;
    temps = h.temps;
    copies = h.copies;
    cells = changed_cells laid task Holds kinds (λ t. false) (rounded_among (rounded_cell (rounded_values marks)) cells)
        s.cells (round_cell marks cells ends) h.cells;
  }
