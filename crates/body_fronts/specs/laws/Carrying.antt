-- What an edge of a body makes of a cell that it carries fits the cell, and rises with it.
use Rattle.std.specs.Prelude.{◌≡◌, ℕ, ◌-◌, ◌^◌, true, false, cond, bit_and}
use Rattle.std.proofs.Common.{arith}
use Rattle.std.proofs.lemmas.Nat.Bits.{bit_at_and, bit_at_or, same_from_bits}
use Rattle.sparse_bodies.specs.Carries.{carry_along}
use Rattle.sparse_bodies.specs.task_equations.temporary_types.tm_laid.Layouts.{abstract_at}
use Rattle.sparse_bodies.specs.task_equations.value_heights.pointer_dom.Values.{no_value}
use Rattle.sparse_bodies.specs.task_equations.state_fits.cell_env.Cells.{IsWithin}
use Rattle.sparse_bodies.specs.task_equations.state_fits.cell_env.laws.Bits.{within_trans, within_le}
use Rattle.sparse_bodies.specs.task_equations.state_fits.interfere_set.Stores.{Interferences, handed}
use Rattle.sparse_bodies.specs.task_equations.state_fits.transfer_rows.StateForms.{Cell}
use Rattle.sparse_bodies.specs.task_equations.state_fits.transfer_rows.Actions.{Around, Action, skips, gives, refines}
use Rattle.sparse_bodies.specs.task_equations.state_fits.transfer_rows.Actions.{loads, loads_any, stores, clears, locks}
use Rattle.sparse_bodies.specs.task_equations.state_fits.transfer_rows.Actions.{unlocks, yields, probes}
use Rattle.sparse_bodies.specs.task_equations.state_fits.transfer_rows.Rows.{aged, released, taken, without}
use Rattle.sparse_bodies.specs.task_equations.state_fits.Fits.{FitsStore, IsCellOf, file_set}
use Rattle.sparse_bodies.specs.task_equations.state_fits.laws.StoresFit.{cond_typed, handed_typed}
use Rattle.sparse_bodies.specs.task_equations.typed_values.laws.TypeLaws.{none_of_type, joined_of_type}
use Rattle.sparse_bodies.specs.task_equations.Bodies.{Body, copy_at}
use Rattle.sparse_bodies.specs.task_equations.Equations.{action_along, around_along}
use Rattle.sparse_rows.specs.Carried.{carried_by}
use Rattle.sparse_rows.specs.laws.Carrying.{carried_is, carried_rises}
use Rattle.front_constraints.specs.Premises.{IsCarrying}
use Rattle.body_fronts.specs.FrontForms.{cells, FitsCellAt}

and_within : (p k : ℕ) → IsWithin (bit_and p k) p
and_within p k =
    same_from_bits _ _ (λ i. omega (arith, bit_at_or (bit_and p k) p i, bit_at_and p k i))

none_left : (p q : ℕ) → IsWithin p q → q ≡ 0 → p ≡ 0
none_left p q w h = (let le = within_le p q w in omega (arith, le, h))

module _ (b : Body) (tasks : ℕ) (store : Interferences) (store_fits : FitsStore b.laid tasks store) where
  module _ (around : Around) where
    taken_of : (m x : ℕ) (c : Cell) → IsCellOf b.laid x c → IsCellOf b.laid x (taken around store m x c)
    taken_of m x c h = record {
      value = (let a = abstract_at b.laid x in
          joined_of_type b.laid a.scalar c.value
          (cond (around.is_shared x) (handed around.reader.task m x store) no_value) h.value
          (cond_typed b.laid a.scalar (around.is_shared x) (handed around.reader.task m x store) no_value
          (handed_typed b.laid a.scalar around.reader.task m x store
          (λ j l written cells v p q r. store_fits.sync.values j l x written cells v p q r))
          (none_of_type b.laid a.scalar)));
      pending = h.pending;
      local = h.local;
      shared = h.shared;
    }

    aged_of : (x : ℕ) (c : Cell) → IsCellOf b.laid x c → IsCellOf b.laid x (aged c)
    aged_of x c h = record { value = h.value; pending = h.pending; local = h.local; shared = h.shared }

    released_of : (m x : ℕ) (c : Cell) → IsCellOf b.laid x c → IsCellOf b.laid x (released m c)
    released_of m x c h =
        let fewer = and_within c.pending (65535 - 2 ^ m) in record {
          value = h.value;
          pending = within_trans (without c.pending m) c.pending (file_set b.laid) fewer h.pending;
          local = λ is. none_left (without c.pending m) c.pending fewer (h.local is);
          shared = h.shared;
        }

    carried_of : (action : Action) (x : ℕ) (c : Cell) → IsCellOf b.laid x c
        → IsCellOf b.laid x (carried_by around action store x c)
    unfolding carried_by
    carried_of skips x c h = h
    carried_of (gives target calculation) x c h = h
    carried_of (refines filter) x c h = h
    carried_of (loads spots target address) x c h = h
    carried_of (loads_any spots target address range) x c h = h
    carried_of (stores spots address source) x c h = h
    carried_of (clears cleared) x c h = h
    carried_of (locks m) x c h = aged_of x (taken around store m x c) (taken_of m x c h)
    carried_of (unlocks m) x c h = released_of m x c h
    carried_of yields x c h = aged_of x c h
    carried_of (probes m target true) x c h = h
    carried_of (probes m target false) x c h = taken_of m x c h

  pub carries_fit : (e x : ℕ) → IsCarrying cells (FitsCellAt b x) (carry_along b store e x)
  carries_fit e x =
      let around = around_along b (copy_at b e) in
      let action = action_along b (copy_at b e) in record {
        carried = λ c h. record {
          form = carried_is around store store_fits.form action x c h.form;
          of = carried_of around action x c h.of;
        };
        rising = λ c d h k le. carried_rises around store store_fits.form action x c d h.form k.form le;
      }
