use Rattle.std.proofs.Common.{◌∙◌, ap, true, None}
use Rattle.std.specs.FinMap.{insert, retain_keys}
use Rattle.tm_lattice.specs.Tables.{changed_table}
use Rattle.pointer_dom.specs.PointerSets.{no_pointer}
use Rattle.edge_effects.specs.calculations.transfer_rows.Rows.{dropped, taken}
use Rattle.edge_actions.specs.Edges.{around_of}
use Rattle.memory_effects.proofs.mutexes.found_free.Goals as goal

pub returns : goal.returns
returns c =
    let around = around_of c.args.view.now in
    let s = c.args.state.now in
    let before = dropped (λ x. true) s.temps in
    let zero = c.from_numbers-zero.ensures ∙ ap (λ n. record { numbers = n; pointers = no_pointer }) c.one.ensures in
    c.new.ensures ∙ (λ i. record {
      temps = (c.in_ok-temps.ensures before c.in_ok-kept.ensures ∙ ap (λ v. retain_keys (insert before c.args.target record { value = v; copy = None }) around.is_live) zero) i;
      cells = (c.in_ok-cells.ensures ∙ ap (changed_table (taken around c.args.store.now c.args.mutex)) c.cells.ensures) i;
    })
