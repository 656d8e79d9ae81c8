use Rattle.std.proofs.Common.{◌∙◌, ap, sym}
use Rattle.tm_laid.specs.Layouts.{laid_tree}
use Rattle.row_checks.specs.Passing.{are_in, passes_of}
use Rattle.row_checks.proofs.Checked.{others_pass}
use Rattle.row_checks.proofs.checks.passes.Goals as goal

pub returns-in-Load : goal.returns-in-Load
unfolding passes_of
returns-in-Load c =
    let a = c.args in
    let view = a.view.now in
    c.are_loaded_in.ensures
    ∙ sym (ap (λ op. passes_of (laid_tree view.laid.now) view.task view.held view.answer op a.touched.now a.carried.now a.looked.now
    a.traces.now a.targets.now a.store.now) c.in-Load.is)

pub returns-in-Store : goal.returns-in-Store
unfolding passes_of
returns-in-Store c =
    let a = c.args in
    let view = a.view.now in
    c.are_stored_in.ensures
    ∙ sym (ap (λ op. passes_of (laid_tree view.laid.now) view.task view.held view.answer op a.touched.now a.carried.now a.looked.now
    a.traces.now a.targets.now a.store.now) c.in-Store.is)

pub returns-in-Clear : goal.returns-in-Clear
unfolding passes_of
returns-in-Clear c =
    let a = c.args in
    let view = a.view.now in
    c.is_cleared_in.ensures
    ∙ sym (ap (λ op. passes_of (laid_tree view.laid.now) view.task view.held view.answer op a.touched.now a.carried.now a.looked.now
    a.traces.now a.targets.now a.store.now) c.in-Clear.is)

pub returns-in-Usable : goal.returns-in-Usable
unfolding passes_of
returns-in-Usable c =
    let a = c.args in
    let view = a.view.now in
    c.are_copies_in.ensures
    ∙ sym (ap (λ op. passes_of (laid_tree view.laid.now) view.task view.held view.answer op a.touched.now a.carried.now a.looked.now
    a.traces.now a.targets.now a.store.now) c.in-Usable.is)

pub returns-in-Assume : goal.returns-in-Assume
unfolding passes_of
returns-in-Assume c =
    let a = c.args in
    let view = a.view.now in
    c.is_tested_in.ensures
    ∙ sym (ap (λ op. passes_of (laid_tree view.laid.now) view.task view.held view.answer op a.touched.now a.carried.now a.looked.now
    a.traces.now a.targets.now a.store.now) c.in-Assume.is)

pub returns-in-Lock : goal.returns-in-Lock
unfolding passes_of
returns-in-Lock c =
    let a = c.args in
    let view = a.view.now in
    c.is_locked_in.ensures
    ∙ sym (ap (λ op. passes_of (laid_tree view.laid.now) view.task view.held view.answer op a.touched.now a.carried.now a.looked.now
    a.traces.now a.targets.now a.store.now) c.in-Lock.is)

pub returns-in-Unlock : goal.returns-in-Unlock
unfolding passes_of
returns-in-Unlock c =
    let a = c.args in
    let view = a.view.now in
    c.is_unlocked_in.ensures
    ∙ sym (ap (λ op. passes_of (laid_tree view.laid.now) view.task view.held view.answer op a.touched.now a.carried.now a.looked.now
    a.traces.now a.targets.now a.store.now) c.in-Unlock.is)

pub returns-in-Yield : goal.returns-in-Yield
unfolding passes_of
returns-in-Yield c =
    let a = c.args in
    let view = a.view.now in
    c.are_in.ensures ∙ ap (are_in a.carried.now) c.cells.ensures.same
    ∙ sym (ap (λ op. passes_of (laid_tree view.laid.now) view.task view.held view.answer op a.touched.now a.carried.now a.looked.now
    a.traces.now a.targets.now a.store.now) c.in-Yield.is)

pub returns-in-Probe : goal.returns-in-Probe
unfolding passes_of
returns-in-Probe c =
    let a = c.args in
    let view = a.view.now in
    c.is_probed_in.ensures
    ∙ sym (ap (λ op. passes_of (laid_tree view.laid.now) view.task view.held view.answer op a.touched.now a.carried.now a.looked.now
    a.traces.now a.targets.now a.store.now) c.in-Probe.is)

pub returns-in_default : goal.returns-in_default
returns-in_default c =
    let a = c.args in
    let view = a.view.now in
    let d = c.in_default in
    others_pass (laid_tree view.laid.now) view.task view.held view.answer a.touched.now a.carried.now a.looked.now a.traces.now
    a.targets.now a.store.now view.operation d.not-Load d.not-Store d.not-Clear d.not-Usable d.not-Assume d.not-Lock
    d.not-Unlock d.not-Yield d.not-Probe
