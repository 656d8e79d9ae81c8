-- The program of a typed file that is laid out can be analysed.
use Rattle.std.specs.Prelude.{◌≡◌, ℕ, List, IfOk, Result, Ok, Err}
use Rattle.std.proofs.Common.{sym, ap, subst}
use Rattle.tm_terms.specs.declared.refusals.Fail.{Fail}
use Rattle.tm_laid.specs.declared.layouts.Laid.{Laid}
use Rattle.tm_laid.specs.declared.scales.Scale.{Scale}
use Rattle.tm_laid.specs.Layouts.{LaidTree, laid_tree}
use Rattle.c_typing.specs.call_graph.Graphs.{lists}
use Rattle.c_typing.specs.call_graph.Orders.{IsWholeOrder}
use Rattle.program_graphs.specs.lowering_laws.LaidFiles.{IsLaidFile}
use Rattle.mutex_configs.specs.declared.programs.Program.{Program}
use Rattle.program_graphs.specs.Prepared.{answer_of, IsPrepared}
use Rattle.thresholds.specs.Thresholds.{numbers_of, AreThresholds}
use Rattle.program_laws.specs.program_systems.Analysable.{IsAnalysable}
use Rattle.program_laws.proofs.AnalysablePrograms.{analysable}

module _ (scale : Scale) (laid : Laid) (file : IsLaidFile (laid_tree laid))
    (order : IsWholeOrder (lists laid.file.calls.items) laid.file.order.items) (given : List ℕ) where
  pub program_analysable : (result : Result Program Fail) → IsPrepared scale (laid_tree laid) (answer_of result)
      → IfOk result (λ p. laid_tree p.laid ≡ laid_tree laid)
      → IfOk result (λ p. p.laid.file.order.items ≡ laid.file.order.items)
      → IfOk result (λ p. AreThresholds
      (numbers_of laid.file.lengths.items laid.file.constants.items laid.file.labels.items given) p.marks)
      → IfOk result IsAnalysable
  program_analysable (Ok p) prepared same orders marks =
      let back : laid_tree laid ≡ laid_tree p.laid = sym same in
      let calls : lists laid.file.calls.items ≡ lists p.laid.file.calls.items =
      ap (λ (l : LaidTree). (let f = l.file in f.calls)) back in
      let own = subst (λ (l : LaidTree). IsPrepared scale l (answer_of (Ok p))) back prepared in
      analysable p (subst IsLaidFile back file)
      (subst (λ (items : List ℕ). IsWholeOrder (lists p.laid.file.calls.items) items) (sym orders)
      (subst (λ (graph : List (List ℕ)). IsWholeOrder graph laid.file.order.items) calls order)) scale own.0 own.1
      (numbers_of laid.file.lengths.items laid.file.constants.items laid.file.labels.items given) marks
  program_analysable (Err fail) prepared same orders marks = tt
