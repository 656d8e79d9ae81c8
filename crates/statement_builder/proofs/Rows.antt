-- Statements and parts of a `switch` one after the other.
use Rattle.std.proofs.Common.{◌≡◌, ℕ, ◌+◌, ◌<◌, ◌≤◌, List, length, drop, get_or, sym, ap, ◌∙◌}
use Rattle.std.specs.declared.alloc.Global.{Global}
use Rattle.std.specs.declared.vec.Vec.{Vec}
use Rattle.std.proofs.lemmas.List.{drop_more, drop_all}
use Rattle.tm_terms.specs.tm_cint.declared.int_types.IntType.{IntType}
use Rattle.tm_typed.specs.declared.statements.TypedStatement.{TypedStatement}
use Rattle.tm_typed.specs.declared.statements.TypedStatement.TheVariants as Typed
use Rattle.tm_typed.specs.declared.statements.TypedSwitchPart.{TypedSwitchPart}
use Rattle.tm_typed.specs.TypedTrees.{RvalueTree}
use Rattle.tm_typed.specs.TypedStatements.{TypedTree, TypedCases, selects, typed_tree, as_typed_trees}
use Rattle.tm_typed.specs.TypedStatements.{typed_case}
use Rattle.tm_typed.specs.TypedStatements.{as_typed_cases}
use Rattle.tm_typed.proofs.TypedStatementTrees.{typed_tree-block}
use Rattle.tm_laid.specs.Layouts.{LaidTree}
use Rattle.body_builder.specs.lowering.Built as Built
use Rattle.statement_builder.specs.declared.selections.Selected.{Selected}
use Rattle.statement_builder.specs.reading.Statements.{Lines, IsSelected, cut, labels_left, has_default}
use Rattle.statement_builder.specs.reading.Statements.{behind_tests, select_ends, selecting, statement_at}
use Rattle.statement_builder.specs.reading.Statements.{statements_at, case_at, cases_at}

module _ (laid : LaidTree) (depth path : ℕ) where
  pub block_tree : (items : Vec TypedStatement Global) (onward : Built.Onward) (s : Built.Passed)
      → statement_at laid depth path (typed_tree (Typed.Block items)) onward s
      ≡ statements_at laid depth path (as_typed_trees items.items) onward s
  block_tree items onward s =
      ap (λ (t : TypedTree). statement_at laid depth path t onward s) (typed_tree-block items)

  -- a `switch`, once its parts are built
  pub switch_built : (t : IntType) (e e1 : RvalueTree) (cs c1 c2 : TypedCases) (onward : Built.Onward)
      (s b n : Built.Passed) (ps : List Built.Pending) (ms : List ℕ) (x : Selected)
      → e1 ≡ e → c1 ≡ cs → c2 ≡ cs → ms ≡ x.labels.items → ps ≡ s.pending
      → IsSelected c1 (selecting laid depth path e1 c1 s) b x
      → n ≡ cases_at laid depth path c2 ms x.node onward b
      → select_ends x.outs.items ps n ≡ statement_at laid depth path (selects t e cs) onward s
  switch_built t e e1 cs c1 c2 onward s b n ps ms x ee f1 f2 em ep h hn =
      let l = selecting laid depth path e cs s in
      let l_is : selecting laid depth path e1 c1 s ≡ l = ap (λ (y : RvalueTree). selecting laid depth path y c1 s) ee
      ∙ ap (λ (y : TypedCases). selecting laid depth path e y s) f1 in
      let b_is : b ≡ cut l.at = h.0 ∙ ap (λ (y : Lines). cut y.at) l_is in
      let labels : ms ≡ l.nodes = em ∙ (h.1 ∙ ap (λ (y : Lines). y.nodes) l_is) in
      let k = l.at.at.node in
      let node_is : x.node ≡ k = h.2 ∙ ap (λ (y : Lines). y.at.at.node) l_is in
      let outs_is : x.outs.items ≡ behind_tests (has_default cs) k = h.3
      ∙ (ap (λ (y : TypedCases). behind_tests (has_default y) (selecting laid depth path e1 c1 s).at.at.node) f1
      ∙ ap (λ (y : Lines). behind_tests (has_default cs) y.at.at.node) l_is) in
      let n_is : n ≡ cases_at laid depth path cs l.nodes k onward (cut l.at) = hn
      ∙ (ap (λ (y : TypedCases). cases_at laid depth path y ms x.node onward b) f2
      ∙ (ap (λ (ks : List ℕ). cases_at laid depth path cs ks x.node onward b) labels
      ∙ (ap (λ j. cases_at laid depth path cs l.nodes j onward b) node_is
      ∙ ap (λ (z : Built.Passed). cases_at laid depth path cs l.nodes k onward z) b_is))) in
      ap (λ (ks : List ℕ). select_ends ks ps n) outs_is
      ∙ (ap (λ (qs : List Built.Pending). select_ends (behind_tests (has_default cs) k) qs n) ep
      ∙ ap (λ (z : Built.Passed). select_ends (behind_tests (has_default cs) k) s.pending z) n_is)

  pub block_more : (xs : List TypedStatement) (i : ℕ) (x : TypedStatement) (onward : Built.Onward)
      (s n w : Built.Passed) → i < length xs → x ≡ get_or xs i x
      → n ≡ statement_at laid depth path (typed_tree x) onward s
      → statements_at laid depth path (as_typed_trees (drop i xs)) onward s ≡ w
      → statements_at laid depth path (as_typed_trees (drop (i + 1) xs)) onward n ≡ w
  block_more xs i x onward s n w lt ex en h =
      let rest = as_typed_trees (drop (i + 1) xs) in
      ap (λ (z : Built.Passed). statements_at laid depth path rest onward z)
      (en ∙ ap (λ (y : TypedStatement). statement_at laid depth path (typed_tree y) onward s) ex)
      ∙ (sym (ap (λ (ys : List TypedStatement). statements_at laid depth path (as_typed_trees ys) onward s)
      (drop_more xs i x lt)) ∙ h)

  pub block_last : (xs : List TypedStatement) (i : ℕ) (onward : Built.Onward) (s w : Built.Passed) → length xs ≤ i
      → statements_at laid depth path (as_typed_trees (drop i xs)) onward s ≡ w → s ≡ w
  block_last xs i onward s w le h =
      sym (ap (λ (ys : List TypedStatement). statements_at laid depth path (as_typed_trees ys) onward s)
      (drop_all i xs le)) ∙ h

  pub parts_more : (xs : List TypedSwitchPart) (i : ℕ) (x : TypedSwitchPart) (ls ms : List ℕ) (none : ℕ)
      (onward : Built.Onward) (s n w : Built.Passed) → i < length xs → x ≡ get_or xs i x
      → n ≡ case_at laid depth path (typed_case x) ls none onward s → ms ≡ labels_left (typed_case x) ls
      → cases_at laid depth path (as_typed_cases (drop i xs)) ls none onward s ≡ w
      → cases_at laid depth path (as_typed_cases (drop (i + 1) xs)) ms none onward n ≡ w
  parts_more xs i x ls ms none onward s n w lt ex en em h =
      let rest = as_typed_cases (drop (i + 1) xs) in
      ap (λ (ks : List ℕ). cases_at laid depth path rest ks none onward n)
      (em ∙ ap (λ (y : TypedSwitchPart). labels_left (typed_case y) ls) ex)
      ∙ (ap (λ (z : Built.Passed). cases_at laid depth path rest (labels_left (typed_case (get_or xs i x)) ls) none
      onward z) (en ∙ ap (λ (y : TypedSwitchPart). case_at laid depth path (typed_case y) ls none onward s) ex)
      ∙ (sym (ap (λ (ys : List TypedSwitchPart). cases_at laid depth path (as_typed_cases ys) ls none onward s)
      (drop_more xs i x lt)) ∙ h))

  pub parts_last : (xs : List TypedSwitchPart) (i : ℕ) (ls : List ℕ) (none : ℕ) (onward : Built.Onward)
      (s w : Built.Passed) → length xs ≤ i
      → cases_at laid depth path (as_typed_cases (drop i xs)) ls none onward s ≡ w → s ≡ w
  parts_last xs i ls none onward s w le h =
      sym (ap (λ (ys : List TypedSwitchPart). cases_at laid depth path (as_typed_cases ys) ls none onward s)
      (drop_all i xs le)) ∙ h
