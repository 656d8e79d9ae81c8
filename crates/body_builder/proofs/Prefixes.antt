-- What is built does not depend on the edges before it.
use Rattle.std.proofs.Common.{◌≡◌, ℕ, zero, suc, Bool, true, false, List, [], ◌∷◌, ◌++◌, refl, ap, ◌∙◌}
use Rattle.std.specs.Prelude.{Option, Some, None, option_map}
use Rattle.std.proofs.lemmas.List.{append_assoc}
use Rattle.tm_terms.specs.declared.places.Place.{Place}
use Rattle.tm_typed.specs.declared.types.CType.{CType}
use Rattle.tm_typed.specs.declared.types.CType.TheVariants as Types
use Rattle.tm_typed.specs.declared.scopes.ObjectNumber.TheVariants as Numbers
use Rattle.tm_typed.specs.Functions.{TypedBodyTree}
use Rattle.tm_laid.specs.Layouts.{LaidTree, callee, object_of}
use Rattle.concrete_values.specs.Values.{nothing, truth_value}
use Rattle.lowering.specs.concrete_steps.Places.{result_type}
use Rattle.lowering.specs.concrete_steps.NextAction.{scalar_at, function_at}
use Rattle.flow_graph.specs.declared.operations.Test.{Test}
use Rattle.flow_graph.specs.declared.operations.Test.TheVariants as Tests
use Rattle.flow_graph.specs.declared.operations.Into.TheVariants as Intos
use Rattle.flow_graph.specs.declared.operations.Operation.{Operation}
use Rattle.flow_graph.specs.declared.operations.Operation.TheVariants as Op
use Rattle.flow_graph.specs.Operations.{given, opposite}
use Rattle.flow_graph.specs.Graphs.{Edges}
use Rattle.tm_cint.specs.IntTypes.{lo_of, hi_of}
use Rattle.lowering.specs.Steps.{Steps, no_more, first_then, Step, operate, value_of, only_do, truth_of, choose}
use Rattle.lowering.specs.Steps.{choose_only, call_of, Inputs, no_inputs, and_input, Code, code, Fork, fork_by}
use Rattle.lowering.specs.Steps.{converse, both_of, either_of, Plan, nothing_more, in_turn, all_steps, one_of}
use Rattle.lowering.specs.Steps.{loop_while, loop_stepping, loop_until, select, break_off, go_on, give_back, Parts}
use Rattle.lowering.specs.Steps.{no_parts, labelled, by_default, and_plan}
use Rattle.lowering.specs.Table.{is_value_type, plans}
use Rattle.lowering.specs.Built.{at, renamed, renamed_test, Building, edge, place_with, place, place_new, branch, goto}
use Rattle.lowering.specs.Built.{skips, meet, nowhere, back_to, close_loop, AfterPart, Forked, AfterSteps, temp_of}
use Rattle.lowering.specs.Built.{operated, truth_met, copied, copied_to, Sites, call_given, steps_piece, step_piece}
use Rattle.lowering.specs.Built.{inputs_piece, code_piece, fork_piece, Passed, Onward, ToHead, Later, continued_at}
use Rattle.lowering.specs.Built.{ByReturn, place_result, result_of, is_break, is_continue, is_return, is_no_break, nodes_by}
use Rattle.lowering.specs.Built.{still_by, Entered, Labels, first_of, behind_first, unless_default, tests_piece}
use Rattle.lowering.specs.Built.{entered, given_back, plan_piece, parts_piece, stores_piece, fallen_piece, result_at}
use Rattle.lowering.specs.Built.{function_end, function_piece, sites_of, path_piece}

module _ (pre : Edges) where
  -- with these edges before it
  abbrev pub before : Building → Building
  before b = record { edges = pre ++ b.edges; node = b.node; nodes = b.nodes; temps = b.temps }

  abbrev pub part_before : AfterPart → AfterPart
  part_before x = record { at = before x.at; temp = x.temp }

  abbrev steps_after : AfterSteps → AfterSteps
  steps_after x = record { at = before x.at; temps = x.temps }

  abbrev fork_after : Forked → Forked
  fork_after x = record { at = before x.at; other = x.other }

  abbrev passed_after : Passed → Passed
  passed_after x = record { at = before x.at; pending = x.pending; result = x.result }

  abbrev labels_after : Labels → Labels
  labels_after x = record { at = before x.at; nodes = x.nodes }

  abbrev entered_after : Entered → Entered
  entered_after x = record { at = before x.at; outs = x.outs }

  -- edges behind others
  more_edges : (n m t : ℕ) (a c : Edges)
      → (let r : Building = record { edges = (pre ++ a) ++ c; node = n; nodes = m; temps = t } in r)
      ≡ before (record { edges = a ++ c; node = n; nodes = m; temps = t })
  more_edges n m t a c = ap
      (λ (es : Edges). let r : Building = record { edges = es; node = n; nodes = m; temps = t } in r)
      (append_assoc pre a c)

  placed : (t : ℕ) (op : Operation) (b : Building) → place_with t op (before b) ≡ before (place_with t op b)
  placed t op b = more_edges b.nodes (suc b.nodes) t b.edges (edge b.node b.nodes op ∷ [])

  branched : (test : Test) (b : Building) → branch test (before b) ≡ before (branch test b)
  branched test b = more_edges b.nodes (suc (suc b.nodes)) b.temps b.edges
      (edge b.node b.nodes (Op.Assume test) ∷ edge b.node (suc b.nodes) (Op.Assume (opposite test)) ∷ [])

  met : (ns : List ℕ) (b : Building) → meet ns (before b) ≡ before (meet ns b)
  met ns b = more_edges b.nodes (suc b.nodes) b.temps b.edges (skips ns b.nodes)

  gone_back : (head : ℕ) (b : Building) → back_to head (before b) ≡ before (back_to head b)
  gone_back head b = more_edges b.nodes (suc b.nodes) b.temps b.edges (edge b.node head Op.Skip ∷ [])

  closed : (head : ℕ) (outs : List ℕ) (b : Building) → close_loop head outs (before b) ≡ before
      (close_loop head outs b)
  closed head outs b = more_edges b.nodes (suc b.nodes) b.temps b.edges (edge b.node head Op.Skip ∷ skips outs b.nodes)

  operated_before : (ts : List ℕ) (op : Operation) (g : Option ℕ) (b : Building)
      → operated ts op g (before b) ≡ steps_after (operated ts op g b)
  operated_before ts op (Some v) b = ap
      (λ (z : Building). let r : AfterSteps = record { at = z; temps = ts ++ b.temps ∷ [] } in r)
      (placed (suc b.temps) (renamed (at ts) b.temps op) b)
  operated_before ts op None b = ap (λ (z : Building). let r : AfterSteps = record { at = z; temps = ts } in r)
      (placed b.temps (renamed (at ts) 0 op) b)

  truth_before : (o : Forked) → truth_met (fork_after o) ≡ before (truth_met o)
  truth_before o =
      let t = o.at.temps in
      let b = place_new (λ v. Op.Const v (truth_value true)) o.at in
      let b' = place (Op.Const t (truth_value false)) (goto o.other b) in
      let second = λ (z : Building). place (Op.Const t (truth_value false)) (goto o.other z) in
      ap (λ (z : Building). meet (z.node ∷ (second z).node ∷ []) (second z))
      (placed (suc t) (Op.Const t (truth_value true)) o.at)
      ∙ (ap (λ (z : Building). meet (b.node ∷ z.node ∷ []) z) (placed (suc t) (Op.Const t (truth_value false)) (goto o.other b))
      ∙ met (b.node ∷ b'.node ∷ []) b')

  copied_before : (x : AfterPart) → copied (part_before x) ≡ before (copied x)
  copied_before x = placed (suc x.at.temps) (Op.Copy x.at.temps (temp_of x.temp)) x.at

  copied_to_before : (t : ℕ) (x : AfterPart) → copied_to t (part_before x) ≡ before (copied_to t x)
  copied_to_before t x = placed x.at.temps (Op.Copy t (temp_of x.temp)) x.at

  call_before : (has : Bool) (ts : List ℕ) (x : AfterPart) → call_given has ts (part_before x) ≡ steps_after
      (call_given has ts x)
  call_before true ts x = refl
  call_before false ts x = refl

  continued_before : (ns : List ℕ) (b : Building) → continued_at ns (before b) ≡ before (continued_at ns b)
  continued_before [] b = refl
  continued_before (n ∷ ns) b = met ((n ∷ ns) ++ b.node ∷ []) b

  result_before : (res : Option ℕ) (op : ℕ → Operation) (b : Building)
      → place_result res op (before b) ≡ before (place_result res op b)
  result_before None op b = placed (suc b.temps) (op b.temps) b
  result_before (Some r) op b = placed b.temps (op r) b

  result_same : (res : Option ℕ) (b : Building) → result_of res (before b) ≡ result_of res b
  result_same None b = refl
  result_same (Some r) b = refl

  tests_before : (ps : Parts) (t : ℕ) (b : Building) → tests_piece ps t (before b) ≡ labels_after (tests_piece ps t b)
  tests_before no_parts t b = refl
  tests_before (labelled z rest) t b =
      let o = branch (Tests.Case true z t) b in
      ap (λ (y : Building). let x = tests_piece rest t (goto (suc b.nodes) y) in
      let r : Labels = record { at = x.at; nodes = b.nodes ∷ x.nodes } in r) (branched (Tests.Case true z t) b)
      ∙ ap (λ (x : Labels). let r : Labels = record { at = x.at; nodes = b.nodes ∷ x.nodes } in r)
      (tests_before rest t (goto (suc b.nodes) o))
  tests_before (by_default rest) t b = tests_before rest t b
  tests_before (and_plan s rest) t b = tests_before rest t b

  module _ (call : Sites)
      (calls : (site : ℕ) (ts : List ℕ) (p : Place) (b : Building) → call site ts p (before b) ≡ part_before
      (call site ts p b)) where
    mutual
      steps_before : (ss : Steps) (ts : List ℕ) (b : Building) → steps_piece call ss ts (before b) ≡ steps_after
          (steps_piece call ss ts b)
      steps_before no_more ts b = refl
      steps_before (first_then s rest) ts b =
          let x = step_piece call s ts b in
          ap (λ (z : AfterSteps). steps_piece call rest z.temps z.at) (step_before s ts b)
          ∙ steps_before rest x.temps x.at

      step_before : (s : Step) (ts : List ℕ) (b : Building) → step_piece call s ts (before b) ≡ steps_after
          (step_piece call s ts b)
      step_before (operate op) ts b = operated_before ts op (given op) b
      step_before (value_of c) ts b = ap
          (λ (x : AfterPart). let r : AfterSteps = record { at = x.at; temps = ts ++ temp_of x.temp ∷ [] } in r)
          (code_before c b)
      step_before (only_do c) ts b = ap
          (λ (x : AfterPart). let r : AfterSteps = record { at = x.at; temps = ts } in r) (code_before c b)
      step_before (truth_of f) ts b =
          let o = fork_piece call f b in
          ap (λ (z : Forked). let r : AfterSteps = record { at = truth_met z; temps = ts ++ z.at.temps ∷ [] } in r)
          (fork_before f b)
          ∙ ap (λ (z : Building). let r : AfterSteps = record { at = z; temps = ts ++ o.at.temps ∷ [] } in r)
          (truth_before o)
      step_before (choose f x y) ts b =
          let o = fork_piece call f b in
          let v = code_piece call x o.at in
          let b1 = copied v in
          let w = code_piece call y (goto o.other b1) in
          let b2 = copied_to v.at.temps w in
          let out = λ (t : ℕ) (z : Building). let r : AfterSteps = record { at = z; temps = ts ++ t ∷ [] } in r in
          let third = λ (t n : ℕ) (z : Building). out t (meet (n ∷ z.node ∷ []) z) in
          let second = λ (t other : ℕ) (z : Building). third t z.node
          (copied_to t (code_piece call y (goto other z))) in
          ap (λ (z : Forked). let u = code_piece call x z.at in second u.at.temps z.other (copied u)) (fork_before f b)
          ∙ (ap (λ (u : AfterPart). second u.at.temps o.other (copied u)) (code_before x o.at)
          ∙ (ap (λ (z : Building). second v.at.temps o.other z) (copied_before v)
          ∙ (ap (λ (u : AfterPart). third v.at.temps b1.node (copied_to v.at.temps u))
          (code_before y (goto o.other b1))
          ∙ (ap (λ (z : Building). third v.at.temps b1.node z) (copied_to_before v.at.temps w)
          ∙ ap (λ (z : Building). out v.at.temps z) (met (b1.node ∷ b2.node ∷ []) b2)))))
      step_before (choose_only f x y) ts b =
          let o = fork_piece call f b in
          let v = code_piece call x o.at in
          let w = code_piece call y (goto o.other v.at) in
          let out = λ (z : Building). let r : AfterSteps = record { at = z; temps = ts } in r in
          let third = λ (n : ℕ) (z : Building). out (meet (n ∷ z.node ∷ []) z) in
          let second = λ (other : ℕ) (u : AfterPart). third u.at.node (code_piece call y (goto other u.at)).at in
          ap (λ (z : Forked). second z.other (code_piece call x z.at)) (fork_before f b)
          ∙ (ap (λ (u : AfterPart). second o.other u) (code_before x o.at)
          ∙ (ap (λ (u : AfterPart). third v.at.node u.at) (code_before y (goto o.other v.at))
          ∙ ap out (met (v.at.node ∷ w.at.node ∷ []) w.at)))
      step_before (call_of has site es p) ts b =
          let x = inputs_piece call es b in
          ap (λ (z : AfterSteps). call_given has ts (call site z.temps p z.at)) (inputs_before es b)
          ∙ (ap (λ (z : AfterPart). call_given has ts z) (calls site x.temps p x.at)
          ∙ call_before has ts (call site x.temps p x.at))

      inputs_before : (es : Inputs) (b : Building) → inputs_piece call es (before b) ≡ steps_after
          (inputs_piece call es b)
      inputs_before no_inputs b = refl
      inputs_before (and_input c rest) b =
          let x = code_piece call c b in
          let out = λ (u : AfterPart) (z : AfterSteps). let r : AfterSteps = record
          { at = z.at; temps = temp_of u.temp ∷ z.temps } in r in
          ap (λ (u : AfterPart). out u (inputs_piece call rest u.at)) (code_before c b)
          ∙ ap (out x) (inputs_before rest x.at)

      code_before : (c : Code) (b : Building) → code_piece call c (before b) ≡ part_before (code_piece call c b)
      code_before (code ss result) b = ap
          (λ (x : AfterSteps). let r : AfterPart = record
          { at = x.at; temp = option_map (at x.temps) result } in r) (steps_before ss [] b)

      fork_before : (f : Fork) (b : Building) → fork_piece call f (before b) ≡ fork_after (fork_piece call f b)
      fork_before (fork_by ss test) b =
          let x = steps_piece call ss [] b in
          ap (λ (z : AfterSteps). let r : Forked = record
          { at = branch (renamed_test (at z.temps) test) z.at; other = suc z.at.nodes } in r) (steps_before ss [] b)
          ∙ ap (λ (z : Building). let r : Forked = record { at = z; other = suc x.at.nodes } in r)
          (branched (renamed_test (at x.temps) test) x.at)
      fork_before (converse f) b = ap
          (λ (o : Forked). let r : Forked = record { at = goto o.other o.at; other = o.at.node } in r) (fork_before f b)
      fork_before (both_of f g) b =
          let o = fork_piece call f b in
          let q = fork_piece call g o.at in
          let out = λ (n m : ℕ) (z : Building). let r : Forked = record { at = goto n z; other = m } in r in
          ap (λ (z : Forked). let u = fork_piece call g z.at in
          out u.at.node u.at.nodes (meet (z.other ∷ u.other ∷ []) u.at)) (fork_before f b)
          ∙ (ap (λ (u : Forked). out u.at.node u.at.nodes (meet (o.other ∷ u.other ∷ []) u.at)) (fork_before g o.at)
          ∙ ap (out q.at.node q.at.nodes) (met (o.other ∷ q.other ∷ []) q.at))
      fork_before (either_of f g) b =
          let o = fork_piece call f b in
          let q = fork_piece call g (goto o.other o.at) in
          let out = λ (m : ℕ) (z : Building). let r : Forked = record { at = z; other = m } in r in
          ap (λ (z : Forked). let u = fork_piece call g (goto z.other z.at) in
          out u.other (meet (z.at.node ∷ u.at.node ∷ []) u.at)) (fork_before f b)
          ∙ (ap (λ (u : Forked). out u.other (meet (o.at.node ∷ u.at.node ∷ []) u.at))
          (fork_before g (goto o.other o.at))
          ∙ ap (out q.other) (met (o.at.node ∷ q.at.node ∷ []) q.at))

    entered_before : (f : Option Fork) (b : Building) → entered call f (before b) ≡ entered_after (entered call f b)
    entered_before None b = refl
    entered_before (Some f) b = ap
        (λ (o : Forked). let r : Entered = record { at = o.at; outs = o.other ∷ [] } in r) (fork_before f b)

    abbrev returning : Option ℕ → Building → Passed
    returning res z = record { at = nowhere z; pending = record { node = z.node; way = ByReturn } ∷ []; result = res }

    given_before : (c : Option Code) (res : Option ℕ) (b : Building) → given_back call c res (before b) ≡ passed_after
        (given_back call c res b)
    given_before None res b = refl
    given_before (Some c) res b =
        let x = code_piece call c b in
        ap (λ (u : AfterPart). returning (Some (result_of res u.at))
        (place_result res (λ t. Op.Copy t (temp_of u.temp)) u.at)) (code_before c b)
        ∙ (ap (λ (t : ℕ). returning (Some t) (place_result res (λ t. Op.Copy t (temp_of x.temp)) (before x.at)))
        (result_same res x.at)
        ∙ ap (returning (Some (result_of res x.at))) (result_before res (λ t. Op.Copy t (temp_of x.temp)) x.at))

    mutual
      plan_before : (s : Plan) (on : Onward) (res : Option ℕ) (b : Building)
          → plan_piece call s on res (before b) ≡ passed_after (plan_piece call s on res b)
      plan_before nothing_more on res b = refl
      plan_before (in_turn s s') on res b =
          let x = plan_piece call s on res b in
          let out = λ (u z : Passed). let r : Passed = record
          { at = z.at; pending = u.pending ++ z.pending; result = z.result } in r in
          ap (λ (u : Passed). out u (plan_piece call s' on u.result u.at)) (plan_before s on res b)
          ∙ ap (out x) (plan_before s' on x.result x.at)
      plan_before (all_steps ss) on res b = ap
          (λ (x : AfterSteps). let r : Passed = record { at = x.at; pending = []; result = res } in r)
          (steps_before ss [] b)
      plan_before (one_of f s s') on res b =
          let o = fork_piece call f b in
          let x = plan_piece call s on res o.at in
          let y = plan_piece call s' on x.result (goto o.other x.at) in
          let done = λ (u z : Passed) (v : Building). let r : Passed = record
          { at = v; pending = u.pending ++ z.pending; result = z.result } in r in
          let out = λ (u z : Passed). done u z (meet (u.at.node ∷ z.at.node ∷ []) z.at) in
          let second = λ (other : ℕ) (u : Passed). out u (plan_piece call s' on u.result (goto other u.at)) in
          ap (λ (z : Forked). second z.other (plan_piece call s on res z.at)) (fork_before f b)
          ∙ (ap (second o.other) (plan_before s on res o.at)
          ∙ (ap (out x) (plan_before s' on x.result (goto o.other x.at))
          ∙ ap (done x y) (met (x.at.node ∷ y.at.node ∷ []) y.at)))
      plan_before (loop_while f s) on res b =
          let h = place Op.Skip b in
          let o = fork_piece call f h in
          let x = plan_piece call s (ToHead h.node) res o.at in
          let done = λ (u : Passed) (v : Building). let r : Passed = record
          { at = v; pending = still_by is_return u.pending; result = u.result } in r in
          let out = λ (other : ℕ) (u : Passed). done u
          (close_loop h.node (other ∷ nodes_by is_break u.pending) u.at) in
          let second = λ (z : Forked). out z.other (plan_piece call s (ToHead h.node) res z.at) in
          ap (λ (z : Building). second (fork_piece call f z)) (placed b.temps Op.Skip b)
          ∙ (ap second (fork_before f h)
          ∙ (ap (out o.other) (plan_before s (ToHead h.node) res o.at)
          ∙ ap (done x) (closed h.node (o.other ∷ nodes_by is_break x.pending) x.at)))
      plan_before (loop_stepping f step s) on res b =
          let h = place Op.Skip b in
          let o = entered call f h in
          let x = plan_piece call s Later res o.at in
          let c = continued_at (nodes_by is_continue x.pending) x.at in
          let y = steps_piece call step [] c in
          let done = λ (u : Passed) (v : Building). let r : Passed = record
          { at = v; pending = still_by is_return u.pending; result = u.result } in r in
          let out = λ (outs : List ℕ) (u : Passed) (v : Building). done u
          (close_loop h.node (outs ++ nodes_by is_break u.pending) v) in
          let third = λ (outs : List ℕ) (u : Passed) (v : Building). out outs u (steps_piece call step [] v).at in
          let second = λ (outs : List ℕ) (u : Passed). third outs u
          (continued_at (nodes_by is_continue u.pending) u.at) in
          let first = λ (z : Entered). second z.outs (plan_piece call s Later res z.at) in
          ap (λ (z : Building). first (entered call f z)) (placed b.temps Op.Skip b)
          ∙ (ap first (entered_before f h)
          ∙ (ap (second o.outs) (plan_before s Later res o.at)
          ∙ (ap (third o.outs x) (continued_before (nodes_by is_continue x.pending) x.at)
          ∙ (ap (λ (z : AfterSteps). out o.outs x z.at) (steps_before step [] c)
          ∙ ap (done x) (closed h.node (o.outs ++ nodes_by is_break x.pending) y.at)))))
      plan_before (loop_until s f) on res b =
          let h = place Op.Skip b in
          let x = plan_piece call s Later res h in
          let c = continued_at (nodes_by is_continue x.pending) x.at in
          let o = fork_piece call f c in
          let done = λ (u : Passed) (v : Building). let r : Passed = record
          { at = v; pending = still_by is_return u.pending; result = u.result } in r in
          let out = λ (u : Passed) (z : Forked). done u
          (close_loop h.node (nodes_by is_break u.pending ++ z.other ∷ []) z.at) in
          let second = λ (u : Passed) (v : Building). out u (fork_piece call f v) in
          let first = λ (u : Passed). second u (continued_at (nodes_by is_continue u.pending) u.at) in
          ap (λ (z : Building). first (plan_piece call s Later res z)) (placed b.temps Op.Skip b)
          ∙ (ap first (plan_before s Later res h)
          ∙ (ap (second x) (continued_before (nodes_by is_continue x.pending) x.at)
          ∙ (ap (out x) (fork_before f c)
          ∙ ap (done x) (closed h.node (nodes_by is_break x.pending ++ o.other ∷ []) o.at))))
      plan_before (select c ps) on res b =
          let v = code_piece call c b in
          let ls = tests_piece ps (temp_of v.temp) v.at in
          let x = parts_piece call ps ls.nodes ls.at.node on res (nowhere ls.at) in
          let done = λ (u : Passed) (z : Building). let r : Passed = record
          { at = z; pending = still_by is_no_break u.pending; result = u.result } in r in
          let ends = λ (none : ℕ) (u : Passed). unless_default ps none ++ nodes_by is_break u.pending ++ u.at.node ∷ [] in
          let out = λ (none : ℕ) (u : Passed). done u (meet (ends none u) u.at) in
          let second = λ (l : Labels). out l.at.node (parts_piece call ps l.nodes l.at.node on res (nowhere l.at)) in
          ap (λ (u : AfterPart). second (tests_piece ps (temp_of u.temp) u.at)) (code_before c b)
          ∙ (ap second (tests_before ps (temp_of v.temp) v.at)
          ∙ (ap (out ls.at.node) (parts_before ps ls.nodes ls.at.node on res (nowhere ls.at))
          ∙ ap (done x) (met (ends ls.at.node x) x.at)))
      plan_before break_off on res b = refl
      plan_before go_on (ToHead h) res b = ap
          (λ (z : Building). let r : Passed = record { at = z; pending = []; result = res } in r) (gone_back h b)
      plan_before go_on Later res b = refl
      plan_before (give_back c) on res b = given_before c res b

      parts_before : (ps : Parts) (ls : List ℕ) (none : ℕ) (on : Onward) (res : Option ℕ) (b : Building)
          → parts_piece call ps ls none on res (before b) ≡ passed_after (parts_piece call ps ls none on res b)
      parts_before no_parts ls none on res b = refl
      parts_before (labelled z rest) ls none on res b =
          ap (λ (y : Building). parts_piece call rest (behind_first ls) none on res y) (met (first_of ls b.node) b)
          ∙ parts_before rest (behind_first ls) none on res (meet (first_of ls b.node) b)
      parts_before (by_default rest) ls none on res b =
          ap (λ (y : Building). parts_piece call rest ls none on res y) (met (none ∷ b.node ∷ []) b)
          ∙ parts_before rest ls none on res (meet (none ∷ b.node ∷ []) b)
      parts_before (and_plan s rest) ls none on res b =
          let x = plan_piece call s on res b in
          let out = λ (u z : Passed). let r : Passed = record
          { at = z.at; pending = u.pending ++ z.pending; result = z.result } in r in
          ap (λ (u : Passed). out u (parts_piece call rest ls none on u.result u.at)) (plan_before s on res b)
          ∙ ap (out x) (parts_before rest ls none on x.result x.at)

  -- ## Bodies

  stores_before : (laid : LaidTree) (path k : ℕ) (ts : List ℕ) (p : Place) (b : Building)
      → stores_piece laid path k ts p (before b) ≡ before (stores_piece laid path k ts p b)
  stores_before laid path k [] p b = refl
  stores_before laid path k (t ∷ ts) p b =
      let o = object_of laid path (Numbers.Local k) in
      let op = Op.Store b.temps t (scalar_at laid o 0) (Intos.Object o) p in
      let b1 = place_new (λ a. Op.Base a o) b in
      ap (λ (z : Building). stores_piece laid path (suc k) ts p (place op z)) (placed (suc b.temps) (Op.Base b.temps o) b)
      ∙ (ap (λ (z : Building). stores_piece laid path (suc k) ts p z) (placed b1.temps op b1)
      ∙ stores_before laid path (suc k) ts p (place op b1))

  fallen_before : (t : CType) (res : Option ℕ) (b : Building)
      → fallen_piece t res (before b) ≡ before (fallen_piece t res b)
  fallen_before (Types.Int t) res b = result_before res (λ r. Op.Any r (lo_of t) (hi_of t)) b
  fallen_before (Types.Pointer q) res b = result_before res (λ r. Op.Const r nothing) b
  fallen_before Types.Void res b = refl
  fallen_before (Types.Array e n) res b = refl
  fallen_before (Types.Struct k) res b = refl

  at_same : (has : Bool) (res : Option ℕ) (b : Building) → result_at has res (before b) ≡ result_at has res b
  at_same true res b = ap Some (result_same res b)
  at_same false res b = refl

  function_before : (call : Sites)
      → ((site : ℕ) (ts : List ℕ) (p : Place) (b : Building) → call site ts p (before b) ≡ part_before
      (call site ts p b))
      → (laid : LaidTree) (path : ℕ) (close : List ℕ → Building → Building)
      → ((ns : List ℕ) (b : Building) → close ns (before b) ≡ before (close ns b))
      → (t : CType) (body : Option TypedBodyTree) (b : Building)
      → function_piece call laid path close t body (before b) ≡ part_before (function_piece call laid path close t body b)
  function_before call calls laid path close closes t None b = ap
      (λ (z : Building). let r : AfterPart = record { at = z; temp = Some b.temps } in r)
      (placed (suc b.temps) (Op.Const b.temps nothing) b)
  function_before call calls laid path close closes t (Some body) b =
      let x = plan_piece call (plans laid path body.statements) Later None b in
      let y = fallen_piece t x.result x.at in
      let temp = result_at (is_value_type t) x.result x.at in
      let out = λ (v : Option ℕ) (z : Building). let r : AfterPart = record { at = z; temp = v } in r in
      let ends = λ (z : Building). close (nodes_by is_return x.pending) z in
      ap (λ (u : Passed). out (result_at (is_value_type t) u.result u.at)
      (close (nodes_by is_return u.pending) (fallen_piece t u.result u.at)))
      (plan_before call calls (plans laid path body.statements) Later None b)
      ∙ (ap (λ (v : Option ℕ). out v (ends (fallen_piece t x.result (before x.at))))
      (at_same (is_value_type t) x.result x.at)
      ∙ (ap (λ (z : Building). out temp (ends z)) (fallen_before t x.result x.at)
      ∙ ap (out temp) (closes (nodes_by is_return x.pending) y)))

  pub path_before : (laid : LaidTree) (depth path : ℕ) (b : Building)
      → path_piece function_end laid depth path (before b) ≡ part_before (path_piece function_end laid depth path b)
  path_before laid zero path b = ap
      (λ (z : Building). let r : AfterPart = record { at = z; temp = Some b.temps } in r)
      (placed (suc b.temps) (Op.Const b.temps nothing) b)
  path_before laid (suc depth) path b =
      function_before (sites_of laid (path_piece function_end laid depth) path)
      (λ site ts p c. let q = callee laid path site in
      ap (path_piece function_end laid depth q) (stores_before laid q 0 ts p c)
      ∙ path_before laid depth q (stores_piece laid q 0 ts p c))
      laid path function_end (λ ns c. met (ns ++ c.node ∷ []) c)
      (result_type laid (function_at laid path)) (function_at laid path).body b
