-- What is asked of typed trees holds of each operation that is built for them.
use Rattle.std.proofs.Common.{◌≡◌, inl, inr, ℕ, zero, suc, Bool, true, false, List, [], ◌∷◌, ◌++◌, length, refl}
use Rattle.std.proofs.Common.{subst}
use Rattle.std.specs.Prelude.{if◌then◌else◌, pos, nat_lt, Option, Some, None}
use Rattle.concrete_steps.specs.tm_terms.declared.places.Place.{Place}
use Rattle.concrete_steps.specs.tm_typed.declared.types.CType.{CType}
use Rattle.concrete_steps.specs.tm_typed.declared.types.CType.TheVariants as Types
use Rattle.concrete_steps.specs.tm_typed.declared.scopes.ObjectNumber.TheVariants.{Local}
use Rattle.concrete_steps.specs.tm_typed.Functions.{TypedBodyTree}
use Rattle.concrete_steps.specs.tm_laid.Layouts.{LaidTree, first_path, callee, object_of}
use Rattle.concrete_steps.specs.concrete_values.Values.{truth_value}
use Rattle.concrete_steps.specs.Places.{result_type}
use Rattle.concrete_steps.specs.NextAction.{function_at}
use Rattle.flow_graph.specs.declared.graphs.Edge.{Edge}
use Rattle.flow_graph.specs.declared.operations.Operation.{Operation}
use Rattle.flow_graph.specs.declared.operations.Operation.TheVariants as Op
use Rattle.flow_graph.specs.declared.operations.Test.{Test}
use Rattle.flow_graph.specs.declared.operations.Test.TheVariants as Tests
use Rattle.flow_graph.specs.Operations.{given}
use Rattle.flow_graph.specs.Graphs.{Edges, Among}
use Rattle.lowering.specs.Steps.{Steps, no_more, first_then, Step, operate, value_of, only_do, truth_of, choose}
use Rattle.lowering.specs.Steps.{choose_only, call_of, Inputs, no_inputs, and_input, Code, code, Fork, fork_by}
use Rattle.lowering.specs.Steps.{converse}
use Rattle.lowering.specs.Steps.{both_of, either_of, Plan, nothing_more, in_turn, all_steps, one_of, loop_while}
use Rattle.lowering.specs.Steps.{loop_stepping, loop_until, select, break_off, go_on, give_back, Parts, no_parts}
use Rattle.lowering.specs.Steps.{labelled, by_default, and_plan}
use Rattle.lowering.specs.Table.{plans}
use Rattle.lowering.specs.Built.{edge, at, renamed_test, renamed, Building, place_with, place, place_new, branch}
use Rattle.lowering.specs.Built.{goto, skips, meet}
use Rattle.lowering.specs.Built.{nowhere, close_loop, temp_of, operated, copied, copied_to, Sites, call_given}
use Rattle.lowering.specs.Built.{steps_piece, step_piece, inputs_piece, code_piece, fork_piece, is_break, is_continue}
use Rattle.lowering.specs.Built.{is_return, nodes_by, Onward, ToHead, Later, continued_at, place_result, tests_piece}
use Rattle.lowering.specs.Built.{unless_default, first_of, behind_first, entered, given_back, plan_piece, parts_piece}
use Rattle.lowering.specs.Built.{stores_piece, fallen_piece, function_end, task_end, function_piece, sites_of}
use Rattle.lowering.specs.Built.{path_piece}
use Rattle.lowering.specs.Built.{entry, AfterPart, graph_of}
use Rattle.lowering.proofs.Demands.{Demands, TestMeets, Meets, AreUsual, test_renamed, test_opposite, meets_renamed}
use Rattle.lowering.proofs.Demands.{StepsMeet, StepMeets, InputsMeet, CodeMeets, ForkMeets, MaybeFork, MaybeCode}
use Rattle.lowering.proofs.Demands.{PlanMeets, PartsMeet, StatementsAsk}
use Rattle.lowering.proofs.TableDemands.{plans_meet}

module _ (d : Demands) (usual : AreUsual d) where
  abbrev AllMeet : Edges → Type 0
  AllMeet [] = Unit {0}
  AllMeet (e ∷ es) = Meets d e.op × AllMeet es

  abbrev Met : Building → Type 0
  Met b = AllMeet b.edges

  all_append : (a b : Edges) → AllMeet a → AllMeet b → AllMeet (a ++ b)
  all_append [] b h k = k
  all_append (e ∷ a) b h k = (h.0, all_append a b h.1 k)

  all_skips : (ns : List ℕ) (j : ℕ) → AllMeet (skips ns j)
  all_skips [] j = tt
  all_skips (n ∷ ns) j = (tt, all_skips ns j)

  all_among : (g : Edges) → AllMeet g → (e : Edge) → Among e g → Meets d e.op
  all_among [] h e a = absurd a
  all_among (x ∷ g) h e (inl i) = subst (λ z. Meets d z.op) i h.0
  all_among (x ∷ g) h e (inr a) = all_among g h.1 e a

  place_met : (t : ℕ) (op : Operation) (b : Building) → Meets d op → Met b → Met (place_with t op b)
  place_met t op b o h = all_append b.edges (edge b.node b.nodes op ∷ []) h (o, tt)

  meet_met : (ns : List ℕ) (b : Building) → Met b → Met (meet ns b)
  meet_met ns b h = all_append b.edges (skips ns b.nodes) h (all_skips ns b.nodes)

  close_met : (head : ℕ) (outs : List ℕ) (b : Building) → Met b → Met (close_loop head outs b)
  close_met head outs b h = all_append b.edges (edge b.node head Op.Skip ∷ skips outs b.nodes) h
      (tt, all_skips outs b.nodes)

  operated_met : (ts : List ℕ) (op : Operation) (o : Option ℕ) (b : Building) → Meets d op → Met b
      → Met (operated ts op o b).at
  operated_met ts op (Some v) b w h = place_met (suc b.temps) (renamed (at ts) b.temps op) b
      (meets_renamed d (at ts) b.temps op w) h
  operated_met ts op None b w h = place_met b.temps (renamed (at ts) 0 op) b (meets_renamed d (at ts) 0 op w) h

  continued_met : (ns : List ℕ) (b : Building) → Met b → Met (continued_at ns b)
  continued_met [] b h = h
  continued_met (n ∷ ns) b h = meet_met ((n ∷ ns) ++ b.node ∷ []) b h

  result_met : (res : Option ℕ) (op : ℕ → Operation) (b : Building) → ((r : ℕ) → Meets d (op r)) → Met b
      → Met (place_result res op b)
  result_met None op b o h = place_met (suc b.temps) (op b.temps) b (o b.temps) h
  result_met (Some r) op b o h = place_met b.temps (op r) b (o r) h

  given_met : (has : Bool) (ts : List ℕ) (x : AfterPart) → Met x.at → Met (call_given has ts x).at
  given_met true ts x h = h
  given_met false ts x h = h

  truth_met_by : (holds : Bool) → d.constant (truth_value holds)
  truth_met_by true = usual.number (pos 1)
  truth_met_by false = usual.number (pos 0)

  branch_met : (test : Test) (b : Building) → TestMeets d test → Met b → Met (branch test b)
  branch_met test b w h = all_append b.edges _ h (w, (test_opposite d usual test w, tt))

  tests_met : (S : ℕ → Type 0) (ps : Parts) → PartsMeet d S ps → (t : ℕ) (b : Building) → Met b
      → Met (tests_piece ps t b).at
  tests_met S no_parts w t b h = h
  tests_met S (labelled z rest) w t b h =
      tests_met S rest w.1 t (goto (suc b.nodes) (branch (Tests.Case true z t) b))
      (branch_met (Tests.Case true z t) b w.0 h)
  tests_met S (by_default rest) w t b h = tests_met S rest w t b h
  tests_met S (and_plan s rest) w t b h = tests_met S rest w.1 t b h

  module _ (S : ℕ → Type 0) (call : Sites) (call_met : (site : ℕ) → S site → (ts : List ℕ) (p : Place) (b : Building)
      → Met b → Met (call site ts p b).at) where
    mutual
      steps_met : (steps : Steps) → StepsMeet d S steps → (ts : List ℕ) (b : Building) → Met b
          → Met (steps_piece call steps ts b).at
      steps_met no_more w ts b h = h
      steps_met (first_then s rest) w ts b h =
          let x = step_piece call s ts b in
          steps_met rest w.1 x.temps x.at (step_met s w.0 ts b h)

      step_met : (s : Step) → StepMeets d S s → (ts : List ℕ) (b : Building) → Met b → Met (step_piece call s ts b).at
      step_met (operate op) w ts b h = operated_met ts op (given op) b w h
      step_met (value_of c) w ts b h = code_met c w b h
      step_met (only_do c) w ts b h = code_met c w b h
      step_met (truth_of f) w ts b h =
          let o = fork_piece call f b in
          let one = λ (t : ℕ). Op.Const t (truth_value true) in
          let other = Op.Const o.at.temps (truth_value false) in
          let b1 = place_new one o.at in
          let b2 = place other (goto o.other b1) in
          meet_met (b1.node ∷ b2.node ∷ []) b2
          (place_met (suc o.at.temps) other (goto o.other b1) (truth_met_by false)
          (place_met (suc o.at.temps) (one o.at.temps) o.at (truth_met_by true) (fork_met f w b h)))
      step_met (choose f x y) w ts b h =
          let o = fork_piece call f b in
          let v = code_piece call x o.at in
          let b1 = copied v in
          let u = code_piece call y (goto o.other b1) in
          let b2 = copied_to v.at.temps u in
          meet_met (b1.node ∷ b2.node ∷ []) b2 (place_met u.at.temps (Op.Copy v.at.temps (temp_of u.temp)) u.at tt
          (code_met y w.2 (goto o.other b1) (place_met (suc v.at.temps) (Op.Copy v.at.temps (temp_of v.temp)) v.at tt
          (code_met x w.1 o.at (fork_met f w.0 b h)))))
      step_met (choose_only f x y) w ts b h =
          let o = fork_piece call f b in
          let b1 = (code_piece call x o.at).at in
          let b2 = (code_piece call y (goto o.other b1)).at in
          meet_met (b1.node ∷ b2.node ∷ []) b2
          (code_met y w.2 (goto o.other b1) (code_met x w.1 o.at (fork_met f w.0 b h)))
      step_met (call_of has site es p) w ts b h =
          let x = inputs_piece call es b in
          given_met has ts (call site x.temps p x.at) (call_met site w.0 x.temps p x.at (inputs_met es w.1 b h))

      inputs_met : (es : Inputs) → InputsMeet d S es → (b : Building) → Met b → Met (inputs_piece call es b).at
      inputs_met no_inputs w b h = h
      inputs_met (and_input c es) w b h = inputs_met es w.1 (code_piece call c b).at (code_met c w.0 b h)

      code_met : (c : Code) → CodeMeets d S c → (b : Building) → Met b → Met (code_piece call c b).at
      code_met (code steps result) w b h = steps_met steps w [] b h

      fork_met : (f : Fork) → ForkMeets d S f → (b : Building) → Met b → Met (fork_piece call f b).at
      fork_met (fork_by steps test) w b h =
          let x = steps_piece call steps [] b in
          branch_met (renamed_test (at x.temps) test) x.at (test_renamed d (at x.temps) test w.1)
          (steps_met steps w.0 [] b h)
      fork_met (converse f) w b h = fork_met f w b h
      fork_met (both_of f g) w b h =
          let o = fork_piece call f b in
          let q = fork_piece call g o.at in
          meet_met (o.other ∷ q.other ∷ []) q.at (fork_met g w.1 o.at (fork_met f w.0 b h))
      fork_met (either_of f g) w b h =
          let o = fork_piece call f b in
          let q = fork_piece call g (goto o.other o.at) in
          meet_met (o.at.node ∷ q.at.node ∷ []) q.at (fork_met g w.1 (goto o.other o.at) (fork_met f w.0 b h))

    entered_met : (f : Option Fork) → MaybeFork d S f → (b : Building) → Met b → Met (entered call f b).at
    entered_met None w b h = h
    entered_met (Some f) w b h = fork_met f w b h

    back_met : (c : Option Code) → MaybeCode d S c → (res : Option ℕ) (b : Building) → Met b
        → Met (given_back call c res b).at
    back_met None w res b h = h
    back_met (Some c) w res b h =
        let x = code_piece call c b in
        result_met res (λ t. Op.Copy t (temp_of x.temp)) x.at (λ r. tt) (code_met c w b h)

    mutual
      plan_met : (s : Plan) → PlanMeets d S s → (onward : Onward) (res : Option ℕ) (b : Building) → Met b
          → Met (plan_piece call s onward res b).at
      plan_met nothing_more w onward res b h = h
      plan_met (in_turn s s') w onward res b h =
          let x = plan_piece call s onward res b in
          plan_met s' w.1 onward x.result x.at (plan_met s w.0 onward res b h)
      plan_met (all_steps steps) w onward res b h = steps_met steps w [] b h
      plan_met (one_of f s s') w onward res b h =
          let o = fork_piece call f b in
          let x = plan_piece call s onward res o.at in
          let y = plan_piece call s' onward x.result (goto o.other x.at) in
          meet_met (x.at.node ∷ y.at.node ∷ []) y.at
          (plan_met s' w.2 onward x.result (goto o.other x.at)
          (plan_met s w.1 onward res o.at (fork_met f w.0 b h)))
      plan_met (loop_while f s) w onward res b h =
          let h0 = place Op.Skip b in
          let o = fork_piece call f h0 in
          let x = plan_piece call s (ToHead h0.node) res o.at in
          close_met h0.node (o.other ∷ nodes_by is_break x.pending) x.at
          (plan_met s w.1 (ToHead h0.node) res o.at (fork_met f w.0 h0 (place_met b.temps Op.Skip b tt h)))
      plan_met (loop_stepping f step s) w onward res b h =
          let h0 = place Op.Skip b in
          let o = entered call f h0 in
          let x = plan_piece call s Later res o.at in
          let c = continued_at (nodes_by is_continue x.pending) x.at in
          let y = (steps_piece call step [] c).at in
          close_met h0.node (o.outs ++ nodes_by is_break x.pending) y (steps_met step w.1 [] c
          (continued_met (nodes_by is_continue x.pending) x.at
          (plan_met s w.2 Later res o.at (entered_met f w.0 h0 (place_met b.temps Op.Skip b tt h)))))
      plan_met (loop_until s f) w onward res b h =
          let h0 = place Op.Skip b in
          let x = plan_piece call s Later res h0 in
          let c = continued_at (nodes_by is_continue x.pending) x.at in
          let o = fork_piece call f c in
          close_met h0.node (nodes_by is_break x.pending ++ o.other ∷ []) o.at (fork_met f w.1 c
          (continued_met (nodes_by is_continue x.pending) x.at
          (plan_met s w.0 Later res h0 (place_met b.temps Op.Skip b tt h))))
      plan_met (select c ps) w onward res b h =
          let v = code_piece call c b in
          let ls = tests_piece ps (temp_of v.temp) v.at in
          let x = parts_piece call ps ls.nodes ls.at.node onward res (nowhere ls.at) in
          meet_met (unless_default ps ls.at.node ++ nodes_by is_break x.pending ++ x.at.node ∷ []) x.at
          (parts_met ps w.1 ls.nodes ls.at.node onward res (nowhere ls.at)
          (tests_met S ps w.1 (temp_of v.temp) v.at (code_met c w.0 b h)))
      plan_met break_off w onward res b h = h
      plan_met go_on w (ToHead n) res b h = all_append b.edges (edge b.node n Op.Skip ∷ []) h (tt, tt)
      plan_met go_on w Later res b h = h
      plan_met (give_back c) w onward res b h = back_met c w res b h

      parts_met : (ps : Parts) → PartsMeet d S ps → (ls : List ℕ) (none : ℕ) (onward : Onward) (res : Option ℕ)
          (b : Building) → Met b → Met (parts_piece call ps ls none onward res b).at
      parts_met no_parts w ls none onward res b h = h
      parts_met (labelled z rest) w ls none onward res b h =
          parts_met rest w.1 (behind_first ls) none onward res (meet (first_of ls b.node) b)
          (meet_met (first_of ls b.node) b h)
      parts_met (by_default rest) w ls none onward res b h =
          parts_met rest w ls none onward res (meet (none ∷ b.node ∷ []) b) (meet_met (none ∷ b.node ∷ []) b h)
      parts_met (and_plan s rest) w ls none onward res b h =
          let x = plan_piece call s onward res b in
          parts_met rest w.1 ls none onward x.result x.at (plan_met s w.0 onward res b h)

-- ## Graphs

-- The law of induction: where call paths of which this holds lead along the sites of their bodies to such call paths,
-- and what is asked holds of the bodies on them, it holds of each edge that is built.
module _ (d : Demands) (usual : AreUsual d) (laid : LaidTree) (On : ℕ → Type 0) (S L : ℕ → ℕ → Type 0)
    (goes : (path site : ℕ) → On path → S path site → On (callee laid path site))
    (local : (path k : ℕ) → On path → L path k → d.clears (object_of laid path (Local k)))
    (asked : (path : ℕ) → On path → (b : TypedBodyTree) → (function_at laid path).body ≡ Some b
    → StatementsAsk d (S path) (L path) b.statements) where
  abbrev MetBy : Building → Type 0
  MetBy b = Met d usual b

  stores_met : (path k : ℕ) (ts : List ℕ) (p : Place) (b : Building) → MetBy b → MetBy (stores_piece laid path k ts p b)
  stores_met path k [] p b h = h
  stores_met path k (t ∷ ts) p b h =
      let b1 = place_new (λ a. Op.Base a (object_of laid path (Local k))) b in
      stores_met path (suc k) ts p (place _ b1)
      (place_met d usual b1.temps _ b1 tt
      (place_met d usual (suc b.temps) (Op.Base b.temps (object_of laid path (Local k))) b tt h))

  fallen_met : (t : CType) (res : Option ℕ) (b : Building) → MetBy b → MetBy (fallen_piece t res b)
  fallen_met (Types.Int t) res b h = result_met d usual res _ b (λ r. tt) h
  fallen_met (Types.Pointer q) res b h = result_met d usual res _ b (λ r. usual.invalid) h
  fallen_met Types.Void res b h = h
  fallen_met (Types.Array e n) res b h = h
  fallen_met (Types.Struct n) res b h = h

  abbrev Closes : (List ℕ → Building → Building) → Type 0
  Closes close = (ns : List ℕ) (b : Building) → MetBy b → MetBy (close ns b)

  function_met : (path : ℕ) (inner : ℕ → Building → AfterPart) → On path
      → ((path : ℕ) → On path → (b : Building) → MetBy b → MetBy (inner path b).at)
      → (close : List ℕ → Building → Building) → Closes close → (t : CType) (body : Option TypedBodyTree)
      → (function_at laid path).body ≡ body → (b : Building) → MetBy b
      → MetBy (function_piece (sites_of laid inner path) laid path close t body b).at
  function_met path inner is inside close closes t None e b h =
      place_met d usual (suc b.temps) _ b usual.invalid h
  function_met path inner is inside close closes t (Some body) e b h =
      let call = sites_of laid inner path in
      let x = plan_piece call (plans laid path body.statements) Later None b in
      closes (nodes_by is_return x.pending) (fallen_piece t x.result x.at) (fallen_met t x.result x.at
      (plan_met d usual (S path) call
      (λ site s ts p c k. inside (callee laid path site) (goes path site is s)
      (stores_piece laid (callee laid path site) 0 ts p c) (stores_met (callee laid path site) 0 ts p c k))
      (plans laid path body.statements)
      (plans_meet d usual (S path) laid path (L path) (λ k l. local path k is l) body.statements (asked path is body e))
      Later None b h))

  path_met : (close : List ℕ → Building → Building) → Closes close → (depth path : ℕ) → On path → (b : Building)
      → MetBy b → MetBy (path_piece close laid depth path b).at
  path_met close closes zero path is b h = place_met d usual (suc b.temps) _ b usual.invalid h
  path_met close closes (suc depth) path is b h =
      function_met path (path_piece function_end laid depth) is
      (λ path' is' c k. path_met function_end (λ ns e l. meet_met d usual (ns ++ e.node ∷ []) e l) depth path' is' c k)
      close closes (result_type laid (function_at laid path)) (function_at laid path).body refl b h

  closes_by : (t : Bool) → Closes (if t then task_end else function_end)
  closes_by true ns b h = continued_met d usual ns b h
  closes_by false ns b h = meet_met d usual (ns ++ b.node ∷ []) b h

  pub graph_meets : (body : ℕ) → On (first_path laid body) → (e : Edge) → Among e (graph_of laid body) → Meets d e.op
  graph_meets body is =
      all_among d usual (graph_of laid body)
      (path_met (if nat_lt body (length laid.file.tasks) then task_end else function_end)
      (closes_by (nat_lt body (length laid.file.tasks)))
      (length laid.file.functions) (first_path laid body) is entry tt)
