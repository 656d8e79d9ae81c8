-- How many nodes and temporaries are made does not depend on where they begin.
use Rattle.std.proofs.Common.{◌≡◌, ℕ, zero, suc, ◌+◌, Bool, true, false, List, [], ◌∷◌, ◌++◌, length, refl, ap, sym, ◌∙◌}
use Rattle.std.proofs.Common.{arith, subst}
use Rattle.std.specs.Prelude.{Option, Some, None, option_map, if◌then◌else◌}
use Rattle.tm_terms.specs.declared.places.Place.{Place}
use Rattle.tm_typed.specs.declared.types.CType.{CType}
use Rattle.tm_typed.specs.declared.types.CType.TheVariants as Types
use Rattle.tm_typed.specs.declared.scopes.ObjectNumber.TheVariants as Numbers
use Rattle.tm_typed.specs.Functions.{TypedBodyTree}
use Rattle.tm_laid.specs.Layouts.{LaidTree, callee, object_of}
use Rattle.concrete_values.specs.Values.{nothing}
use Rattle.lowering.specs.concrete_steps.Places.{result_type}
use Rattle.lowering.specs.concrete_steps.NextAction.{scalar_at, function_at}
use Rattle.flow_graph.specs.declared.operations.Test.{Test}
use Rattle.flow_graph.specs.declared.operations.Test.TheVariants as Tests
use Rattle.flow_graph.specs.declared.operations.Into.TheVariants as Intos
use Rattle.flow_graph.specs.declared.operations.Operation.{Operation}
use Rattle.flow_graph.specs.declared.operations.Operation.TheVariants as Op
use Rattle.flow_graph.specs.Operations.{given}
use Rattle.tm_cint.specs.IntTypes.{lo_of, hi_of}
use Rattle.lowering.specs.Steps.{Steps, no_more, first_then, Step, operate, value_of, only_do, truth_of, choose}
use Rattle.lowering.specs.Steps.{choose_only, call_of, Inputs, no_inputs, and_input, Code, code, Fork, fork_by}
use Rattle.lowering.specs.Steps.{converse, both_of, either_of, Plan, nothing_more, in_turn, all_steps, one_of}
use Rattle.lowering.specs.Steps.{loop_while, loop_stepping, loop_until, select, break_off, go_on, give_back, Parts}
use Rattle.lowering.specs.Steps.{no_parts, labelled, by_default, and_plan}
use Rattle.lowering.specs.Table.{is_value_type, plans}
use Rattle.lowering.specs.Built.{at, renamed, renamed_test, Building, place, place_new, branch, goto}
use Rattle.lowering.specs.Built.{meet, nowhere, back_to, close_loop, AfterPart, Forked, AfterSteps, temp_of}
use Rattle.lowering.specs.Built.{operated, truth_met, copied, copied_to, Sites, call_given, steps_piece, step_piece}
use Rattle.lowering.specs.Built.{inputs_piece, code_piece, fork_piece, Passed, Onward, ToHead, Later, continued_at}
use Rattle.lowering.specs.Built.{Way, Pending, place_result, result_of, is_break, is_continue, is_return}
use Rattle.lowering.specs.Built.{is_no_break, nodes_by, still_by, first_of, behind_first}
use Rattle.lowering.specs.Built.{unless_default, tests_piece, entered, given_back, plan_piece, parts_piece}
use Rattle.lowering.specs.Built.{stores_piece, fallen_piece, result_at, function_end, function_piece}
use Rattle.lowering.specs.Built.{sites_of, path_piece}

-- the ways of those that wait
abbrev ways : List Pending → List Way
ways [] = []
ways (q ∷ ps) = q.way ∷ ways ps

abbrev passing : (Way → Bool) → List Way → List Way
passing f [] = []
passing f (w ∷ ws) = if f w then w ∷ passing f ws else passing f ws

ways_append : (a b : List Pending) → ways (a ++ b) ≡ ways a ++ ways b
ways_append [] b = refl
ways_append (q ∷ a) b = ap (λ z. q.way ∷ z) (ways_append a b)

node_count : (f : Way → Bool) (ps : List Pending) → length (nodes_by f ps) ≡ length (passing f (ways ps))
node_count f [] = refl
node_count f (q ∷ ps) = by_case (f q.way) (node_count f ps) where
  by_case : (t : Bool) → length (nodes_by f ps) ≡ length (passing f (ways ps))
      → length (if t then q.node ∷ nodes_by f ps else nodes_by f ps)
      ≡ length (if t then q.way ∷ passing f (ways ps) else passing f (ways ps))
  by_case true h = ap suc h
  by_case false h = h

still_ways : (f : Way → Bool) (ps : List Pending) → ways (still_by f ps) ≡ passing f (ways ps)
still_ways f [] = refl
still_ways f (q ∷ ps) = by_case (f q.way) (still_ways f ps) where
  by_case : (t : Bool) → ways (still_by f ps) ≡ passing f (ways ps)
      → ways (if t then q ∷ still_by f ps else still_by f ps)
      ≡ (if t then q.way ∷ passing f (ways ps) else passing f (ways ps))
  by_case true h = ap (λ z. q.way ∷ z) h
  by_case false h = h

module _ (n t : ℕ) where
  -- so many nodes and temporaries further
  pub record Further (b c : Building) : Type 0 where
    pub nodes : c.nodes ≡ n + b.nodes
    pub temps : c.temps ≡ t + b.temps

  abbrev pub moved : Option ℕ → Option ℕ
  moved res = option_map (λ r. t + r) res

  one_further : {b c : Building} (op op' : Operation) → Further b c → Further (place op b) (place op' c)
  one_further op op' h = record { nodes = omega (arith, h.nodes); temps = h.temps }

  new_further : {b c : Building} (op op' : ℕ → Operation) → Further b c → Further (place_new op b) (place_new op' c)
  new_further op op' h = record { nodes = omega (arith, h.nodes); temps = omega (arith, h.temps) }

  branch_further : {b c : Building} (x y : Test) → Further b c → Further (branch x b) (branch y c)
  branch_further x y h = record { nodes = omega (arith, h.nodes); temps = h.temps }

  goto_further : {b c : Building} (k l : ℕ) → Further b c → Further (goto k b) (goto l c)
  goto_further k l h = record { nodes = h.nodes; temps = h.temps }

  meet_further : {b c : Building} (ks ls : List ℕ) → Further b c → Further (meet ks b) (meet ls c)
  meet_further ks ls h = record { nodes = omega (arith, h.nodes); temps = h.temps }

  nowhere_further : {b c : Building} → Further b c → Further (nowhere b) (nowhere c)
  nowhere_further h = record { nodes = omega (arith, h.nodes); temps = h.temps }

  back_further : {b c : Building} (k l : ℕ) → Further b c → Further (back_to k b) (back_to l c)
  back_further k l h = record { nodes = omega (arith, h.nodes); temps = h.temps }

  close_further : {b c : Building} (k l : ℕ) (ks ls : List ℕ) → Further b c → Further (close_loop k ks b) (close_loop l ls c)
  close_further k l ks ls h = record { nodes = omega (arith, h.nodes); temps = h.temps }

  operated_further : {b c : Building} (ts us : List ℕ) (op : Operation) (g : Option ℕ) → Further b c
      → Further (operated ts op g b).at (operated us op g c).at
  operated_further ts us op (Some v) h = new_further (λ k. renamed (at ts) k op) (λ k. renamed (at us) k op) h
  operated_further ts us op None h = one_further (renamed (at ts) 0 op) (renamed (at us) 0 op) h

  truth_further : (o q : Forked) → Further o.at q.at → Further (truth_met o) (truth_met q)
  truth_further o q h = record { nodes = omega (arith, h.nodes); temps = omega (arith, h.temps) }

  call_further : (has : Bool) (ts us : List ℕ) (x y : AfterPart) → Further x.at y.at
      → Further (call_given has ts x).at (call_given has us y).at
  call_further true ts us x y h = h
  call_further false ts us x y h = h

  continued_further : {b c : Building} (ks ls : List ℕ) → length ls ≡ length ks → Further b c
      → Further (continued_at ks b) (continued_at ls c)
  continued_further [] [] e h = h
  continued_further [] (l ∷ ls) e h = absurd (omega (arith, e))
  continued_further (k ∷ ks) [] e h = absurd (omega (arith, e))
  continued_further {b} {c} (k ∷ ks) (l ∷ ls) e h = meet_further ((k ∷ ks) ++ b.node ∷ []) ((l ∷ ls) ++ c.node ∷ []) h

  result_further : {b c : Building} (res : Option ℕ) (op op' : ℕ → Operation) → Further b c
      → Further (place_result res op b) (place_result (moved res) op' c)
  result_further None op op' h = new_further op op' h
  result_further (Some r) op op' h = one_further (op r) (op' (t + r)) h

  result_moved : {b c : Building} (res : Option ℕ) → Further b c → result_of (moved res) c ≡ t + result_of res b
  result_moved None h = h.temps
  result_moved (Some r) h = refl

  tests_further : (ps : Parts) (v w : ℕ) {b c : Building} → Further b c
      → Further (tests_piece ps v b).at (tests_piece ps w c).at
  tests_further no_parts v w h = h
  tests_further (labelled z rest) v w {b} {c} h = tests_further rest v w
      (goto_further (suc b.nodes) (suc c.nodes) (branch_further (Tests.Case true z v) (Tests.Case true z w) h))
  tests_further (by_default rest) v w h = tests_further rest v w h
  tests_further (and_plan s rest) v w h = tests_further rest v w h

  -- the same, and one temporary for each argument
  record InputsFurther (x y : AfterSteps) : Type 0 where
    pub at : Further x.at y.at
    pub count : length y.temps ≡ length x.temps

  record PassedFurther (x y : Passed) : Type 0 where
    pub at : Further x.at y.at
    pub ways : ways y.pending ≡ ways x.pending
    pub result : y.result ≡ moved x.result

  abbrev IsAlike : Onward → Onward → Type 0
  IsAlike (ToHead h) (ToHead k) = Unit {0}
  IsAlike Later Later = Unit {0}
  IsAlike _ _ = ⊥

  by_count : (f : Way → Bool) (ps qs : List Pending) → ways qs ≡ ways ps
      → length (nodes_by f qs) ≡ length (nodes_by f ps)
  by_count f ps qs e = node_count f qs ∙ (ap (λ ws. length (passing f ws)) e ∙ sym (node_count f ps))

  still_same : (f : Way → Bool) (ps qs : List Pending) → ways qs ≡ ways ps
      → ways (still_by f qs) ≡ ways (still_by f ps)
  still_same f ps qs e = still_ways f qs ∙ (ap (passing f) e ∙ sym (still_ways f ps))

  both_ways : (a b c d : List Pending) → ways c ≡ ways a → ways d ≡ ways b → ways (c ++ d) ≡ ways (a ++ b)
  both_ways a b c d h k = ways_append c d ∙ (ap (λ z. z ++ ways d) h ∙ (ap (λ z. ways a ++ z) k
      ∙ sym (ways_append a b)))

  module _ (call : Sites)
      (calls : (site : ℕ) (ts us : List ℕ) (p : Place) (b c : Building) → length us ≡ length ts → Further b c
      → Further (call site ts p b).at (call site us p c).at) where
    mutual
      steps_further : (ss : Steps) (ts us : List ℕ) {b c : Building} → Further b c
          → Further (steps_piece call ss ts b).at (steps_piece call ss us c).at
      steps_further no_more ts us h = h
      steps_further (first_then s rest) ts us {b} {c} h = steps_further rest (step_piece call s ts b).temps
          (step_piece call s us c).temps (step_further s ts us h)

      step_further : (s : Step) (ts us : List ℕ) {b c : Building} → Further b c
          → Further (step_piece call s ts b).at (step_piece call s us c).at
      step_further (operate op) ts us h = operated_further ts us op (given op) h
      step_further (value_of k) ts us h = code_further k h
      step_further (only_do k) ts us h = code_further k h
      step_further (truth_of f) ts us {b} {c} h = truth_further (fork_piece call f b) (fork_piece call f c)
          (fork_further f h)
      step_further (choose f x y) ts us {b} {c} h =
          let o = fork_piece call f b in
          let o' = fork_piece call f c in
          let v = code_piece call x o.at in
          let v' = code_piece call x o'.at in
          let m = new_further (λ k. Op.Copy k (temp_of v.temp)) (λ k. Op.Copy k (temp_of v'.temp))
          (code_further x (fork_further f h)) in
          let w = code_piece call y (goto o.other (copied v)) in
          let w' = code_piece call y (goto o'.other (copied v')) in
          meet_further ((copied v).node ∷ (copied_to v.at.temps w).node ∷ [])
          ((copied v').node ∷ (copied_to v'.at.temps w').node ∷ [])
          (one_further (Op.Copy v.at.temps (temp_of w.temp)) (Op.Copy v'.at.temps (temp_of w'.temp))
          (code_further y (goto_further o.other o'.other m)))
      step_further (choose_only f x y) ts us {b} {c} h =
          let o = fork_piece call f b in
          let o' = fork_piece call f c in
          let v = code_piece call x o.at in
          let v' = code_piece call x o'.at in
          let w = code_piece call y (goto o.other v.at) in
          let w' = code_piece call y (goto o'.other v'.at) in
          meet_further (v.at.node ∷ w.at.node ∷ []) (v'.at.node ∷ w'.at.node ∷ [])
          (code_further y (goto_further o.other o'.other (code_further x (fork_further f h))))
      step_further (call_of has site es p) ts us {b} {c} h =
          let x = inputs_piece call es b in
          let y = inputs_piece call es c in
          let k = inputs_further es h in
          call_further has ts us (call site x.temps p x.at) (call site y.temps p y.at)
          (calls site x.temps y.temps p x.at y.at k.count k.at)

      inputs_further : (es : Inputs) {b c : Building} → Further b c
          → InputsFurther (inputs_piece call es b) (inputs_piece call es c)
      inputs_further no_inputs h = record { at = h; count = refl }
      inputs_further (and_input k rest) h =
          let r = inputs_further rest (code_further k h) in record { at = r.at; count = ap suc r.count }

      code_further : (k : Code) {b c : Building} → Further b c
          → Further (code_piece call k b).at (code_piece call k c).at
      code_further (code ss result) h = steps_further ss [] [] h

      fork_further : (f : Fork) {b c : Building} → Further b c
          → Further (fork_piece call f b).at (fork_piece call f c).at
      fork_further (fork_by ss test) {b} {c} h =
          branch_further (renamed_test (at (steps_piece call ss [] b).temps) test)
          (renamed_test (at (steps_piece call ss [] c).temps) test) (steps_further ss [] [] h)
      fork_further (converse f) {b} {c} h = goto_further (fork_piece call f b).other (fork_piece call f c).other
          (fork_further f h)
      fork_further (both_of f g) {b} {c} h =
          let o = fork_piece call f b in
          let o' = fork_piece call f c in
          let q = fork_piece call g o.at in
          let q' = fork_piece call g o'.at in
          goto_further q.at.node q'.at.node
          (meet_further (o.other ∷ q.other ∷ []) (o'.other ∷ q'.other ∷ []) (fork_further g (fork_further f h)))
      fork_further (either_of f g) {b} {c} h =
          let o = fork_piece call f b in
          let o' = fork_piece call f c in
          let q = fork_piece call g (goto o.other o.at) in
          let q' = fork_piece call g (goto o'.other o'.at) in
          meet_further (o.at.node ∷ q.at.node ∷ []) (o'.at.node ∷ q'.at.node ∷ [])
          (fork_further g (goto_further o.other o'.other (fork_further f h)))

    entered_further : (f : Option Fork) {b c : Building} → Further b c
        → Further (entered call f b).at (entered call f c).at
    entered_further None h = h
    entered_further (Some f) h = fork_further f h

    given_further : (k : Option Code) (res : Option ℕ) {b c : Building} → Further b c
        → PassedFurther (given_back call k res b) (given_back call k (moved res) c)
    given_further None res h = record { at = nowhere_further h; ways = refl; result = refl }
    given_further (Some k) res {b} {c} h =
        let x = code_piece call k b in
        let y = code_piece call k c in
        let m = code_further k h in
        record {
          at = nowhere_further
              (result_further res (λ r. Op.Copy r (temp_of x.temp)) (λ r. Op.Copy r (temp_of y.temp)) m);
          ways = refl;
          result = ap Some (result_moved res m);
        }

    mutual
      plan_further : (s : Plan) (on on' : Onward) → IsAlike on on' → (res res' : Option ℕ) → res' ≡ moved res
          → {b c : Building} → Further b c
          → PassedFurther (plan_piece call s on res b) (plan_piece call s on' res' c)
      plan_further nothing_more on on' a res res' e h = record { at = h; ways = refl; result = e }
      plan_further (in_turn s s') on on' a res res' e {b} {c} h =
          let x = plan_piece call s on res b in
          let x' = plan_piece call s on' res' c in
          let i = plan_further s on on' a res res' e h in
          let j = plan_further s' on on' a x.result x'.result i.result i.at in
          record {
            at = j.at;
            ways = both_ways x.pending (plan_piece call s' on x.result x.at).pending x'.pending
                (plan_piece call s' on' x'.result x'.at).pending i.ways j.ways;
            result = j.result;
          }
      plan_further (all_steps ss) on on' a res res' e h =
          record { at = steps_further ss [] [] h; ways = refl; result = e }
      plan_further (one_of f s s') on on' a res res' e {b} {c} h =
          let o = fork_piece call f b in
          let o' = fork_piece call f c in
          let x = plan_piece call s on res o.at in
          let x' = plan_piece call s on' res' o'.at in
          let y = plan_piece call s' on x.result (goto o.other x.at) in
          let y' = plan_piece call s' on' x'.result (goto o'.other x'.at) in
          let i = plan_further s on on' a res res' e (fork_further f h) in
          let j = plan_further s' on on' a x.result x'.result i.result (goto_further o.other o'.other i.at) in
          record {
            at = meet_further (x.at.node ∷ y.at.node ∷ []) (x'.at.node ∷ y'.at.node ∷ []) j.at;
            ways = both_ways x.pending y.pending x'.pending y'.pending i.ways j.ways;
            result = j.result;
          }
      plan_further (loop_while f s) on on' a res res' e {b} {c} h =
          let k = place Op.Skip b in
          let k' = place Op.Skip c in
          let o = fork_piece call f k in
          let o' = fork_piece call f k' in
          let x = plan_piece call s (ToHead k.node) res o.at in
          let x' = plan_piece call s (ToHead k'.node) res' o'.at in
          let i = plan_further s (ToHead k.node) (ToHead k'.node) tt res res' e
          (fork_further f (one_further Op.Skip Op.Skip h)) in
          record {
            at = close_further k.node k'.node (o.other ∷ nodes_by is_break x.pending)
                (o'.other ∷ nodes_by is_break x'.pending) i.at;
            ways = still_same is_return x.pending x'.pending i.ways;
            result = i.result;
          }
      plan_further (loop_stepping f step s) on on' a res res' e {b} {c} h =
          let k = place Op.Skip b in
          let k' = place Op.Skip c in
          let o = entered call f k in
          let o' = entered call f k' in
          let x = plan_piece call s Later res o.at in
          let x' = plan_piece call s Later res' o'.at in
          let i = plan_further s Later Later tt res res' e (entered_further f (one_further Op.Skip Op.Skip h)) in
          let m = continued_further (nodes_by is_continue x.pending) (nodes_by is_continue x'.pending)
          (by_count is_continue x.pending x'.pending i.ways) i.at in
          record {
            at = close_further k.node k'.node (o.outs ++ nodes_by is_break x.pending)
                (o'.outs ++ nodes_by is_break x'.pending) (steps_further step [] [] m);
            ways = still_same is_return x.pending x'.pending i.ways;
            result = i.result;
          }
      plan_further (loop_until s f) on on' a res res' e {b} {c} h =
          let k = place Op.Skip b in
          let k' = place Op.Skip c in
          let x = plan_piece call s Later res k in
          let x' = plan_piece call s Later res' k' in
          let i = plan_further s Later Later tt res res' e (one_further Op.Skip Op.Skip h) in
          let m = continued_further (nodes_by is_continue x.pending) (nodes_by is_continue x'.pending)
          (by_count is_continue x.pending x'.pending i.ways) i.at in
          let o = fork_piece call f (continued_at (nodes_by is_continue x.pending) x.at) in
          let o' = fork_piece call f (continued_at (nodes_by is_continue x'.pending) x'.at) in
          record {
            at = close_further k.node k'.node (nodes_by is_break x.pending ++ o.other ∷ [])
                (nodes_by is_break x'.pending ++ o'.other ∷ []) (fork_further f m);
            ways = still_same is_return x.pending x'.pending i.ways;
            result = i.result;
          }
      plan_further (select k ps) on on' a res res' e {b} {c} h =
          let v = code_piece call k b in
          let v' = code_piece call k c in
          let ls = tests_piece ps (temp_of v.temp) v.at in
          let ls' = tests_piece ps (temp_of v'.temp) v'.at in
          let x = parts_piece call ps ls.nodes ls.at.node on res (nowhere ls.at) in
          let x' = parts_piece call ps ls'.nodes ls'.at.node on' res' (nowhere ls'.at) in
          let i = parts_further ps ls.nodes ls'.nodes ls.at.node ls'.at.node on on' a res res' e
          (nowhere_further (tests_further ps (temp_of v.temp) (temp_of v'.temp) (code_further k h))) in
          record {
            at = meet_further (unless_default ps ls.at.node ++ nodes_by is_break x.pending ++ x.at.node ∷ [])
                (unless_default ps ls'.at.node ++ nodes_by is_break x'.pending ++ x'.at.node ∷ []) i.at;
            ways = still_same is_no_break x.pending x'.pending i.ways;
            result = i.result;
          }
      plan_further break_off on on' a res res' e h = record { at = nowhere_further h; ways = refl; result = e }
      plan_further go_on (ToHead m) (ToHead k) a res res' e h =
          record { at = back_further m k h; ways = refl; result = e }
      plan_further go_on (ToHead m) Later a res res' e h = absurd a
      plan_further go_on Later (ToHead k) a res res' e h = absurd a
      plan_further go_on Later Later a res res' e h = record { at = nowhere_further h; ways = refl; result = e }
      plan_further (give_back k) on on' a res res' e {b} {c} h =
          subst (λ z. PassedFurther (given_back call k res b) (given_back call k z c)) (sym e) (given_further k res h)

      parts_further : (ps : Parts) (ls ks : List ℕ) (none other : ℕ) (on on' : Onward) → IsAlike on on'
          → (res res' : Option ℕ) → res' ≡ moved res → {b c : Building} → Further b c
          → PassedFurther (parts_piece call ps ls none on res b) (parts_piece call ps ks other on' res' c)
      parts_further no_parts ls ks none other on on' a res res' e h = record { at = h; ways = refl; result = e }
      parts_further (labelled z rest) ls ks none other on on' a res res' e {b} {c} h =
          parts_further rest (behind_first ls) (behind_first ks) none other on on' a res res' e
          (meet_further (first_of ls b.node) (first_of ks c.node) h)
      parts_further (by_default rest) ls ks none other on on' a res res' e {b} {c} h =
          parts_further rest ls ks none other on on' a res res' e
          (meet_further (none ∷ b.node ∷ []) (other ∷ c.node ∷ []) h)
      parts_further (and_plan s rest) ls ks none other on on' a res res' e {b} {c} h =
          let x = plan_piece call s on res b in
          let x' = plan_piece call s on' res' c in
          let i = plan_further s on on' a res res' e h in
          let j = parts_further rest ls ks none other on on' a x.result x'.result i.result i.at in
          record {
            at = j.at;
            ways = both_ways x.pending (parts_piece call rest ls none on x.result x.at).pending x'.pending
                (parts_piece call rest ks other on' x'.result x'.at).pending i.ways j.ways;
            result = j.result;
          }

  -- ## Bodies

  stores_further : (laid : LaidTree) (path k : ℕ) (ts us : List ℕ) (p : Place) {b c : Building}
      → length us ≡ length ts → Further b c
      → Further (stores_piece laid path k ts p b) (stores_piece laid path k us p c)
  stores_further laid path k [] [] p e h = h
  stores_further laid path k [] (u ∷ us) p e h = absurd (omega (arith, e))
  stores_further laid path k (v ∷ ts) [] p e h = absurd (omega (arith, e))
  stores_further laid path k (v ∷ ts) (u ∷ us) p {b} {c} e h =
      let o = object_of laid path (Numbers.Local k) in
      stores_further laid path (suc k) ts us p (omega (arith, e))
      (one_further (Op.Store b.temps v (scalar_at laid o 0) (Intos.Object o) p)
      (Op.Store c.temps u (scalar_at laid o 0) (Intos.Object o) p)
      (new_further (λ a. Op.Base a o) (λ a. Op.Base a o) h))

  fallen_further : (y : CType) (res : Option ℕ) {b c : Building} → Further b c
      → Further (fallen_piece y res b) (fallen_piece y (moved res) c)
  fallen_further (Types.Int y) res h = result_further res (λ r. Op.Any r (lo_of y) (hi_of y))
      (λ r. Op.Any r (lo_of y) (hi_of y)) h
  fallen_further (Types.Pointer q) res h = result_further res (λ r. Op.Const r nothing) (λ r. Op.Const r nothing) h
  fallen_further Types.Void res h = h
  fallen_further (Types.Array e k) res h = h
  fallen_further (Types.Struct k) res h = h

  temp_moved : (has : Bool) (res : Option ℕ) {b c : Building} → Further b c
      → result_at has (moved res) c ≡ moved (result_at has res b)
  temp_moved true res h = ap Some (result_moved res h)
  temp_moved false res h = refl

  pub record PartFurther (x y : AfterPart) : Type 0 where
    pub at : Further x.at y.at
    pub temp : y.temp ≡ moved x.temp

  function_further : (call : Sites)
      → ((site : ℕ) (ts us : List ℕ) (p : Place) (b c : Building) → length us ≡ length ts → Further b c
      → Further (call site ts p b).at (call site us p c).at)
      → (laid : LaidTree) (path : ℕ) (y : CType) (body : Option TypedBodyTree) {b c : Building} → Further b c
      → PartFurther (function_piece call laid path function_end y body b)
      (function_piece call laid path function_end y body c)
  function_further call calls laid path y None h = record {
    at = new_further (λ k. Op.Const k nothing) (λ k. Op.Const k nothing) h;
    temp = ap Some h.temps;
  }
  function_further call calls laid path y (Some body) {b} {c} h =
      let x = plan_piece call (plans laid path body.statements) Later None b in
      let x' = plan_piece call (plans laid path body.statements) Later None c in
      let i = plan_further call calls (plans laid path body.statements) Later Later tt None None refl h in
      let z = fallen_piece y x.result x.at in
      let z' = fallen_piece y x'.result x'.at in
      let f : Further z z' = subst (λ r. Further z (fallen_piece y r x'.at)) (sym i.result)
      (fallen_further y x.result i.at) in
      record {
        at = meet_further (nodes_by is_return x.pending ++ z.node ∷ [])
            (nodes_by is_return x'.pending ++ z'.node ∷ []) f;
        temp = ap (λ r. result_at (is_value_type y) r x'.at) i.result
            ∙ temp_moved (is_value_type y) x.result i.at;
      }

  pub path_further : (laid : LaidTree) (depth path : ℕ) {b c : Building} → Further b c
      → PartFurther (path_piece function_end laid depth path b) (path_piece function_end laid depth path c)
  path_further laid zero path h = record {
    at = new_further (λ k. Op.Const k nothing) (λ k. Op.Const k nothing) h;
    temp = ap Some h.temps;
  }
  path_further laid (suc depth) path h =
      function_further (sites_of laid (path_piece function_end laid depth) path)
      (λ site ts us p b c e i. (path_further laid depth (callee laid path site)
      (stores_further laid (callee laid path site) 0 ts us p e i)).at)
      laid path (result_type laid (function_at laid path)) (function_at laid path).body h
