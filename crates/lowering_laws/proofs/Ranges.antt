-- Each edge of a graph joins two of its nodes, and leads to another node than the entry node.
use Rattle.std.proofs.Common.{ℕ, zero, suc, ◌<◌, ◌≤◌, Bool, true, false, List, [], ◌∷◌, ◌++◌, length, arith}
use Rattle.std.specs.Prelude.{if◌then◌else◌, nat_lt, All, Option, Some, None}
use Rattle.std.proofs.lemmas.List.Elements.{All-nil, All-cons}
use Rattle.call_graph.specs.tm_terms.declared.places.Place.{Place}
use Rattle.call_graph.specs.tm_typed.declared.types.CType.{CType}
use Rattle.call_graph.specs.tm_typed.declared.types.CType.TheVariants as Types
use Rattle.call_graph.specs.tm_typed.declared.scopes.ObjectNumber.TheVariants.{Local}
use Rattle.call_graph.specs.tm_typed.Functions.{TypedBodyTree}
use Rattle.cell_layout.specs.tm_laid.Layouts.{LaidTree, first_path, callee, object_of}
use Rattle.lowering.specs.concrete_values.Values.{truth_value}
use Rattle.lowering.specs.concrete_steps.Places.{result_type}
use Rattle.lowering.specs.concrete_steps.NextAction.{function_at}
use Rattle.lowering.specs.flow_graph.declared.graphs.Edge.{Edge}
use Rattle.lowering.specs.flow_graph.declared.operations.Operation.{Operation}
use Rattle.lowering.specs.flow_graph.declared.operations.Operation.TheVariants as Op
use Rattle.lowering.specs.flow_graph.declared.operations.Test.{Test}
use Rattle.lowering.specs.flow_graph.declared.operations.Test.TheVariants as Tests
use Rattle.lowering.specs.flow_graph.Operations.{given}
use Rattle.lowering.specs.flow_graph.Graphs.{Edges}
use Rattle.lowering.specs.Steps.{Steps, no_more, first_then, Step, operate, value_of, only_do, truth_of, choose}
use Rattle.lowering.specs.Steps.{choose_only, call_of, Inputs, no_inputs, and_input, Code, code, Fork, fork_by}
use Rattle.lowering.specs.Steps.{converse, both_of, either_of, Plan, nothing_more, in_turn, all_steps, one_of}
use Rattle.lowering.specs.Steps.{loop_while, loop_stepping, loop_until, select, break_off, go_on, give_back, Parts}
use Rattle.lowering.specs.Steps.{no_parts, labelled, by_default, and_plan}
use Rattle.lowering.specs.Table.{plans}
use Rattle.lowering.specs.Built.{edge, Building, place_with, place, place_new, branch, goto, skips, meet, nowhere}
use Rattle.lowering.specs.Built.{back_to, close_loop, temp_of, operated, copied, copied_to, AfterPart, Sites}
use Rattle.lowering.specs.Built.{call_given, steps_piece, step_piece, inputs_piece, code_piece, fork_piece, Way}
use Rattle.lowering.specs.Built.{is_break}
use Rattle.lowering.specs.Built.{is_continue, is_return, is_no_break, Pending, nodes_by, still_by, Onward, ToHead}
use Rattle.lowering.specs.Built.{Later, Passed, continued_at, place_result, tests_piece, unless_default, first_of}
use Rattle.lowering.specs.Built.{behind_first, entered, given_back, plan_piece, parts_piece, stores_piece, fallen_piece}
use Rattle.lowering.specs.Built.{function_end}
use Rattle.lowering.specs.Built.{task_end, function_piece, sites_of, path_piece, entry, built, graph_of}

-- ## Edges and nodes below a number

abbrev AllWithin : ℕ → Edges → Type 0
AllWithin n [] = Unit {0}
AllWithin n (e ∷ es) = (e.from < n) × (0 < e.to) × (e.to < n) × AllWithin n es

abbrev AllBelow : ℕ → List ℕ → Type 0
AllBelow n [] = Unit {0}
AllBelow n (x ∷ xs) = (x < n) × AllBelow n xs

abbrev AllWaiting : ℕ → List Pending → Type 0
AllWaiting n [] = Unit {0}
AllWaiting n (q ∷ qs) = (q.node < n) × AllWaiting n qs

more_within : (m n : ℕ) → m ≤ n → (es : Edges) → AllWithin m es → AllWithin n es
more_within m n l [] h = tt
more_within m n l (e ∷ es) h =
    let a = h.0 in let b = h.2 in (omega (arith, l, a), h.1, omega (arith, l, b), more_within m n l es h.3)

within_append : (n : ℕ) (a b : Edges) → AllWithin n a → AllWithin n b → AllWithin n (a ++ b)
within_append n [] b h k = k
within_append n (e ∷ a) b h k = (h.0, h.1, h.2, within_append n a b h.3 k)

all_join : (n : ℕ) (g : Edges) → AllWithin n g → All (λ e. (e.from < n) × (e.to < n)) g
all_join n [] h = All-nil (λ (e : Edge). (e.from < n) × (e.to < n))
all_join n (e ∷ g) h = All-cons (λ (x : Edge). (x.from < n) × (x.to < n)) e g (h.0, h.2) (all_join n g h.3)

all_lead_on : (n : ℕ) (g : Edges) → AllWithin n g → All (λ e. 0 < e.to) g
all_lead_on n [] h = All-nil (λ (e : Edge). 0 < e.to)
all_lead_on n (e ∷ g) h = All-cons (λ (x : Edge). 0 < x.to) e g h.1 (all_lead_on n g h.3)

more_below : (m n : ℕ) → m ≤ n → (xs : List ℕ) → AllBelow m xs → AllBelow n xs
more_below m n l [] h = tt
more_below m n l (x ∷ xs) h = let a = h.0 in (omega (arith, l, a), more_below m n l xs h.1)

below_append : (n : ℕ) (xs ys : List ℕ) → AllBelow n xs → AllBelow n ys → AllBelow n (xs ++ ys)
below_append n [] ys h k = k
below_append n (x ∷ xs) ys h k = (h.0, below_append n xs ys h.1 k)

more_waiting : (m n : ℕ) → m ≤ n → (qs : List Pending) → AllWaiting m qs → AllWaiting n qs
more_waiting m n l [] h = tt
more_waiting m n l (q ∷ qs) h = let a = h.0 in (omega (arith, l, a), more_waiting m n l qs h.1)

waiting_append : (n : ℕ) (ps qs : List Pending) → AllWaiting n ps → AllWaiting n qs → AllWaiting n (ps ++ qs)
waiting_append n [] qs h k = k
waiting_append n (p ∷ ps) qs h k = (h.0, waiting_append n ps qs h.1 k)

nodes_below : (f : Way → Bool) (n : ℕ) (qs : List Pending) → AllWaiting n qs → AllBelow n (nodes_by f qs)
nodes_below f n [] h = tt
nodes_below f n (q ∷ qs) h = by_way (f q.way) (nodes_below f n qs h.1)
  where
    by_way : (t : Bool) → AllBelow n (nodes_by f qs)
        → AllBelow n (if t then q.node ∷ nodes_by f qs else nodes_by f qs)
    by_way true k = (h.0, k)
    by_way false k = k

still_waiting : (f : Way → Bool) (n : ℕ) (qs : List Pending) → AllWaiting n qs → AllWaiting n (still_by f qs)
still_waiting f n [] h = tt
still_waiting f n (q ∷ qs) h = by_way (f q.way) (still_waiting f n qs h.1)
  where
    by_way : (t : Bool) → AllWaiting n (still_by f qs)
        → AllWaiting n (if t then q ∷ still_by f qs else still_by f qs)
    by_way true k = (h.0, k)
    by_way false k = k

skips_within : (n : ℕ) (ns : List ℕ) (j : ℕ) → AllBelow n ns → 0 < j → j < n → AllWithin n (skips ns j)
skips_within n [] j h l k = tt
skips_within n (x ∷ xs) j h l k = (h.0, l, k, skips_within n xs j h.1 l k)

-- ## Pieces

-- the present node is there, and the edges join nodes that are there
abbrev Sound : Building → Type 0
Sound b = (0 < b.nodes) × (b.node < b.nodes) × AllWithin b.nodes b.edges

-- and so it is still once more is built
abbrev After : Building → Building → Type 0
After b c = (b.nodes ≤ c.nodes) × Sound c

same_sound : (b : Building) → Sound b → After b b
same_sound b h = (omega arith, h)

then_sound : (b c d : Building) → After b c → After c d → After b d
then_sound b c d h k = let x = h.0 in let y = k.0 in (omega (arith, x, y), k.1)

goto_sound : (n : ℕ) (b : Building) → Sound b → n < b.nodes → Sound (goto n b)
goto_sound n b h l = (h.0, l, h.2)

place_sound : (t : ℕ) (op : Operation) (b : Building) → Sound b → After b (place_with t op b)
place_sound t op b h =
    let l = h.1 in (
      omega arith,
      (
        omega arith,
        omega arith,
        within_append (suc b.nodes) b.edges (edge b.node b.nodes op ∷ [])
            (more_within b.nodes (suc b.nodes) (omega arith) b.edges h.2) (omega (arith, l), h.0, omega arith, tt),
      ),
    )

meet_sound : (ns : List ℕ) (b : Building) → Sound b → AllBelow b.nodes ns → After b (meet ns b)
meet_sound ns b h k = (
  omega arith,
  (
    omega arith,
    omega arith,
    within_append (suc b.nodes) b.edges (skips ns b.nodes)
        (more_within b.nodes (suc b.nodes) (omega arith) b.edges h.2)
        (skips_within (suc b.nodes) ns b.nodes (more_below b.nodes (suc b.nodes) (omega arith) ns k) h.0 (omega arith)),
  ),
)

close_sound : (head : ℕ) (outs : List ℕ) (b : Building) → Sound b → 0 < head → head < b.nodes → AllBelow b.nodes outs
    → After b (close_loop head outs b)
close_sound head outs b h l m k =
    let n = h.1 in (
      omega arith,
      (
        omega arith,
        omega arith,
        within_append (suc b.nodes) b.edges (edge b.node head Op.Skip ∷ skips outs b.nodes)
            (more_within b.nodes (suc b.nodes) (omega arith) b.edges h.2) (
              omega (arith, n),
              l,
              omega (arith, m),
              skips_within (suc b.nodes) outs b.nodes (more_below b.nodes (suc b.nodes) (omega arith) outs k) h.0
                  (omega arith),
            ),
      ),
    )

back_sound : (head : ℕ) (b : Building) → Sound b → 0 < head → head < b.nodes → After b (back_to head b)
back_sound head b h l m =
    let n = h.1 in (
      omega arith,
      (
        omega arith,
        omega arith,
        within_append (suc b.nodes) b.edges (edge b.node head Op.Skip ∷ [])
            (more_within b.nodes (suc b.nodes) (omega arith) b.edges h.2) (omega (arith, n), l, omega (arith, m), tt),
      ),
    )

nowhere_sound : (b : Building) → Sound b → After b (nowhere b)
nowhere_sound b h =
    (omega arith, (omega arith, omega arith, more_within b.nodes (suc b.nodes) (omega arith) b.edges h.2))

branch_sound : (test : Test) (b : Building) → Sound b → After b (branch test b)
branch_sound test b h =
    let l = h.1 in (
      omega arith,
      (
        omega arith,
        omega arith,
        within_append (suc (suc b.nodes)) b.edges _
            (more_within b.nodes (suc (suc b.nodes)) (omega arith) b.edges h.2)
            (omega (arith, l), h.0, omega arith, (omega (arith, l), omega arith, omega arith, tt)),
      ),
    )

operated_sound : (ts : List ℕ) (op : Operation) (o : Option ℕ) (b : Building) → Sound b
    → After b (operated ts op o b).at
operated_sound ts op (Some v) b h = place_sound (suc b.temps) _ b h
operated_sound ts op None b h = place_sound b.temps _ b h

continued_sound : (ns : List ℕ) (b : Building) → Sound b → AllBelow b.nodes ns → After b (continued_at ns b)
continued_sound [] b h k = same_sound b h
continued_sound (n ∷ ns) b h k =
    meet_sound ((n ∷ ns) ++ b.node ∷ []) b h (below_append b.nodes (n ∷ ns) (b.node ∷ []) k (h.1, tt))

result_sound : (res : Option ℕ) (op : ℕ → Operation) (b : Building) → Sound b → After b (place_result res op b)
result_sound None op b h = place_sound (suc b.temps) (op b.temps) b h
result_sound (Some r) op b h = place_sound b.temps (op r) b h

given_sound : (has : Bool) (ts : List ℕ) (b : Building) (x : AfterPart) → After b x.at
    → After b (call_given has ts x).at
given_sound true ts b x h = h
given_sound false ts b x h = h

tests_sound : (ps : Parts) (t : ℕ) (b : Building) → Sound b → After b (tests_piece ps t b).at
    × AllBelow (let x = tests_piece ps t b in x.at.nodes) (tests_piece ps t b).nodes
tests_sound no_parts t b h = (same_sound b h, tt)
tests_sound (labelled z rest) t b h =
    let o = branch (Tests.Case true z t) b in
    let a = branch_sound (Tests.Case true z t) b h in
    let r = tests_sound rest t (goto (suc b.nodes) o) (goto_sound (suc b.nodes) o a.1 (omega arith)) in
    let l = r.0.0 in
    ((omega (arith, l), r.0.1), (omega (arith, l), r.1))
tests_sound (by_default rest) t b h = tests_sound rest t b h
tests_sound (and_plan s rest) t b h = tests_sound rest t b h

module _ (call : Sites)
    (call_sound : (site : ℕ) (ts : List ℕ) (p : Place) (b : Building) → Sound b → After b (call site ts p b).at) where
  mutual
    steps_sound : (steps : Steps) (ts : List ℕ) (b : Building) → Sound b → After b (steps_piece call steps ts b).at
    steps_sound no_more ts b h = same_sound b h
    steps_sound (first_then s rest) ts b h =
        let x = step_piece call s ts b in
        let a = step_sound s ts b h in
        then_sound b x.at (steps_piece call rest x.temps x.at).at a (steps_sound rest x.temps x.at a.1)

    step_sound : (s : Step) (ts : List ℕ) (b : Building) → Sound b → After b (step_piece call s ts b).at
    step_sound (operate op) ts b h = operated_sound ts op (given op) b h
    step_sound (value_of c) ts b h = code_sound c b h
    step_sound (only_do c) ts b h = code_sound c b h
    step_sound (truth_of f) ts b h =
        let o = fork_piece call f b in
        let one = λ (t : ℕ). Op.Const t (truth_value true) in
        let other = Op.Const o.at.temps (truth_value false) in
        let b1 = place_new one o.at in
        let b2 = place other (goto o.other b1) in
        let F = fork_sound f b h in
        let A = place_sound (suc o.at.temps) (one o.at.temps) o.at F.0.1 in
        let l = F.1 in
        let B = place_sound (suc o.at.temps) other (goto o.other b1)
        (goto_sound o.other b1 A.1 (omega (arith, l))) in
        let n1 = A.1.1 in
        let n2 = B.1.1 in
        let m = F.0.0 in
        let M = meet_sound (b1.node ∷ b2.node ∷ []) b2 B.1 (omega (arith, n1), (n2, tt)) in
        (omega (arith, m), M.1)
    step_sound (choose f x y) ts b h =
        let o = fork_piece call f b in
        let v = code_piece call x o.at in
        let b1 = copied v in
        let u = code_piece call y (goto o.other b1) in
        let b2 = copied_to v.at.temps u in
        let F = fork_sound f b h in
        let V = code_sound x o.at F.0.1 in
        let A = place_sound (suc v.at.temps) (Op.Copy v.at.temps (temp_of v.temp)) v.at V.1 in
        let l = F.1 in
        let k = F.0.0 in
        let v0 = V.0 in
        let U = code_sound y (goto o.other b1) (goto_sound o.other b1 A.1 (omega (arith, l, v0))) in
        let B = place_sound u.at.temps (Op.Copy v.at.temps (temp_of u.temp)) u.at U.1 in
        let n1 = A.1.1 in
        let n2 = B.1.1 in
        let u0 = U.0 in
        let M = meet_sound (b1.node ∷ b2.node ∷ []) b2 B.1 (omega (arith, n1, u0), (n2, tt)) in
        (omega (arith, k, v0, u0), M.1)
    step_sound (choose_only f x y) ts b h =
        let o = fork_piece call f b in
        let b1 = (code_piece call x o.at).at in
        let b2 = (code_piece call y (goto o.other b1)).at in
        let F = fork_sound f b h in
        let V = code_sound x o.at F.0.1 in
        let l = F.1 in
        let k = F.0.0 in
        let v0 = V.0 in
        let U = code_sound y (goto o.other b1) (goto_sound o.other b1 V.1 (omega (arith, l, v0))) in
        let n1 = V.1.1 in
        let u0 = U.0 in
        let M = meet_sound (b1.node ∷ b2.node ∷ []) b2 U.1 (omega (arith, n1, u0), (U.1.1, tt)) in
        (omega (arith, k, v0, u0), M.1)
    step_sound (call_of has site es p) ts b h =
        let x = inputs_piece call es b in
        let I = inputs_sound es b h in
        let y = call site x.temps p x.at in
        given_sound has ts b y (then_sound b x.at y.at I (call_sound site x.temps p x.at I.1))

    inputs_sound : (es : Inputs) (b : Building) → Sound b → After b (inputs_piece call es b).at
    inputs_sound no_inputs b h = same_sound b h
    inputs_sound (and_input c es) b h =
        let x = code_piece call c b in
        let a = code_sound c b h in
        then_sound b x.at (inputs_piece call es x.at).at a (inputs_sound es x.at a.1)

    code_sound : (c : Code) (b : Building) → Sound b → After b (code_piece call c b).at
    code_sound (code steps result) b h = steps_sound steps [] b h

    fork_sound : (f : Fork) (b : Building) → Sound b → After b (fork_piece call f b).at
        × ((fork_piece call f b).other < (let o = fork_piece call f b in o.at.nodes))
    fork_sound (fork_by steps test) b h =
        let x = (steps_piece call steps [] b).at in
        let S = steps_sound steps [] b h in
        let R = branch_sound _ x S.1 in
        let l = S.0 in
        ((omega (arith, l), R.1), omega arith)
    fork_sound (converse f) b h =
        let o = fork_piece call f b in
        let F = fork_sound f b h in
        ((F.0.0, goto_sound o.other o.at F.0.1 F.1), F.0.1.1)
    fork_sound (both_of f g) b h =
        let o = fork_piece call f b in
        let q = fork_piece call g o.at in
        let F = fork_sound f b h in
        let Q = fork_sound g o.at F.0.1 in
        let l = F.1 in
        let k = F.0.0 in
        let q0 = Q.0.0 in
        let M = meet_sound (o.other ∷ q.other ∷ []) q.at Q.0.1 (omega (arith, l, q0), (Q.1, tt)) in
        let n = Q.0.1.1 in (
          (omega (arith, k, q0), goto_sound q.at.node (meet (o.other ∷ q.other ∷ []) q.at) M.1 (omega (arith, n))),
          omega arith,
        )
    fork_sound (either_of f g) b h =
        let o = fork_piece call f b in
        let q = fork_piece call g (goto o.other o.at) in
        let F = fork_sound f b h in
        let Q = fork_sound g (goto o.other o.at) (goto_sound o.other o.at F.0.1 F.1) in
        let k = F.0.0 in
        let q0 = Q.0.0 in
        let n = F.0.1.1 in
        let M = meet_sound (o.at.node ∷ q.at.node ∷ []) q.at Q.0.1 (omega (arith, n, q0), (Q.0.1.1, tt)) in
        let r = Q.1 in
        ((omega (arith, k, q0), M.1), omega (arith, r))

  entered_sound : (f : Option Fork) (b : Building) → Sound b → After b (entered call f b).at
      × AllBelow (let o = entered call f b in o.at.nodes) (entered call f b).outs
  entered_sound None b h = (same_sound b h, tt)
  entered_sound (Some f) b h = let F = fork_sound f b h in (F.0, (F.1, tt))

  -- ## Statements

  abbrev Passes : Building → Passed → Type 0
  Passes b x = After b x.at × AllWaiting x.at.nodes x.pending

  back_passes : (c : Option Code) (res : Option ℕ) (b : Building) → Sound b → Passes b (given_back call c res b)
  back_passes None res b h = let l = h.1 in (nowhere_sound b h, (omega (arith, l), tt))
  back_passes (Some c) res b h =
      let x = code_piece call c b in
      let op = λ (t : ℕ). Op.Copy t (temp_of x.temp) in
      let C = code_sound c b h in
      let d = place_result res op x.at in
      let R = result_sound res op x.at C.1 in
      let N = nowhere_sound d R.1 in
      let c0 = C.0 in
      let r0 = R.0 in
      let n = R.1.1 in
      ((omega (arith, c0, r0), N.1), (omega (arith, n), tt))

  -- the head to which control goes on is there, and is not the entry node
  abbrev IsHeadOf : ℕ → Onward → Type 0
  IsHeadOf n (ToHead k) = (0 < k) × (k < n)
  IsHeadOf n Later = Unit {0}

  more_head : (m n : ℕ) → m ≤ n → (onward : Onward) → IsHeadOf m onward → IsHeadOf n onward
  more_head m n l (ToHead k) h = let a = h.1 in (h.0, omega (arith, l, a))
  more_head m n l Later h = tt

  default_below : (ps : Parts) (n m : ℕ) → n < m → AllBelow m (unless_default ps n)
  default_below no_parts n m l = (l, tt)
  default_below (labelled z rest) n m l = default_below rest n m l
  default_below (by_default rest) n m l = tt
  default_below (and_plan s rest) n m l = default_below rest n m l

  first_below : (ls : List ℕ) (n m : ℕ) → AllBelow m ls → n < m → AllBelow m (first_of ls n)
  first_below [] n m h l = (l, tt)
  first_below (p ∷ ps) n m h l = (h.0, (l, tt))

  behind_below : (ls : List ℕ) (m : ℕ) → AllBelow m ls → AllBelow m (behind_first ls)
  behind_below [] m h = tt
  behind_below (p ∷ ps) m h = h.1

  mutual
    plan_passes : (s : Plan) (onward : Onward) (res : Option ℕ) (b : Building) → Sound b → IsHeadOf b.nodes onward
        → Passes b (plan_piece call s onward res b)
    plan_passes nothing_more onward res b h i = (same_sound b h, tt)
    plan_passes (in_turn s s') onward res b h i =
        let x = plan_piece call s onward res b in
        let y = plan_piece call s' onward x.result x.at in
        let X = plan_passes s onward res b h i in
        let Y = plan_passes s' onward x.result x.at X.0.1 (more_head b.nodes x.at.nodes X.0.0 onward i) in (
          then_sound b x.at y.at X.0 Y.0,
          waiting_append y.at.nodes x.pending y.pending (more_waiting x.at.nodes y.at.nodes Y.0.0 x.pending X.1) Y.1,
        )
    plan_passes (all_steps steps) onward res b h i = (steps_sound steps [] b h, tt)
    plan_passes (one_of f s s') onward res b h i =
        let o = fork_piece call f b in
        let x = plan_piece call s onward res o.at in
        let y = plan_piece call s' onward x.result (goto o.other x.at) in
        let F = fork_sound f b h in
        let X = plan_passes s onward res o.at F.0.1 (more_head b.nodes o.at.nodes F.0.0 onward i) in
        let f0 = F.0.0 in
        let f1 = F.1 in
        let x0 = X.0.0 in
        let Y = plan_passes s' onward x.result (goto o.other x.at)
        (goto_sound o.other x.at X.0.1 (omega (arith, f1, x0)))
        (more_head b.nodes x.at.nodes (omega (arith, f0, x0)) onward i) in
        let y0 = Y.0.0 in
        let n = X.0.1.1 in
        let M = meet_sound (x.at.node ∷ y.at.node ∷ []) y.at Y.0.1 (omega (arith, n, y0), (Y.0.1.1, tt)) in (
          (omega (arith, f0, x0, y0), M.1),
          waiting_append (suc y.at.nodes) x.pending y.pending
              (more_waiting x.at.nodes (suc y.at.nodes) (omega (arith, y0)) x.pending X.1)
              (more_waiting y.at.nodes (suc y.at.nodes) (omega arith) y.pending Y.1),
        )
    plan_passes (loop_while f s) onward res b h i =
        let h0 = place Op.Skip b in
        let o = fork_piece call f h0 in
        let x = plan_piece call s (ToHead h0.node) res o.at in
        let H = place_sound b.temps Op.Skip b h in
        let F = fork_sound f h0 H.1 in
        let f0 = F.0.0 in
        let f1 = F.1 in
        let X = plan_passes s (ToHead h0.node) res o.at F.0.1 (h.0, omega (arith, f0)) in
        let x0 = X.0.0 in
        let C = close_sound h0.node (o.other ∷ nodes_by is_break x.pending) x.at X.0.1 h.0 (omega (arith, f0, x0))
        (omega (arith, f1, x0), nodes_below is_break x.at.nodes x.pending X.1) in (
          (omega (arith, f0, x0), C.1),
          more_waiting x.at.nodes (suc x.at.nodes) (omega arith) (still_by is_return x.pending)
              (still_waiting is_return x.at.nodes x.pending X.1),
        )
    plan_passes (loop_stepping f step s) onward res b h i =
        let h0 = place Op.Skip b in
        let o = entered call f h0 in
        let x = plan_piece call s Later res o.at in
        let c = continued_at (nodes_by is_continue x.pending) x.at in
        let y = (steps_piece call step [] c).at in
        let H = place_sound b.temps Op.Skip b h in
        let F = entered_sound f h0 H.1 in
        let f0 = F.0.0 in
        let X = plan_passes s Later res o.at F.0.1 tt in
        let x0 = X.0.0 in
        let K = continued_sound (nodes_by is_continue x.pending) x.at X.0.1
        (nodes_below is_continue x.at.nodes x.pending X.1) in
        let k0 = K.0 in
        let Y = steps_sound step [] c K.1 in
        let y0 = Y.0 in
        let C = close_sound h0.node (o.outs ++ nodes_by is_break x.pending) y Y.1 h.0 (omega (arith, f0, x0, k0, y0))
        (below_append y.nodes o.outs (nodes_by is_break x.pending)
        (more_below o.at.nodes y.nodes (omega (arith, x0, k0, y0)) o.outs F.1)
        (more_below x.at.nodes y.nodes (omega (arith, k0, y0)) (nodes_by is_break x.pending)
        (nodes_below is_break x.at.nodes x.pending X.1))) in (
          (omega (arith, f0, x0, k0, y0), C.1),
          more_waiting x.at.nodes (suc y.nodes) (omega (arith, k0, y0)) (still_by is_return x.pending)
              (still_waiting is_return x.at.nodes x.pending X.1),
        )
    plan_passes (loop_until s f) onward res b h i =
        let h0 = place Op.Skip b in
        let x = plan_piece call s Later res h0 in
        let c = continued_at (nodes_by is_continue x.pending) x.at in
        let o = fork_piece call f c in
        let H = place_sound b.temps Op.Skip b h in
        let X = plan_passes s Later res h0 H.1 tt in
        let x0 = X.0.0 in
        let K = continued_sound (nodes_by is_continue x.pending) x.at X.0.1
        (nodes_below is_continue x.at.nodes x.pending X.1) in
        let k0 = K.0 in
        let F = fork_sound f c K.1 in
        let f0 = F.0.0 in
        let C = close_sound h0.node (nodes_by is_break x.pending ++ o.other ∷ []) o.at F.0.1 h.0
        (omega (arith, x0, k0, f0))
        (below_append o.at.nodes (nodes_by is_break x.pending) (o.other ∷ [])
        (more_below x.at.nodes o.at.nodes (omega (arith, k0, f0)) (nodes_by is_break x.pending)
        (nodes_below is_break x.at.nodes x.pending X.1)) (F.1, tt)) in (
          (omega (arith, x0, k0, f0), C.1),
          more_waiting x.at.nodes (suc o.at.nodes) (omega (arith, k0, f0)) (still_by is_return x.pending)
              (still_waiting is_return x.at.nodes x.pending X.1),
        )
    plan_passes (select c ps) onward res b h i =
        let v = code_piece call c b in
        let ls = tests_piece ps (temp_of v.temp) v.at in
        let x = parts_piece call ps ls.nodes ls.at.node onward res (nowhere ls.at) in
        let V = code_sound c b h in
        let v0 = V.0 in
        let T = tests_sound ps (temp_of v.temp) v.at V.1 in
        let t0 = T.0.0 in
        let n = T.0.1.1 in
        let N = nowhere_sound ls.at T.0.1 in
        let X = parts_pass ps ls.nodes ls.at.node onward res (nowhere ls.at) N.1
        (more_below ls.at.nodes (suc ls.at.nodes) (omega arith) ls.nodes T.1) (omega (arith, n))
        (more_head b.nodes (suc ls.at.nodes) (omega (arith, v0, t0)) onward i) in
        let x0 = X.0.0 in
        let M = meet_sound (unless_default ps ls.at.node ++ nodes_by is_break x.pending ++ x.at.node ∷ []) x.at X.0.1
        (below_append x.at.nodes (unless_default ps ls.at.node ++ nodes_by is_break x.pending) (x.at.node ∷ [])
        (below_append x.at.nodes (unless_default ps ls.at.node) (nodes_by is_break x.pending)
        (default_below ps ls.at.node x.at.nodes (omega (arith, n, x0)))
        (nodes_below is_break x.at.nodes x.pending X.1)) (X.0.1.1, tt)) in (
          (omega (arith, v0, t0, x0), M.1),
          more_waiting x.at.nodes (suc x.at.nodes) (omega arith) (still_by is_no_break x.pending)
              (still_waiting is_no_break x.at.nodes x.pending X.1),
        )
    plan_passes break_off onward res b h i = let l = h.1 in (nowhere_sound b h, (omega (arith, l), tt))
    plan_passes go_on (ToHead k) res b h i = (back_sound k b h i.0 i.1, tt)
    plan_passes go_on Later res b h i = let l = h.1 in (nowhere_sound b h, (omega (arith, l), tt))
    plan_passes (give_back c) onward res b h i = back_passes c res b h

    parts_pass : (ps : Parts) (ls : List ℕ) (none : ℕ) (onward : Onward) (res : Option ℕ) (b : Building) → Sound b
        → AllBelow b.nodes ls → none < b.nodes → IsHeadOf b.nodes onward
        → Passes b (parts_piece call ps ls none onward res b)
    parts_pass no_parts ls none onward res b h k l i = (same_sound b h, tt)
    parts_pass (labelled z rest) ls none onward res b h k l i =
        let c = meet (first_of ls b.node) b in
        let M = meet_sound (first_of ls b.node) b h (first_below ls b.node b.nodes k h.1) in
        let X = parts_pass rest (behind_first ls) none onward res c M.1
        (more_below b.nodes (suc b.nodes) (omega arith) (behind_first ls) (behind_below ls b.nodes k))
        (omega (arith, l)) (more_head b.nodes (suc b.nodes) (omega arith) onward i) in
        let x0 = X.0.0 in
        ((omega (arith, x0), X.0.1), X.1)
    parts_pass (by_default rest) ls none onward res b h k l i =
        let c = meet (none ∷ b.node ∷ []) b in
        let M = meet_sound (none ∷ b.node ∷ []) b h (l, (h.1, tt)) in
        let X = parts_pass rest ls none onward res c M.1 (more_below b.nodes (suc b.nodes) (omega arith) ls k)
        (omega (arith, l)) (more_head b.nodes (suc b.nodes) (omega arith) onward i) in
        let x0 = X.0.0 in
        ((omega (arith, x0), X.0.1), X.1)
    parts_pass (and_plan s rest) ls none onward res b h k l i =
        let x = plan_piece call s onward res b in
        let y = parts_piece call rest ls none onward x.result x.at in
        let X = plan_passes s onward res b h i in
        let x0 = X.0.0 in
        let Y = parts_pass rest ls none onward x.result x.at X.0.1 (more_below b.nodes x.at.nodes x0 ls k)
        (omega (arith, l, x0)) (more_head b.nodes x.at.nodes x0 onward i) in (
          then_sound b x.at y.at X.0 Y.0,
          waiting_append y.at.nodes x.pending y.pending (more_waiting x.at.nodes y.at.nodes Y.0.0 x.pending X.1) Y.1,
        )

-- ## Bodies

stores_sound : (laid : LaidTree) (path k : ℕ) (ts : List ℕ) (p : Place) (b : Building) → Sound b
    → After b (stores_piece laid path k ts p b)
stores_sound laid path k [] p b h = same_sound b h
stores_sound laid path k (t ∷ ts) p b h =
    let op = λ (a : ℕ). Op.Base a (object_of laid path (Local k)) in
    let b1 = place_new op b in
    let A = place_sound (suc b.temps) (op b.temps) b h in
    let B = place_sound b1.temps _ b1 A.1 in
    let C = stores_sound laid path (suc k) ts p (place _ b1) B.1 in
    let c0 = C.0 in
    (omega (arith, c0), C.1)

fallen_sound : (t : CType) (res : Option ℕ) (b : Building) → Sound b → After b (fallen_piece t res b)
fallen_sound (Types.Int t) res b h = result_sound res _ b h
fallen_sound (Types.Pointer q) res b h = result_sound res _ b h
fallen_sound Types.Void res b h = same_sound b h
fallen_sound (Types.Array e n) res b h = same_sound b h
fallen_sound (Types.Struct n) res b h = same_sound b h

abbrev Closes : (List ℕ → Building → Building) → Type 0
Closes close = (ns : List ℕ) (b : Building) → Sound b → AllBelow b.nodes ns → After b (close ns b)

ends_function : Closes function_end
ends_function ns b h k = meet_sound (ns ++ b.node ∷ []) b h (below_append b.nodes ns (b.node ∷ []) k (h.1, tt))

ends_by : (t : Bool) → Closes (if t then task_end else function_end)
ends_by true = continued_sound
ends_by false = ends_function

module _ (laid : LaidTree) where
  function_sound : (path : ℕ) (inner : ℕ → Building → AfterPart)
      → ((path : ℕ) (b : Building) → Sound b → After b (inner path b).at)
      → (close : List ℕ → Building → Building) → Closes close → (t : CType) (body : Option TypedBodyTree)
      (b : Building) → Sound b → After b (function_piece (sites_of laid inner path) laid path close t body b).at
  function_sound path inner inside close closes t None b h = place_sound (suc b.temps) _ b h
  function_sound path inner inside close closes t (Some body) b h =
      let call = sites_of laid inner path in
      let x = plan_piece call (plans laid path body.statements) Later None b in
      let y = fallen_piece t x.result x.at in
      let X = plan_passes call
      (λ site ts p c k.
      let S = stores_sound laid (callee laid path site) 0 ts p c k in
      let d = stores_piece laid (callee laid path site) 0 ts p c in
      then_sound c d (inner (callee laid path site) d).at S (inside (callee laid path site) d S.1))
      (plans laid path body.statements) Later None b h tt in
      let Y = fallen_sound t x.result x.at X.0.1 in
      let Z = closes (nodes_by is_return x.pending) y Y.1
      (more_below x.at.nodes y.nodes Y.0 (nodes_by is_return x.pending)
      (nodes_below is_return x.at.nodes x.pending X.1)) in
      then_sound b x.at (close (nodes_by is_return x.pending) y) X.0
      (then_sound x.at y (close (nodes_by is_return x.pending) y) Y Z)

  path_sound : (close : List ℕ → Building → Building) → Closes close → (depth path : ℕ) (b : Building) → Sound b
      → After b (path_piece close laid depth path b).at
  path_sound close closes zero path b h = place_sound (suc b.temps) _ b h
  path_sound close closes (suc depth) path b h =
      function_sound path (path_piece function_end laid depth)
      (λ path' b' h'. path_sound function_end ends_function depth path' b' h') close closes
      (result_type laid (function_at laid path)) (function_at laid path).body b h

  built_within : (body : ℕ) → AllWithin (built laid body).nodes (graph_of laid body)
  built_within body =
      (path_sound (if nat_lt body (length laid.file.tasks) then task_end else function_end)
      (ends_by (nat_lt body (length laid.file.tasks))) (length laid.file.functions) (first_path laid body) entry
      (omega arith, omega arith, tt)).1.2

  -- there is a node to begin at
  pub has_entry : (body : ℕ) → 0 < (built laid body).nodes
  has_entry body =
      (path_sound (if nat_lt body (length laid.file.tasks) then task_end else function_end)
      (ends_by (nat_lt body (length laid.file.tasks))) (length laid.file.functions) (first_path laid body) entry
      (omega arith, omega arith, tt)).1.0

  -- each edge joins nodes of the graph, and leads to another one than the entry node
  pub joins_nodes : (body : ℕ) → All (λ e. (e.from < (built laid body).nodes) × (e.to < (built laid body).nodes))
      (graph_of laid body)
  joins_nodes body = all_join (built laid body).nodes (graph_of laid body) (built_within body)

  pub leads_on : (body : ℕ) → All (λ e. 0 < e.to) (graph_of laid body)
  leads_on body = all_lead_on (built laid body).nodes (graph_of laid body) (built_within body)
