-- The graph of a body: nodes are numbered as they are placed, and an edge is placed when both its ends are.
use Rattle.std.specs.Prelude.{ℕ, zero, suc, nat_lt, Bool, true, false, if◌then◌else◌, List, [], ◌∷◌, ◌++◌, length}
use Rattle.std.specs.Prelude.{get_or, Option, Some, None, option_map}
use Rattle.concrete_steps.specs.tm_cint.IntTypes.{lo_of, hi_of}
use Rattle.concrete_steps.specs.tm_terms.declared.places.Place.{Place}
use Rattle.concrete_steps.specs.tm_typed.declared.scopes.ObjectNumber.TheVariants as Numbers
use Rattle.concrete_steps.specs.tm_typed.declared.types.CType.{CType}
use Rattle.concrete_steps.specs.tm_typed.declared.types.CType.TheVariants as Types
use Rattle.concrete_steps.specs.tm_typed.Functions.{TypedBodyTree}
use Rattle.concrete_steps.specs.tm_laid.Layouts.{LaidTree, first_path, callee, object_of}
use Rattle.concrete_steps.specs.concrete_values.Values.{nothing, truth_value}
use Rattle.flow_graph.specs.declared.graphs.Edge.{Edge}
use Rattle.flow_graph.specs.declared.operations.Test.{Test}
use Rattle.flow_graph.specs.declared.operations.Test.TheVariants as Tests
use Rattle.flow_graph.specs.declared.operations.Into.TheVariants as Intos
use Rattle.flow_graph.specs.declared.operations.Operation.{Operation}
use Rattle.flow_graph.specs.declared.operations.Operation.TheVariants as Op
use Rattle.flow_graph.specs.Operations.{given, opposite}
use Rattle.flow_graph.specs.Graphs.{Edges}
use Rattle.concrete_steps.specs.Places.{result_type}
use Rattle.concrete_steps.specs.NextAction.{scalar_at, function_at}
use Rattle.lowering.specs.Steps.{Steps, no_more, first_then, Step, operate, value_of, only_do, truth_of, choose}
use Rattle.lowering.specs.Steps.{choose_only, call_of, Inputs, no_inputs, and_input, Code, code, Fork, fork_by}
use Rattle.lowering.specs.Steps.{converse, both_of, either_of, Plan, nothing_more, in_turn, all_steps, one_of}
use Rattle.lowering.specs.Steps.{loop_while, loop_stepping, loop_until, select, break_off, go_on, give_back, Parts}
use Rattle.lowering.specs.Steps.{no_parts, labelled, by_default, and_plan}
use Rattle.lowering.specs.Table.{is_value_type, plans}

-- ## Variables by their temporaries

abbrev pub renamed_test : (ℕ → ℕ) → Test → Test
renamed_test f (Tests.Numbers operator of left right) = Tests.Numbers operator of (f left) (f right)
renamed_test f (Tests.Pointers equal left right) = Tests.Pointers equal (f left) (f right)
renamed_test f (Tests.Truth holds value) = Tests.Truth holds (f value)
renamed_test f (Tests.Case holds label value) = Tests.Case holds label (f value)

-- an operation over other temporaries, which gives this one
abbrev pub renamed : (ℕ → ℕ) → ℕ → Operation → Operation
renamed f to Op.Skip = Op.Skip
renamed f to (Op.Const t value) = Op.Const to value
renamed f to (Op.Copy t from) = Op.Copy to (f from)
renamed f to (Op.Un t operator of from place) = Op.Un to operator of (f from) place
renamed f to (Op.Bin t operator of left right place) = Op.Bin to operator of (f left) (f right) place
renamed f to (Op.BinPointers t equal left right) = Op.BinPointers to equal (f left) (f right)
renamed f to (Op.Convert t was of from) = Op.Convert to was of (f from)
renamed f to (Op.Base t object) = Op.Base to object
renamed f to (Op.Offset t from cells) = Op.Offset to (f from) cells
renamed f to (Op.Index t from length cells by place) = Op.Index to (f from) length cells (f by) place
renamed f to (Op.Move t from cells minus by place) = Op.Move to (f from) cells minus (f by) place
renamed f to (Op.Deref t from target path place) = Op.Deref to (f from) target path place
renamed f to (Op.Load t address scalar place) = Op.Load to (f address) scalar place
renamed f to (Op.LoadAny t address scalar place) = Op.LoadAny to (f address) scalar place
renamed f to (Op.Store address value scalar into place) = Op.Store (f address) (f value) scalar into place
renamed f to (Op.Any t low high) = Op.Any to low high
renamed f to (Op.Clear object) = Op.Clear object
renamed f to (Op.Usable pointer place) = Op.Usable (f pointer) place
renamed f to (Op.Assume test) = Op.Assume (renamed_test f test)
renamed f to (Op.Lock mutex place) = Op.Lock mutex place
renamed f to (Op.Unlock mutex place) = Op.Unlock mutex place
renamed f to Op.Yield = Op.Yield
renamed f to (Op.Probe t mutex place) = Op.Probe to mutex place

-- the temporary of a variable
abbrev pub at : List ℕ → ℕ → ℕ
at ts v = get_or ts v 0

-- ## What is built

-- what is built so far: the edges in order, the present node, and how many nodes and temporaries there are
pub record Building : Type 0 where
  pub edges : Edges
  pub node : ℕ
  pub nodes : ℕ
  pub temps : ℕ

abbrev pub edge : ℕ → ℕ → Operation → Edge
edge n n' op = record { from = n; to = n'; op = op }

-- an operation from the present node to a new one, after which there are this many temporaries
abbrev pub place_with : ℕ → Operation → Building → Building
place_with temps op b = record {
  edges = b.edges ++ edge b.node b.nodes op ∷ [];
  node = b.nodes;
  nodes = suc b.nodes;
  temps = temps;
}

abbrev pub place : Operation → Building → Building
place op b = place_with b.temps op b

-- an operation that gives a new temporary
abbrev pub place_new : (ℕ → Operation) → Building → Building
place_new op b = place_with (suc b.temps) (op b.temps) b

-- a test and its opposite, of which the first leads to what is then the present node
abbrev pub branch : Test → Building → Building
branch test b = record {
  edges = b.edges ++ edge b.node b.nodes (Op.Assume test) ∷ edge b.node (suc b.nodes) (Op.Assume (opposite test)) ∷ [];
  node = b.nodes;
  nodes = suc (suc b.nodes);
  temps = b.temps;
}

abbrev pub goto : ℕ → Building → Building
goto n b = record { edges = b.edges; node = n; nodes = b.nodes; temps = b.temps }

-- edges from these nodes to one
abbrev pub skips : List ℕ → ℕ → Edges
skips [] n = []
skips (p ∷ ps) n = edge p n Op.Skip ∷ skips ps n

-- a node where control comes together from these
abbrev pub meet : List ℕ → Building → Building
meet from b = record { edges = b.edges ++ skips from b.nodes; node = b.nodes; nodes = suc b.nodes; temps = b.temps }

-- a new present node to which no edge leads
abbrev pub nowhere : Building → Building
nowhere b = record { edges = b.edges; node = b.nodes; nodes = suc b.nodes; temps = b.temps }

-- the way back to a head that is there
abbrev pub back_to : ℕ → Building → Building
back_to head b = record {
  edges = b.edges ++ edge b.node head Op.Skip ∷ [];
  node = b.nodes;
  nodes = suc b.nodes;
  temps =
      b.temps;
}

-- the way back, and the exit, where control comes together from these
abbrev pub close_loop : ℕ → List ℕ → Building → Building
close_loop head outs b = record {
  edges = b.edges ++ edge b.node head Op.Skip ∷ skips outs b.nodes;
  node = b.nodes;
  nodes = suc b.nodes;
  temps = b.temps;
}

-- ## Steps

-- after a part: the temporary of its value, if it has one
pub record AfterPart : Type 0 where
  pub at : Building
  pub temp : Option ℕ

-- after a fork: the present node is that of its first way, and this is that of the other one
pub record Forked : Type 0 where
  pub at : Building
  pub other : ℕ

-- after steps: the temporaries of their variables
pub record AfterSteps : Type 0 where
  pub at : Building
  pub temps : List ℕ

-- the temporary of a value that is used: typing sees to it that there is one
abbrev pub temp_of : Option ℕ → ℕ
temp_of (Some t) = t
temp_of None = 0

abbrev pub with_value : List ℕ → AfterPart → AfterSteps
with_value ts x = record { at = x.at; temps = ts ++ temp_of x.temp ∷ [] }

abbrev pub only_at : List ℕ → Building → AfterSteps
only_at ts b = record { at = b; temps = ts }

-- an operation over these variables
abbrev pub operated : List ℕ → Operation → Option ℕ → Building → AfterSteps
operated ts op (Some v) b = record { at = place_new (λ t. renamed (at ts) t op) b; temps = ts ++ b.temps ∷ [] }
operated ts op None b = record { at = place (renamed (at ts) 0 op) b; temps = ts }

-- 1 and 0 meet
abbrev pub truth_met : Forked → Building
truth_met o =
    let b = place_new (λ t. Op.Const t (truth_value true)) o.at in
    let b' = place (Op.Const o.at.temps (truth_value false)) (goto o.other b) in
    meet (b.node ∷ b'.node ∷ []) b'

-- a value is copied into a new temporary, or into one that there is
abbrev pub copied : AfterPart → Building
copied x = place_new (λ t. Op.Copy t (temp_of x.temp)) x.at

abbrev pub copied_to : ℕ → AfterPart → Building
copied_to t x = place (Op.Copy t (temp_of x.temp)) x.at

-- the bodies of the calls on a path
abbrev pub Sites : Type 0
Sites = ℕ → List ℕ → Place → Building → AfterPart

abbrev pub call_given : Bool → List ℕ → AfterPart → AfterSteps
call_given true ts x = with_value ts x
call_given false ts x = only_at ts x.at

module _ (call : Sites) where
  abbrev mutual
    pub steps_piece : Steps → List ℕ → Building → AfterSteps
    steps_piece no_more ts b = only_at ts b
    steps_piece (first_then s rest) ts b = let x = step_piece s ts b in steps_piece rest x.temps x.at

    pub step_piece : Step → List ℕ → Building → AfterSteps
    step_piece (operate op) ts b = operated ts op (given op) b
    step_piece (value_of c) ts b = with_value ts (code_piece c b)
    step_piece (only_do c) ts b = only_at ts (code_piece c b).at
    step_piece (truth_of f) ts b = let o = fork_piece f b in record { at = truth_met o; temps = ts ++ o.at.temps ∷ [] }
    step_piece (choose f x y) ts b =
        let o = fork_piece f b in
        let v = code_piece x o.at in
        let b1 = copied v in
        let b2 = copied_to v.at.temps (code_piece y (goto o.other b1)) in
        record { at = meet (b1.node ∷ b2.node ∷ []) b2; temps = ts ++ v.at.temps ∷ [] }
    step_piece (choose_only f x y) ts b =
        let o = fork_piece f b in
        let b1 = (code_piece x o.at).at in
        let b2 = (code_piece y (goto o.other b1)).at in
        only_at ts (meet (b1.node ∷ b2.node ∷ []) b2)
    step_piece (call_of has site inputs p) ts b = let x = inputs_piece inputs b in
        call_given has ts (call site x.temps p x.at)

    pub inputs_piece : Inputs → Building → AfterSteps
    inputs_piece no_inputs b = only_at [] b
    inputs_piece (and_input c rest) b =
        let x = code_piece c b in
        let y = inputs_piece rest x.at in
        record { at = y.at; temps = temp_of x.temp ∷ y.temps }

    pub code_piece : Code → Building → AfterPart
    code_piece (code steps result) b = let x = steps_piece steps [] b in
        record { at = x.at; temp = option_map (at x.temps) result }

    pub fork_piece : Fork → Building → Forked
    fork_piece (fork_by steps test) b =
        let x = steps_piece steps [] b in
        record { at = branch (renamed_test (at x.temps) test) x.at; other = suc x.at.nodes }
    fork_piece (converse f) b = let o = fork_piece f b in record { at = goto o.other o.at; other = o.at.node }
    fork_piece (both_of f g) b =
        let o = fork_piece f b in
        let q = fork_piece g o.at in
        record { at = goto q.at.node (meet (o.other ∷ q.other ∷ []) q.at); other = q.at.nodes }
    fork_piece (either_of f g) b =
        let o = fork_piece f b in
        let q = fork_piece g (goto o.other o.at) in
        record { at = meet (o.at.node ∷ q.at.node ∷ []) q.at; other = q.other }

-- ## Statements

-- a node from which control goes on by a break, continue or return to a node that is not placed yet
pub data Way : Type 0 where
  ByBreak ByContinue ByReturn : Way

abbrev pub is_break : Way → Bool
is_break ByBreak = true
is_break ByContinue = false
is_break ByReturn = false

abbrev pub is_continue : Way → Bool
is_continue ByBreak = false
is_continue ByContinue = true
is_continue ByReturn = false

abbrev pub is_return : Way → Bool
is_return ByBreak = false
is_return ByContinue = false
is_return ByReturn = true

abbrev pub is_no_break : Way → Bool
is_no_break ByBreak = false
is_no_break ByContinue = true
is_no_break ByReturn = true

pub record Pending : Type 0 where
  pub node : ℕ
  pub way : Way

-- the nodes of those that pass a test, and those themselves
abbrev pub nodes_by : (Way → Bool) → List Pending → List ℕ
nodes_by f [] = []
nodes_by f (q ∷ ps) = if f q.way then q.node ∷ nodes_by f ps else nodes_by f ps

abbrev pub still_by : (Way → Bool) → List Pending → List Pending
still_by f [] = []
still_by f (q ∷ ps) = if f q.way then q ∷ still_by f ps else still_by f ps

-- where continue goes: to a head that is there, or to a step or condition that is placed later
pub data Onward : Type 0 where
  ToHead : (head : ℕ) → Onward
  Later : Onward

-- after a statement: the nodes that wait, and the temporary of the value of the call in which it stands, if there is
-- one yet
pub record Passed : Type 0 where
  pub at : Building
  pub pending : List Pending
  pub result : Option ℕ

-- where a continue goes to a step or a condition, it is a node where control comes together
abbrev pub continued_at : List ℕ → Building → Building
continued_at [] b = b
continued_at (p ∷ ps) b = meet ((p ∷ ps) ++ b.node ∷ []) b

-- the temporary of a call's value is new at the first operation that gives it
abbrev pub result_of : Option ℕ → Building → ℕ
result_of None b = b.temps
result_of (Some r) b = r

abbrev pub place_result : Option ℕ → (ℕ → Operation) → Building → Building
place_result None op b = place_new op b
place_result (Some r) op b = place (op r) b

-- a loop's test: control goes on at the present node, and leaves from these
pub record Entered : Type 0 where
  pub at : Building
  pub outs : List ℕ

-- the labels of a `switch`: their nodes wait, and the present node is that behind the last test
pub record Labels : Type 0 where
  pub at : Building
  pub nodes : List ℕ

abbrev pub first_of : List ℕ → ℕ → List ℕ
first_of [] n = n ∷ []
first_of (p ∷ ps) n = p ∷ n ∷ []

abbrev pub behind_first : List ℕ → List ℕ
behind_first [] = []
behind_first (p ∷ ps) = ps

-- a label without a default behind the tests goes to the exit
abbrev pub unless_default : Parts → ℕ → List ℕ
unless_default no_parts n = n ∷ []
unless_default (labelled z rest) n = unless_default rest n
unless_default (by_default rest) n = []
unless_default (and_plan s rest) n = unless_default rest n

-- the tests of the labels, in order, on the value in a temporary
abbrev pub tests_piece : Parts → ℕ → Building → Labels
tests_piece no_parts t b = record { at = b; nodes = [] }
tests_piece (labelled z rest) t b =
    let o = branch (Tests.Case true z t) b in
    let x = tests_piece rest t (goto (suc b.nodes) o) in
    record { at = x.at; nodes = b.nodes ∷ x.nodes }
tests_piece (by_default rest) t b = tests_piece rest t b
tests_piece (and_plan s rest) t b = tests_piece rest t b

module _ (call : Sites) where
  abbrev pub entered : Option Fork → Building → Entered
  entered None b = record { at = b; outs = [] }
  entered (Some f) b = let o = fork_piece call f b in record { at = o.at; outs = o.other ∷ [] }

  abbrev pub given_back : Option Code → Option ℕ → Building → Passed
  given_back None res b = record {
    at = nowhere b;
    pending = record { node = b.node; way = ByReturn } ∷ [];
    result =
        res;
  }
  given_back (Some c) res b =
      let x = code_piece call c b in
      let d = place_result res (λ t. Op.Copy t (temp_of x.temp)) x.at in
      record {
        at = nowhere d;
        pending = record { node = d.node; way = ByReturn } ∷ [];
        result =
            Some (result_of res x.at);
      }

  abbrev mutual
    pub plan_piece : Plan → Onward → Option ℕ → Building → Passed
    plan_piece nothing_more onward res b = record { at = b; pending = []; result = res }
    plan_piece (in_turn s s') onward res b =
        let x = plan_piece s onward res b in
        let y = plan_piece s' onward x.result x.at in
        record { at = y.at; pending = x.pending ++ y.pending; result = y.result }
    plan_piece (all_steps steps) onward res b =
        record { at = (steps_piece call steps [] b).at; pending = []; result = res }
    plan_piece (one_of f s s') onward res b =
        let o = fork_piece call f b in
        let x = plan_piece s onward res o.at in
        let y = plan_piece s' onward x.result (goto o.other x.at) in
        record { at = meet (x.at.node ∷ y.at.node ∷ []) y.at; pending = x.pending ++ y.pending; result = y.result }
    plan_piece (loop_while f s) onward res b =
        let h = place Op.Skip b in
        let o = fork_piece call f h in
        let x = plan_piece s (ToHead h.node) res o.at in
        record {
          at = close_loop h.node (o.other ∷ nodes_by is_break x.pending) x.at;
          pending =
              still_by is_return x.pending;
          result = x.result;
        }
    plan_piece (loop_stepping f step s) onward res b =
        let h = place Op.Skip b in
        let o = entered f h in
        let x = plan_piece s Later res o.at in
        let y = (steps_piece call step [] (continued_at (nodes_by is_continue x.pending) x.at)).at in
        record {
          at = close_loop h.node (o.outs ++ nodes_by is_break x.pending) y;
          pending =
              still_by is_return x.pending;
          result = x.result;
        }
    plan_piece (loop_until s f) onward res b =
        let h = place Op.Skip b in
        let x = plan_piece s Later res h in
        let o = fork_piece call f (continued_at (nodes_by is_continue x.pending) x.at) in
        record {
          at = close_loop h.node (nodes_by is_break x.pending ++ o.other ∷ []) o.at;
          pending =
              still_by is_return x.pending;
          result = x.result;
        }
    plan_piece (select c ps) onward res b =
        let v = code_piece call c b in
        let ls = tests_piece ps (temp_of v.temp) v.at in
        let x = parts_piece ps ls.nodes ls.at.node onward res (nowhere ls.at) in
        record {
          at = meet (unless_default ps ls.at.node ++ nodes_by is_break x.pending ++ x.at.node ∷ []) x.at;
          pending = still_by is_no_break x.pending;
          result = x.result;
        }
    plan_piece break_off onward res b = record {
      at = nowhere b;
      pending = record { node = b.node; way = ByBreak } ∷ [];
      result = res;
    }
    plan_piece go_on (ToHead h) res b = record { at = back_to h b; pending = []; result = res }
    plan_piece go_on Later res b = record {
      at = nowhere b;
      pending = record { node = b.node; way = ByContinue } ∷ [];
      result = res;
    }
    plan_piece (give_back c) onward res b = given_back c res b

    -- the parts of a `switch`, with the nodes of their labels and the one behind the tests, to which a default belongs
    pub parts_piece : Parts → List ℕ → ℕ → Onward → Option ℕ → Building → Passed
    parts_piece no_parts ls none onward res b = record { at = b; pending = []; result = res }
    parts_piece (labelled z rest) ls none onward res b = parts_piece rest (behind_first ls) none onward res
        (meet (first_of ls b.node) b)
    parts_piece (by_default rest) ls none onward res b = parts_piece rest ls none onward res
        (meet (none ∷ b.node ∷ []) b)
    parts_piece (and_plan s rest) ls none onward res b =
        let x = plan_piece s onward res b in
        let y = parts_piece rest ls none onward x.result x.at in
        record { at = y.at; pending = x.pending ++ y.pending; result = y.result }

-- ## Bodies

-- the arguments are stored to the parameters, in order
abbrev pub stores_piece : LaidTree → ℕ → ℕ → List ℕ → Place → Building → Building
stores_piece laid path k [] p b = b
stores_piece laid path k (t ∷ ts) p b =
    let o = object_of laid path (Numbers.Local k) in
    let b1 = place_new (λ a. Op.Base a o) b in
    stores_piece laid path (suc k) ts p (place (Op.Store b.temps t (scalar_at laid o 0) (Intos.Object o) p) b1)

-- a function that ends without `return` gives any value of its type, or the invalid pointer
abbrev pub fallen_piece : CType → Option ℕ → Building → Building
fallen_piece (Types.Int t) res b = place_result res (λ r. Op.Any r (lo_of t) (hi_of t)) b
fallen_piece (Types.Pointer q) res b = place_result res (λ r. Op.Const r nothing) b
fallen_piece _ res b = b

-- the temporary of its value, if it has one
abbrev pub result_at : Bool → Option ℕ → Building → Option ℕ
result_at true res b = Some (result_of res b)
result_at false res b = None

-- a function's end is a node where control comes together; that of a task only where it holds a `return`
abbrev pub function_end : List ℕ → Building → Building
function_end ps b = meet (ps ++ b.node ∷ []) b

abbrev pub task_end : List ℕ → Building → Building
task_end ps b = continued_at ps b

-- where there is no body, which typing and the depth see to, the value is the invalid pointer
abbrev pub nothing_piece : Building → AfterPart
nothing_piece b = record { at = place_new (λ t. Op.Const t nothing) b; temp = Some b.temps }

-- the statements of a function on a path, and its end
abbrev pub function_piece : Sites → LaidTree → ℕ → (List ℕ → Building → Building) → CType → Option TypedBodyTree
    → Building → AfterPart
function_piece call laid path close t None b = nothing_piece b
function_piece call laid path close t (Some body) b =
    let x = plan_piece call (plans laid path body.statements) Later None b in
    let y = fallen_piece t x.result x.at in
    record { at = close (nodes_by is_return x.pending) y; temp = result_at (is_value_type t) x.result x.at }

-- a call: the arguments, and the body on the path that goes on there
abbrev pub sites_of : LaidTree → (ℕ → Building → AfterPart) → ℕ → Sites
sites_of laid body path site ts p b = body (callee laid path site) (stores_piece laid (callee laid path site) 0 ts p b)

-- The body of a call path, whose end is this. No chain of calls is as long as the depth, so that the first case does
-- not come.
abbrev pub path_piece : (List ℕ → Building → Building) → LaidTree → ℕ → ℕ → Building → AfterPart
path_piece close laid zero path b = nothing_piece b
path_piece close laid (suc depth) path b =
    function_piece (sites_of laid (path_piece function_end laid depth) path) laid path close
    (result_type laid (function_at laid path)) (function_at laid path).body b

abbrev pub entry : Building
entry = record { edges = []; node = 0; nodes = 1; temps = 0 }

-- what is built for a body: a task, or the initial section, which ends as a called function does
abbrev pub built : LaidTree → ℕ → Building
built laid body =
    (path_piece (if nat_lt body (length laid.file.tasks) then task_end else function_end)
    laid (length laid.file.functions) (first_path laid body) entry).at

-- the edges of the graph of a body
abbrev pub graph_of : LaidTree → ℕ → Edges
graph_of laid body = (built laid body).edges
