-- Statements as the code builds them: each behind what is built and what waits already.
use Rattle.std.specs.Prelude.{◌≡◌, ℕ, Bool, true, false, if◌then◌else◌, List, [], ◌∷◌, ◌++◌, Option, Some, None, map}
use Rattle.tm_typed.specs.TypedTrees.{RvalueTree}
use Rattle.tm_typed.specs.TypedStatements.{LocalTree, TypedTree, evaluates, declares, runs_block, branches}
use Rattle.tm_typed.specs.TypedStatements.{branches_else, loops_while, loops_do, loops_for, selects}
use Rattle.tm_typed.specs.TypedStatements.{breaks, continues}
use Rattle.tm_typed.specs.TypedStatements.{returns, locks, unlocks, yields, TypedTrees, no_statements}
use Rattle.tm_typed.specs.TypedStatements.{and_statement}
use Rattle.tm_typed.specs.TypedStatements.{TypedCase, a_label, a_default_label, a_labelled_step}
use Rattle.tm_typed.specs.TypedStatements.{TypedCases}
use Rattle.tm_typed.specs.TypedStatements.{no_typed_cases, and_typed_case}
use Rattle.tm_laid.specs.Layouts.{LaidTree}
use Rattle.flow_graph.specs.declared.operations.Operation.{Operation}
use Rattle.flow_graph.specs.declared.operations.Operation.TheVariants as Op
use Rattle.body_builder.specs.lowering.Table.{codes, effect_steps, locals_steps, optional_code, parts}
use Rattle.body_builder.specs.lowering.Built as Built
use Rattle.body_builder.specs.lowering.Built.{Building, place, goto, meet, nowhere, back_to, close_loop, temp_of}
use Rattle.body_builder.specs.lowering.Built.{steps_piece}
use Rattle.body_builder.specs.lowering.Built.{code_piece, fork_piece, tests_piece, nodes_by, still_by, is_break}
use Rattle.body_builder.specs.lowering.Built.{is_continue}
use Rattle.body_builder.specs.lowering.Built.{is_return, is_no_break, ToHead, Later, ByBreak, ByContinue, ByReturn}
use Rattle.body_builder.specs.lowering.Built.{continued_at}
use Rattle.body_builder.specs.lowering.Built.{given_back, first_of, behind_first, unless_default, plan_piece}
use Rattle.body_builder.specs.lowering.Steps.{Plan}
use Rattle.body_builder.specs.declared.fragments.Fragment.{Fragment}
use Rattle.body_builder.specs.Fragments.{so_far, calls_on}
use Rattle.statement_builder.specs.declared.loops.Begun.{Begun}
use Rattle.statement_builder.specs.declared.loops.Entered.{Entered}
use Rattle.statement_builder.specs.declared.selections.Selected.{Selected}
use Rattle.statement_builder.specs.declared.passed.Passed.{Passed}
use Rattle.statement_builder.specs.declared.passed.Onward.{Onward}
use Rattle.statement_builder.specs.declared.passed.Onward.TheVariants as Onwards
use Rattle.statement_builder.specs.Waiting.{waiting}

-- where `continue` goes
abbrev pub onward_of : Onward → Built.Onward
onward_of (Onwards.Head h) = ToHead h
onward_of Onwards.Later = Later

-- the nodes that wait
unfoldable pub waits : Passed → List Built.Pending
waits p = map waiting p.pending.items

-- what is built so far, what waits, and the temporary of the value
unfoldable pub reached : LaidTree → Fragment → Passed → Built.Passed
reached laid to p = record { at = so_far laid to; pending = map waiting p.pending.items; result = p.result }

-- ## Ways that wait

-- this is the way
abbrev pub is_way : Built.Way → Built.Way → Bool
is_way ByBreak = is_break
is_way ByContinue = is_continue
is_way ByReturn = is_return

-- what goes on waiting behind a loop, or else behind a `switch`
abbrev pub stays : Bool → Built.Way → Bool
stays true = is_return
stays false = is_no_break

-- ## What is done next to what waits

-- what is built goes on so, and as much waits
abbrev pub with_at : Building → Built.Passed → Built.Passed
with_at b s = record { at = b; pending = s.pending; result = s.result }

-- after a fork: the node of its other way
pub record Split : Type 0 where
  pub at : Built.Passed
  pub other : ℕ

-- after a value: its temporary
pub record Worth : Type 0 where
  pub at : Built.Passed
  pub temp : ℕ

-- after these nodes are placed
pub record Lines : Type 0 where
  pub at : Built.Passed
  pub nodes : List ℕ

-- an operation
unfoldable pub placed : Operation → Built.Passed → Built.Passed
placed op s = with_at (place op s.at) s

-- control goes on at the other node of a fork
unfoldable pub gone : ℕ → Built.Passed → Built.Passed
gone n s = with_at (goto n s.at) s

-- control comes together from a node and the present one
unfoldable pub joined : ℕ → Built.Passed → Built.Passed
joined n s = with_at (meet (n ∷ s.at.node ∷ []) s.at) s

-- control goes on nowhere, until there is a label
unfoldable pub cut : Built.Passed → Built.Passed
cut s = with_at (nowhere s.at) s

-- the present node waits
unfoldable pub left : Built.Way → Built.Passed → Built.Passed
left w s = record {
  at = nowhere s.at;
  pending = s.pending ++ record { node = s.at.node; way = w } ∷ [];
  result = s.result;
}

-- `continue`: to a head that is there, or the present node waits
abbrev pub goes_on : Built.Onward → Built.Passed → Built.Passed
goes_on (ToHead h) s = with_at (back_to h s.at) s
goes_on Later s = left ByContinue s

-- ## Loops

-- behind what waits outside
unfoldable pub behind : List Built.Pending → Built.Passed → Built.Passed
behind ps x = record { at = x.at; pending = ps ++ x.pending; result = x.result }

-- nothing waits inside of a loop or a `switch` yet
unfoldable pub inside : Built.Passed → Built.Passed
inside s = record { at = s.at; pending = []; result = s.result }

-- the head of a loop is placed
abbrev pub headed : Built.Passed → Built.Passed
headed s = placed Op.Skip (inside s)

abbrev pub IsBegun : Built.Passed → Built.Passed → Begun → Type 0
IsBegun h b x = (b ≡ h) × (x.head ≡ h.at.node)

-- the head of a loop is placed, with a test there
abbrev pub IsEntered : Built.Passed → Lines → Built.Passed → Entered → Type 0
IsEntered h o b x = (b ≡ o.at) × (x.head ≡ h.at.node) × (x.outs.items ≡ o.nodes)

-- where `continue` goes to what is placed later, control comes together there
unfoldable pub continued : Built.Passed → Built.Passed
continued s = with_at (continued_at (nodes_by is_continue s.pending) s.at) s

-- the way back to the head, and the exit
unfoldable pub turns_end : ℕ → List ℕ → List Built.Pending → Built.Passed → Built.Passed
turns_end head outs ps s = record {
  at = close_loop head (outs ++ nodes_by is_break s.pending) s.at;
  pending = ps ++ still_by is_return s.pending;
  result = s.result;
}

-- the same where the condition stands behind the body: its other way leads to the exit last
unfoldable pub until_ends : ℕ → ℕ → List Built.Pending → Built.Passed → Built.Passed
until_ends head other ps s = record {
  at = close_loop head (nodes_by is_break s.pending ++ other ∷ []) s.at;
  pending = ps ++ still_by is_return s.pending;
  result = s.result;
}

-- ## Labels

-- a label belongs to its test and to the statement before it
unfoldable pub labelled_at : List ℕ → Built.Passed → Built.Passed
labelled_at ls s = with_at (meet (first_of ls s.at.node) s.at) s

-- the nodes of the labels behind a part
abbrev pub labels_left : TypedCase → List ℕ → List ℕ
labels_left (a_label z p) ls = behind_first ls
labels_left (a_default_label p) ls = ls
labels_left (a_labelled_step t) ls = ls

-- a part is a default
abbrev pub is_default : TypedCase → Bool
is_default (a_label z p) = false
is_default (a_default_label p) = true
is_default (a_labelled_step t) = false

-- there is a default among the parts
abbrev pub has_default : TypedCases → Bool
has_default no_typed_cases = false
has_default (and_typed_case c cs) = if is_default c then true else has_default cs

-- without a default the last test goes to the exit
abbrev pub behind_tests : Bool → ℕ → List ℕ
behind_tests true n = []
behind_tests false n = n ∷ []

-- the exit of a `switch`, to which the last test may lead, each `break` and the end of the parts
unfoldable pub select_ends : List ℕ → List Built.Pending → Built.Passed → Built.Passed
select_ends outs ps s = record {
  at = meet (outs ++ nodes_by is_break s.pending ++ s.at.node ∷ []) s.at;
  pending = ps ++ still_by is_no_break s.pending;
  result = s.result;
}

-- the tests of labels
unfoldable pub tests_at : LaidTree → ℕ → TypedCases → ℕ → Built.Passed → Lines
tests_at laid path cs t s =
    let x = tests_piece (parts laid path cs) t s.at in record { at = with_at x.at s; nodes = x.nodes }

-- the tests of labels are placed, behind which control goes on nowhere
abbrev pub IsSelected : TypedCases → Lines → Built.Passed → Selected → Type 0
IsSelected cs ls b x =
    (b ≡ cut ls.at)
    × (x.labels.items ≡ ls.nodes)
    × (x.node ≡ ls.at.at.node)
    × (x.outs.items ≡ behind_tests (has_default cs) ls.at.at.node)

-- a loop or a `switch`
abbrev pub is_enclosing : TypedTree → Bool
is_enclosing (loops_while c t) = true
is_enclosing (loops_do t c) = true
is_enclosing (loops_for first c step t) = true
is_enclosing (selects t e cs) = true
is_enclosing _ = false

module _ (laid : LaidTree) (depth path : ℕ) where
  -- what the definition builds, behind what waits already
  unfoldable pub ran : Plan → Built.Onward → Built.Passed → Built.Passed
  ran p onward s = behind s.pending (plan_piece (calls_on laid depth path) p onward s.result s.at)

  -- an expression whose value is not used, if there is one
  unfoldable pub effected : Option RvalueTree → Built.Passed → Built.Passed
  effected e s = with_at (steps_piece (calls_on laid depth path) (effect_steps laid path e) [] s.at).at s

  -- a declaration of local objects
  unfoldable pub declared : List LocalTree → Built.Passed → Built.Passed
  declared ls s = with_at (steps_piece (calls_on laid depth path) (locals_steps laid path ls) [] s.at).at s

  -- `return`
  unfoldable pub returned : Option RvalueTree → Built.Passed → Built.Passed
  returned e s = behind s.pending (given_back (calls_on laid depth path) (optional_code laid path e) s.result s.at)

  -- a condition: control goes on where it holds
  unfoldable pub forked : RvalueTree → Built.Passed → Split
  forked c s =
      let o = fork_piece (calls_on laid depth path) (codes laid path c).fork s.at in
      record { at = with_at o.at s; other = o.other }

  -- a test at the head of a loop: control leaves from these nodes
  unfoldable pub entered : RvalueTree → Built.Passed → Lines
  entered c s = let o = forked c s in record { at = o.at; nodes = o.other ∷ [] }

  -- the same, if there is a test
  abbrev pub entered_if : Option RvalueTree → Built.Passed → Lines
  entered_if None s = record { at = s; nodes = [] }
  entered_if (Some c) s = entered c s

  -- an expression for its value
  unfoldable pub worth : RvalueTree → Built.Passed → Worth
  worth e s =
      let x = code_piece (calls_on laid depth path) (codes laid path e).value s.at in
      record { at = with_at x.at s; temp = temp_of x.temp }

  -- the value of a `switch` and the tests of its labels
  abbrev pub selecting : RvalueTree → TypedCases → Built.Passed → Lines
  selecting e cs s = let v = worth e (inside s) in tests_at laid path cs v.temp v.at

  -- behind the body of a `do`
  abbrev pub do_ends : RvalueTree → ℕ → List Built.Pending → Built.Passed → Built.Passed
  do_ends c head ps s = let o = forked c (continued s) in until_ends head o.other ps o.at

  -- behind the body of a `for`
  abbrev pub for_ends : Option RvalueTree → ℕ → List ℕ → List Built.Pending → Built.Passed → Built.Passed
  for_ends step head outs ps s = turns_end head outs ps (effected step (continued s))

  abbrev mutual
    -- a statement
    pub statement_at : TypedTree → Built.Onward → Built.Passed → Built.Passed
    statement_at (evaluates e) onward s = effected e s
    statement_at (declares ls) onward s = declared ls s
    statement_at (runs_block ss) onward s = statements_at ss onward s
    statement_at (branches c t) onward s =
        let o = forked c s in
        let x = statement_at t onward o.at in
        joined x.at.node (gone o.other x)
    statement_at (branches_else c t r) onward s =
        let o = forked c s in
        let x = statement_at t onward o.at in
        joined x.at.node (statement_at r onward (gone o.other x))
    statement_at (loops_while c t) onward s =
        let h = headed s in
        let o = entered c h in
        turns_end h.at.node o.nodes s.pending (statement_at t (ToHead h.at.node) o.at)
    statement_at (loops_do t c) onward s =
        let h = headed s in do_ends c h.at.node s.pending (statement_at t Later h)
    statement_at (loops_for first c step t) onward s =
        let i = statement_at first onward s in
        let h = headed i in
        let o = entered_if c h in
        for_ends step h.at.node o.nodes i.pending (statement_at t Later o.at)
    statement_at (selects t e cs) onward s =
        let ls = selecting e cs s in
        select_ends (behind_tests (has_default cs) ls.at.at.node) s.pending
        (cases_at cs ls.nodes ls.at.at.node onward (cut ls.at))
    statement_at breaks onward s = left ByBreak s
    statement_at continues onward s = goes_on onward s
    statement_at (returns e) onward s = returned e s
    statement_at (locks m p) onward s = placed (Op.Lock m p) s
    statement_at (unlocks m p) onward s = placed (Op.Unlock m p) s
    statement_at yields onward s = placed Op.Yield s

    -- statements in their order
    pub statements_at : TypedTrees → Built.Onward → Built.Passed → Built.Passed
    statements_at no_statements onward s = s
    statements_at (and_statement t ts) onward s = statements_at ts onward (statement_at t onward s)

    -- a part of a `switch`, with the nodes of the labels from it on and the one behind the tests
    pub case_at : TypedCase → List ℕ → ℕ → Built.Onward → Built.Passed → Built.Passed
    case_at (a_label z p) ls none onward s = labelled_at ls s
    case_at (a_default_label p) ls none onward s = joined none s
    case_at (a_labelled_step t) ls none onward s = statement_at t onward s

    -- the parts of a `switch` in their order
    pub cases_at : TypedCases → List ℕ → ℕ → Built.Onward → Built.Passed → Built.Passed
    cases_at no_typed_cases ls none onward s = s
    cases_at (and_typed_case c cs) ls none onward s =
        cases_at cs (labels_left c ls) none onward (case_at c ls none onward s)
