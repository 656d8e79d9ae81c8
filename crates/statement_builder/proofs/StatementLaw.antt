-- Statements as the code builds them are those of the definition.
use Rattle.std.proofs.Common.{◌≡◌, ℕ, List, [], ◌++◌, map, refl, sym, ap, ◌∙◌}
use Rattle.std.specs.Prelude.{Some, None}
use Rattle.std.proofs.lemmas.List.{append_assoc, append-nil}
use Rattle.tm_typed.specs.TypedStatements.{TypedTree, evaluates, declares, runs_block, branches}
use Rattle.tm_typed.specs.TypedStatements.{branches_else, loops_while, loops_do, loops_for, selects}
use Rattle.tm_typed.specs.TypedStatements.{breaks, continues}
use Rattle.tm_typed.specs.TypedStatements.{returns, locks, unlocks, yields, TypedTrees, no_statements}
use Rattle.tm_typed.specs.TypedStatements.{and_statement}
use Rattle.tm_typed.specs.TypedStatements.{a_label, a_default_label, a_labelled_step, TypedCases}
use Rattle.tm_typed.specs.TypedStatements.{no_typed_cases}
use Rattle.tm_typed.specs.TypedStatements.{and_typed_case}
use Rattle.tm_laid.specs.Layouts.{LaidTree}
use Rattle.flow_graph.specs.declared.operations.Operation.TheVariants as Op
use Rattle.body_builder.specs.lowering.Steps.{Plan, in_turn, loop_stepping}
use Rattle.body_builder.specs.lowering.Table.{plan, plans, parts, effect_steps, locals_steps, optional_fork}
use Rattle.body_builder.specs.lowering.Built as Built
use Rattle.body_builder.specs.lowering.Built.{Building, place, plan_piece, parts_piece, steps_piece, unless_default}
use Rattle.body_builder.specs.lowering.Built.{back_to}
use Rattle.body_builder.specs.lowering.Built.{ToHead, Later, behind_first}
use Rattle.body_builder.specs.Fragments.{calls_on}
use Rattle.statement_builder.specs.declared.passed.Pending.{Pending}
use Rattle.statement_builder.specs.declared.passed.Passed.{Passed}
use Rattle.statement_builder.specs.Waiting.{waiting, IsPassed}
use Rattle.statement_builder.specs.reading.Statements.{with_at, placed, gone, joined, cut, left}
use Rattle.statement_builder.specs.reading.Statements.{behind, inside, continued, turns_end, until_ends}
use Rattle.statement_builder.specs.reading.Statements.{labelled_at, has_default, behind_tests, select_ends, tests_at}
use Rattle.statement_builder.specs.reading.Statements.{ran, effected, declared, returned, forked, entered, worth}
use Rattle.statement_builder.specs.reading.Statements.{statement_at, statements_at, cases_at}

-- nothing waits
still : (b : Building) (s : Built.Passed)
    → with_at b s ≡ behind s.pending (record { at = b; pending = []; result = s.result })
unfolding behind
still b s = ap (λ (ps : List Built.Pending). let r : Built.Passed = record
    { at = b; pending = ps; result = s.result } in r) (sym (append-nil s.pending))

-- what waits behind what waits
further : (ps qs : List Built.Pending) (x : Built.Passed) → behind (ps ++ qs) x ≡ behind ps (behind qs x)
unfolding behind
further ps qs x = ap (λ (rs : List Built.Pending). let r : Built.Passed = record
    { at = x.at; pending = rs; result = x.result } in r) (append_assoc ps qs x.pending)

default_law : (laid : LaidTree) (path : ℕ) (cs : TypedCases) (n : ℕ)
    → behind_tests (has_default cs) n ≡ unless_default (parts laid path cs) n
default_law laid path no_typed_cases n = refl
default_law laid path (and_typed_case (a_label z p) cs) n = default_law laid path cs n
default_law laid path (and_typed_case (a_default_label p) cs) n = refl
default_law laid path (and_typed_case (a_labelled_step t) cs) n = default_law laid path cs n

module _ (laid : LaidTree) (depth path : ℕ) where
  after : (p q : Plan) (onward : Built.Onward) (s : Built.Passed)
      → ran laid depth path q onward (ran laid depth path p onward s) ≡ ran laid depth path (in_turn p q) onward s
  unfolding ran behind
  after p q onward s =
      let x = plan_piece (calls_on laid depth path) p onward s.result s.at in
      further s.pending x.pending (plan_piece (calls_on laid depth path) q onward x.result x.at)

  mutual
    unfolding ran behind effected declared returned forked entered worth placed gone joined cut left inside continued
        turns_end until_ends labelled_at select_ends tests_at

    pub statement_law : (t : TypedTree) (onward : Built.Onward) (s : Built.Passed)
        → statement_at laid depth path t onward s ≡ ran laid depth path (plan laid path t) onward s
    statement_law (evaluates e) onward s =
        still (steps_piece (calls_on laid depth path) (effect_steps laid path e) [] s.at).at s
    statement_law (declares ls) onward s =
        still (steps_piece (calls_on laid depth path) (locals_steps laid path ls) [] s.at).at s
    statement_law (runs_block ss) onward s = statements_law ss onward s
    statement_law (branches c t) onward s =
        let o = forked laid depth path c s in
        let go = λ (x : Built.Passed). joined x.at.node (gone o.other x) in
        let x = plan_piece (calls_on laid depth path) (plan laid path t) onward s.result o.at.at in
        let y = go (ran laid depth path (plan laid path t) onward o.at) in
        ap go (statement_law t onward o.at)
        ∙ ap (λ (ps : List Built.Pending). let r : Built.Passed = record
        { at = y.at; pending = s.pending ++ ps; result = y.result } in r) (sym (append-nil x.pending))
    statement_law (branches_else c t r) onward s =
        let o = forked laid depth path c s in
        let u = ran laid depth path (plan laid path t) onward o.at in
        let x = plan_piece (calls_on laid depth path) (plan laid path t) onward s.result o.at.at in
        let y = plan_piece (calls_on laid depth path) (plan laid path r) onward x.result (gone o.other u).at in
        let z = joined u.at.node (ran laid depth path (plan laid path r) onward (gone o.other u)) in
        ap (λ (v : Built.Passed). joined v.at.node (statement_at laid depth path r onward (gone o.other v)))
        (statement_law t onward o.at)
        ∙ (ap (λ (v : Built.Passed). joined u.at.node v) (statement_law r onward (gone o.other u))
        ∙ ap (λ (ps : List Built.Pending). let r : Built.Passed = record
        { at = z.at; pending = ps; result = z.result } in r) (append_assoc s.pending x.pending y.pending))
    statement_law (loops_while c t) onward s =
        let h = placed Op.Skip (inside s) in
        let o = entered laid depth path c h in
        ap (λ (x : Built.Passed). turns_end h.at.node o.nodes s.pending x)
        (statement_law t (ToHead h.at.node) o.at)
    statement_law (loops_do t c) onward s =
        let h = placed Op.Skip (inside s) in
        ap (λ (x : Built.Passed). let o = forked laid depth path c (continued x) in
        until_ends h.at.node o.other s.pending o.at) (statement_law t Later h)
    statement_law (loops_for first None step t) onward s =
        let turns = λ (i : Built.Passed). let h = placed Op.Skip (inside i) in
        turns_end h.at.node [] i.pending
        (effected laid depth path step (continued (statement_at laid depth path t Later h))) in
        let i = ran laid depth path (plan laid path first) onward s in
        let h = placed Op.Skip (inside i) in
        ap turns (statement_law first onward s)
        ∙ (ap (λ (x : Built.Passed). turns_end h.at.node [] i.pending (effected laid depth path step (continued x)))
        (statement_law t Later h)
        ∙ after (plan laid path first) (loop_stepping None (effect_steps laid path step) (plan laid path t)) onward s)
    statement_law (loops_for first (Some c) step t) onward s =
        let turns = λ (i : Built.Passed). let h = placed Op.Skip (inside i) in
        let o = entered laid depth path c h in
        turns_end h.at.node o.nodes i.pending
        (effected laid depth path step (continued (statement_at laid depth path t Later o.at))) in
        let i = ran laid depth path (plan laid path first) onward s in
        let h = placed Op.Skip (inside i) in
        let o = entered laid depth path c h in
        ap turns (statement_law first onward s)
        ∙ (ap (λ (x : Built.Passed). turns_end h.at.node o.nodes i.pending
        (effected laid depth path step (continued x))) (statement_law t Later o.at)
        ∙ after (plan laid path first)
        (loop_stepping (optional_fork laid path (Some c)) (effect_steps laid path step) (plan laid path t)) onward s)
    statement_law (selects t e cs) onward s =
        let v = worth laid depth path e (inside s) in
        let ls = tests_at laid path cs v.temp v.at in
        let n = ls.at.at.node in
        let b = cut ls.at in
        let x = parts_piece (calls_on laid depth path) (parts laid path cs) ls.nodes n onward s.result b.at in
        ap (λ (y : Built.Passed). select_ends (behind_tests (has_default cs) n) s.pending y)
        (cases_law cs ls.nodes n onward b)
        ∙ ap (λ (outs : List ℕ). select_ends outs s.pending x) (default_law laid path cs n)
    statement_law breaks onward s = refl
    statement_law continues (ToHead h) s = still (back_to h s.at) s
    statement_law continues Later s = refl
    statement_law (returns e) onward s = refl
    statement_law (locks m p) onward s = still (place (Op.Lock m p) s.at) s
    statement_law (unlocks m p) onward s = still (place (Op.Unlock m p) s.at) s
    statement_law yields onward s = still (place Op.Yield s.at) s

    pub statements_law : (ts : TypedTrees) (onward : Built.Onward) (s : Built.Passed)
        → statements_at laid depth path ts onward s ≡ ran laid depth path (plans laid path ts) onward s
    statements_law no_statements onward s = still s.at s
    statements_law (and_statement t ts) onward s =
        statements_law ts onward (statement_at laid depth path t onward s)
        ∙ (ap (λ (x : Built.Passed). ran laid depth path (plans laid path ts) onward x) (statement_law t onward s)
        ∙ after (plan laid path t) (plans laid path ts) onward s)

    cases_law : (cs : TypedCases) (ls : List ℕ) (none : ℕ) (onward : Built.Onward) (s : Built.Passed)
        → cases_at laid depth path cs ls none onward s
        ≡ behind s.pending (parts_piece (calls_on laid depth path) (parts laid path cs) ls none onward s.result s.at)
    cases_law no_typed_cases ls none onward s = still s.at s
    cases_law (and_typed_case (a_label z p) cs) ls none onward s =
        cases_law cs (behind_first ls) none onward (labelled_at ls s)
    cases_law (and_typed_case (a_default_label p) cs) ls none onward s = cases_law cs ls none onward (joined none s)
    cases_law (and_typed_case (a_labelled_step t) cs) ls none onward s =
        let x = plan_piece (calls_on laid depth path) (plan laid path t) onward s.result s.at in
        ap (λ (z : Built.Passed). cases_at laid depth path cs ls none onward z) (statement_law t onward s)
        ∙ (cases_law cs ls none onward (ran laid depth path (plan laid path t) onward s)
        ∙ further s.pending x.pending
        (parts_piece (calls_on laid depth path) (parts laid path cs) ls none onward x.result x.at))

  -- what is built where nothing waits
  pub statements_built : (ts : TypedTrees) (b n : Building) (p : Passed) (qs : List Pending) → qs ≡ []
      → (let x : Built.Passed = record { at = n; pending = map waiting p.pending.items; result = p.result } in
      let s : Built.Passed = record { at = b; pending = map waiting qs; result = None } in
      x ≡ statements_at laid depth path ts Later s)
      → IsPassed (plan_piece (calls_on laid depth path) (plans laid path ts) Later None b) n p
  unfolding ran behind
  statements_built ts b n p qs e h =
      let s : Built.Passed = record { at = b; pending = []; result = None } in
      let none = ap (λ (zs : List Pending). let z : Built.Passed = record
      { at = b; pending = map waiting zs; result = None } in statements_at laid depth path ts Later z) e in
      let law = h ∙ (none ∙ statements_law ts Later s) in (
        ap (λ (x : Built.Passed). x.at) law,
        ap (λ (x : Built.Passed). x.pending) law,
        ap (λ (x : Built.Passed). x.result) law,
      )
