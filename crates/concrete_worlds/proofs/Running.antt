-- Tasks stay where their answers have led them.
use Rattle.std.proofs.Common.{◌≡◌, refl, sym, ap, subst, ◌∙◌, ℕ, zero, suc, ◌+◌, ◌<◌, ◌≤◌, List, [], ◌∷◌, ◌++◌, length, map, get_or, slice_set, set, Some, None, arith, inl, inr}
use Rattle.std.proofs.lemmas.Bool.{cases_eq, cases_lt}
use Rattle.std.proofs.lemmas.List.{length-map, length-append, length-set, get_or-set_same, get_or-set_other, set-get_or, get_or_default, get_or_append_left, get_or-append-add}
use Rattle.tm_laid.specs.declared.layouts.Laid.{Laid}
use Rattle.tm_laid.specs.Layouts.{LaidTree, laid_tree}
use Rattle.concrete_values.specs.declared.values.Answer.{Answer}
use Rattle.concrete_steps.specs.NextAction.{next}
use Rattle.concrete_steps.specs.Worlds.{start_tasks, start_section, start_standings}
use Rattle.flow_graph.specs.declared.graphs.Graph.{Graph}
use Rattle.graph_positions.specs.declared.runs.Run.{Run}
use Rattle.graph_positions.specs.RunsAfter.{IsRunAfter}
use Rattle.tm_typed.specs.declared.files.TypedTask.{TypedTask}
use Rattle.concrete_worlds.specs.Lawful.{section_count, task_count, HasWorlds, HasGraphs, IsGraphOfTask}
use Rattle.concrete_worlds.specs.Running.{AreRunning}
use Rattle.concrete_worlds.specs.reading.Starts.{AreStarted, BeginSo, MayStart}
use Rattle.concrete_worlds.proofs.Lists.{found_within, none_of}

-- the run of a task after these answers
abbrev pub IsAfter : Laid → List Graph → ℕ → Graph → List Answer → Run → Type 0
IsAfter laid graphs task graph answers run =
    IsRunAfter (laid_tree laid) (get_or graphs task graph).edges.items (get_or graphs task graph).nodes answers run

-- whatever is taken where there is no graph
pub any_graph : (laid : Laid) (graphs : List Graph) (task : ℕ) (given : Graph) (answers : List Answer) (run : Run) → task < length graphs
    → IsAfter laid graphs task given answers run → (graph : Graph) → IsAfter laid graphs task graph answers run
any_graph laid graphs task given answers run lt after graph =
    subst (λ (g : Graph). IsRunAfter (laid_tree laid) g.edges.items g.nodes answers run) (get_or_default graphs task given graph lt) after

-- what follows a run is what the task does next
next_after : (laid : Laid) (graphs : List Graph) (task : ℕ) → task < length graphs → ((graph : Graph) → IsGraphOfTask (laid_tree laid) task (get_or graphs task graph))
    → (answers : List Answer) (run : Run) → ((graph : Graph) → IsAfter laid graphs task graph answers run) → run.next ≡ next (laid_tree laid) task answers
next_after laid graphs task lt lawful answers run after = let g = (found_within graphs task lt).0 in (lawful g).follows answers run.next (after g).next

module _ (laid : Laid) (graphs : List Graph) (answers : List (List Answer)) (runs : List Run) (are : AreRunning laid graphs answers runs) where
  pub has_graph : (task : ℕ) → task < length runs → task < length graphs
  has_graph task lt = let g = are.graphed in omega (arith, g, lt)

  -- a task's next action is at hand
  pub next_is : (task : ℕ) (run : Run) → task < length runs → run ≡ get_or runs task run → run.next ≡ next (laid_tree laid) task (get_or answers task [])
  next_is task run lt is =
      ap (λ (r : Run). r.next) is
      ∙ next_after laid graphs task (has_graph task lt) (λ graph. are.lawful task graph lt) (get_or answers task []) (get_or runs task run)
      (λ graph. are.each task run graph lt)

  module _ (task : ℕ) (lt : task < length runs) (answers' : List Answer) (run : Run) (after : (graph : Graph) → IsAfter laid graphs task graph answers' run) where
    here : (other : Run) (graph : Graph) → IsAfter laid graphs task graph (get_or (set answers task answers') task []) (get_or (set runs task run) task other)
    here other graph =
        let within : task < length answers = (let e = are.answered in omega (arith, e, lt)) in
        let A : List Answer → Type 0 = λ xs. IsAfter laid graphs task graph xs (get_or (set runs task run) task other) in
        let R : Run → Type 0 = λ r. IsAfter laid graphs task graph answers' r in
        subst A (sym (get_or-set_same answers task answers' [] within)) (subst R (sym (get_or-set_same runs task run other lt)) (after graph))

    elsewhere : (k : ℕ) (other : Run) (graph : Graph) → k < length runs → (k ≡ task → ⊥)
        → IsAfter laid graphs k graph (get_or (set answers task answers') k []) (get_or (set runs task run) k other)
    elsewhere k other graph within ne =
        let A : List Answer → Type 0 = λ xs. IsAfter laid graphs k graph xs (get_or (set runs task run) k other) in
        let R : Run → Type 0 = λ r. IsAfter laid graphs k graph (get_or answers k []) r in
        subst A (sym (get_or-set_other answers task k answers' [] ne)) (subst R (sym (get_or-set_other runs task k run other ne)) (are.each k other graph within))

    -- a task that has a run has had more answers
    pub told_more : AreRunning laid graphs (slice_set answers task answers') (slice_set runs task run)
    told_more = record {
      worlds = are.worlds;
      graphed = let e = length-set runs task run in let g = are.graphed in omega (arith, e, g);
      answered = let e = length-set runs task run in let f = length-set answers task answers' in let g = are.answered in omega (arith, e, f, g);
      lawful = λ k graph h. are.lawful k graph (let e = length-set runs task run in omega (arith, e, h));
      each = λ k other graph h.
          let within : k < length runs = (let e = length-set runs task run in omega (arith, e, h)) in
          elim (cases_eq k task) [
            | inl same ↦
                subst (λ (n : ℕ). IsAfter laid graphs n graph (get_or (set answers task answers') n []) (get_or (set runs task run) n other)) (sym same) (here other graph)
            | inr differ ↦ elsewhere k other graph within differ
          ];
    }

  -- a task stands elsewhere, with the same answers
  pub told_same : (task : ℕ) (run : Run) → task < length runs → ((graph : Graph) → IsAfter laid graphs task graph (get_or answers task []) run)
      → AreRunning laid graphs answers (slice_set runs task run)
  told_same task run lt after =
      subst (λ (xs : List (List Answer)). AreRunning laid graphs xs (slice_set runs task run)) (set-get_or answers task [])
      (told_more task lt (get_or answers task []) run after)

  -- a task that has none has had more answers
  pub told_behind : (task : ℕ) (answers' : List Answer) → length runs ≤ task → AreRunning laid graphs (slice_set answers task answers') runs
  told_behind task answers' behind = record {
    worlds = are.worlds;
    graphed = are.graphed;
    answered = let f = length-set answers task answers' in let g = are.answered in omega (arith, f, g);
    lawful = are.lawful;
    each = λ k other graph h.
        let ne : k ≡ task → ⊥ = λ same. omega (arith, same, h, behind) in
        subst (λ (xs : List Answer). IsAfter laid graphs k graph xs (get_or runs k other)) (sym (get_or-set_other answers task k answers' [] ne)) (are.each k other graph h);
  }

-- ## The start

length_tasks : (laid : LaidTree) (i : ℕ) (ts : List TypedTask) → length (start_tasks laid i ts) ≡ length ts
length_tasks laid i [] = refl
length_tasks laid i (t ∷ ts) = ap suc (length_tasks laid (suc i) ts)

length_section : (laid : LaidTree) (main : _) → length (start_section laid main) ≡ section_count main
length_section laid None = refl
length_section laid (Some f) = refl

pub length_standings : (laid : Laid) → length (start_standings (laid_tree laid)) ≡ task_count laid
length_standings laid =
    let tree = laid_tree laid in
    length-append (start_tasks tree 0 laid.file.tasks.items) (start_section tree laid.file.main)
    ∙ ap (λ n. n + length (start_section tree laid.file.main)) (length_tasks tree 0 laid.file.tasks.items)
    ∙ ap (λ n. length laid.file.tasks.items + n) (length_section tree laid.file.main)

none_at : {A : Type 0} (xs : List A) (k : ℕ) → get_or (map none_of xs) k [] ≡ []
none_at [] zero = refl
none_at [] (suc k) = refl
none_at (x ∷ xs) zero = refl
none_at (x ∷ xs) (suc k) = none_at xs k

pub none_started : (laid : LaidTree) (graphs : List Graph) (runs : List Run) → runs ≡ [] → AreStarted laid graphs 0 runs
none_started laid graphs runs e = subst (λ (xs : List Run). AreStarted laid graphs 0 xs) (sym e) (record { number = refl; each = λ task run graph lt. absurd (omega (arith, lt)) })

pub started_more : (laid : LaidTree) (graphs : List Graph) (n : ℕ) (runs runs' : List Run) (run : Run) (given : Graph) → n < length graphs → runs' ≡ runs ++ run ∷ []
    → IsRunAfter laid (get_or graphs n given).edges.items (get_or graphs n given).nodes [] run → AreStarted laid graphs n runs → AreStarted laid graphs (n + 1) runs'
started_more laid graphs n runs runs' run given within is after are =
    subst (λ (xs : List Run). AreStarted laid graphs (n + 1) xs) (sym is) (record {
      number = length-append runs (run ∷ []) ∙ ap (λ k. k + 1) are.number;
      each = λ k other graph lt. elim (cases_lt k (length runs)) [
        | inl before ↦
            (let R : Run → Type 0 = λ r. IsRunAfter laid (get_or graphs k graph).edges.items (get_or graphs k graph).nodes [] r in
            subst R (sym (get_or_append_left runs (run ∷ []) other k before)) (are.each k other graph before))
        | inr behind ↦
            (let e = length-append runs (run ∷ []) in
            let last : length runs + 0 ≡ k = omega (arith, e, lt, behind) in
            let same : n ≡ k = (let a = are.number in omega (arith, a, last)) in
            let R : Run → Type 0 = λ r. IsRunAfter laid (get_or graphs k graph).edges.items (get_or graphs k graph).nodes [] r in
            let G : Graph → Type 0 = λ g. IsRunAfter laid g.edges.items g.nodes [] run in
            let at : get_or graphs n given ≡ get_or graphs k graph = get_or_default graphs n given graph within ∙ ap (λ i. get_or graphs i graph) same in
            let there : run ≡ get_or (runs ++ run ∷ []) k other = sym (get_or-append-add runs (run ∷ []) 0 other) ∙ ap (λ i. get_or (runs ++ run ∷ []) i other) last in
            subst R there (subst G at after))
      ];
    })

module _ (laid : Laid) (graphs : List Graph) (runs : List Run) where
  begin_along : HasGraphs laid graphs → AreStarted (laid_tree laid) graphs (task_count laid) runs → BeginSo (laid_tree laid) runs
  begin_along has are task run lt =
      let within : task < length graphs = (let e = are.number in let c = has.count in omega (arith, e, c, lt)) in
      next_after laid graphs task within (λ graph. has.each task graph within) [] (get_or runs task run) (λ graph. are.each task run graph lt)

  pub begin : MayStart laid graphs runs → BeginSo (laid_tree laid) runs
  begin (inl none) task run lt = absurd (let e = ap length none in omega (arith, e, lt))
  begin (inr along) task run lt = begin_along along.0 along.1 task run lt

  module _ {A : Type 0} (worlds : HasWorlds laid) (xs : List A) (answers : List (List Answer)) (count : length xs ≡ task_count laid) (is : answers ≡ map none_of xs) where
    running_along : HasGraphs laid graphs → AreStarted (laid_tree laid) graphs (task_count laid) runs → AreRunning laid graphs answers runs
    running_along has are = record {
      worlds = worlds;
      graphed = let e = are.number in let c = has.count in omega (arith, e, c);
      answered = let e = are.number in let f : length answers ≡ task_count laid = ap length is ∙ length-map xs none_of ∙ count in omega (arith, e, f);
      lawful = λ task graph lt. has.each task graph (let e = are.number in let c = has.count in omega (arith, e, c, lt));
      each = λ task run graph lt.
          subst (λ (as' : List Answer). IsAfter laid graphs task graph as' (get_or runs task run)) (sym (ap (λ (z : List (List Answer)). get_or z task []) is ∙ none_at xs task))
          (are.each task run graph lt);
    }

    running_alone : runs ≡ [] → AreRunning laid graphs answers runs
    running_alone none = record {
      worlds = worlds;
      graphed = let e = ap length none in omega (arith, e);
      answered = let e = ap length none in omega (arith, e);
      lawful = λ task graph lt. absurd (let e = ap length none in omega (arith, e, lt));
      each = λ task run graph lt. absurd (let e = ap length none in omega (arith, e, lt));
    }

    pub running_at_start : MayStart laid graphs runs → AreRunning laid graphs answers runs
    running_at_start (inl none) = running_alone none
    running_at_start (inr along) = running_along along.0 along.1
