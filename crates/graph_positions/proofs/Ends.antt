-- What follows where a run stands.
use Rattle.std.proofs.Common.{◌≡◌, refl, sym, ap, subst, ◌∙◌, ℕ, suc, List, [], ◌∷◌, ◌++◌, Some, None}
use Rattle.std.proofs.lemmas.List.{append-nil, append_assoc}
use Rattle.tm_laid.specs.Layouts.{LaidTree}
use Rattle.concrete_values.specs.declared.values.Value.{Value}
use Rattle.concrete_values.specs.declared.values.Answer.{Answer}
use Rattle.concrete_values.specs.declared.actions.Next.{Next}
use Rattle.concrete_values.specs.declared.actions.Next.TheVariants.{Spins, Misfit}
use Rattle.concrete_values.specs.Actions.{answer_of}
use Rattle.flow_graph.specs.Graphs.{Edges}
use Rattle.flow_graph.specs.Runs.{Memory, Move, Goes, GoesRound, Awaits, Halts, move, at_entry, Runs, goes}
use Rattle.flow_graph.specs.Runs.{spins, halts, awaits, answered, unfit}
use Rattle.flow_graph.specs.Positions.{Reaches, here, went, gave, Is, StandsAt}
use Rattle.flow_graph.proofs.Positions.{reaches_then}
use Rattle.flow_graph.proofs.Same.{same_next}
use Rattle.graph_positions.specs.declared.steps.Step.{Step}
use Rattle.graph_positions.specs.declared.steps.Step.TheVariants as Steps
use Rattle.graph_positions.specs.reading.Steps.{edge_at, behind, IsStepAt, IsStop}

module _ (laid : LaidTree) (g : Edges) where
  -- a run from the start over these answers and more is that from where they lead over the others
  pub run_from : {node node1 : ℕ} {m m1 : Memory} {answers : List Answer} (rest : List Answer) {x : Next} → Reaches laid g node m answers node1 m1 → Runs laid g node1 m1 rest x
      → Runs laid g node m (answers ++ rest) x
  run_from rest here run = run
  run_from rest (went e r) run = goes e (run_from rest r run)
  run_from rest (gave e f r) run = answered e f (run_from rest r run)

  -- it goes on by itself along an edge
  pub gone_on : (start node k used : ℕ) (first m m' : Memory) (node' : ℕ) (v : Value) (s : Step) → s ≡ Steps.Goes k v → IsStepAt laid g node m s → used ≡ m.used → node' ≡ (edge_at g k).to
      → m' ≡ behind (edge_at g k) used v m → Reaches laid g start first [] node m → Reaches laid g start first [] node' m'
  gone_on start node k used first m m' node' v s is step u there now before =
      let h : IsStepAt laid g node m (Steps.Goes k v) = subst (λ (x : Step). IsStepAt laid g node m x) is step in
      let same : behind (edge_at g k) m.used v m ≡ m' = ap (λ n. behind (edge_at g k) n v m) (sym u) ∙ sym now in
      reaches_then laid g before
      (subst (λ (n : ℕ). Reaches laid g node m [] n m') (sym there) (subst (λ (x : Memory). Reaches laid g node m [] (edge_at g k).to x) same (went h.is here)))

  -- it goes on by an answer
  pub answered_on : (start node k used : ℕ) (first m m' : Memory) (node' : ℕ) (n : Next) (a : Answer) (v : Value) (s : Step) → s ≡ Steps.Awaits k n → IsStepAt laid g node m s
      → answer_of laid n a ≡ Some v → used ≡ suc m.used → node' ≡ (edge_at g k).to → m' ≡ behind (edge_at g k) used v m → Reaches laid g start first [] node m
      → Reaches laid g start first (a ∷ []) node' m'
  answered_on start node k used first m m' node' n a v s is step fits u there now before =
      let h : IsStepAt laid g node m (Steps.Awaits k n) = subst (λ (x : Step). IsStepAt laid g node m x) is step in
      let same : behind (edge_at g k) (suc m.used) v m ≡ m' = ap (λ i. behind (edge_at g k) i v m) (sym u) ∙ sym now in
      let one : Reaches laid g node m (a ∷ []) (edge_at g k).to (behind (edge_at g k) (suc m.used) v m) = gave h.is fits here in
      reaches_then laid g before
      (subst (λ (i : ℕ). Reaches laid g node m (a ∷ []) i m') (sym there) (subst (λ (x : Memory). Reaches laid g node m (a ∷ []) (edge_at g k).to x) same one))

  -- where it stands, an answer does not fit
  pub not_awaited : (node k : ℕ) (m : Memory) (n : Next) (a : Answer) (s : Step) → s ≡ Steps.Awaits k n → IsStepAt laid g node m s → answer_of laid n a ≡ None → (answers : List Answer)
      → Runs laid g node m (a ∷ answers) Misfit
  not_awaited node k m n a s is step unfits answers =
      let h : IsStepAt laid g node m (Steps.Awaits k n) = subst (λ (x : Step). IsStepAt laid g node m x) is step in unfit h.is unfits

  -- the next action where it stands
  pub is_awaited : (node k : ℕ) (m : Memory) (n : Next) (s : Step) → s ≡ Steps.Awaits k n → IsStepAt laid g node m s → Is (move laid g node m) n
  is_awaited node k m n s is step =
      let h : IsStepAt laid g node m (Steps.Awaits k n) = subst (λ (x : Step). IsStepAt laid g node m x) is step in subst (λ (z : Move). Is z n) (sym h.is) refl

  pub is_halt : (node : ℕ) (m : Memory) (n : Next) (s : Step) → s ≡ Steps.Halts n → IsStepAt laid g node m s → Is (move laid g node m) n
  is_halt node m n s is step =
      let h : IsStepAt laid g node m (Steps.Halts n) = subst (λ (x : Step). IsStepAt laid g node m x) is step in subst (λ (z : Move). Is z n) (sym h.is) refl

  pub is_spin : (node k : ℕ) (m : Memory) (v : Value) (s : Step) → s ≡ Steps.Round k v → IsStepAt laid g node m s → Is (move laid g node m) Spins
  is_spin node k m v s is step =
      let h : IsStepAt laid g node m (Steps.Round k v) = subst (λ (x : Step). IsStepAt laid g node m x) is step in subst (λ (z : Move). Is z Spins) (sym h.is) refl

  pub never_goes : (k : ℕ) (v : Value) (s : Step) → s ≡ Steps.Goes k v → IsStop s → ⊥
  never_goes k v s is stop = let h : ⊥ = subst (λ (x : Step). IsStop x) is stop in h

  -- where it stands and awaits nothing, no answer fits
  pub no_fit : (node : ℕ) (m : Memory) (a : Answer) (s : Step) → ((k : ℕ) (n : Next) → s ≡ Steps.Awaits k n → ⊥) → IsStop s → IsStepAt laid g node m s → (answers : List Answer)
      → Runs laid g node m (a ∷ answers) Misfit
  no_fit node m a (Steps.Goes k v) waits stop step answers = absurd stop
  no_fit node m a (Steps.Round k v) waits stop step answers = spins step.is
  no_fit node m a (Steps.Awaits k n) waits stop step answers = absurd (waits k n refl)
  no_fit node m a (Steps.Halts n) waits stop step answers = halts step.is

  stands_by : (node : ℕ) (m : Memory) (mv : Move) (x : Next) → move laid g node m ≡ mv → Is mv x → Runs laid g node m [] x
  stands_by node m (Goes n m') x e h = absurd h
  stands_by node m (GoesRound n m') x e h = subst (λ (z : Next). Runs laid g node m [] z) (sym h) (spins e)
  stands_by node m (Awaits n node' to) x e h = subst (λ (z : Next). Runs laid g node m [] z) (sym h) (awaits e)
  stands_by node m (Halts n) x e h = subst (λ (z : Next). Runs laid g node m [] z) (sym h) (halts e)

  -- it follows no answers
  pub stands : (node : ℕ) (m : Memory) (x : Next) → Is (move laid g node m) x → Runs laid g node m [] x
  stands node m x h = stands_by node m (move laid g node m) x refl h

  -- ## Behind the answers so far

  -- a run goes on by itself, with no answer more
  pub led_on : (answers : List Answer) (node node' : ℕ) (m m' : Memory) → Reaches laid g 0 at_entry answers node m → Reaches laid g node m [] node' m' → Reaches laid g 0 at_entry answers node' m'
  led_on answers node node' m m' before then' = subst (λ (as' : List Answer). Reaches laid g 0 at_entry as' node' m') (append-nil answers) (reaches_then laid g before then')

  -- what stands there is its next action
  pub stands_behind : (answers : List Answer) (node : ℕ) (m : Memory) (x : Next) → Reaches laid g 0 at_entry answers node m → Is (move laid g node m) x → Runs laid g 0 at_entry answers x
  stands_behind answers node m x before is = subst (λ (as' : List Answer). Runs laid g 0 at_entry as' x) (append-nil answers) (run_from [] before (stands node m x is))

  -- an answer does not fit, and neither do any more
  pub none_fits : (answers : List Answer) (a : Answer) (node : ℕ) (m : Memory) → Reaches laid g 0 at_entry answers node m → ((rest : List Answer) → Runs laid g node m (a ∷ rest) Misfit)
      → (more : List Answer) → Runs laid g 0 at_entry ((answers ++ a ∷ []) ++ more) Misfit
  none_fits answers a node m before ends more =
      subst (λ (as' : List Answer). Runs laid g 0 at_entry as' Misfit) (sym (append_assoc answers (a ∷ []) more)) (run_from (a ∷ more) before (ends more))

  pub still_none_fits : (answers : List Answer) (a : Answer) → ((more : List Answer) → Runs laid g 0 at_entry (answers ++ more) Misfit)
      → (more : List Answer) → Runs laid g 0 at_entry ((answers ++ a ∷ []) ++ more) Misfit
  still_none_fits answers a none more = subst (λ (as' : List Answer). Runs laid g 0 at_entry as' Misfit) (sym (append_assoc answers (a ∷ []) more)) (none (a ∷ more))

  pub nothing_follows : (answers : List Answer) → ((more : List Answer) → Runs laid g 0 at_entry (answers ++ more) Misfit) → Runs laid g 0 at_entry answers Misfit
  nothing_follows answers none = subst (λ (as' : List Answer). Runs laid g 0 at_entry as' Misfit) (append-nil answers) (none [])

  pub stands_as : (next_is : List Answer → Next) → ((answers : List Answer) → Runs laid g 0 at_entry answers (next_is answers)) → (answers : List Answer) (node : ℕ) (m : Memory) (n : Next)
      → Reaches laid g 0 at_entry answers node m → Is (move laid g node m) n → StandsAt laid g next_is answers node m
  stands_as next_is run answers node m n reaches is =
      let r : Runs laid g 0 at_entry answers n = subst (λ (as' : List Answer). Runs laid g 0 at_entry as' n) (append-nil answers) (run_from [] reaches (stands node m n is)) in
      let e : n ≡ next_is answers = same_next laid g r (run answers) in
      (reaches, subst (λ (x : Next). Is (move laid g node m) x) e is)
