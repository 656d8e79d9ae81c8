-- Where the edge of an alarm waits for an answer, it locks a mutex that is held or unlocks one that is not, and no step
-- answers it.
use native.Mathlib.Decide.{ℕ_discrete}
use Rattle.std.proofs.Common.{◌≡◌, ◌≢◌, refl, sym, ap, subst, ◌∙◌, ℕ, ◌<◌, ◌≤◌, ◌^◌, Bool, true, false, List}
use Rattle.std.proofs.Common.{[], ◌∷◌, ◌++◌, length, Option}
use Rattle.std.proofs.lemmas.Bool.{false≢true}
use Rattle.sound_tables.specs.tm_cint.declared.Class.{Class}
use Rattle.sound_tables.specs.tm_terms.declared.places.Place.{Place}
use Rattle.sound_tables.specs.tm_laid.Layouts.{LaidTree}
use Rattle.sound_tables.specs.concrete_values.declared.values.Value.{Value}
use Rattle.sound_tables.specs.concrete_values.declared.values.Answer.{Answer}
use Rattle.sound_tables.specs.concrete_values.declared.actions.Next.{Next}
use Rattle.sound_tables.specs.concrete_values.declared.actions.Next.TheVariants as Acts
use Rattle.sound_tables.specs.concrete_steps.declared.worlds.Choice.{Choice}
use Rattle.sound_tables.specs.concrete_steps.declared.worlds.Choice.TheVariants.{Wake, Run}
use Rattle.sound_tables.specs.concrete_steps.Worlds.{World, step, standing, answers_of, holds, next_at}
use Rattle.concrete_steps.proofs.Moving.{steps_are_moves}
use Rattle.sound_tables.specs.flow_graph.declared.graphs.Edge.{Edge}
use Rattle.sound_tables.specs.flow_graph.declared.operations.Operation.{Operation}
use Rattle.sound_tables.specs.flow_graph.declared.operations.Operation.TheVariants as Op
use Rattle.sound_tables.specs.flow_graph.Operations.{Temps}
use Rattle.sound_tables.specs.flow_graph.Runs.{Memory}
use Rattle.sound_tables.specs.mutex_configs.declared.nodes.ConfiguredNode.{ConfiguredNode}
use Rattle.sound_tables.specs.mutex_configs.declared.nodes.EdgeCopy.{EdgeCopy}
use Rattle.sound_tables.specs.mutex_configs.Sets.{has, IsOfSixteen}
use Rattle.sound_tables.specs.interfere_set.Stores.{Interferences}
use Rattle.sound_tables.specs.transfer_rows.StateForms.{State}
use Rattle.sound_tables.specs.transfer_rows.Actions.{Around}
use Rattle.sound_tables.specs.transfer_rows.Rows.{holds as holds_around}
use Rattle.sound_tables.specs.transfer_rows.Reports.{CalculationMayFail, IsListed}
use Rattle.sound_tables.specs.program_reports.edge_actions.Edges.{action_of}
use Rattle.sound_tables.specs.task_equations.Bodies.{Body, edge_of}
use Rattle.sound_tables.specs.task_equations.Equations.{tests_pointer, action_along, around_along}
use Rattle.sound_tables.specs.program_equations.Programs.{ProgramBodies, body_at, IsProgram}
use Rattle.sound_tables.specs.program_equations.Solutions.{tables_of as lists_of, IsPair}
use Rattle.sound_tables.specs.program_reports.Reports.{copy_in}
use Rattle.sound_tables.specs.Premises.{IsGraphOf}
use Rattle.sound_tables.proofs.Copies.{numbered}
use Rattle.sound_tables.proofs.OperationKinds.{lock_small, unlock_small}
use Rattle.sound_runs.proofs.Acted.{Does, does_load, does_store, does_choose, does_clear, does_lock, does_wait}
use Rattle.sound_runs.proofs.Acted.{does_unlock, does_yield, does_probe, does_nothing, MovesAs, moves_as, not_taken}
use Rattle.sound_runs.proofs.Ways.{AskedBy, asks_by}
use Rattle.alarm_contexts.specs.declared.alarm_context.AlarmContexts.{AlarmContexts}
use Rattle.sound_core.specs.Sound.{IsProgramFrom}
use Rattle.sound_core.proofs.GroupedAccesses.{good}
use Rattle.sound_notes.specs.Passes.{node_now, ComesToAlarm, IsAnswered, StopsThere}
use Rattle.sound_notes.proofs.Awaiting.{IsStanding, all_stand, next_now}
use Rattle.sound_notes.proofs.Told.{edge_among, edge_from}

-- ## Which operations wait and have a class

-- a lock of a mutex that is held, or an unlock of one that is not
pub data IsWrongLock (around : Around) (op : Operation) (n : Next) : Type 0 where
  held_already : (j : ℕ) (q : Place) → op ≡ Op.Lock j q → n ≡ Acts.Lock j q → holds_around around j ≡ true
      → IsWrongLock around op n
  not_held : (j : ℕ) (q : Place) → op ≡ Op.Unlock j q → n ≡ Acts.Unlock j q → holds_around around j ≡ false
      → IsWrongLock around op n
  no_action : n ≡ Acts.Misfit → IsWrongLock around op n

module _ (laid : LaidTree) (task : ℕ) (pointers answer : Bool) (around : Around) (s : State) (class : Class)
    (op : Operation) (t : Temps) (f : Value → Temps) where
  abbrev Listed : Operation → Type 0
  Listed z = IsListed around (action_of laid task pointers answer z) s class

  wrong_lock : (n : Next) → AskedBy n op t f → Listed op → IsWrongLock around op n
  unfolding IsListed CalculationMayFail
  wrong_lock (Acts.Load o k c false q) a l = absurd (subst Listed a.2 l)
  wrong_lock (Acts.Load o k c true q) a l = absurd (subst Listed a.2 l)
  wrong_lock (Acts.Store o k c v q) a l = absurd (subst Listed a.3 l)
  wrong_lock (Acts.Chosen low high) a l = absurd (subst Listed a.1 l)
  wrong_lock (Acts.Clear o) a l = absurd (subst Listed a.0 l)
  wrong_lock (Acts.Lock j q) a l = held_already j q a.0 refl (subst Listed a.0 l).1
  wrong_lock (Acts.Unlock j q) a l = not_held j q a.0 refl (subst Listed a.0 l).1
  wrong_lock Acts.Yield a l = absurd (subst Listed a.0 l)
  wrong_lock (Acts.Probe j q) a l = absurd (subst Listed a.1 l)
  wrong_lock (Acts.Fault k q) a l = absurd a
  wrong_lock Acts.Ended a l = absurd a
  wrong_lock Acts.Spins a l = absurd a
  wrong_lock Acts.Misfit a l = no_action refl

-- ## Which steps there are

longer_not : (l : List Answer) (a : Answer) → l ≡ l ++ a ∷ [] → ⊥
longer_not [] a e = cc
longer_not (b ∷ l) a e = longer_not l a (tail b l (l ++ a ∷ []) e)
  where
    tail : (b : Answer) (xs ys : List Answer) → b ∷ xs ≡ b ∷ ys → xs ≡ ys
    tail b xs ys e = cc

module _ (laid : LaidTree) (w w' : World) (t : ℕ) (a : Answer)
    (more : answers_of w' t ≡ answers_of w t ++ a ∷ []) where
  stays_not : answers_of w' t ≡ answers_of w t → ⊥
  stays_not e = longer_not (answers_of w t) a (sym e ∙ more)

  -- the step is one of the task
  own : (i : ℕ) → Does laid w w' i → i ≡ t
  own i d = by_case (ℕ_discrete i t)
    where
      other : (t ≢ i) → Does laid w w' i → ⊥
      other not (does_load o k s b p v is r u others now same) = stays_not (u.other_answers t not)
      other not (does_store o k s p v is u others now new rest) = stays_not (u.other_answers t not)
      other not (does_choose low high n is may u others now same) = stays_not (u.other_answers t not)
      other not (does_clear o is u others now new) = stays_not (u.other_answers t not)
      other not (does_lock m p is free u others now same) = stays_not (u.other_answers t not)
      other not (does_wait m p is not_mine taken runs first now others answers held same) = stays_not (answers.same t)
      other not (does_unlock m p is mine u others now same) = stays_not (u.other_answers t not)
      other not (does_yield is u others now same) = stays_not (u.other_answers t not)
      other not (does_probe m p is u others now same) = stays_not (u.other_answers t not)
      other not (does_nothing runs same) = stays_not (ap (λ z. answers_of z t) same)

      by_case : Dec (i ≡ t) → i ≡ t
      by_case (yes e) = e
      by_case (no n) = absurd (other (λ e. n (sym e)) d)

  abbrev at_now : Next
  at_now = next_at laid w t

  no_lock : (j : ℕ) (q : Place) → at_now ≡ Acts.Lock j q → holds j (standing w t) ≡ true → Does laid w w' t → ⊥
  no_lock j q at mine (does_load o k s b p v is r u others now same) = let e = sym is ∙ at in cc
  no_lock j q at mine (does_store o k s p v is u others now new rest) = let e = sym is ∙ at in cc
  no_lock j q at mine (does_choose low high n is may u others now same) = let e = sym is ∙ at in cc
  no_lock j q at mine (does_clear o is u others now new) = let e = sym is ∙ at in cc
  no_lock j q at mine (does_lock m p is free u others now same) =
      let e : Acts.Lock m p ≡ Acts.Lock j q = sym is ∙ at in
      let f : m ≡ j = cc in
      false≢true (sym (not_taken m w.standings t free) ∙ (ap (λ z. holds z (standing w t)) f ∙ mine))
  no_lock j q at mine (does_wait m p is not_mine taken runs first now others answers held same) =
      stays_not (answers.same t)
  no_lock j q at mine (does_unlock m p is own u others now same) = let e = sym is ∙ at in cc
  no_lock j q at mine (does_yield is u others now same) = let e = sym is ∙ at in cc
  no_lock j q at mine (does_probe m p is u others now same) = let e = sym is ∙ at in cc
  no_lock j q at mine (does_nothing runs same) = stays_not (ap (λ z. answers_of z t) same)

  no_unlock : (j : ℕ) (q : Place) → at_now ≡ Acts.Unlock j q → holds j (standing w t) ≡ false → Does laid w w' t → ⊥
  no_unlock j q at mine (does_load o k s b p v is r u others now same) = let e = sym is ∙ at in cc
  no_unlock j q at mine (does_store o k s p v is u others now new rest) = let e = sym is ∙ at in cc
  no_unlock j q at mine (does_choose low high n is may u others now same) = let e = sym is ∙ at in cc
  no_unlock j q at mine (does_clear o is u others now new) = let e = sym is ∙ at in cc
  no_unlock j q at mine (does_lock m p is free u others now same) = let e = sym is ∙ at in cc
  no_unlock j q at mine (does_wait m p is not_mine taken runs first now others answers held same) =
      let e = sym is ∙ at in cc
  no_unlock j q at mine (does_unlock m p is own u others now same) =
      let e : Acts.Unlock m p ≡ Acts.Unlock j q = sym is ∙ at in
      let f : m ≡ j = cc in
      false≢true (sym mine ∙ (ap (λ z. holds z (standing w t)) (sym f) ∙ own))
  no_unlock j q at mine (does_yield is u others now same) = let e = sym is ∙ at in cc
  no_unlock j q at mine (does_probe m p is u others now same) = let e = sym is ∙ at in cc
  no_unlock j q at mine (does_nothing runs same) = stays_not (ap (λ z. answers_of z t) same)

  no_misfit : at_now ≡ Acts.Misfit → Does laid w w' t → ⊥
  no_misfit at (does_load o k s b p v is r u others now same) = let e = sym is ∙ at in cc
  no_misfit at (does_store o k s p v is u others now new rest) = let e = sym is ∙ at in cc
  no_misfit at (does_choose low high n is may u others now same) = let e = sym is ∙ at in cc
  no_misfit at (does_clear o is u others now new) = let e = sym is ∙ at in cc
  no_misfit at (does_lock m p is free u others now same) = let e = sym is ∙ at in cc
  no_misfit at (does_wait m p is not_mine taken runs first now others answers held same) = let e = sym is ∙ at in cc
  no_misfit at (does_unlock m p is own u others now same) = let e = sym is ∙ at in cc
  no_misfit at (does_yield is u others now same) = let e = sym is ∙ at in cc
  no_misfit at (does_probe m p is u others now same) = let e = sym is ∙ at in cc
  no_misfit at (does_nothing runs same) = stays_not (ap (λ z. answers_of z t) same)

  -- some task does it, and it is this one
  doing : (c : Choice) → MovesAs laid w w' c → Does laid w w' t
  doing (Wake i) h = absurd (stays_not (let same = h.answers in same.same t))
  doing (Run i n) d = subst (Does laid w w') (own i d) d

-- ## No step answers

module _ (laid : LaidTree) (p : ProgramBodies) (from : IsProgramFrom laid p) (is : IsProgram p)
    (few : length laid.objects ≤ 2 ^ 32) (tables : List (List (Option State))) (store : Interferences)
    (pair : IsPair p tables store) (w : World) (told : AlarmContexts) (t k : ℕ) (m : Memory)
    (c : ComesToAlarm laid p (lists_of tables) w told t k m) (a : IsAnswered laid p w t k m) where
  abbrev b : Body
  b = body_at p t

  abbrev copy : EdgeCopy
  copy = copy_in p t k

  abbrev edge : Edge
  edge = edge_of b copy

  abbrev around : Around
  around = around_along b copy

  abbrev place : ℕ
  place = (let h = c.comes in h.place)

  within : t < length p.bodies
  within = (let h = c.context in let r = h.reached in r.body)

  graph : IsGraphOf p t
  graph = (good laid p from is few tables store pair w c.reached).graphs t within

  stand : IsStanding laid p (lists_of tables) store w t
  stand = all_stand laid p from is few tables store pair w c.reached t c.may

  -- the run stands before the edge
  next_is_asked : next_at laid w t ≡ a.next
  next_is_asked =
      next_now laid p from is few tables store pair w c.reached t c.may within place m (let h = c.comes in h.comes) edge
      (record {
        among = edge_among laid p from is few tables store pair w told t k m c;
        from = edge_from laid p from is few tables store pair w told t k m c;
      }) a.next a.after a.asks

  wrong : IsWrongLock around edge.op a.next
  wrong =
      let own = (is.each t within).numbered in
      let same : action_along b copy ≡ action_of p.laid t (tests_pointer b.pointers edge.op) copy.answer edge.op =
      ap (λ l. action_of l b.task (tests_pointer b.pointers edge.op) copy.answer edge.op) own.laid
      ∙ ap (λ j. action_of p.laid j (tests_pointer b.pointers edge.op) copy.answer edge.op) own.number in
      wrong_lock p.laid t (tests_pointer b.pointers edge.op) copy.answer around c.state told.class edge.op m.temps
      a.after a.next (asks_by p.laid edge.op m.temps a.next a.after a.asks)
      (subst (λ z. IsListed around z c.state told.class) same (let h = c.context in h.listed))

  -- what is held at the node is what the body holds
  held_is : (j : ℕ) → j < 16 → holds_around around j ≡ holds j (standing w t)
  held_is j lt =
      let s = stand in
      let node = numbered b.nodes (node_now laid w t place) copy.from (let h = c.comes in h.leaves) in
      ap (λ (q : ConfiguredNode). has q.held j) node.1 ∙ s.holds_now j lt

  small : (op : Operation) → edge.op ≡ op → IsOfSixteen op
  small op e =
      let g = graph in
      subst IsOfSixteen e (g.mutexes edge (edge_among laid p from is few tables store pair w told t k m c))

  stops : IsWrongLock around edge.op a.next → ⊥
  stops (held_already j q op n mine) =
      no_lock laid w (step laid w a.choice).world t a.answer a.more j q (next_is_asked ∙ n)
      (sym (held_is j (lock_small j q (small (Op.Lock j q) op))) ∙ mine) doing_it
    where
      doing_it : Does laid w (step laid w a.choice).world t
      doing_it =
          doing laid w (step laid w a.choice).world t a.answer a.more a.choice
          (moves_as laid w (step laid w a.choice).world a.choice (steps_are_moves laid w c.reached a.choice a.done))
  stops (not_held j q op n none) =
      no_unlock laid w (step laid w a.choice).world t a.answer a.more j q (next_is_asked ∙ n)
      (sym (held_is j (unlock_small j q (small (Op.Unlock j q) op))) ∙ none) doing_it
    where
      doing_it : Does laid w (step laid w a.choice).world t
      doing_it =
          doing laid w (step laid w a.choice).world t a.answer a.more a.choice
          (moves_as laid w (step laid w a.choice).world a.choice (steps_are_moves laid w c.reached a.choice a.done))
  stops (no_action n) =
      no_misfit laid w (step laid w a.choice).world t a.answer a.more (next_is_asked ∙ n)
      (doing laid w (step laid w a.choice).world t a.answer a.more a.choice
      (moves_as laid w (step laid w a.choice).world a.choice (steps_are_moves laid w c.reached a.choice a.done)))

pub locks_stop : (laid : LaidTree) (p : ProgramBodies) → IsProgramFrom laid p → (is : IsProgram p)
    → length laid.objects ≤ 2 ^ 32 → (tables : List (List (Option State))) (store : Interferences)
    → IsPair p tables store → (told : AlarmContexts) → StopsThere laid p (lists_of tables) told
locks_stop laid p from is few tables store pair told w t k m c a =
    stops laid p from is few tables store pair w told t k m c a
    (wrong laid p from is few tables store pair w told t k m c a)
