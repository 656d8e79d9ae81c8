-- What is known of each reached world.
use Rattle.std.proofs.Common.{◌≡◌, ◌⊎◌, inl, inr, sym, ap, subst, ◌∙◌, List}
use Rattle.tm_soundness.specs.Tables.{Tables}
use Rattle.tm_soundness.specs.Shape.{Shape, Content, lock, IsApart, Reads}
use Rattle.tm_soundness.specs.GraphWorlds.{Status, blocked}
use Rattle.tm_soundness.specs.Shaped.{IsShaped}
use Rattle.tm_soundness.specs.Covers.{IsSolution, IsEntered}
use Rattle.tm_soundness.specs.Section.{Section, alone, IsHandover}
use Rattle.tm_soundness.specs.Worlds.{Source, World, Step, step_wakes, step_loads, step_loads_any, step_chooses, step_stores, step_clears, step_locks, step_blocks, step_unlocks, step_yields, step_finds_held, step_finds_free, step_spins, IsReached, starts, goes_on, Leaves, IsLowered, IsIn}
use Rattle.tm_soundness.specs.WholeWorlds.{WholeWorld, main_of, tasks_of, IsWholeReached, IsFirstPhase, IsSecondPhase}
use Rattle.tm_soundness.specs.Known.{Chain, one_step, more_steps, Leads, IsCircular, WaitsFor, IsRequestOf, IsKnown, IsWholeKnown}
use Rattle.tm_soundness.proofs.Judged.{IsJudged, judged, lock_spins, content_within}
use Rattle.tm_soundness.proofs.Soundness.{parts_hold}
use Rattle.tm_soundness.proofs.Waiting.{IsWaitingFor, blocked_waits}
use Rattle.tm_soundness.proofs.TwoPhases.{main_judged, left_behind}
use Rattle.tm_soundness.proofs.TwoRuns.{two_phases}

module _ (P : Shape) (T : Tables P) (N : Source P) (shape : IsShaped P) (sol : IsSolution P T) (memory : P.Cell → Content P.Value) (temps : P.Task → P.Valuation) (entered : IsEntered P T memory temps) (lowered : IsLowered P N temps) where
  -- where there is no task, there is no step
  no_task : (C C' : World P N) → Step P N C C' → P.Task
  no_task C C' (step_wakes s was runs others answers held same) = s
  no_task C C' (step_loads s c v is reads typed turn others held same) = s
  no_task C C' (step_loads_any s c v is may turn others held same) = s
  no_task C C' (step_chooses s v is may turn others held same) = s
  no_task C C' (step_stores s c v is turn others held written else) = s
  no_task C C' (step_clears s o is turn others held here there) = s
  no_task C C' (step_locks s m is free turn others held same) = s
  no_task C C' (step_blocks s m is not_mine busy runs top blocks_now others answers held same) = s
  no_task C C' (step_unlocks s m is mine turn others held same) = s
  no_task C C' (step_yields s is turn others held same) = s
  no_task C C' (step_finds_held s m is busy turn others held same) = s
  no_task C C' (step_finds_free s m is free turn others held same) = s
  no_task C C' (step_spins s is runs top status answers held same) = s

  untouched : (C : World P N) → IsReached P N memory C → (P.Task → ⊥) → (c : P.Cell) → C.content c ≡ memory c
  untouched C (starts begun) none c = begun.content c
  untouched C (goes_on {C = D} reached step) none c = absurd (none (no_task D C step))

  same_mutex : (m n : P.Mutex) → (let st : Status P.Mutex = blocked m in st) ≡ blocked n → m ≡ n
  same_mutex m n e = cc

  module _ (C : World P N) (reached : IsReached P N memory C) (j : IsJudged P T N shape sol memory temps entered lowered C) where
    abbrev node : P.Task → P.Node
    node i = (j.world.situation i).node

    abbrev RequestOf : P.Task → P.Edge → Type 0
    RequestOf i e = IsRequestOf P T N C i (node i) e

    request_of : (i : P.Task) (m : P.Mutex) → C.status i ≡ blocked m → (e : P.Edge) × RequestOf i e
    request_of i m is =
        let w : IsWaitingFor P N C i m = blocked_waits P N memory C reached i m is in
        let l : Leaves P N i (node i) (lock m) = (lowered.at_lock i (C.answers i) (node i) (j.world.situation i).temps m (j.stands i) w.next).0 in (
          l.edge,
          record {
            mutex = m;
            status = is;
            next = w.next;
            request = record {
              operation = l.operation;
              reached = ((j.world.situation i).temps, subst (λ q. T.inside q (j.world.situation i).temps) (sym l.from) (j.invariant.good i).inside);
              not_held = λ h. w.not_held (((j.image.sits i).held m).0 (subst (λ q. P.Has (P.held q) m) l.from h));
            };
            actor = l.actor;
            from = l.from;
            place = lowered.placed i (C.answers i) (node i) (j.world.situation i).temps (lock m) (j.stands i) (λ e. lock_spins P T N shape sol memory temps entered lowered (N.next i (C.answers i)) m w.next e) l;
          },
        )

    -- where one task waits for another that is blocked too, its request leads to the other's
    link : (i k : P.Task) (e f : P.Edge) → RequestOf i e → RequestOf k f → WaitsFor P N C i k → Leads P T e f
    link i k e f a b w =
        let here : w.mutex ≡ a.mutex = same_mutex w.mutex a.mutex (sym w.status ∙ a.status) in
        let there : P.Has (P.held (P.from f)) a.mutex = subst (λ q. P.Has (P.held q) a.mutex) (sym b.from) (((j.image.sits k).held a.mutex).1 (subst (λ m. P.Has (C.held k) m) here w.holds)) in
        let differ : P.actor e ≡ P.actor f → ⊥ = λ same. a.request.not_held (subst (λ q. P.Has (P.held q) a.mutex) (b.from ∙ ap node (sym b.actor ∙ sym same ∙ a.actor) ∙ sym a.from) there) in
        record {
          mutex = a.mutex;
          request = a.request;
          other = b.mutex;
          other_request = b.request;
          differ = differ;
          holds = there;
          apart = subst (λ q. IsApart P (P.held (P.from e)) (P.held q)) (sym b.from) (subst (λ q. IsApart P (P.held q) (P.held (node k))) (sym a.from) (j.invariant.apart i k (λ s. differ (a.actor ∙ s ∙ sym b.actor))));
        }

    first_blocked : (x k : P.Task) → Chain (WaitsFor P N C) x k → (n : P.Mutex) × (C.status x ≡ blocked n)
    first_blocked x k (one_step w) = (w.mutex, w.status)
    first_blocked x k (more_steps w rest) = (w.mutex, w.status)

    chain : (i k : P.Task) (e f : P.Edge) → RequestOf i e → RequestOf k f → Chain (WaitsFor P N C) i k → Chain (Leads P T) e f
    chain i k e f a b (one_step w) = one_step (link i k e f a b w)
    chain i k e f a b (more_steps {b = x} w rest) =
        let m : (n : P.Mutex) × (C.status x ≡ blocked n) = first_blocked x k rest in
        let g : (g : P.Edge) × RequestOf x g = request_of x m.0 m.1 in
        more_steps (link i x e g.0 a g.1 w) (chain x k g.0 f g.1 b rest)

    circle : (i : P.Task) → Chain (WaitsFor P N C) i i → (e : P.Edge) × IsCircular P T e × RequestOf i e
    circle i c =
        let m : (n : P.Mutex) × (C.status i ≡ blocked n) = first_blocked i i c in
        let e : (e : P.Edge) × RequestOf i e = request_of i m.0 m.1 in
        (e.0, chain i i e.0 e.0 e.1 e.1 c, e.1)

    pub known_of : IsKnown P T N memory temps C
    known_of = record {
      kept = record { world = j.world; reached = j.reached; image = j.image; writers = j.writers; parts = parts_hold P T j.world j.writers j.invariant };
      stands = j.stands;
      requests = request_of;
      circles = circle;
      contents = λ i c shared. content_within P T N shape sol memory temps entered lowered C j i c shared;
      locals = λ i c mine v reads. ((j.invariant.good i).locals c mine).reads v (subst (λ k. Reads P (P.abstract_cell c) k v) (sym (j.image.content c)) reads);
      untouched = untouched C reached;
    }

  pub known : (all : List P.Task) → ((i : P.Task) → IsIn P N i all) → (C : World P N) → IsReached P N memory C → IsKnown P T N memory temps C
  known all each C reached = known_of C reached (judged P T N shape sol memory temps entered lowered all each C reached)

module _ (P : Shape) (X : Section P) (T : Tables P) (U : Tables (alone P X)) (shape : IsShaped P) (sol : IsSolution P T) (main_shape : IsShaped (alone P X)) (main_sol : IsSolution (alone P X) U) (apart : (x : P.AbstractCell) (i : P.Task) → X.owned x → P.owned x i → ⊥)
    (memory : P.Cell → Content P.Value) (main_temps : P.Valuation) (temps : P.Task → P.Valuation) (entered : IsEntered (alone P X) U memory (λ _. main_temps)) (hand : IsHandover P X T U memory main_temps temps)
    (O : Source (alone P X)) (main_lowered : IsLowered (alone P X) O (λ _. main_temps)) (N : Source P) (lowered : IsLowered P N temps) (all : List P.Task) (each : (i : P.Task) → IsIn P N i all) where
  main_known : (C : World (alone P X) O) → IsReached (alone P X) O memory C → IsKnown (alone P X) U O memory (λ _. main_temps) C
  main_known C reached = known_of (alone P X) U O main_shape main_sol memory (λ _. main_temps) entered main_lowered C reached
      (main_judged P X T U shape sol main_shape main_sol apart memory main_temps temps entered hand O main_lowered C reached)

  -- in each phase the world is known
  pub whole_known : (w : WholeWorld P N X O) → IsWholeReached P N X O memory w → IsWholeKnown P T N X U O memory main_temps temps w
  whole_known w reached = by_phase (two_phases P N X O memory w reached)
    where
      by_phase : IsFirstPhase P N X O memory w ⊎ IsSecondPhase P N X O memory w → IsWholeKnown P T N X U O memory main_temps temps w
      by_phase (inl one) = record {
        before = λ not. (main_known (main_of P N X O w) one.reached, one.tasks);
        after = λ over. absurd (one.not_done over);
      }
      by_phase (inr two) = record {
        before = λ not. absurd (not two.is_done);
        after = λ over. (
          two.left,
          two.left_done,
          main_known two.left two.left_reached,
          known P T N shape sol two.left.content temps
              (left_behind P X T U shape sol main_shape main_sol apart memory main_temps temps entered hand O main_lowered two.left two.left_reached two.left_done)
              lowered all each (tasks_of P N X O w) two.reached,
        );
      }
