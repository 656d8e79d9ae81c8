-- The invariant with an initial section.
use Rattle.std.proofs.Common.{◌≡◌, ◌⊎◌, inl, inr, Option, Some, None, refl, sym, ap, subst, ◌∙◌}
use Rattle.tm_soundness.specs.Tables.{Tables}
use Rattle.tm_soundness.specs.Shape.{Shape, Content, given, Reads, Usable}
use Rattle.tm_soundness.specs.GraphWorlds.{Status, waiting, ready, done, Situation, GraphWorld, at, GraphStep, wake, finish, calculate, loads, loads_any, stores, clearing, locks, blocks, unlocks, waits, finds_held, finds_free}
use Rattle.tm_soundness.specs.Shaped.{IsShaped}
use Rattle.tm_soundness.specs.Covers.{IsSolution, IsEntered}
use Rattle.tm_soundness.specs.Invariant.{Write, Writers, IsViewed, IsGood, IsInvariant}
use Rattle.tm_soundness.specs.Section.{Section, alone, WholeGraphWorld, main_part, task_part, WholeGraphStep, main_moves, main_ends, task_moves, IsWholeGraphStart, IsWholeGraphReached, whole_start, whole_after, IsHandover, IsBefore, IsAfter}
use Rattle.tm_soundness.proofs.Others.{ready_goes, ready_not_waiting}
use Rattle.tm_soundness.proofs.Steps.{step_keeps}
use Rattle.tm_soundness.proofs.Soundness.{unwritten, start_good, start_holds}

-- a step changes only cells that its task may use
pub untouched : (P : Shape) → IsShaped P → (w w' : GraphWorld P) → GraphStep P w w' → (c : P.Cell) → ((i : P.Task) → Usable P i c → ⊥) → w'.content c ≡ w.content c
untouched P shape w w' (wake s q ρ here moves same) c not = same c
untouched P shape w w' (finish s q ρ st here awake ends moves same) c not = same c
untouched P shape w w' (calculate e ρ ρ' st is here awake does moves same) c not = same c
untouched P shape w w' (loads e ρ a t d v is runs access reads moves same) c not = same c
untouched P shape w w' (loads_any e ρ ρ' a d is runs access does moves same) c not = same c
untouched P shape w w' (stores e ρ a v d is runs access moves written else) c not = else c (λ e'. not (P.actor e) (subst (λ k. Usable P (P.actor e) k) (sym e') access.usable))
untouched P shape w w' (clearing e ρ is runs moves here there) c not = there c (λ k. not (P.actor e) (inr (shape.clears_own e c k)))
untouched P shape w w' (locks e ρ m is runs free moves same) c not = same c
untouched P shape w w' (blocks e ρ m is runs no_relock busy moves same) c not = same c
untouched P shape w w' (unlocks e ρ m is runs mine moved_to released same) c not = same c
untouched P shape w w' (waits e ρ is runs moves same) c not = same c
untouched P shape w w' (finds_held e ρ m t is runs busy moves same) c not = same c
untouched P shape w w' (finds_free e ρ m t is runs free moves same) c not = same c

module _ (P : Shape) (X : Section P) (T : Tables P) (U : Tables (alone P X)) (shape : IsShaped P) (sol : IsSolution P T) (main_shape : IsShaped (alone P X)) (main_sol : IsSolution (alone P X) U) (apart : (x : P.AbstractCell) (i : P.Task) → X.owned x → P.owned x i → ⊥)
    (memory : P.Cell → Content P.Value) (main_temps : P.Valuation) (temps : P.Task → P.Valuation) (entered : IsEntered (alone P X) U memory (λ _. main_temps)) (hand : IsHandover P X T U memory main_temps temps) where
  -- at the end of the section the entry states of the tasks hold the memory
  pub handed_over : (κ : P.Cell → Content P.Value) (writers : Writers (alone P X)) (q : X.Node) (ρ : P.Valuation) (st : Status P.Mutex) → X.ends q → IsGood (alone P X) U κ writers tt (at (alone P X) q ρ st)
      → ((c : P.Cell) (i : P.Task) → P.owned (P.abstract_cell c) i → κ c ≡ memory c) → IsEntered P T κ temps
  handed_over κ writers q ρ st ends good kept = record {
    inside = λ i. hand.inside i q ρ ends good.inside;
    shared = λ c shared. known c shared (good.views c shared);
    local = λ i c v mine r. hand.local i q ρ c v ends good.inside mine (subst (λ k. Reads P (P.abstract_cell c) k v) (kept c i mine) (reads_there c v r));
    fresh = hand.fresh;
    stored = hand.stored;
    copies = hand.copies;
  }
    where
      reads_there : (c : P.Cell) (v : P.Value) → Reads P (P.abstract_cell c) (κ c) v → Reads P (P.abstract_cell c) (κ c) v
      reads_there c v r = r

      known : (c : P.Cell) → P.shared (P.abstract_cell c) → IsViewed (alone P X) U tt q ρ (P.abstract_cell c) (κ c) (writers c) → (v : P.Value) × (κ c ≡ given v) × ((i : P.Task) → T.own (P.entry i) (P.abstract_cell c) v)
      known c shared (inl f) = absurd (f.other refl)
      known c shared (inr k) = (k.value, k.is, λ i. hand.shared i q ρ (P.abstract_cell c) k.value ends good.inside shared k.own)

  not_main : (c : P.Cell) (i : P.Task) → P.owned (P.abstract_cell c) i → (j : Unit {0}) → Usable (alone P X) j c → ⊥
  not_main c i mine j (inl shared) = shape.not_both (P.abstract_cell c) i shared mine
  not_main c i mine j (inr owned) = apart (P.abstract_cell c) i owned mine

  before_start : (w : WholeGraphWorld P X) → IsWholeGraphStart P X memory main_temps temps w → IsBefore P X T U memory main_temps temps w
  before_start w begun = record {
    not_done = λ e. not_done (w.main.status) (ap (λ (z : Situation (alone P X)). z.status) begun.main) e;
    writers = unwritten (alone P X) U;
    invariant = record {
      good = λ i. subst (λ z. IsGood (alone P X) U w.content (unwritten (alone P X) U) i z) (sym begun.main) (subst (λ κ. IsGood (alone P X) U κ (unwritten (alone P X) U) i (at (alone P X) X.entry main_temps ready)) same (start_ready i));
      apart = λ i k differ. absurd (differ refl);
      entries = λ c shared wr is. not_some wr is;
      synced = λ c shared wr is. not_some wr is;
      unheld = λ i k differ. absurd (differ refl);
    };
    situation = begun.situation;
    kept = λ c i mine. begun.content c;
  }
    where
      same : memory ≡ w.content
      same = λ k c. sym (begun.content c) k

      not_done : (st : Status P.Mutex) → st ≡ ready → st ≡ done → ⊥
      not_done st a b = cc

      start_ready : (i : Unit {0}) → IsGood (alone P X) U memory (unwritten (alone P X) U) i (at (alone P X) X.entry main_temps ready)
      start_ready i =
          let good : IsGood (alone P X) U memory (unwritten (alone P X) U) i (at (alone P X) X.entry main_temps waiting) = start_good (alone P X) U main_shape memory (λ _. main_temps) entered (unwritten (alone P X) U) i in
          record {
            inside = good.inside;
            locals = good.locals;
            views = good.views;
            calm_fresh = λ e. absurd (ready_not_waiting (alone P X) ready refl e);
            calm_found = λ e. absurd (ready_not_waiting (alone P X) ready refl e);
            stopped = λ s. absurd (ready_goes (alone P X) ready refl s);
          }

      not_some : {A : Type 0} (wr : Write (alone P X)) → (let o : Option (Write (alone P X)) = None in o) ≡ Some wr → A
      not_some wr e = absurd (none_some wr e)
        where
          none_some : (wr : Write (alone P X)) → (let o : Option (Write (alone P X)) = None in o) ≡ Some wr → ⊥
          none_some wr e = cc

  step_from : (w w' : WholeGraphWorld P X) → IsBefore P X T U memory main_temps temps w ⊎ IsAfter P X T U memory main_temps temps w → WholeGraphStep P X w w' → IsBefore P X T U memory main_temps temps w' ⊎ IsAfter P X T U memory main_temps temps w'
  step_from w w' (inl before) (main_moves not_done not_done' step stay) =
      let next : (writers : Writers (alone P X)) × IsInvariant (alone P X) U (main_part P X w') writers = step_keeps (alone P X) U main_shape main_sol (main_part P X w) (main_part P X w') before.writers before.invariant step in
      inl (record {
        not_done = not_done';
        writers = next.0;
        invariant = next.1;
        situation = λ i. stay i ∙ before.situation i;
        kept = λ c i mine. untouched (alone P X) main_shape (main_part P X w) (main_part P X w') step c (not_main c i mine) ∙ before.kept c i mine;
      })
  step_from w w' (inl before) (main_ends q ρ st here not_done ends there same stay) =
      let good : IsGood (alone P X) U w.content before.writers tt (at (alone P X) q ρ st) = subst (λ z. IsGood (alone P X) U w.content before.writers tt z) here (before.invariant.good tt) in
      inr (record {
        is_done = ap (λ (z : Situation (alone P X)). z.status) there;
        writers = unwritten P T;
        invariant = start_holds P T shape w.content temps (handed_over w.content before.writers q ρ st ends good before.kept) (task_part P X w') (record { content = same; situation = λ i. stay i ∙ before.situation i });
      })
  step_from w w' (inl before) (task_moves is_done stay step) = absurd (before.not_done is_done)
  step_from w w' (inr later) (main_moves not_done not_done' step stay) = absurd (not_done later.is_done)
  step_from w w' (inr later) (main_ends q ρ st here not_done ends there same stay) = absurd (not_done (sym (ap (λ (z : Situation (alone P X)). z.status) here) ∙ later.is_done))
  step_from w w' (inr later) (task_moves is_done stay step) =
      let next : (writers : Writers P) × IsInvariant P T (task_part P X w') writers = step_keeps P T shape sol (task_part P X w) (task_part P X w') later.writers later.invariant step in
      inr (record { is_done = ap (λ (z : Situation (alone P X)). z.status) stay ∙ is_done; writers = next.0; invariant = next.1 })

  -- the invariant with an initial section
  pub frame_holds : (w : WholeGraphWorld P X) → IsWholeGraphReached P X memory main_temps temps w → IsBefore P X T U memory main_temps temps w ⊎ IsAfter P X T U memory main_temps temps w
  frame_holds w (whole_start begun) = inl (before_start w begun)
  frame_holds w (whole_after {w = v} reached step) = step_from v w (frame_holds v reached) step
