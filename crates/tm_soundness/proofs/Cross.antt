-- What holds of pairs of tasks, and how the parts come together after a step.
use Rattle.std.proofs.Common.{◌≡◌, ◌⊎◌, inl, inr, Option, Some, sym, ap, subst, ◌∙◌}
use Rattle.tm_soundness.specs.Tables.{Tables}
use Rattle.tm_soundness.specs.Shape.{Shape, Content, IsApart}
use Rattle.tm_soundness.specs.GraphWorlds.{Status, ready, Situation, GraphWorld, at}
use Rattle.tm_soundness.specs.Invariant.{Write, Writers, IsGood, IsEntry, IsSynced, IsUnheld, node_of, IsInvariant}
use Rattle.tm_soundness.proofs.Others.{IsWritten, IsSame, IsChange, others_good, ready_good, situation_path}

module _ (P : Shape) (T : Tables P) where
  -- a fact on pairs of tasks, after task s has come to node q'
  pairs : (R : P.Task → P.Node → P.Task → P.Node → Type 0) (n n' : P.Task → P.Node) (s : P.Task) (q' : P.Node) → n' s ≡ q' → ((i : P.Task) → (i ≡ s → ⊥) → n' i ≡ n i)
      → ((i k : P.Task) → (i ≡ k → ⊥) → R i (n i) k (n k)) → ((k : P.Task) → (k ≡ s → ⊥) → R s q' k (n k)) → ((i : P.Task) → (i ≡ s → ⊥) → R i (n i) s q')
      → (i k : P.Task) → (i ≡ k → ⊥) → R i (n' i) k (n' k)
  pairs R n n' s q' mine others all first second i k differ = cases (P.same_task i s) (P.same_task k s)
    where
      cases : Dec (i ≡ s) → Dec (k ≡ s) → R i (n' i) k (n' k)
      cases (yes a) (yes b) = absurd (differ (a ∙ sym b))
      cases (yes a) (no b) = subst (λ j. R j (n' j) k (n' k)) (sym a) (subst (λ r. R s r k (n' k)) (sym mine) (subst (λ r. R s q' k r) (sym (others k b)) (first k b)))
      cases (no a) (yes b) = subst (λ j. R i (n' i) j (n' j)) (sym b) (subst (λ r. R i (n' i) s r) (sym mine) (subst (λ r. R i r s q') (sym (others i a)) (second i a)))
      cases (no a) (no b) = subst (λ r. R i r k (n' k)) (sym (others i a)) (subst (λ r. R i (n i) k r) (sym (others k b)) (all i k differ))

  -- what the others' situations become
  pub record IsLeft (z z' : Situation P) : Type 0 where
    pub node : z'.node ≡ z.node
    pub temps : z'.temps ≡ z.temps
    pub status : (z'.status ≡ z.status) ⊎ (z'.status ≡ ready)

  pub left_good : (κ : P.Cell → Content P.Value) (last : Writers P) (i : P.Task) (z z' : Situation P) → IsLeft z z' → IsGood P T κ last i z → IsGood P T κ last i z'
  left_good κ last i z z' left good = elim left.status [
    | inl same ↦ subst (λ y. IsGood P T κ last i y) (sym (situation_path P z' z.node z.temps z.status left.node left.temps same)) good
    | inr up ↦ subst (λ y. IsGood P T κ last i y) (sym (situation_path P z' z.node z.temps ready left.node left.temps up)) (ready_good P T κ last i z.node z.temps z.status good)
  ]

  -- all that a step of s from q to q' has to give
  pub record IsMove (w w' : GraphWorld P) (last last' : Writers P) (s : P.Task) (q q' : P.Node) (ρ' : P.Valuation) (st' : Status P.Mutex) : Type 0 where
    pub here : node_of P w s ≡ q
    pub mine : w'.situation s ≡ at P q' ρ' st'
    pub others : (i : P.Task) → (i ≡ s → ⊥) → IsLeft (w.situation i) (w'.situation i)
    pub change : IsChange P T w last s q w'.content last'
    pub good : IsGood P T w'.content last' s (at P q' ρ' st')
    pub apart : (k : P.Task) → (k ≡ s → ⊥) → IsApart P (P.held q') (P.held (node_of P w k))
    pub unheld : (k : P.Task) → (k ≡ s → ⊥) → IsUnheld P s q' k (node_of P w k)
    pub unheld_by : (i : P.Task) → (i ≡ s → ⊥) → IsUnheld P i (node_of P w i) s q'
    pub synced : (c : P.Cell) → P.shared (P.abstract_cell c) → (wr : Write P) → last' c ≡ Some wr → wr.by ≡ s → IsSynced P T wr q' (P.abstract_cell c) (w'.content c)

  apart_sym : (l h : P.Held) → IsApart P l h → IsApart P h l
  apart_sym l h apart m a b = apart m b a

  same_write : (o : Option (Write P)) (a b : Write P) → o ≡ Some a → o ≡ Some b → a ≡ b
  same_write o a b e f = cc

  pub moved : (w w' : GraphWorld P) (last last' : Writers P) (s : P.Task) (q q' : P.Node) (ρ' : P.Valuation) (st' : Status P.Mutex) → IsMove w w' last last' s q q' ρ' st' → IsInvariant P T w last → IsInvariant P T w' last'
  moved w w' last last' s q q' ρ' st' move inv = record {
    good = λ i. good i (P.same_task i s);
    apart = pairs (λ i r k r'. IsApart P (P.held r) (P.held r')) (node_of P w) (node_of P w') s q' mine others inv.apart move.apart (λ i differ. apart_sym (P.held q') (P.held (node_of P w i)) (move.apart i differ));
    entries = λ c shared wr is. entry c shared wr is (move.change.shared c shared);
    synced = λ c shared wr is. synced c shared wr is (P.same_task wr.by s) (move.change.shared c shared);
    unheld = pairs (IsUnheld P) (node_of P w) (node_of P w') s q' mine others inv.unheld move.unheld move.unheld_by;
  }
    where
      mine : node_of P w' s ≡ q'
      mine = ap (λ (z : Situation P). z.node) move.mine

      others : (i : P.Task) → (i ≡ s → ⊥) → node_of P w' i ≡ node_of P w i
      others i differ = (move.others i differ).node

      good : (i : P.Task) → Dec (i ≡ s) → IsGood P T w'.content last' i (w'.situation i)
      good i (yes is) = subst (λ j. IsGood P T w'.content last' j (w'.situation j)) (sym is) (subst (λ z. IsGood P T w'.content last' s z) (sym move.mine) move.good)
      good i (no differ) = left_good w'.content last' i (w.situation i) (w'.situation i) (move.others i differ)
          (others_good P T w last s q w'.content last' move.change i differ (subst (λ r. IsApart P (P.held r) (P.held (node_of P w i))) move.here (inv.apart s i (λ e. differ (sym e)))) (inv.good i))

      entry : (c : P.Cell) → P.shared (P.abstract_cell c) → (wr : Write P) → last' c ≡ Some wr → IsSame P T w last w'.content last' c ⊎ IsWritten P T w s q w'.content last' c → IsEntry P T wr (P.abstract_cell c) (w'.content c)
      entry c shared wr is (inl same) =
          let old : IsEntry P T wr (P.abstract_cell c) (w.content c) = inv.entries c shared wr (sym same.writer ∙ is) in
          record { value = old.value; is = same.content ∙ old.is; entered = old.entered }
      entry c shared wr is (inr new) = record {
        value = new.value;
        is = new.content;
        entered = subst (λ (x : Write P). T.weak x.by x.under (P.abstract_cell c) new.value) (same_write (last' c) (record { by = s; under = P.held q }) wr new.writer is) new.entered;
      }

      synced : (c : P.Cell) → P.shared (P.abstract_cell c) → (wr : Write P) → last' c ≡ Some wr → Dec (wr.by ≡ s) → IsSame P T w last w'.content last' c ⊎ IsWritten P T w s q w'.content last' c
          → IsSynced P T wr (node_of P w' wr.by) (P.abstract_cell c) (w'.content c)
      synced c shared wr is (yes by) change = subst (λ r. IsSynced P T wr r (P.abstract_cell c) (w'.content c)) (sym (ap (node_of P w') by ∙ mine)) (move.synced c shared wr is by)
      synced c shared wr is (no differ) (inl same) =
          subst (λ r. IsSynced P T wr r (P.abstract_cell c) (w'.content c)) (sym (others wr.by differ)) (subst (λ k. IsSynced P T wr (node_of P w wr.by) (P.abstract_cell c) k) (sym same.content) (inv.synced c shared wr (sym same.writer ∙ is)))
      synced c shared wr is (no differ) (inr new) = absurd (differ (sym (ap (λ (x : Write P). x.by) (same_write (last' c) (record { by = s; under = P.held q }) wr new.writer is))))
