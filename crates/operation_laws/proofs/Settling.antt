-- What is built is settled: from a copy on no edge gives what it copies. A temporary that more than one edge gives, the
-- value of a call or of a choice, is open until the last of them is placed, and what is placed in between copies
-- temporaries that are newer than it.
use Rattle.std.proofs.Common.{◌≡◌, refl, sym, subst, ◌∙◌, ℕ, ◌<◌, ◌≤◌, List, [], ◌∷◌, ◌++◌, arith}
use Rattle.std.proofs.Common.{Option, Some, None, slice_get}
use Rattle.std.specs.Prelude.{option_map}
use Rattle.std.proofs.lemmas.Option.{none-some, same_Some}
use Rattle.temporary_types.specs.tm_laid.Layouts.{LaidTree}
use Rattle.temporary_types.specs.flow_graph.declared.graphs.Edge.{Edge}
use Rattle.temporary_types.specs.flow_graph.declared.operations.Operation.{Operation}
use Rattle.temporary_types.specs.flow_graph.declared.operations.Operation.TheVariants as Op
use Rattle.temporary_types.specs.flow_graph.Operations.{given}
use Rattle.temporary_types.specs.flow_graph.Graphs.{Edges}
use Rattle.temporary_types.specs.Sorts.{Sort, Works}
use Rattle.lowering_laws.specs.lowering.Built.{renamed}
use Rattle.temporary_types.specs.Settled.{NeverGives, IsSettled, AreSettled}

-- what an operation copies, if it is a copy
abbrev pub source_of : Operation → Option ℕ
source_of (Op.Copy to from) = Some from
source_of op = None

-- no edge copies the temporary
abbrev pub NeverCopies : Edges → ℕ → Type 0
NeverCopies [] t = Unit {0}
NeverCopies (e ∷ graph) t = (source_of e.op ≡ Some t → ⊥) × NeverCopies graph t

-- the copies so far are settled, and are of some of so many temporaries
pub record Settles (count : ℕ) (graph : Edges) : Type 0 where
  pub settled : AreSettled graph
  pub later : (t : ℕ) → count ≤ t → NeverCopies graph t

-- ## More edges

pub never_append : (a b : Edges) (t : ℕ) → NeverCopies a t → NeverCopies b t → NeverCopies (a ++ b) t
never_append [] b t h k = k
never_append (e ∷ a) b t h k = (h.0, never_append a b t h.1 k)

gives_append : (a b : Edges) (t : ℕ) → NeverGives a t → NeverGives b t → NeverGives (a ++ b) t
gives_append [] b t h k = k
gives_append (e ∷ a) b t h k = (h.0, gives_append a b t h.1 k)

-- an operation before edges that do not give what it copies
settled_before : (op : Operation) (g : Edges) → ((t : ℕ) → source_of op ≡ Some t → NeverGives g t) → IsSettled op g
settled_before (Op.Copy to from) g k = k from refl
settled_before _ g k = tt

settled_more : (op : Operation) (a b : Edges) → IsSettled op a → ((t : ℕ) → source_of op ≡ Some t → NeverGives b t)
    → IsSettled op (a ++ b)
settled_more (Op.Copy to from) a b h k = gives_append a b from h (k from refl)
settled_more _ a b h k = tt

settled_append : (a b : Edges) → AreSettled a → AreSettled b
    → ((t : ℕ) → (NeverCopies a t → ⊥) → NeverGives b t) → AreSettled (a ++ b)
settled_append [] b h k f = k
settled_append (e ∷ a) b h k f = (
  settled_more e.op (e ∷ a) b h.0 (λ t q. f t (λ n. n.0 q)),
  settled_append a b h.1 k (λ t w. f t (λ n. w n.1)),
)

pub none_settles : Settles 0 []
none_settles = record { settled = tt; later = λ t le. tt }

-- one edge more: what it gives was not copied before, and it copies one of the temporaries
pub settles_place : (count more : ℕ) (a : Edges) (e : Edge) → count ≤ more
    → ((t : ℕ) → given e.op ≡ Some t → NeverCopies a t × (source_of e.op ≡ Some t → ⊥))
    → ((t : ℕ) → source_of e.op ≡ Some t → t < more) → Settles count a → Settles more (a ++ e ∷ [])
settles_place count more a e le g s h = record {
  settled = settled_append a (e ∷ []) h.settled
      (settled_before e.op (e ∷ []) (λ t q. (λ p. (g t p).1 q, tt)), tt) (λ t w. (λ p. w (g t p).0, tt));
  later = λ t k. never_append a (e ∷ []) t (h.later t (omega (arith, le, k)))
      (λ q. let lt = s t q in absurd (omega (arith, lt, k)), tt);
}

-- edges that give and copy nothing
abbrev pub AreQuiet : Edges → Type 0
AreQuiet [] = Unit {0}
AreQuiet (e ∷ graph) = (given e.op ≡ None) × (source_of e.op ≡ None) × AreQuiet graph

quiet_gives : (g : Edges) (t : ℕ) → AreQuiet g → NeverGives g t
quiet_gives [] t h = tt
quiet_gives (e ∷ g) t h = (λ q. absurd (none-some t (sym h.0 ∙ q)), quiet_gives g t h.2)

pub quiet_copies : (g : Edges) (t : ℕ) → AreQuiet g → NeverCopies g t
quiet_copies [] t h = tt
quiet_copies (e ∷ g) t h = (λ q. absurd (none-some t (sym h.1 ∙ q)), quiet_copies g t h.2)

quiet_settled : (g : Edges) → AreQuiet g → AreSettled g
quiet_settled [] h = tt
quiet_settled (e ∷ g) h =
    (settled_before e.op (e ∷ g) (λ t q. absurd (none-some t (sym h.1 ∙ q))), quiet_settled g h.2)

pub settles_quiet : (count : ℕ) (a b : Edges) → AreQuiet b → Settles count a → Settles count (a ++ b)
settles_quiet count a b q h = record {
  settled = settled_append a b h.settled (quiet_settled b q) (λ t w. quiet_gives b t q);
  later = λ t k. never_append a b t (h.later t k) (quiet_copies b t q);
}

-- ## What operations copy

-- what an operation copies has a sort
pub works_source : (laid : LaidTree) (ss : List Sort) (op : Operation) → Works laid ss op → (t : ℕ)
    → source_of op ≡ Some t → (s : Sort) × (slice_get ss t ≡ Some s)
works_source laid ss (Op.Copy to from) w t e =
    (w.1.0, subst (λ x. slice_get ss x ≡ Some w.1.0) (same_Some from t e) w.1.1)
works_source laid ss _ w t e = absurd (none-some t e)

source_renamed : (f : ℕ → ℕ) (u : ℕ) (op : Operation) → source_of (renamed f u op) ≡ option_map f (source_of op)
source_renamed f u Op.Skip = refl
source_renamed f u _ = refl

source_mapped : (f : ℕ → ℕ) (o : Option ℕ) (t : ℕ) → option_map f o ≡ Some t → (v : ℕ) × (o ≡ Some v) × (f v ≡ t)
source_mapped f None t e = absurd (none-some t e)
source_mapped f (Some v) t e = (v, refl, same_Some (f v) t e)

-- an operation over variables copies the temporary of one of them
pub source_from : (laid : LaidTree) (vs : List Sort) (op : Operation) → Works laid vs op → (n : ℕ) (f : ℕ → ℕ)
    → ((v : ℕ) (s : Sort) → slice_get vs v ≡ Some s → n ≤ f v) → (u t : ℕ)
    → source_of (renamed f u op) ≡ Some t → n ≤ t
source_from laid vs op w n f h u t e =
    let x = source_mapped f (source_of op) t (sym (source_renamed f u op) ∙ e) in
    let y = works_source laid vs op w x.0 x.1 in
    subst (λ z. n ≤ z) x.2 (h x.0 y.0 y.1)
