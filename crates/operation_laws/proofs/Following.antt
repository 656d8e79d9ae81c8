-- What is built follows: each temporary so far is given by an edge so far, and each copy is one of a temporary that an
-- earlier edge gives.
use Rattle.std.proofs.Common.{◌≡◌, refl, sym, subst, ℕ, suc, ◌<◌, ◌⊎◌, inl, inr, List, [], ◌∷◌, ◌++◌, length, Some}
use Rattle.std.proofs.Common.{arith}
use Rattle.std.proofs.lemmas.Bool.{cases_eq}
use Rattle.std.proofs.lemmas.Option.{slice_get_within}
use Rattle.std.proofs.lemmas.List.{append-nil, append_assoc}
use Rattle.temporary_types.specs.tm_laid.Layouts.{LaidTree}
use Rattle.temporary_types.specs.flow_graph.declared.graphs.Edge.{Edge}
use Rattle.temporary_types.specs.flow_graph.declared.operations.Operation.{Operation}
use Rattle.temporary_types.specs.flow_graph.declared.operations.Operation.TheVariants as Op
use Rattle.temporary_types.specs.flow_graph.Operations.{given}
use Rattle.temporary_types.specs.flow_graph.Graphs.{Edges, Among}
use Rattle.temporary_types.specs.Sorts.{Sort, Works}
use Rattle.temporary_types.specs.PointerMarks.{IsGivenIn, IsCopyOfGiven, CopiesFollow, AreCopiesOfGiven}

-- each of so many temporaries is given, and copies follow what gives their sources
pub record Follows (count : ℕ) (graph : Edges) : Type 0 where
  pub given : (t : ℕ) → t < count → IsGivenIn graph t
  pub copies : AreCopiesOfGiven graph

-- ## More edges

among_first : (a b : Edges) (x : Edge) → Among x a → Among x (a ++ b)
among_first [] b x h = absurd h
among_first (e ∷ a) b x (inl i) = inl i
among_first (e ∷ a) b x (inr h) = inr (among_first a b x h)

among_last : (a : Edges) (x : Edge) → Among x (a ++ x ∷ [])
among_last [] x = inl refl
among_last (e ∷ a) x = inr (among_last a x)

given_first : (a b : Edges) (t : ℕ) → IsGivenIn a t → IsGivenIn (a ++ b) t
given_first a b t h = record { edge = h.edge; among = among_first a b h.edge h.among; given = h.given }

copies_append : (before a b : Edges) → CopiesFollow before a → CopiesFollow (before ++ a) b
    → CopiesFollow before (a ++ b)
copies_append before [] b h k = subst (λ (g : Edges). CopiesFollow g b) (append-nil before) k
copies_append before (e ∷ a) b h k = (
  h.0,
  copies_append (before ++ e ∷ []) a b h.1
      (subst (λ (g : Edges). CopiesFollow g b) (sym (append_assoc before (e ∷ []) a)) k),
)

pub none_follows : Follows 0 []
none_follows = record { given = λ t lt. absurd (omega (arith, lt)); copies = tt }

-- edges that give no more temporaries
pub follows_more : (count : ℕ) (a b : Edges) → Follows count a → CopiesFollow a b → Follows count (a ++ b)
follows_more count a b h k = record {
  given = λ t lt. given_first a b t (h.given t lt);
  copies = copies_append [] a b h.copies k;
}

-- one that gives a new one
pub follows_new : (count : ℕ) (a : Edges) (e : Edge) → given e.op ≡ Some count → Follows count a
    → IsCopyOfGiven a e.op → Follows (suc count) (a ++ e ∷ [])
follows_new count a e q h k = record {
  given = λ t lt. by_case t lt (cases_eq t count);
  copies = copies_append [] a (e ∷ []) h.copies (k, tt);
}
  where
    by_case : (t : ℕ) → t < suc count → (t ≡ count) ⊎ (t ≡ count → ⊥) → IsGivenIn (a ++ e ∷ []) t
    by_case t lt (inl i) =
        subst (λ u. IsGivenIn (a ++ e ∷ []) u) (sym i)
        (record { edge = e; among = among_last a e; given = q })
    by_case t lt (inr n) = given_first a (e ∷ []) t (h.given t (omega (arith, lt, n)))

-- ## Copies

-- what an operation copies has a sort, so that it is one of the temporaries so far
pub copy_given : (laid : LaidTree) (ss : List Sort) (count : ℕ) (graph : Edges) → length ss ≡ count
    → Follows count graph → (op : Operation) → Works laid ss op → IsCopyOfGiven graph op
copy_given laid ss count graph l h (Op.Copy to from) w =
    let lt = slice_get_within ss from w.1.0 w.1.1 in
    h.given from (omega (arith, lt, l))
copy_given laid ss count graph l h _ w = tt
