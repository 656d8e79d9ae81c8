-- The tasks that wrote something, by the entries of a store.
use Rattle.std.proofs.Common.{◌<◌, ℕ, List, [], ◌∷◌, inl, inr, subst, sym, All}
use Rattle.std.specs.FinMap.{entries}
use Rattle.std.proofs.lemmas.List.Elements.{All-head, All-tail}
use Rattle.tm_lattice.specs.Tables.{Table}
use Rattle.pointer_dom.specs.Values.{Values}
use Rattle.interfere_set.specs.Stores.{Interferences, HavePriorities}
use Rattle.interfere_set.specs.laws.Joins.{IsOf, entry_of}

abbrev pub Written : Type 0
Written = ℕ × Table (Table Values)

of_all : (P : Written → Type 0) (xs : List Written) → All P xs → (e : Written) → IsOf xs e → P e
of_all P [] a e h = elim h [ ]
of_all P (x ∷ xs) a e (inl h) = subst P (sym h) (All-head P x xs a)
of_all P (x ∷ xs) a e (inr h) = of_all P xs (All-tail P x xs a) e h

pub below_all : (store : Interferences) (n : ℕ) → All (λ (e : Written). e.0 < n) (entries store.weak) → HavePriorities store n
below_all store n a j written found = of_all (λ (e : Written). e.0 < n) (entries store.weak) a (j, written) (entry_of store.weak j written found)
