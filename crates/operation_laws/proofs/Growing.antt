-- Lists that grow at their end.
use Rattle.std.proofs.Common.{◌≡◌, refl, ap, ℕ, zero, suc, List, [], ◌∷◌, ◌++◌, length, Some, slice_get}
use Rattle.std.proofs.lemmas.Option.{none-some}

-- the one has what the other has, and perhaps more
abbrev pub Grows : {V : Type 0} → List V → List V → Type 0
Grows {V} vs ws = (v : ℕ) (s : V) → slice_get vs v ≡ Some s → slice_get ws v ≡ Some s

pub grows_same : {V : Type 0} (a : List V) → Grows a a
grows_same a v s e = e

pub grows_on : {V : Type 0} (a b c : List V) → Grows a b → Grows b c → Grows a c
grows_on a b c h k v s e = k v s (h v s e)

pub grows_end : {V : Type 0} (ss : List V) (s : V) → Grows ss (ss ++ s ∷ [])
grows_end [] s v x e = absurd (none-some x e)
grows_end (y ∷ ss) s zero x e = e
grows_end (y ∷ ss) s (suc v) x e = grows_end ss s v x e

pub at_end : {V : Type 0} (ss : List V) (s : V) → slice_get (ss ++ s ∷ []) (length ss) ≡ Some s
at_end [] s = refl
at_end (y ∷ ss) s = at_end ss s

pub length_end : {V : Type 0} (ss : List V) (s : V) → length (ss ++ s ∷ []) ≡ suc (length ss)
length_end [] s = refl
length_end (y ∷ ss) s = ap suc (length_end ss s)
