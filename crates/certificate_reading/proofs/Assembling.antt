-- States are put together entry by entry.
use Rattle.std.proofs.Common.{◌≡◌, sym, ap, subst, ◌∙◌, ℕ, ◌+◌, ◌<◌, List, [], ◌∷◌, ◌++◌, length, drop, get_or}
use Rattle.std.proofs.Common.{Option, append_assoc, arith, suc}
use Rattle.std.proofs.lemmas.List.{drop_more}
use Rattle.std.specs.FinMap.{entries, insert, empty}
use Rattle.tm_lattice.specs.Tables.{Table}
use Rattle.pointer_dom.specs.Values.{Values}
use Rattle.transfer_rows.specs.StateForms.{Temp}
use Rattle.certificate_reading.specs.reading.Shapes.{RiseFrom}
use Rattle.certificate_reading.specs.Nesting.{AllBelow}
use Rattle.certificate_reading.specs.reading.Bounds.{AreUnder}
use Rattle.certificate_reading.specs.reading.Parts.{temps_of}
use Rattle.certificate_reading.proofs.Rising.{entries_last, below_raise, below_more, below_none, none_listed}

-- ## Entries by rising keys

-- the keys rise, and those of the entries come before them
abbrev pub ComeBefore : {V : Type 0} → List (ℕ × V) → List ℕ → Type 0
ComeBefore es [] = Unit {0}
ComeBefore es (k ∷ ks) = AllBelow k es × RiseFrom (k + 1) ks

-- of all entries these are there, and the rest, with these keys, is to come
pub record AreSoFar {V : Type 0} (all es rest : List (ℕ × V)) (keys : List ℕ) : Type 0 where
  pub is : all ≡ es ++ rest
  pub before : ComeBefore es keys

module _ {V : Type 0} where
  before_none : (t : Table V) (keys : List ℕ) → t ≡ empty → RiseFrom 0 keys → ComeBefore (entries t) keys
  before_none t [] none rises = tt
  before_none t (k ∷ ks) none rises = (below_none k t none, rises.1)

  before_more : (es : List (ℕ × V)) (k : ℕ) (ks : List ℕ) (v : V) → ComeBefore es (k ∷ ks)
      → ComeBefore (es ++ (k, v) ∷ []) ks
  before_more es k [] v h = tt
  before_more es k (l ∷ ks) v h =
      (below_raise (k + 1) l (es ++ (k, v) ∷ []) h.1.0 (below_more k es v h.0), h.1.1)

  pub so_far_none : (all rest : List (ℕ × V)) (t : Table V) (keys : List ℕ) → t ≡ empty → all ≡ rest → RiseFrom 0 keys
      → AreSoFar all (entries t) rest keys
  so_far_none all rest t keys none same rises =
      record {
        is = same ∙ ap (λ es. es ++ rest) (sym (none_listed t none));
        before = before_none t keys none rises;
      }

  pub so_far_more : (all rest : List (ℕ × V)) (t new : Table V) (k : ℕ) (ks : List ℕ) (v : V) → new ≡ insert t k v
      → AreSoFar all (entries t) ((k, v) ∷ rest) (k ∷ ks) → AreSoFar all (entries new) rest ks
  so_far_more all rest t new k ks v put h =
      let now : entries new ≡ entries t ++ (k, v) ∷ [] = ap entries put ∙ entries_last t k v h.before.0 in
      record {
        is = h.is ∙ (sym (append_assoc (entries t) ((k, v) ∷ []) rest) ∙ ap (λ es. es ++ rest) (sym now));
        before = subst (λ es. ComeBefore es ks) (sym now) (before_more (entries t) k ks v h.before);
      }

-- those that are left are below the bound
pub under_behind : (bound : ℕ) (ns ms : List (Option ℕ)) (n : Option ℕ) → ns ≡ n ∷ ms → AreUnder bound ns
    → AreUnder bound ms
under_behind bound ns ms n e under k d l = let h = subst (AreUnder bound) e under in h (suc k) d (omega (arith, l))

-- ## Temporaries

pub temps_more : (all : List (ℕ × Temp)) (t new : Table Temp) (i : ℕ) (live : List ℕ) (vs ws : List Values) (v : Values)
    (cs ds : List (Option ℕ)) (c d : Option ℕ) → i < length live → vs ≡ v ∷ ws → cs ≡ c ∷ ds → d ≡ c
    → new ≡ insert t (get_or live i 0) (record { value = v; copy = d })
    → AreSoFar all (entries t) (temps_of (drop i live) vs cs) (drop i live)
    → AreSoFar all (entries new) (temps_of (drop (i + 1) live) ws ds) (drop (i + 1) live)
temps_more all t new i live vs ws v cs ds c d l values copies same put h =
    let k = get_or live i 0 in
    let ks = drop (i + 1) live in
    so_far_more all (temps_of ks ws ds) t new k ks (record { value = v; copy = d }) put
    (subst (λ x. AreSoFar all (entries t) ((k, record { value = v; copy = x }) ∷ temps_of ks ws ds) (k ∷ ks)) (sym same)
    (subst (λ xs. AreSoFar all (entries t) (temps_of (k ∷ ks) (v ∷ ws) xs) (k ∷ ks)) copies
    (subst (λ xs. AreSoFar all (entries t) (temps_of (k ∷ ks) xs cs) (k ∷ ks)) values
    (subst (λ xs. AreSoFar all (entries t) (temps_of xs vs cs) xs) (drop_more live i 0 l) h))))
