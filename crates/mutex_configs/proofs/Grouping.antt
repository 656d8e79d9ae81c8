-- One more number in a list, and one more element behind those that are looked at.
use Rattle.std.proofs.Common.{◌≡◌, ◌∙◌, sym, ap, refl, ℕ, zero, suc, ◌+◌, ◌<◌, ◌==◌, true, false, cond, arith}
use Rattle.std.proofs.Common.{List, [], ◌∷◌, ◌++◌, length, map, get_or, take, subst, Bool, ◌≤◌, inl, inr, All}
use Rattle.std.specs.Prelude.{Vec, slice_set}
use Rattle.std.specs.declared.alloc.Global.{Global}
use Rattle.std.proofs.lemmas.List.{map-set, get_or-set_same, get_or-set_other, length-map, length-set, length-take-le, append-nil}
use Rattle.std.proofs.lemmas.List.Elements.{All-nil, All-cons}
use Rattle.std.proofs.lemmas.Bool.Decides.{eqb_tells}
use Rattle.std.proofs.Math.Seq.{take-suc, take-length}
use Rattle.std.proofs.lemmas.Option.{get_or_from_slice_get, slice_get-map, slice_get_read}
use Rattle.std.specs.Prelude.{if◌then◌else◌}
use Rattle.flow_graph.specs.declared.graphs.Edge.{Edge}
use Rattle.flow_graph.specs.Graphs.{Edges}
use Rattle.graph_facts.specs.Lists.{numbers}
use Rattle.graph_facts.specs.Leaving.{leaving_numbers, AreLeaving}
use Rattle.mutex_configs.specs.reading.Groups.{numbers_of, list_of, IsPushed, AreGroups}

abbrev items : Vec ℕ Global → List ℕ
items v = v.items

-- one more empty list
pub one_empty : (groups : List (Vec ℕ Global)) (v : Vec ℕ Global) → ((p : ℕ) → list_of groups p ≡ []) → v.items ≡ []
    → (p : ℕ) → list_of (groups ++ v ∷ []) p ≡ []
one_empty [] v f e zero = e
one_empty [] v f e (suc p) = refl
one_empty (g ∷ groups) v f e zero = f zero
one_empty (g ∷ groups) v f e (suc p) = one_empty groups v (λ q. f (suc q)) e p

-- what stands at a place
pub at_place : (groups : List (Vec ℕ Global)) (p : ℕ) (v : Vec ℕ Global) → p < length groups → v ≡ get_or groups p v
    → list_of groups p ≡ v.items
at_place groups p v within e = get_or_from_slice_get (map items groups) p v.items []
    (slice_get-map items groups p ∙ ap (λ o. Rattle.std.specs.Option.option_map items o) (slice_get_read groups (length groups) p v refl within e))

pub pushed : (groups : List (Vec ℕ Global)) (place number : ℕ) (old new : Vec ℕ Global)
    → place < length groups → old ≡ get_or groups place old → new.items ≡ old.items ++ number ∷ []
    → IsPushed groups place number (slice_set groups place new)
pushed groups place number old new within is_old is_new = record {
  count = length-set groups place new;
  here = ap (λ xs. get_or xs place []) (map-set items groups place new)
      ∙ get_or-set_same (map items groups) place new.items [] (subst (λ n. place < n) (sym (length-map groups items)) within)
      ∙ is_new ∙ ap (λ xs. xs ++ number ∷ []) (sym (at_place groups place old within is_old));
  others = λ p apart. ap (λ xs. get_or xs p []) (map-set items groups place new)
      ∙ get_or-set_other (map items groups) place p new.items [] apart;
}

cons_by : (b : Bool) (k : ℕ) (ns ms tail : List ℕ) → ns ≡ ms ++ tail → cond b (k ∷ ns) ns ≡ cond b (k ∷ ms) ms ++ tail
cons_by true k ns ms tail e = ap (λ xs. k ∷ xs) e
cons_by false k ns ms tail e = e

-- the last of the elements that are looked at
pub numbers_snoc : {A : Type 0} (key : A → ℕ) (p k : ℕ) (xs : List A) (x : A)
    → numbers_of key p k (xs ++ x ∷ []) ≡ numbers_of key p k xs ++ cond (key x == p) ((k + length xs) ∷ []) []
numbers_snoc {A} key p k [] x = ap (λ n. cond (key x == p) (n ∷ []) []) (let e : k ≡ k + 0 = omega (arith) in e)
numbers_snoc {A} key p k (y ∷ xs) x =
    cons_by (key y == p) k (numbers_of key p (suc k) (xs ++ x ∷ [])) (numbers_of key p (suc k) xs)
    (cond (key x == p) ((k + suc (length xs)) ∷ []) [])
    (numbers_snoc key p (suc k) xs x ∙ ap (λ n. numbers_of key p (suc k) xs ++ cond (key x == p) (n ∷ []) [])
    (let e : suc k + length xs ≡ k + suc (length xs) = omega (arith) in e))

pub none_yet : {A : Type 0} (key : A → ℕ) (xs : List A) (count : ℕ) (groups : List (Vec ℕ Global))
    → length groups ≡ count → ((p : ℕ) → list_of groups p ≡ []) → AreGroups key (take 0 xs) count groups
none_yet {A} key xs count groups e f = record { count_is = e; groups_are = λ p within. f p }

all_taken : {A : Type 0} (i : ℕ) (xs : List A) → i < length xs → 0 + length (take i xs) ≡ i
all_taken {A} i xs within = let e = length-take-le i xs (let l : i ≤ length xs = omega (arith, within) in l) in omega (arith, e)

pub all_grouped : {A : Type 0} (key : A → ℕ) (xs : List A) (i count : ℕ) (groups : List (Vec ℕ Global))
    → AreGroups key (take i xs) count groups → length xs ≤ i → i ≤ length xs → AreGroups key xs count groups
all_grouped {A} key xs i count groups h least most =
    subst (λ ys. AreGroups key ys count groups)
    (ap (λ n. take n xs) (let e : i ≡ length xs = omega (arith, least, most) in e) ∙ take-length xs) h

module _ {A : Type 0} (key : A → ℕ) (xs : List A) (count i : ℕ) (d : A) (old new : List (Vec ℕ Global))
    (h : AreGroups key (take i xs) count old) (within : i < length xs) (p' : IsPushed old (key (get_or xs i d)) i new) where
  behind : (p : ℕ) → numbers_of key p 0 (take (suc i) xs) ≡ numbers_of key p 0 (take i xs) ++ cond (key (get_or xs i d) == p) (i ∷ []) []
  behind p = ap (λ ys. numbers_of key p 0 ys) (take-suc xs i d within) ∙ numbers_snoc key p 0 (take i xs) (get_or xs i d)
      ∙ ap (λ n. numbers_of key p 0 (take i xs) ++ cond (key (get_or xs i d) == p) (n ∷ []) []) (all_taken i xs within)

  there : (p : ℕ) → p < count → list_of new p ≡ numbers_of key p 0 (take (suc i) xs)
  there p lt = elim (eqb_tells (key (get_or xs i d)) p) [
    | inl e ↦ ap (λ q. list_of new q) (sym e.1) ∙ p'.here ∙ ap (λ ns. ns ++ i ∷ []) (ap (λ q. list_of old q) e.1 ∙ h.groups_are p lt)
        ∙ sym (behind p ∙ ap (λ b. numbers_of key p 0 (take i xs) ++ cond b (i ∷ []) []) e.0)
    | inr e ↦ p'.others p (λ same. e.1 (sym same)) ∙ h.groups_are p lt
        ∙ sym (behind p ∙ ap (λ b. numbers_of key p 0 (take i xs) ++ cond b (i ∷ []) []) e.0 ∙ append-nil (numbers_of key p 0 (take i xs)))
  ]

  pub one_more : AreGroups key (take (i + 1) xs) count new
  one_more = subst (λ n. AreGroups key (take n xs) count new) (let e : suc i ≡ i + 1 = omega (arith) in e)
      (record { count_is = p'.count ∙ h.count_is; groups_are = there })

-- the numbers of a place
pub numbers_at : {A : Type 0} (key : A → ℕ) (xs : List A) (count : ℕ) (groups : List (Vec ℕ Global)) (p : ℕ) (v : Vec ℕ Global)
    → AreGroups key xs count groups → p < count → v ≡ get_or groups p v → v.items ≡ numbers_of key p 0 xs
numbers_at {A} key xs count groups p v h lt e =
    sym (at_place groups p v (let c = h.count_is in omega (arith, c, lt)) e) ∙ h.groups_are p lt

cond_all : (P : ℕ → Type 0) (b : Bool) (k : ℕ) (ks : List ℕ) → P k → All P ks → All P (cond b (k ∷ ks) ks)
cond_all P true k ks p all = All-cons P k ks p all
cond_all P false k ks p all = all

pub numbers_below : {A : Type 0} (key : A → ℕ) (p k n : ℕ) (xs : List A) → n ≡ k + length xs → All (λ j. j < n) (numbers_of key p k xs)
numbers_below {A} key p k n [] e = All-nil (λ j. j < n)
numbers_below {A} key p k n (x ∷ xs) e = cond_all (λ j. j < n) (key x == p) k (numbers_of key p (suc k) xs) (omega (arith, e))
    (numbers_below key p (suc k) n xs (omega (arith, e)))

same_by : (b : Bool) (k : ℕ) (ns ms : List ℕ) → ns ≡ ms → (if b then k ∷ ns else ns) ≡ cond b (k ∷ ms) ms
same_by true k ns ms e = ap (λ xs. k ∷ xs) e
same_by false k ns ms e = e

-- the edges that leave each place, as the facts of the graph have them
same_numbers : (k n : ℕ) (g : Edges) → leaving_numbers k g n ≡ numbers_of (λ (e : Edge). e.from) n k g
same_numbers k n [] = refl
same_numbers k n (e ∷ g) = same_by (e.from == n) k (leaving_numbers (suc k) g n) (numbers_of (λ (f : Edge). f.from) n (suc k) g) (same_numbers (suc k) n g)

pub leaving_groups : (g : Edges) (nodes : ℕ) (groups : List (Vec ℕ Global)) → AreLeaving g nodes (numbers groups)
    → AreGroups (λ (e : Edge). e.from) g nodes groups
leaving_groups g nodes groups l = record {
  count_is = sym (length-map groups items) ∙ l.node_count;
  groups_are = λ p lt. l.numbers p lt ∙ same_numbers 0 p g;
}
