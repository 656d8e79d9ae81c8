-- Paths of calls, and orders with callees first.
use Rattle.std.proofs.Common.{◌≡◌, ℕ, ◌<◌, zero, suc, List, [], ◌∷◌, ◌++◌, ◌⊎◌, inl, inr, length, get_or, refl, sym, ap, subst, ◌∙◌, arith}
use Rattle.std.specs.Prelude.{All, Contains}
use Rattle.std.proofs.lemmas.List.Elements.{All-contains, Contains-append_left, Contains-push, Contains-push_cases, All-weaker, All-nil, All-push}
use Rattle.std.proofs.lemmas.List.{append-nil, append_assoc}
use Rattle.tm_typed.specs.CallGraph.{Reaches, by_call, by_calls, AreBehind, AreCalleesFirst}
use Rattle.call_graph.specs.Searches.{IsPath}

pub path_front : (calls : ℕ → List ℕ) (xs : List ℕ) (f : ℕ) → IsPath calls (xs ++ f ∷ []) → IsPath calls xs
path_front calls [] f h = tt
path_front calls (x ∷ []) f h = tt
path_front calls (x ∷ y ∷ xs) f h = (h.0, path_front calls (y ∷ xs) f h.1)

pub path_push : (calls : ℕ → List ℕ) (xs : List ℕ) (f g : ℕ) → IsPath calls (xs ++ f ∷ []) → Contains (calls f) g → IsPath calls ((xs ++ f ∷ []) ++ g ∷ [])
path_push calls [] f g h c = (c, tt)
path_push calls (x ∷ []) f g h c = (h.0, (c, tt))
path_push calls (x ∷ y ∷ xs) f g h c = (h.0, path_push calls (y ∷ xs) f g h.1 c)

contains_cons : (x : ℕ) (xs : List ℕ) (y : ℕ) → Contains (x ∷ xs) y → (x ≡ y) ⊎ Contains xs y
contains_cons x xs y (zero, l, e) = inl e
contains_cons x xs y (suc k, l, e) = inr (k, omega arith, e)

reaches_on : (calls : ℕ → List ℕ) (f x y : ℕ) → Contains (calls x) y → (y ≡ f) ⊎ Reaches calls y f → Reaches calls x f
reaches_on calls f x y c (inl e) = let P : ℕ → Type 0 = λ z. Reaches calls x z in subst P e (by_call x y c)
reaches_on calls f x y c (inr r) = by_calls x y f c r

-- what stands on a path reaches its last function
pub path_reaches : (calls : ℕ → List ℕ) (xs : List ℕ) (f g : ℕ) → IsPath calls (xs ++ f ∷ []) → Contains (xs ++ f ∷ []) g → (g ≡ f) ⊎ Reaches calls g f
path_reaches calls [] f g h c = elim (contains_cons f [] g c) [ inl e ↦ inl (sym e) | inr d ↦ absurd (omega (arith, d.1)) ]
path_reaches calls (x ∷ []) f g h c =
    elim (contains_cons x (f ∷ []) g c) [
      | inl e ↦ inr (let P : ℕ → Type 0 = λ y. Reaches calls y f in subst P e (by_call x f h.0))
      | inr d ↦ path_reaches calls [] f g tt d
    ]
path_reaches calls (x ∷ y ∷ xs) f g h c =
    elim (contains_cons x (y ∷ (xs ++ f ∷ [])) g c) [
      | inl e ↦ inr (let P : ℕ → Type 0 = λ z. Reaches calls z f in subst P e (reaches_on calls f x y h.0 (path_reaches calls (y ∷ xs) f y h.1 (zero, omega arith, refl))))
      | inr d ↦ path_reaches calls (y ∷ xs) f g h.1 d
    ]

-- ## Orders with callees first

-- these functions call only among themselves, and none reaches itself
record IsSettled (calls : ℕ → List ℕ) (fs : List ℕ) : Type 0 where
  closed : (f : ℕ) → Contains fs f → All (Contains fs) (calls f)
  acyclic : (f : ℕ) → Contains fs f → Reaches calls f f → ⊥

stays_inside : (calls : ℕ → List ℕ) (fs : List ℕ) → ((f : ℕ) → Contains fs f → All (Contains fs) (calls f)) → (f h : ℕ) → Reaches calls f h → Contains fs f → Contains fs h
stays_inside calls fs closed _ _ (by_call f h c) i = All-contains (Contains fs) (calls f) h (closed f i) c
stays_inside calls fs closed _ _ (by_calls f g h c r) i = stays_inside calls fs closed g h r (All-contains (Contains fs) (calls f) g (closed f i) c)

-- what a function reaches whose calls are all inside is inside
inside : (calls : ℕ → List ℕ) (fs : List ℕ) → IsSettled calls fs → (f h : ℕ) → All (Contains fs) (calls f) → Reaches calls f h → Contains fs h
inside calls fs s _ _ a (by_call f h c) = All-contains (Contains fs) (calls f) h a c
inside calls fs s _ _ a (by_calls f g h c r) = stays_inside calls fs s.closed g h r (All-contains (Contains fs) (calls f) g a c)

settled_push : (calls : ℕ → List ℕ) (fs : List ℕ) (f : ℕ) → IsSettled calls fs → All (Contains fs) (calls f) → IsSettled calls (fs ++ f ∷ [])
settled_push calls fs f s a = record {
  closed = λ g i. elim (Contains-push_cases fs f g i) [
    | inl old ↦ All-weaker (Contains fs) (Contains (fs ++ f ∷ [])) (Contains-append_left fs (f ∷ [])) (calls g) (s.closed g old)
    | inr e ↦ let P : ℕ → Type 0 = λ x. All (Contains (fs ++ f ∷ [])) (calls x) in subst P e (All-weaker (Contains fs) (Contains (fs ++ f ∷ [])) (Contains-append_left fs (f ∷ [])) (calls f) a)
  ];
  acyclic = λ g i r. elim (Contains-push_cases fs f g i) [
    | inl old ↦ s.acyclic g old r
    | inr e ↦
        let P : ℕ → Type 0 = λ x. Reaches calls x x in
        let again : Reaches calls f f = subst P (sym e) r in
        s.acyclic f (inside calls fs s f f a again) again
  ];
}

settled_behind : (calls : ℕ → List ℕ) (before fs : List ℕ) → IsSettled calls before → AreBehind calls before fs → IsSettled calls (before ++ fs)
settled_behind calls before [] s b = let P : List ℕ → Type 0 = IsSettled calls in subst P (sym (append-nil before)) s
settled_behind calls before (f ∷ fs) s b =
    let P : List ℕ → Type 0 = IsSettled calls in
    subst P (append_assoc before (f ∷ []) fs) (settled_behind calls (before ++ f ∷ []) fs (settled_push calls before f s b.0) b.1)

contains_nothing : (f : ℕ) → Contains [] f → ⊥
contains_nothing f c = omega (arith, c.1)

pub acyclic_order : (calls : ℕ → List ℕ) (fs : List ℕ) (f : ℕ) → AreCalleesFirst calls fs → Contains fs f → Reaches calls f f → ⊥
acyclic_order calls fs f b i r =
    (settled_behind calls [] fs (record { closed = λ g c. absurd (contains_nothing g c); acyclic = λ g c r. contains_nothing g c }) b).acyclic f i r
