-- Names and where they stand last: a further one hides those of its name, and those before are found one by one.
use Rattle.std.proofs.Common.{◌≡◌, refl, ap, sym, ◌∙◌, subst, ℕ, zero, suc, ◌+◌, ◌≤◌, ◌<◌, Bool, true, false, cond, ◌&&◌, ◌==◌, List, [], ◌∷◌, ◌++◌, length, take, map, Option, Some, None, ◌⊎◌, inl, inr, arith}
use Rattle.std.specs.Prelude.{slice_get, option_map}
use Rattle.std.proofs.lemmas.Bool.Decides.{nat_tests}
use Rattle.std.proofs.lemmas.List.{map-append, length-map, length-take, take-append-le, take_all}
use Rattle.tm_terms.specs.declared.places.Place.{Place}
use Rattle.tm_terms.specs.declared.tokens.Name.{Name}
use Rattle.tm_terms.specs.Names.{is_same_name}
use Rattle.tm_typed.specs.States.{Static}
use Rattle.text_choices.specs.declared.static_names.Declared.{Declared}
use Rattle.text_choices.specs.Initialisers.{or_later, is_not_before, last_named}
use Rattle.text_choices.specs.reading.Named.{Named, named_static, named_by, names_of, last_position, last_at, joined}

-- ## A further name

first_of_two : (same : Bool) → or_later None (cond same (Some 0) None) ≡ or_later (cond same (Some 0) None) None
first_of_two true = refl
first_of_two false = refl

one_further : (same : Bool) (k : ℕ) (o own : Option ℕ) → or_later (option_map suc (or_later (cond same (Some k) None) o)) own ≡ or_later (cond same (Some (suc k)) None) (or_later (option_map suc o) own)
one_further true k o own = refl
one_further false k o own = refl

last_position-push : (ms : List Named) (m : Named) (n : Name) → last_position (ms ++ m ∷ []) n ≡ or_later (cond (is_same_name m.name n) (Some (length ms)) None) (last_position ms n)
last_position-push [] m n = first_of_two (is_same_name m.name n)
last_position-push (x ∷ xs) m n =
    ap (λ o. or_later (option_map suc o) (cond (is_same_name x.name n) (Some 0) None)) (last_position-push xs m n)
    ∙ one_further (is_same_name m.name n) (length xs) (last_position xs n) (cond (is_same_name x.name n) (Some 0) None)

joined_by : (same : Bool) (k : ℕ) (o : Option (Option ℕ)) → joined (cond same (Some (Some k)) o) ≡ or_later (cond same (Some k) None) (joined o)
joined_by true k o = refl
joined_by false k o = refl

-- the index with one entry more
pub indexed : (old new : List Declared) (x : Declared) (k : ℕ) (n : Name) (before behind : Option (Option ℕ)) → new ≡ old ++ x ∷ [] → k ≡ length old → behind ≡ cond (is_same_name x.name n) (Some (Some k)) before → joined before ≡ last_position (names_of old) n → joined behind ≡ last_position (names_of new) n
indexed old new x k n before behind e l u h =
    ap joined u
    ∙ joined_by (is_same_name x.name n) k before
    ∙ ap (λ o. or_later (cond (is_same_name x.name n) (Some k) None) o) h
    ∙ ap (λ i. or_later (cond (is_same_name x.name n) (Some i) None) (last_position (names_of old) n)) (l ∙ sym (length-map old named_by))
    ∙ sym (last_position-push (names_of old) (named_by x) n)
    ∙ ap (λ ns. last_position ns n) (sym (map-append named_by old (x ∷ [])))
    ∙ ap (λ ds. last_position (names_of ds) n) (sym e)

at_end : (xs : List Declared) (x d : Declared) (i : ℕ) → slice_get (xs ++ x ∷ []) i ≡ Some d → ((slice_get xs i ≡ Some d) × (i ≤ length xs)) ⊎ ((i ≡ length xs) × (x ≡ d))
at_end [] x d zero h = inr (refl, cc)
at_end [] x d (suc i) h = absurd cc
at_end (y ∷ ys) x d zero h = inl (h, omega arith)
at_end (y ∷ ys) x d (suc i) h = elim (at_end ys x d i h) [ inl p ↦ inl (p.0, let q = p.1 in omega (arith, q)) | inr p ↦ inr (ap suc p.0, p.1) ]

-- each entry still says what its name was before
pub hiding : (old new : List Declared) (x : Declared) → new ≡ old ++ x ∷ [] → x.before ≡ last_position (names_of old) x.name → ((i : ℕ) (d : Declared) → slice_get old i ≡ Some d → d.before ≡ last_position (names_of (take i old)) d.name) → (i : ℕ) (d : Declared) → slice_get new i ≡ Some d → d.before ≡ last_position (names_of (take i new)) d.name
hiding old new x same s h i d g = by_place (at_end old x d i (ap (λ ds. slice_get ds i) (sym same) ∙ g))
  where
    front : i ≤ length old → take i new ≡ take i old
    front q = ap (λ ds. take i ds) same ∙ take-append-le i old (x ∷ []) q

    by_place : ((slice_get old i ≡ Some d) × (i ≤ length old)) ⊎ ((i ≡ length old) × (x ≡ d)) → d.before ≡ last_position (names_of (take i new)) d.name
    by_place (inl p) = h i d p.0 ∙ ap (λ ds. last_position (names_of ds) d.name) (sym (front p.1))
    by_place (inr p) = let P : Declared → Type 0 = λ y. y.before ≡ last_position (names_of (take i new)) y.name in
        subst P p.1 (s ∙ ap (λ ds. last_position (names_of ds) x.name) (sym (whole p.0)))
      where
        whole : i ≡ length old → take i new ≡ old
        whole q = front (omega (arith, q)) ∙ ap (λ k. take k old) q ∙ take_all (length old) old (omega arith)

-- ## From one to the one before

-- what was found in the rest, or else here
settled : (o : Option ℕ) (same : Bool) → or_later (option_map suc o) (cond same (Some 0) None) ≡ None → (o ≡ None) × (same ≡ false)
settled None false h = (refl, refl)
settled None true h = absurd cc
settled (Some k) same h = absurd cc

never : (same early : Bool) → same ≡ false → or_later None (cond (same && early) (Some 0) None) ≡ None
never same early e = rw e refl

-- where a name stands nowhere, it stands nowhere up to a place
pub none_at : (xs : List Named) (n : Name) (p : Place) → last_position xs n ≡ None → last_at xs n p ≡ None
none_at [] n p h = refl
none_at (x ∷ xs) n p h =
    let s = settled (last_position xs n) (is_same_name x.name n) h in
    ap (λ o. or_later (option_map suc o) (cond (is_same_name x.name n && is_not_before p x.place) (Some 0) None)) (none_at xs n p s.0)
    ∙ never (is_same_name x.name n) (is_not_before p x.place) s.1

-- an element that stands last, and what is found up to a place: it, or what stands before it
pub record Stands (xs : List Named) (n : Name) (p : Place) (i : ℕ) : Type 0 where
  pub it : Named
  pub here : slice_get xs i ≡ Some it
  pub same : is_same_name it.name n ≡ true
  pub found : last_at xs n p ≡ cond (is_not_before p it.place) (Some i) (last_at (take i xs) n p)

in_front : (x : Named) (xs : List Named) (n : Name) (p : Place) (i : ℕ) → Stands xs n p i → Stands (x ∷ xs) n p (suc i)
in_front x xs n p i s = record {
  it = s.it;
  here = s.here;
  same = s.same;
  found = ap (λ o. or_later (option_map suc o) own) s.found ∙ by (is_not_before p s.it.place);
}
  where
    own : Option ℕ
    own = cond (is_same_name x.name n && is_not_before p x.place) (Some 0) None

    by : (b : Bool) → or_later (option_map suc (cond b (Some i) (last_at (take i xs) n p))) (cond (is_same_name x.name n && is_not_before p x.place) (Some 0) None)
        ≡ cond b (Some (suc i)) (last_at (x ∷ take i xs) n p)
    by true = refl
    by false = refl

at_head : (x : Named) (xs : List Named) (n : Name) (p : Place) → last_position xs n ≡ None → is_same_name x.name n ≡ true → Stands (x ∷ xs) n p 0
at_head x xs n p none same = record {
  it = x;
  here = refl;
  same = same;
  found = ap (λ o. or_later (option_map suc o) (cond (is_same_name x.name n && is_not_before p x.place) (Some 0) None)) (none_at xs n p none)
      ∙ ap (λ s. or_later None (cond (s && is_not_before p x.place) (Some 0) None)) same;
}

pub stands : (xs : List Named) (n : Name) (p : Place) (i : ℕ) → last_position xs n ≡ Some i → Stands xs n p i
stands [] n p i h = absurd cc
stands (x ∷ xs) n p i h = by (λ j e. stands xs n p j e) (last_position xs n) refl (is_same_name x.name n) refl
  where
    by : ((j : ℕ) → last_position xs n ≡ Some j → Stands xs n p j) → (o : Option ℕ) → last_position xs n ≡ o → (b : Bool) → is_same_name x.name n ≡ b
        → Stands (x ∷ xs) n p i
    by f (Some j) e b s =
        let k : Some (suc j) ≡ Some i = ap (λ o. or_later (option_map suc o) (cond (is_same_name x.name n) (Some 0) None)) (sym e) ∙ h in
        let q : suc j ≡ i = cc in
        subst (λ z. Stands (x ∷ xs) n p z) q (in_front x xs n p j (f j e))
    by f None e true s =
        let k : Some 0 ≡ Some i = ap (λ b. or_later None (cond b (Some 0) None)) (sym s) ∙ ap (λ o. or_later (option_map suc o) (cond (is_same_name x.name n) (Some 0) None)) (sym e) ∙ h in
        let q : 0 ≡ i = cc in
        subst (λ z. Stands (x ∷ xs) n p z) q (at_head x xs n p e s)
    by f None e false s =
        let k : None ≡ Some i = ap (λ b. or_later None (cond b (Some 0) None)) (sym s) ∙ ap (λ o. or_later (option_map suc o) (cond (is_same_name x.name n) (Some 0) None)) (sym e) ∙ h in
        absurd cc

-- ## The number in the order of a file

numbered : (k : ℕ) (o : Option ℕ) (b : Bool) → or_later (option_map (λ i. suc k + i) o) (cond b (Some k) None) ≡ option_map (λ i. k + i) (or_later (option_map suc o) (cond b (Some 0) None))
numbered k None true = ap (λ (i : ℕ). let f : ℕ → Option ℕ = λ x. Some x in f i) (let e : k ≡ k + 0 = omega arith in e)
numbered k None false = refl
numbered k (Some i) b = ap (λ (i : ℕ). let f : ℕ → Option ℕ = λ x. Some x in f i) (let e : suc k + i ≡ k + suc i = omega arith in e)

pub last_named_from : (k : ℕ) (os : List Static) (n : Name) (p : Place) → last_named k os n p ≡ option_map (λ i. k + i) (last_at (map named_static os) n p)
last_named_from k [] n p = refl
last_named_from k (o ∷ os) n p =
    ap (λ x. or_later x (cond (is_same_name o.name n && is_not_before p o.place) (Some k) None)) (last_named_from (suc k) os n p)
    ∙ numbered k (last_at (map named_static os) n p) (is_same_name o.name n && is_not_before p o.place)

unmoved : (o : Option ℕ) → option_map (λ i. 0 + i) o ≡ o
unmoved None = refl
unmoved (Some i) = ap (λ (i : ℕ). let f : ℕ → Option ℕ = λ x. Some x in f i) (let e : 0 + i ≡ i = omega arith in e)

pub last_named_is : (os : List Static) (n : Name) (p : Place) → last_named 0 os n p ≡ last_at (map named_static os) n p
last_named_is os n p = last_named_from 0 os n p ∙ unmoved (last_at (map named_static os) n p)

-- ## Back through the objects of one name

both_true : (a b : Bool) → (a && b) ≡ true → (a ≡ true) × (b ≡ true)
both_true true b e = (refl, e)
both_true false b e = absurd cc

same_number : (m n : ℕ) → (m == n) ≡ true → m ≡ n
same_number m n e = grind (arith, nat_tests)

pub same_name : (m n : Name) → is_same_name m n ≡ true → m ≡ n
same_name m n e =
    let b : ((m.start == n.start) ≡ true) × ((m.length == n.length) ≡ true) = both_true (m.start == n.start) (m.length == n.length) e in
    let s : m.start ≡ n.start = same_number m.start n.start b.0 in
    let l : m.length ≡ n.length = same_number m.length n.length b.1 in
    let F : ℕ → ℕ → Name = λ x y. record { start = x; length = y } in
    ap (λ x. F x m.length) s ∙ ap (λ y. F n.start y) l

last_within : (xs : List Named) (n : Name) (i : ℕ) → last_position xs n ≡ Some i → i < length xs
last_within [] n i h = absurd cc
last_within (x ∷ xs) n i h = by (λ j e. last_within xs n j e) (last_position xs n) refl (is_same_name x.name n) refl
  where
    whole : (o : Option ℕ) → last_position xs n ≡ o → (b : Bool) → is_same_name x.name n ≡ b → or_later (option_map suc o) (cond b (Some 0) None) ≡ Some i
    whole o e b s = ap (λ c. or_later (option_map suc o) (cond c (Some 0) None)) (sym s) ∙ ap (λ q. or_later (option_map suc q) (cond (is_same_name x.name n) (Some 0) None)) (sym e) ∙ h

    by : ((j : ℕ) → last_position xs n ≡ Some j → j < length xs) → (o : Option ℕ) → last_position xs n ≡ o → (b : Bool) → is_same_name x.name n ≡ b
        → i < length (x ∷ xs)
    by f (Some j) e b s = let r = f j e in let w = whole (Some j) e b s in let q : suc j ≡ i = cc in omega (arith, r, q)
    by f None e true s = let w = whole None e true s in let q : 0 ≡ i = cc in omega (arith, q)
    by f None e false s = let w = whole None e false s in absurd cc

there_by : (k i : ℕ) (ds : List Declared) (it : Named) → slice_get (names_of (take k ds)) i ≡ Some it
    → (d : Declared) × ((slice_get ds i ≡ Some d) × (named_by d ≡ it))
there_by zero i ds it h = absurd cc
there_by (suc k) i [] it h = absurd cc
there_by (suc k) zero (d ∷ ds) it h = (d, (refl, cc))
there_by (suc k) (suc i) (d ∷ ds) it h = there_by k i ds it h

front_by : (k i : ℕ) (ds : List Declared) (it : Named) → slice_get (names_of (take k ds)) i ≡ Some it
    → take i (names_of (take k ds)) ≡ names_of (take i ds)
front_by zero i ds it h = absurd cc
front_by (suc k) i [] it h = absurd cc
front_by (suc k) zero (d ∷ ds) it h = refl
front_by (suc k) (suc i) (d ∷ ds) it h = ap (λ xs. named_by d ∷ xs) (front_by k i ds it h)

-- the name is sought in a front of the objects, at whose end this is the last of the name
pub record Follows (ds : List Declared) (n : Name) (p : Place) (at : Option ℕ) : Type 0 where
  pub upto : ℕ
  pub latest : at ≡ last_position (names_of (take upto ds)) n
  pub same : last_at (names_of ds) n p ≡ last_at (names_of (take upto ds)) n p

pub follows_first : (ds : List Declared) (n : Name) (p : Place) (at : Option ℕ) → at ≡ last_position (names_of ds) n → Follows ds n p at
follows_first ds n p at e =
    let all : take (length ds) ds ≡ ds = take_all (length ds) ds (omega arith) in
    record {
      upto = length ds;
      latest = e ∙ ap (λ xs. last_position (names_of xs) n) (sym all);
      same = ap (λ xs. last_at (names_of xs) n p) (sym all);
    }

pub follows_ends : (ds : List Declared) (n : Name) (p : Place) → Follows ds n p None → last_at (names_of ds) n p ≡ None
follows_ends ds n p f = f.same ∙ none_at (names_of (take f.upto ds)) n p (sym f.latest)

-- the entry at which it stands
record Entry (ds : List Declared) (n : Name) (p : Place) (i : ℕ) : Type 0 where
  it : Declared
  here : slice_get ds i ≡ Some it
  name : it.name ≡ n
  within : last_at (names_of ds) n p ≡ cond (is_not_before p it.place) (Some i) (last_at (names_of (take i ds)) n p)

entry : (ds : List Declared) (n : Name) (p : Place) (i : ℕ) → Follows ds n p (Some i) → Entry ds n p i
entry ds n p i f =
    let s = stands (names_of (take f.upto ds)) n p i (sym f.latest) in
    let t = there_by f.upto i ds s.it s.here in
    record {
      it = t.0;
      here = t.1.0;
      name = same_name t.0.name n (ap (λ (x : Named). is_same_name x.name n) t.1.1 ∙ s.same);
      within = f.same ∙ s.found
          ∙ ap (λ (x : Named). cond (is_not_before p x.place) (Some i) (last_at (take i (names_of (take f.upto ds))) n p)) (sym t.1.1)
          ∙ ap (λ xs. cond (is_not_before p t.0.place) (Some i) (last_at xs n p)) (front_by f.upto i ds s.it s.here);
    }

pub follows_there : (ds : List Declared) (n : Name) (p : Place) (i : ℕ) → Follows ds n p (Some i) → slice_get ds i ≡ None → ⊥
follows_there ds n p i f h = let e = (entry ds n p i f).here in let q : Some (entry ds n p i f).it ≡ None = sym e ∙ h in absurd cc

same_entry : (ds : List Declared) (i : ℕ) (x d : Declared) → slice_get ds i ≡ Some x → slice_get ds i ≡ Some d → x ≡ d
same_entry ds i x d e h = let q : Some x ≡ Some d = sym e ∙ h in cc

pub follows_found : (ds : List Declared) (n : Name) (p : Place) (i : ℕ) (d : Declared) → Follows ds n p (Some i) → slice_get ds i ≡ Some d → is_not_before p d.place ≡ true
    → last_at (names_of ds) n p ≡ Some i
follows_found ds n p i d f h b =
    let e = entry ds n p i f in
    let s = same_entry ds i e.it d e.here h in
    e.within ∙ ap (λ (x : Declared). cond (is_not_before p x.place) (Some i) (last_at (names_of (take i ds)) n p)) s
    ∙ ap (λ (c : Bool). cond c (Some i) (last_at (names_of (take i ds)) n p)) b

pub follows_on : (ds : List Declared) (n : Name) (p : Place) (i : ℕ) (d : Declared)
    → ((j : ℕ) (x : Declared) → slice_get ds j ≡ Some x → x.before ≡ last_position (names_of (take j ds)) x.name)
    → Follows ds n p (Some i) → slice_get ds i ≡ Some d → is_not_before p d.place ≡ false → Follows ds n p d.before
follows_on ds n p i d hides f h b =
    let e = entry ds n p i f in
    let s = same_entry ds i e.it d e.here h in
    record {
      upto = i;
      latest = hides i d h ∙ ap (λ (m : Name). last_position (names_of (take i ds)) m) (ap (λ (x : Declared). x.name) (sym s) ∙ e.name);
      same = e.within ∙ ap (λ (x : Declared). cond (is_not_before p x.place) (Some i) (last_at (names_of (take i ds)) n p)) s
          ∙ ap (λ (c : Bool). cond c (Some i) (last_at (names_of (take i ds)) n p)) b;
    }

-- how many objects are left
abbrev pub left_before : Option ℕ → ℕ
left_before None = 0
left_before (Some i) = suc i

fewer : (ds : List Declared) (n : Name) (i : ℕ) (o : Option ℕ) → o ≡ last_position (names_of (take i ds)) n → left_before o ≤ i
fewer ds n i None e = omega arith
fewer ds n i (Some j) e =
    let w = last_within (names_of (take i ds)) n j (sym e) in
    let l = length-map (take i ds) named_by in
    let t = length-take i ds in
    omega (arith, w, l, t)

pub falls_back : (ds : List Declared) (i : ℕ) (d : Declared)
    → ((j : ℕ) (x : Declared) → slice_get ds j ≡ Some x → x.before ≡ last_position (names_of (take j ds)) x.name)
    → slice_get ds i ≡ Some d → left_before d.before < suc i
falls_back ds i d hides h = let f = fewer ds d.name i d.before (hides i d h) in omega (arith, f)
