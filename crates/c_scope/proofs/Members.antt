-- Members that are noted one after the other, and structures that change.
use Rattle.std.proofs.Common.{◌≡◌, refl, ap, sym, ◌∙◌, subst, ℕ, zero, suc, ◌+◌, ◌<◌, ◌≤◌, Bool, true, false, cond, List, [], ◌∷◌, ◌++◌, length, take, map, get_or, Option, Some, None, arith}
use Rattle.std.specs.Prelude.{◌&&◌, ◌==◌, slice_set, ◌≢◌}
use Rattle.tm_terms.specs.declared.tokens.Name.{Name}
use Rattle.tm_terms.specs.Names.{is_same_name}
use Rattle.tm_typed.specs.declared.scopes.Member.{Member}
use Rattle.std.proofs.lemmas.List.{map-set, get_or-map, get_or-set_same, get_or-set_other, length-map, set-get_or}
use Rattle.std.proofs.lemmas.Bool.Decides.{nat_tests}
use Rattle.tm_typed.specs.declared.scopes.StructEntry.{StructEntry}
use Rattle.tm_typed.specs.Scopes.{Structure, structure_of, no_structure, or_else, last_declared}
use Rattle.c_scope.specs.declared.structures.MemberKey.{MemberKey}
use Rattle.c_scope.specs.reading.Members.{is_same_key, with_members}

or_else-none : {A : Type 0} (o : Option A) → or_else o None ≡ o
or_else-none (Some a) = refl
or_else-none None = refl

or_else-assoc : {A : Type 0} (a b c : Option A) → or_else (or_else a b) c ≡ or_else a (or_else b c)
or_else-assoc (Some a) b c = refl
or_else-assoc None b c = refl

pub last_declared-push : (ms : List Member) (m : Member) (n : Name) → last_declared (λ (d : Member). d.name) n (ms ++ m ∷ []) ≡ or_else (cond (is_same_name m.name n) (Some m) None) (last_declared (λ (d : Member). d.name) n ms)
last_declared-push [] m n = sym (or_else-none (cond (is_same_name m.name n) (Some m) None))
last_declared-push (x ∷ xs) m n =
    ap (λ o. or_else o (cond (is_same_name x.name n) (Some x) None)) (last_declared-push xs m n)
    ∙ or_else-assoc (cond (is_same_name m.name n) (Some m) None) (last_declared (λ (d : Member). d.name) n xs) (cond (is_same_name x.name n) (Some x) None)

by_key : (here same : Bool) (m : Member) (last before : Option Member) → cond (here && same) (Some m) (cond here (or_else last before) before) ≡ cond here (or_else (or_else (cond same (Some m) None) last) before) before
by_key true true m last before = refl
by_key true false m last before = refl
by_key false same m last before = refl

same_sides : (m n : ℕ) → (m == n) ≡ (n == m)
same_sides m n = grind (arith, nat_tests)

-- one more member of the structure
pub noted : (structure : ℕ) (ms : List Member) (m : Member) (k : MemberKey) (before behind at : Option Member)
    → behind ≡ cond (is_same_key (record { structure = structure; name = m.name }) k) (Some m) at
    → at ≡ with_members structure ms k before
    → behind ≡ with_members structure (ms ++ m ∷ []) k before
noted structure ms m k before behind at u h =
    u ∙ ap (λ o. cond (is_same_key (record { structure = structure; name = m.name }) k) (Some m) o) h
    ∙ ap (λ b. cond (b && is_same_name m.name k.name) (Some m) (with_members structure ms k before)) (same_sides structure k.structure)
    ∙ by_key (k.structure == structure) (is_same_name m.name k.name) m (last_declared (λ (d : Member). d.name) k.name ms) before
    ∙ ap (λ o. cond (k.structure == structure) (or_else o before) before) (sym (last_declared-push ms m k.name))

-- ## A structure that takes the place of another

-- what the index has to say of the members of each structure
pub record IsIndexed (found : MemberKey → Option Member) (ys : List Structure) : Type 0 where
  pub members : (k : ℕ) (n : Name) → found (record { structure = k; name = n }) ≡ last_declared (λ (m : Member). m.name) n (get_or ys k no_structure).members
  pub none : (k : ℕ) → (get_or ys k no_structure).complete ≡ false → (get_or ys k no_structure).members ≡ []

at_one : (ys : List Structure) (i k : ℕ) (v : Structure) → k ≡ i → i < length ys → get_or (slice_set ys i v) k no_structure ≡ v
at_one ys i k v e h = ap (λ j. get_or (slice_set ys i v) j no_structure) e ∙ get_or-set_same ys i v no_structure h

at_others : (ys : List Structure) (i k : ℕ) (v : Structure) → (k == i) ≡ false → get_or (slice_set ys i v) k no_structure ≡ get_or ys k no_structure
at_others ys i k v e = get_or-set_other ys i k v no_structure (grind (arith, nat_tests))

is_one : (k i : ℕ) → (k == i) ≡ true → k ≡ i
is_one k i e = grind (arith, nat_tests)

-- one with the same members
kept : (found : MemberKey → Option Member) (ys : List Structure) (i k : ℕ) (v : Structure) (b : Bool) → (k == i) ≡ b → i < length ys
    → v.members ≡ (get_or ys i no_structure).members → v.complete ≡ (get_or ys i no_structure).complete
    → ((get_or (slice_set ys i v) k no_structure).members ≡ (get_or ys k no_structure).members) × ((get_or (slice_set ys i v) k no_structure).complete ≡ (get_or ys k no_structure).complete)
kept found ys i k v true e h m c =
    let o = is_one k i e in (
      ap (λ (s : Structure). s.members) (at_one ys i k v o h) ∙ m ∙ ap (λ j. (get_or ys j no_structure).members) (sym o),
      ap (λ (s : Structure). s.complete) (at_one ys i k v o h) ∙ c ∙ ap (λ j. (get_or ys j no_structure).complete) (sym o),
    )
kept found ys i k v false e h m c = (ap (λ (s : Structure). s.members) (at_others ys i k v e), ap (λ (s : Structure). s.complete) (at_others ys i k v e))

pub indexed_still : (found : MemberKey → Option Member) (ys new : List Structure) (i : ℕ) (v : Structure) → new ≡ slice_set ys i v → i < length ys
    → v.members ≡ (get_or ys i no_structure).members → v.complete ≡ (get_or ys i no_structure).complete → IsIndexed found ys → IsIndexed found new
indexed_still found ys new i v e h m c x = let P : List Structure → Type 0 = λ zs. IsIndexed found zs in subst P (sym e) (record {
  members = λ k n. x.members k n ∙ ap (λ (ms : List Member). last_declared (λ (d : Member). d.name) n ms) (sym (kept found ys i k v (k == i) refl h m c).0);
  none = λ k q. (kept found ys i k v (k == i) refl h m c).0 ∙ x.none k (sym (kept found ys i k v (k == i) refl h m c).1 ∙ q);
})

-- one that completes it: it had no members
completed_at : (found after : MemberKey → Option Member) (ys : List Structure) (i k : ℕ) (n : Name) (v : Structure) (b : Bool) → (k == i) ≡ b → i < length ys
    → v.complete ≡ true → (get_or ys i no_structure).complete ≡ false
    → after (record { structure = k; name = n }) ≡ cond (k == i) (or_else (last_declared (λ (m : Member). m.name) n v.members) (found (record { structure = k; name = n }))) (found (record { structure = k; name = n }))
    → IsIndexed found ys
    → (after (record { structure = k; name = n }) ≡ last_declared (λ (m : Member). m.name) n (get_or (slice_set ys i v) k no_structure).members)
completed_at found after ys i k n v true e h t f u x =
    let o = is_one k i e in
    let gone : found (record { structure = k; name = n }) ≡ None = x.members k n ∙ ap (λ (j : ℕ). last_declared (λ (m : Member). m.name) n (get_or ys j no_structure).members) o ∙ ap (λ (ms : List Member). last_declared (λ (m : Member). m.name) n ms) (x.none i f) in
    u ∙ ap (λ c. cond c (or_else (last_declared (λ (m : Member). m.name) n v.members) (found (record { structure = k; name = n }))) (found (record { structure = k; name = n }))) e
    ∙ ap (λ o. or_else (last_declared (λ (m : Member). m.name) n v.members) o) gone
    ∙ or_else-none (last_declared (λ (m : Member). m.name) n v.members)
    ∙ ap (λ (s : Structure). last_declared (λ (m : Member). m.name) n s.members) (sym (at_one ys i k v o h))
completed_at found after ys i k n v false e h t f u x =
    u ∙ ap (λ c. cond c (or_else (last_declared (λ (m : Member). m.name) n v.members) (found (record { structure = k; name = n }))) (found (record { structure = k; name = n }))) e
    ∙ x.members k n ∙ ap (λ (s : Structure). last_declared (λ (m : Member). m.name) n s.members) (sym (at_others ys i k v e))

none_at : (found : MemberKey → Option Member) (ys : List Structure) (i k : ℕ) (v : Structure) (b : Bool) → (k == i) ≡ b → i < length ys → v.complete ≡ true
    → IsIndexed found ys → (get_or (slice_set ys i v) k no_structure).complete ≡ false → (get_or (slice_set ys i v) k no_structure).members ≡ []
none_at found ys i k v true e h t x q = let p : true ≡ false = sym t ∙ ap (λ (s : Structure). s.complete) (sym (at_one ys i k v (is_one k i e) h)) ∙ q in absurd cc
none_at found ys i k v false e h t x q = ap (λ (s : Structure). s.members) (at_others ys i k v e) ∙ x.none k (ap (λ (s : Structure). s.complete) (sym (at_others ys i k v e)) ∙ q)

pub indexed_completed : (found after : MemberKey → Option Member) (ys new : List Structure) (i : ℕ) (v : Structure) → new ≡ slice_set ys i v → i < length ys
    → v.complete ≡ true → (get_or ys i no_structure).complete ≡ false
    → ((k : MemberKey) → after k ≡ with_members i v.members k (found k)) → IsIndexed found ys → IsIndexed after new
indexed_completed found after ys new i v e h t f u x = let P : List Structure → Type 0 = λ zs. IsIndexed after zs in subst P (sym e) (record {
  members = λ k n. completed_at found after ys i k n v (k == i) refl h t f (u (record { structure = k; name = n })) x;
  none = λ k q. none_at found ys i k v (k == i) refl h t x q;
})

-- the entry of the code that stands at a place
pub entry_at : (xs : List StructEntry) (i : ℕ) (x : StructEntry) → i < length xs → x ≡ get_or xs i x → get_or (map structure_of xs) i no_structure ≡ structure_of x
entry_at xs i x h e = get_or-map structure_of xs i x no_structure h ∙ ap structure_of (sym e)
