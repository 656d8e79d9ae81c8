-- Structures: a new one, and one that gets its members, keep the tables lawful.
use Rattle.std.proofs.Common.{◌≡◌, ℕ, ◌<◌, ◌≤◌, zero, suc, List, [], ◌∷◌, ◌++◌, inl, inr, length, get_or, refl, sym, subst, ap, ◌∙◌, arith}
use Rattle.std.specs.Prelude.{◌+◌, Option, Some, None, Bool, true, false, cond, ◌&&◌, ◌==◌, All, slice_set}
use Rattle.std.proofs.lemmas.Bool.{cases_lt, cases_eq, false≢true, both_ways, eqb-false, eq-eqb, ne_eqb}
use Rattle.std.proofs.lemmas.List.{length-append, length-set, append-nil, get_or_past, get_or-set_same, get_or-set_other}
use Rattle.std.proofs.lemmas.List.Elements.{All-weaker, All-push, All-get_or, All-set}
use Rattle.tm_laid.specs.tm_terms.declared.tokens.Name.{Name}
use Rattle.tm_laid.specs.tm_typed.declared.types.Qualified.{Qualified}
use Rattle.tm_laid.specs.tm_typed.declared.types.CType.{CType}
use Rattle.tm_laid.specs.tm_typed.declared.types.CType.TheVariants as Types
use Rattle.tm_laid.specs.tm_typed.declared.scopes.Member.{Member}
use Rattle.tm_laid.specs.tm_typed.declared.scopes.TagBinding.{TagBinding}
use Rattle.tm_laid.specs.tm_typed.declared.scopes.Tagged.{Tagged}
use Rattle.tm_laid.specs.tm_typed.declared.scopes.Tagged.TheVariants as Tagging
use Rattle.tm_laid.specs.tm_typed.Scopes.{Scope, Structure, no_structure, ctype_of, structure, is_complete_type}
use Rattle.tm_laid.specs.tm_typed.Scopes.{is_complete, cells_of, abstract_cells_of}
use Rattle.tm_laid.specs.tm_typed.TypeRows.{clipped, is_same_ctype, number_in, row_in, is_founded, with_row, with_type}
use Rattle.tm_laid.specs.tm_typed.Specifiers.{new_structure, with_struct_tag, mentioned_tag}
use Rattle.tm_laid.specs.tm_typed.Structures.{Layout, no_layout, padding, with_member, completed_structure}
use Rattle.tm_laid.specs.TypeCells.{summed}
use Rattle.typed_file_laws.specs.Tables.{IsType, IsMade, IsRow, AreMembers, IsStructure, IsTag, complete_count, AreRanked, AreLawfulTables}
use Rattle.typed_file_laws.proofs.TableGrowth.{TablesGrow, grow_on, known_is_type, rows_stay, members_stay, summed_stays, abstract_sum_stays, structure_stays, structures_stay, members_known, tag_stays, place_within, number_stays}
use Rattle.typed_file_laws.proofs.TableRows.{row_at, members_at, pushed, pushed_grows, new_row, pushed_ranks, wrapped_small, top, Follows, follows_none, follows_on, place_pushed, same_ctype, row_follows}

-- ## A new structure

past_same : (ss : List Structure) (k : ℕ) → get_or (ss ++ no_structure ∷ []) k no_structure ≡ get_or ss k no_structure
past_same [] zero = refl
past_same [] (suc k) = refl
past_same (s ∷ ss) zero = refl
past_same (s ∷ ss) (suc k) = past_same ss k

count_past : (ss : List Structure) → complete_count (ss ++ no_structure ∷ []) ≡ complete_count ss
count_past [] = refl
count_past (s ∷ ss) = ap (λ (n : ℕ). cond s.complete (suc n) n) (count_past ss)

-- a scope with one more structure, of which nothing is known, and these tags
abbrev added : Scope → List TagBinding → Scope
added v tags = record v { tags = tags; structs = v.structs ++ no_structure ∷ [] }

added_grows : (v : Scope) (tags : List TagBinding) → TablesGrow v (added v tags)
added_grows v tags = record {
  more = [];
  types = sym (append-nil v.types);
  count = let e = length-append v.structs (no_structure ∷ []) in omega (arith, e);
  structures = λ k c. past_same v.structs k;
}

nothing_known : (v : Scope) → IsStructure v no_structure
nothing_known v = record { members = tt; cells = refl; abstract_cells = refl; size = omega arith; opened = λ c. absurd (false≢true c); empty = λ c. refl }

added_structures : (v : Scope) (tags : List TagBinding) → All (IsStructure v) v.structs → All (IsStructure (added v tags)) (added v tags).structs
added_structures v tags h = let w : Scope = added v tags in
    All-push (IsStructure w) v.structs no_structure (structures_stay v w (added_grows v tags) v.structs h) (nothing_known w)

added_ranks : (v : Scope) (tags : List TagBinding) → AreRanked v → AreRanked (added v tags)
added_ranks v tags r = record {
  rank = r.rank;
  below = λ n l. let a = r.below n l in let e = count_past v.structs in omega (arith, a, e);
  elements = r.elements;
  members = λ n k l q.
      let P : Structure → Type 0 = λ s. All (λ (m : Member). r.rank m.part.of.number < r.rank n) s.members in
      subst P (sym (past_same v.structs k)) (r.members n k l q);
}

-- the type of the new structure
abbrev fresh : Scope → CType
fresh v = Types.Struct (length v.structs)

fresh_made : (v : Scope) (tags : List TagBinding) → IsMade (added v tags) (fresh v)
fresh_made v tags = let e = length-append v.structs (no_structure ∷ []) in omega (arith, e)

old_or_new : (v : Scope) (tags : List TagBinding) (k : ℕ) → k < length (added v tags).structs → (k < length v.structs → ⊥) → length v.structs ≡ k
old_or_new v tags k l n = let e = length-append v.structs (no_structure ∷ []) in elim (cases_lt k (length v.structs)) [
  | inl o ↦ absurd (n o)
  | inr m ↦ omega (arith, e, l, m)
]

-- its row is new
fresh_lawful : (v : Scope) (tags : List TagBinding) → AreLawfulTables v → All (λ (b : TagBinding). IsTag (added v tags) b.tagged) tags → (b : Bool)
    → (number_in v (fresh v) == length v.types) ≡ b → AreLawfulTables (cond b (pushed (added v tags) (fresh v)) (added v tags))
fresh_lawful v tags h ts true e =
    let a : Scope = added v tags in let t : CType = fresh v in let w : Scope = pushed a t in
    let g : TablesGrow v a = added_grows v tags in
    let f : TablesGrow v w = grow_on v a w g (pushed_grows a t) in
    record {
      basic = let l = length-append v.types (row_in a t ∷ []) in let b = h.basic in omega (arith, l, b);
      rows = All-push (IsRow w) v.types (row_in a t) (rows_stay v w f v.types h.rows) (new_row a t (fresh_made v tags));
      structures = structures_stay a w (pushed_grows a t) a.structs (added_structures v tags h.structures);
      numbers = λ k l. elim (cases_lt k (length v.structs)) [
        | inl o ↦ number_stays v w (Types.Struct k) f (h.numbers k o)
        | inr m ↦
            let P : ℕ → Type 0 = λ j. IsType w (number_in w (Types.Struct j)) in
            subst P (old_or_new v tags k l (λ o. absurd (omega (arith, o, m)))) (place_pushed (is_same_ctype t) a.types (row_in a t) (same_ctype t))
      ];
      tags = All-weaker (λ (b : TagBinding). IsTag a b.tagged) (λ (b : TagBinding). IsTag w b.tagged) (λ b. tag_stays a w (pushed_grows a t) b.tagged) tags ts;
      ranks = pushed_ranks a t (rows_stay v a g v.types h.rows) (added_structures v tags h.structures) (added_ranks v tags h.ranks) (fresh_made v tags);
    }
fresh_lawful v tags h ts false e =
    let a : Scope = added v tags in let t : CType = fresh v in
    let g : TablesGrow v a = added_grows v tags in
    record {
      basic = h.basic;
      rows = rows_stay v a g v.types h.rows;
      structures = added_structures v tags h.structures;
      numbers = λ k l. elim (cases_lt k (length v.structs)) [
        | inl o ↦ h.numbers k o
        | inr m ↦
            let P : ℕ → Type 0 = λ j. IsType v (number_in v (Types.Struct j)) in
            let most : number_in v t ≤ length v.types = place_within (is_same_ctype t) v.types in
            let there : IsType v (number_in v t) = elim (cases_lt (number_in v t) (length v.types)) [ inl o ↦ o | inr n ↦ absurd (eqb-false (number_in v t) (length v.types) e (omega (arith, most, n))) ] in
            subst P (old_or_new v tags k l (λ o. absurd (omega (arith, o, m)))) there
      ];
      tags = ts;
      ranks = added_ranks v tags h.ranks;
    }

fresh_follows : (v : Scope) (tags : List TagBinding) (b : Bool) → AreLawfulTables (cond b (pushed (added v tags) (fresh v)) (added v tags)) → Follows v (cond b (pushed (added v tags) (fresh v)) (added v tags))
fresh_follows v tags true h = let a : Scope = added v tags in
    record { lawful = h; grown = grow_on v a (pushed a (fresh v)) (added_grows v tags) (pushed_grows a (fresh v)); names = refl; outer = refl; functions = refl }
fresh_follows v tags false h = record { lawful = h; grown = added_grows v tags; names = refl; outer = refl; functions = refl }

fresh_count : (v : Scope) (tags : List TagBinding) (b : Bool) → length v.structs < length (let w : Scope = cond b (pushed (added v tags) (fresh v)) (added v tags) in w.structs)
fresh_count v tags true = fresh_made v tags
fresh_count v tags false = fresh_made v tags

-- a new structure with these tags
structure_follows : (v : Scope) (tags : List TagBinding) → AreLawfulTables v → All (λ (b : TagBinding). IsTag (added v tags) b.tagged) tags → Follows v (with_type (added v tags) (fresh v))
structure_follows v tags h ts =
    let a : Scope = added v tags in let t : CType = fresh v in let w : Scope = with_row a t in
    let f : Follows v w = fresh_follows v tags (number_in v t == length v.types) (fresh_lawful v tags h ts (number_in v t == length v.types) refl) in
    follows_on v w (with_row w t) f (row_follows w t f.lawful (fresh_count v tags (number_in v t == length v.types)))

old_tags : (v : Scope) (tags : List TagBinding) → AreLawfulTables v → All (λ (b : TagBinding). IsTag (added v tags) b.tagged) v.tags
old_tags v tags h = All-weaker (λ (b : TagBinding). IsTag v b.tagged) (λ (b : TagBinding). IsTag (added v tags) b.tagged) (λ b. tag_stays v (added v tags) (added_grows v tags) b.tagged) v.tags h.tags

pub new_structure_follows : (v : Scope) → AreLawfulTables v → Follows v (new_structure v)
new_structure_follows v h = structure_follows v v.tags h (old_tags v v.tags h)

pub struct_tag_follows : (v : Scope) (tag : Name) → AreLawfulTables v → Follows v (with_struct_tag tag v)
struct_tag_follows v tag h =
    let b : TagBinding = record { name = tag; tagged = Tagging.Structure (length v.structs) } in
    let tags : List TagBinding = v.tags ++ b ∷ [] in
    structure_follows v tags h (All-push (λ (b : TagBinding). IsTag (added v tags) b.tagged) v.tags b (old_tags v tags h) (fresh_made v tags))

pub mentioned_follows : (v : Scope) (tag : Name) (t : Option Tagged) → AreLawfulTables v → Follows v (mentioned_tag v tag t)
mentioned_follows v tag None h = struct_tag_follows v tag h
mentioned_follows v tag (Some t) h = follows_none v h

-- the new structure is in the table
type_count : (w : Scope) (t : CType) → length (with_row w t).structs ≡ length w.structs
type_count w t = row_count (is_founded w t && (number_in w t == length w.types))
  where
    row_count : (b : Bool) → length (let x : Scope = cond b (pushed w t) w in x.structs) ≡ length w.structs
    row_count true = refl
    row_count false = refl

pub new_structure_count : (v : Scope) → length v.structs < length (new_structure v).structs
new_structure_count v =
    let a : Scope = added v v.tags in let t : CType = fresh v in
    let e = type_count (with_row a t) t in let f = type_count a t in let m = fresh_made v v.tags in omega (arith, e, f, m)

pub struct_tag_count : (v : Scope) (tag : Name) → length v.structs < length (with_struct_tag tag v).structs
struct_tag_count v tag =
    let tags : List TagBinding = v.tags ++ record { name = tag; tagged = Tagging.Structure (length v.structs) } ∷ [] in
    let a : Scope = added v tags in let t : CType = fresh v in
    let e = type_count (with_row a t) t in let f = type_count a t in let m = fresh_made v tags in omega (arith, e, f, m)

-- a type row changes no structure
type_structs : (w : Scope) (t : CType) → (with_row w t).structs ≡ w.structs
type_structs w t = row_structs (is_founded w t && (number_in w t == length w.types))
  where
    row_structs : (b : Bool) → (let x : Scope = cond b (pushed w t) w in x.structs) ≡ w.structs
    row_structs true = refl
    row_structs false = refl

abbrev pub IsUnknown : Scope → ℕ → Type 0
IsUnknown v k = (structure v k).complete ≡ false

unknown_past : (v : Scope) (tags : List TagBinding) → IsUnknown (with_type (added v tags) (fresh v)) (length v.structs)
unknown_past v tags =
    let a : Scope = added v tags in let t : CType = fresh v in
    let P : List Structure → Type 0 = λ ss. (get_or ss (length v.structs) no_structure).complete ≡ false in
    subst P (sym (type_structs (with_row a t) t ∙ type_structs a t))
    (let Q : Structure → Type 0 = λ s. s.complete ≡ false in subst Q (sym (past_same v.structs (length v.structs) ∙ get_or_past v.structs (length v.structs) no_structure (omega arith))) refl)

pub new_structure_unknown : (v : Scope) → IsUnknown (new_structure v) (length v.structs)
new_structure_unknown v = unknown_past v v.tags

pub struct_tag_unknown : (v : Scope) (tag : Name) → IsUnknown (with_struct_tag tag v) (length v.structs)
struct_tag_unknown v tag = unknown_past v (v.tags ++ record { name = tag; tagged = Tagging.Structure (length v.structs) } ∷ [])

-- ## A structure that was not complete

-- a scope in which a structure is another one
abbrev pub restructured : Scope → ℕ → Structure → Scope
restructured v k new = record v { structs = slice_set v.structs k new }

restructured_grows : (v : Scope) (k : ℕ) (new : Structure) → IsUnknown v k → TablesGrow v (restructured v k new)
restructured_grows v k new u = record {
  more = [];
  types = sym (append-nil v.types);
  count = let e = length-set v.structs k new in omega (arith, e);
  structures = λ j c. elim (cases_eq j k) [
    | inl e ↦ absurd (both_ways (structure v k).complete u (let P : ℕ → Type 0 = λ i. (structure v i).complete ≡ true in subst P e c))
    | inr n ↦ get_or-set_other v.structs k j new no_structure n
  ];
}

restructured_lawful : (v : Scope) (k : ℕ) (new : Structure) → AreLawfulTables v → IsUnknown v k → IsStructure v new → AreRanked (restructured v k new) → AreLawfulTables (restructured v k new)
restructured_lawful v k new h u s r =
    let w : Scope = restructured v k new in let g : TablesGrow v w = restructured_grows v k new u in record {
      basic = h.basic;
      rows = rows_stay v w g v.types h.rows;
      structures = All-set (IsStructure w) v.structs k new (structure_stays v w g new s) (structures_stay v w g v.structs h.structures);
      numbers = λ j l. let e = length-set v.structs k new in h.numbers j (omega (arith, l, e));
      tags = All-weaker (λ (b : TagBinding). IsTag v b.tagged) (λ (b : TagBinding). IsTag w b.tagged) (λ b. tag_stays v w g b.tagged) v.tags h.tags;
      ranks = r;
    }

pub restructured_follows : (v : Scope) (k : ℕ) (new : Structure) → AreLawfulTables v → IsUnknown v k → IsStructure v new → AreRanked (restructured v k new) → Follows v (restructured v k new)
restructured_follows v k new h u s r = record { lawful = restructured_lawful v k new h u s r; grown = restructured_grows v k new u; names = refl; outer = refl; functions = refl }

-- ## How many are complete

count_step : (b c : Bool) (x y : ℕ) → x ≡ cond c (suc y) y → cond b (suc x) x ≡ cond c (suc (cond b (suc y) y)) (cond b (suc y) y)
count_step true true x y e = ap suc e
count_step true false x y e = ap suc e
count_step false true x y e = e
count_step false false x y e = e

count_set : (ss : List Structure) (k : ℕ) (new : Structure) → k < length ss → (get_or ss k no_structure).complete ≡ false
    → complete_count (slice_set ss k new) ≡ cond new.complete (suc (complete_count ss)) (complete_count ss)
count_set [] k new l u = absurd (omega (arith, l))
count_set (s ∷ ss) zero new l u =
    let P : Bool → Type 0 = λ b. cond new.complete (suc (complete_count ss)) (complete_count ss) ≡ cond new.complete (suc (cond b (suc (complete_count ss)) (complete_count ss))) (cond b (suc (complete_count ss)) (complete_count ss)) in
    subst P (sym u) refl
count_set (s ∷ ss) (suc k) new l u = count_step s.complete new.complete (complete_count (slice_set ss k new)) (complete_count ss) (count_set ss k new (omega (arith, l)) u)

-- ## The `{` of a structure

abbrev pub opening : Scope → ℕ → Structure
opening v k = record (structure v k) { opened = true }

pub structure_at : (v : Scope) → AreLawfulTables v → (k : ℕ) → k < length v.structs → IsStructure v (structure v k)
structure_at v h k l = All-get_or (IsStructure v) v.structs k no_structure l h.structures

opening_structure : (v : Scope) (k : ℕ) → IsStructure v (structure v k) → IsStructure v (opening v k)
opening_structure v k s = record { members = s.members; cells = s.cells; abstract_cells = s.abstract_cells; size = s.size; opened = λ c. refl; empty = s.empty }

same_members : (v : Scope) (k : ℕ) → k < length v.structs → (j : ℕ) → (structure (restructured v k (opening v k)) j).members ≡ (structure v j).members
same_members v k l j = elim (cases_eq j k) [
  | inl e ↦
      let P : ℕ → Type 0 = λ i. (structure (restructured v k (opening v k)) i).members ≡ (structure v i).members in
      subst P (sym e) (ap (λ (s : Structure). s.members) (get_or-set_same v.structs k (opening v k) no_structure l))
  | inr n ↦ ap (λ (s : Structure). s.members) (get_or-set_other v.structs k j (opening v k) no_structure n)
]

opening_ranks : (v : Scope) (k : ℕ) → AreRanked v → k < length v.structs → IsUnknown v k → AreRanked (restructured v k (opening v k))
opening_ranks v k r o u = record {
  rank = r.rank;
  below = λ n l.
      let a = r.below n l in
      let e = count_set v.structs k (opening v k) o u in
      let f = ap (λ (b : Bool). cond b (suc (complete_count v.structs)) (complete_count v.structs)) u in
      omega (arith, a, e, f);
  elements = r.elements;
  members = λ n j l q.
      let P : List Member → Type 0 = λ ms. All (λ (m : Member). r.rank m.part.of.number < r.rank n) ms in
      subst P (sym (same_members v k o j)) (r.members n j l q);
}

pub opening_follows : (v : Scope) (k : ℕ) → AreLawfulTables v → k < length v.structs → IsUnknown v k → Follows v (restructured v k (opening v k))
opening_follows v k h l u = restructured_follows v k (opening v k) h u (opening_structure v k (structure_at v h k l)) (opening_ranks v k h.ranks l u)

-- ## Members, one behind the other

-- the members so far take the cells that are counted
pub record IsLayout (scope : Scope) (l : Layout) : Type 0 where
  pub members : AreMembers scope 0 l.members
  pub cells : l.cells ≡ clipped (summed (cells_of scope) l.members)
  pub abstract_cells : l.abstract_cells ≡ clipped (summed (abstract_cells_of scope) l.members)

pub no_members_yet : (v : Scope) → IsLayout v no_layout
no_members_yet v = record { members = tt; cells = refl; abstract_cells = refl }

pub layout_stays : (v w : Scope) → TablesGrow v w → (l : Layout) → IsLayout v l → IsLayout w l
layout_stays v w g l h = record {
  members = members_stay v w g 0 l.members h.members;
  cells = h.cells ∙ ap clipped (sym (summed_stays v w g 0 l.members h.members));
  abstract_cells = h.abstract_cells ∙ ap clipped (sym (abstract_sum_stays v w g 0 l.members h.members));
}

summed_push : (f : ℕ → ℕ) (ms : List Member) (m : Member) → summed f (ms ++ m ∷ []) ≡ summed f ms + f m.part.of.number
summed_push f [] m = omega arith
summed_push f (x ∷ ms) m = let e = summed_push f ms m in omega (arith, e)

members_push : (v : Scope) (start : ℕ) (ms : List Member) (m : Member) → AreMembers v start ms → m.part.cell ≡ clipped (start + summed (cells_of v) ms)
    → is_complete v m.part.of.number ≡ true → AreMembers v start (ms ++ m ∷ [])
members_push v start [] m h c k = (c ∙ ap clipped (let e : start + 0 ≡ start = omega arith in e), k, tt)
members_push v start (x ∷ ms) m h c k =
    let a : ℕ = cells_of v x.part.of.number in
    let e : start + (a + summed (cells_of v) ms) ≡ start + a + summed (cells_of v) ms = omega arith in
    (h.0, h.1, members_push v (start + a) ms m h.2 (c ∙ ap clipped e) k)

clipped_sum : (a b : ℕ) → clipped (clipped a + b) ≡ clipped (a + b)
clipped_sum a b = omega arith

sum_pushed : (f : ℕ → ℕ) (ms : List Member) (m : Member) (c : ℕ) → c ≡ clipped (summed f ms) → clipped (c + f m.part.of.number) ≡ clipped (summed f (ms ++ m ∷ []))
sum_pushed f ms m c e =
    ap (λ (n : ℕ). clipped (n + f m.part.of.number)) e ∙ clipped_sum (summed f ms) (f m.part.of.number) ∙ ap clipped (sym (summed_push f ms m))

pub member_laid : (v : Scope) (l : Layout) (n : Name) (q : Qualified) → IsLayout v l → is_complete v q.number ≡ true → IsLayout v (with_member v l n q)
member_laid v l n q h k =
    let m : Member = record { name = n; part = record { of = q; cell = l.cells } } in record {
      members = members_push v 0 l.members m h.members (h.cells ∙ ap clipped (let e : summed (cells_of v) l.members ≡ 0 + summed (cells_of v) l.members = omega arith in e)) k;
      cells = sum_pushed (cells_of v) l.members m l.cells h.cells;
      abstract_cells = sum_pushed (abstract_cells_of v) l.members m l.abstract_cells h.abstract_cells;
    }

-- ## The `}` of a structure

laid_structure : (v : Scope) (l : Layout) → IsLayout v l → IsStructure v (completed_structure l)
laid_structure v l h = record {
  members = h.members;
  cells = h.cells;
  abstract_cells = h.abstract_cells;
  size = wrapped_small (l.size + padding l.size l.alignment);
  opened = λ c. refl;
  empty = λ c. absurd (false≢true (sym c));
}

abbrev is_structure_of : ℕ → CType → Bool
is_structure_of k (Types.Struct j) = k == j
is_structure_of k t = false

-- what is known is not the structure that is not complete
known_other : (v : Scope) (k : ℕ) → IsUnknown v k → (t : CType) → is_complete_type v t ≡ true → is_structure_of k t ≡ false
known_other v k u Types.Void c = refl
known_other v k u (Types.Int t) c = refl
known_other v k u (Types.Pointer q) c = refl
known_other v k u (Types.Array e n) c = refl
known_other v k u (Types.Struct j) c = ne_eqb k j (λ e. both_ways (structure v k).complete u (let P : ℕ → Type 0 = λ i. (structure v i).complete ≡ true in subst P (sym e) c))

-- the types of the structure get a rank above all others
abbrev above : Scope → (ℕ → ℕ) → ℕ → ℕ → ℕ
above v rank k n = cond (is_structure_of k (ctype_of v n)) (top v) (rank n)

above_other : (v : Scope) (rank : ℕ → ℕ) (k n : ℕ) → is_structure_of k (ctype_of v n) ≡ false → above v rank k n ≡ rank n
above_other v rank k n e = ap (λ b. cond b (top v) (rank n)) e

above_known : (v : Scope) (rank : ℕ → ℕ) (k n : ℕ) → IsUnknown v k → is_complete v n ≡ true → above v rank k n ≡ rank n
above_known v rank k n u c = above_other v rank k n (known_other v k u (ctype_of v n) c)

above_most : (v : Scope) (rank : ℕ → ℕ) (k n : ℕ) → rank n < top v → above v rank k n ≤ top v
above_most v rank k n l = by_test (is_structure_of k (ctype_of v n))
  where
    by_test : (b : Bool) → cond b (top v) (rank n) ≤ top v
    by_test true = omega arith
    by_test false = omega (arith, l)

laid_ranks : (v : Scope) (k : ℕ) (l : Layout) → AreLawfulTables v → k < length v.structs → IsUnknown v k → IsLayout v l → AreRanked (restructured v k (completed_structure l))
laid_ranks v k l h o u i = let r : AreRanked v = h.ranks in let new : Structure = completed_structure l in let w : Scope = restructured v k new in record {
  rank = above v r.rank k;
  below = λ n t. let a = above_most v r.rank k n (r.below n t) in let e = count_set v.structs k new o u in omega (arith, a, e);
  elements = λ n e m t q.
      let P : CType → Type 0 = λ t. IsMade v t in
      let c : is_complete v e ≡ true = subst P q (row_at v h.rows n t).made in
      let a = r.elements n e m t q in
      let b = above_known v r.rank k e u c in
      let d = above_other v r.rank k n (ap (is_structure_of k) q) in
      omega (arith, a, b, d);
  members = λ n j t q. elim (cases_eq j k) [
    | inl e ↦
        let P : ℕ → Type 0 = λ j. All (λ (m : Member). above v r.rank k m.part.of.number < above v r.rank k n) (structure w j).members in
        let Q : Structure → Type 0 = λ s. All (λ (m : Member). above v r.rank k m.part.of.number < above v r.rank k n) s.members in
        let is : is_structure_of k (ctype_of v n) ≡ true = ap (is_structure_of k) q ∙ eq-eqb k j (sym e) in
        let full : above v r.rank k n ≡ top v = ap (λ b. cond b (top v) (r.rank n)) is in
        subst P (sym e) (subst Q (sym (get_or-set_same v.structs k new no_structure o)) (λ x d y.
        let m : Member = get_or l.members x d in
        let c : is_complete v m.part.of.number ≡ true = members_known v 0 l.members i.members x d y in
        let a = r.below m.part.of.number (known_is_type v m.part.of.number c) in
        let b = above_known v r.rank k m.part.of.number u c in
        omega (arith, a, b, full)))
    | inr other ↦
        let Q : Structure → Type 0 = λ s. All (λ (m : Member). above v r.rank k m.part.of.number < above v r.rank k n) s.members in
        let is : is_structure_of k (ctype_of v n) ≡ false = ap (is_structure_of k) q ∙ ne_eqb k j (λ e. other (sym e)) in
        let f = above_other v r.rank k n is in
        subst Q (sym (get_or-set_other v.structs k j new no_structure other)) (λ x d y.
        let m : Member = get_or (structure v j).members x d in
        let c : is_complete v m.part.of.number ≡ true = members_known v 0 (structure v j).members (members_at v h.structures j) x d y in
        let a = r.members n j t q x d y in
        let b = above_known v r.rank k m.part.of.number u c in
        omega (arith, a, b, f))
  ];
}

pub laid_follows : (v : Scope) (k : ℕ) (l : Layout) → AreLawfulTables v → k < length v.structs → IsUnknown v k → IsLayout v l → Follows v (restructured v k (completed_structure l))
laid_follows v k l h o u i = restructured_follows v k (completed_structure l) h u (laid_structure v l i) (laid_ranks v k l h o u i)
