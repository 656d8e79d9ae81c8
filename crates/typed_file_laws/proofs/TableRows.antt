-- Rows of the table of types: one more row keeps the tables lawful.
use Rattle.std.proofs.Common.{◌≡◌, ℕ, ◌<◌, ◌≤◌, suc, List, [], ◌∷◌, ◌++◌, inl, inr, length, get_or, refl, sym, subst, ap, ◌∙◌, arith}
use Rattle.std.specs.Prelude.{◌+◌, ◌*◌, ◌^◌, Bool, true, false, cond, not, ◌&&◌, ◌==◌, nat_lt, All}
use Rattle.std.proofs.lemmas.Bool.{cases_lt, cases_eq, false≢true, lt-ltb, le-ltb, eqb-true, eqb-false, eq-eqb, and_from}
use Rattle.std.proofs.lemmas.List.{length-append, get_or_past, get_or_push}
use Rattle.std.proofs.lemmas.List.Elements.{All-weaker, All-push, All-get_or}
use Rattle.tm_laid.specs.tm_cint.declared.int_types.IntType.{IntType}
use Rattle.tm_laid.specs.tm_cint.declared.int_types.IntType.TheVariants as Ints
use Rattle.tm_laid.specs.tm_typed.declared.types.CType.{CType}
use Rattle.tm_laid.specs.tm_typed.declared.types.CType.TheVariants as Types
use Rattle.tm_laid.specs.tm_typed.declared.types.TypeEntry.{TypeEntry}
use Rattle.tm_laid.specs.tm_typed.declared.scopes.Member.{Member}
use Rattle.tm_laid.specs.tm_typed.declared.scopes.TagBinding.{TagBinding}
use Rattle.tm_laid.specs.tm_typed.Types.{no_type, int_index, is_same_int, bytes_of}
use Rattle.tm_laid.specs.tm_typed.Scopes.{Scope, Structure, no_structure, entry, ctype_of, structure, is_complete_type}
use Rattle.tm_laid.specs.tm_typed.Scopes.{size_of}
use Rattle.tm_laid.specs.tm_typed.TypeRows.{wrapped, is_same_bool, is_same_ctype, class_at, apart_from_const, size_in}
use Rattle.tm_laid.specs.tm_typed.TypeRows.{number_in, row_in, is_founded, with_row, with_type}
use Rattle.typed_file_laws.specs.Tables.{IsType, IsMade, form, IsRow, AreMembers, IsStructure, IsTag, complete_count, AreRanked, AreLawfulTables}
use Rattle.typed_file_laws.proofs.TableGrowth.{TablesGrow, grow_none, grow_on, entry_stays, known_is_type, made_stays, cells_in_stay, abstracts_in_stay, rows_stay, structures_stay, members_known, tag_stays, place, place_within, passes_there, number_stays}

-- ## What the tables say of one type and one structure

pub row_at : (v : Scope) → All (IsRow v) v.types → (n : ℕ) → IsType v n → IsRow v (entry v n)
row_at v h n l = All-get_or (IsRow v) v.types n no_type l h

pub members_at : (v : Scope) → All (IsStructure v) v.structs → (k : ℕ) → AreMembers v 0 (structure v k).members
members_at v h k = elim (cases_lt k (length v.structs)) [
  | inl l ↦ (All-get_or (IsStructure v) v.structs k no_structure l h).members
  | inr m ↦ let P : Structure → Type 0 = λ s. AreMembers v 0 s.members in subst P (sym (get_or_past v.structs k no_structure m)) tt
]

-- ## One more row

abbrev pub pushed : Scope → CType → Scope
pushed v t = record v { types = v.types ++ row_in v t ∷ [] }

pushed_length : (v : Scope) (t : CType) → length (pushed v t).types ≡ length v.types + 1
pushed_length v t = length-append v.types (row_in v t ∷ [])

pub pushed_grows : (v : Scope) (t : CType) → TablesGrow v (pushed v t)
pushed_grows v t = record { more = row_in v t ∷ []; types = refl; count = omega arith; structures = λ k h. refl }

pushed_entry : (v : Scope) (t : CType) (n : ℕ) → length v.types ≡ n → entry (pushed v t) n ≡ row_in v t
pushed_entry v t n e = get_or_push v.types (row_in v t) no_type n e

is_last : (v : Scope) (t : CType) (n : ℕ) → IsType (pushed v t) n → length v.types ≤ n → length v.types ≡ n
is_last v t n l m = let e = pushed_length v t in omega (arith, e, l, m)

form_apart : (es : List TypeEntry) (t : CType) → form (apart_from_const es t) ≡ form t
form_apart es Types.Void = refl
form_apart es (Types.Int t) = refl
form_apart es (Types.Pointer q) = refl
form_apart es (Types.Array e n) = refl
form_apart es (Types.Struct k) = refl

-- types that are taken for equal are known alike
-- an integer type by its index
abbrev int_at : ℕ → IntType
int_at n =
    cond (n == 0) Ints.Bool (cond (n == 1) Ints.Char (cond (n == 2) Ints.UChar (cond (n == 3) Ints.Short (cond (n == 4) Ints.UShort (cond (n == 5) Ints.Int
    (cond (n == 6) Ints.UInt (cond (n == 7) Ints.Long (cond (n == 8) Ints.ULong (cond (n == 9) Ints.LLong Ints.ULLong)))))))))

at_index : (t : IntType) → int_at (int_index t) ≡ t
at_index Ints.Bool = refl
at_index Ints.Char = refl
at_index Ints.UChar = refl
at_index Ints.Short = refl
at_index Ints.UShort = refl
at_index Ints.Int = refl
at_index Ints.UInt = refl
at_index Ints.Long = refl
at_index Ints.ULong = refl
at_index Ints.LLong = refl
at_index Ints.ULLong = refl

int_same : (t u : IntType) → is_same_int t u ≡ true → u ≡ t
int_same t u h = sym (at_index u) ∙ ap int_at (sym (eqb-true (int_index t) (int_index u) h)) ∙ at_index t

form_same : (t u : CType) → is_same_ctype t u ≡ true → form u ≡ form t
form_same Types.Void Types.Void h = refl
form_same (Types.Int t) (Types.Int u) h = ap Types.Int (int_same t u h)
form_same (Types.Pointer q) (Types.Pointer r) h = refl
form_same (Types.Array e n) (Types.Array f m) h = refl
form_same (Types.Struct k) (Types.Struct l) h = ap Types.Struct (sym (eqb-true k l h))
form_same _ _ h = absurd (false≢true h)

pub form_known : (v : Scope) (t : CType) → is_complete_type v t ≡ is_complete_type v (form t)
form_known v Types.Void = refl
form_known v (Types.Int t) = refl
form_known v (Types.Pointer q) = refl
form_known v (Types.Array e n) = refl
form_known v (Types.Struct k) = refl

pub bytes_small : (t : IntType) → bytes_of t < 2 ^ 32
bytes_small Ints.Bool = omega arith
bytes_small Ints.Char = omega arith
bytes_small Ints.UChar = omega arith
bytes_small Ints.Short = omega arith
bytes_small Ints.UShort = omega arith
bytes_small Ints.Int = omega arith
bytes_small Ints.UInt = omega arith
bytes_small Ints.Long = omega arith
bytes_small Ints.ULong = omega arith
bytes_small Ints.LLong = omega arith
bytes_small Ints.ULLong = omega arith

pub wrapped_small : (n : ℕ) → wrapped n < 2 ^ 32
wrapped_small n = omega arith

size_small : (v : Scope) (t : CType) → size_in v t < 2 ^ 32
size_small v Types.Void = omega arith
size_small v (Types.Int t) = bytes_small t
size_small v (Types.Pointer q) = omega arith
size_small v (Types.Array e n) = wrapped_small (n * size_of v e)
size_small v (Types.Struct k) = omega arith

pushed_known : (v : Scope) (t : CType) → form (ctype_of (pushed v t) (number_in v (apart_from_const v.types t))) ≡ form t
pushed_known v t =
    let w : Scope = pushed v t in
    let apart : CType = apart_from_const v.types t in
    let n : ℕ = number_in v apart in
    elim (cases_lt n (length v.types)) [
      | inl l ↦
          ap (λ (e : TypeEntry). form e.ctype) (entry_stays v w (pushed_grows v t) n l)
          ∙ form_same apart (ctype_of v n) (passes_there (is_same_ctype apart) v.types l)
          ∙ form_apart v.types t
      | inr m ↦
          let most : n ≤ length v.types = place_within (is_same_ctype apart) v.types in
          ap (λ (e : TypeEntry). form e.ctype) (pushed_entry v t n (omega (arith, m, most)))
    ]

pub new_row : (v : Scope) (t : CType) → IsMade v t → IsRow (pushed v t) (row_in v t)
new_row v t m = record {
  made = made_stays v (pushed v t) (pushed_grows v t) t m;
  class =
      let most : number_in v (apart_from_const v.types t) ≤ length v.types = place_within (is_same_ctype (apart_from_const v.types t)) v.types in
      let e = pushed_length v t in omega (arith, most, e);
  alike = pushed_known v t;
  cells = sym (cells_in_stay v (pushed v t) (pushed_grows v t) t m);
  abstract_cells = sym (abstracts_in_stay v (pushed v t) (pushed_grows v t) t m);
  size = size_small v t;
}

-- ranks below a number stay, and the others are this one
abbrev raised : (ℕ → ℕ) → ℕ → ℕ → ℕ → ℕ
raised rank count top n = cond (nat_lt n count) (rank n) top

raised_low : (rank : ℕ → ℕ) (count top n : ℕ) → n < count → raised rank count top n ≡ rank n
raised_low rank count top n l = ap (λ b. cond b (rank n) top) (lt-ltb n count l)

raised_high : (rank : ℕ → ℕ) (count top n : ℕ) → count ≤ n → raised rank count top n ≡ top
raised_high rank count top n l = ap (λ b. cond b (rank n) top) (le-ltb n count l)

-- a rank above all so far
abbrev pub top : Scope → ℕ
top v = length v.types + complete_count v.structs

-- the new row has a rank above all others
pub pushed_ranks : (v : Scope) (t : CType) → All (IsRow v) v.types → All (IsStructure v) v.structs → AreRanked v → IsMade v t → AreRanked (pushed v t)
pushed_ranks v t rows structures ranks m = record {
  rank = raised ranks.rank (length v.types) (top v);
  below = λ n l. elim (cases_lt n (length v.types)) [
    | inl o ↦ let a = ranks.below n o in let b = raised_low ranks.rank (length v.types) (top v) n o in let e = pushed_length v t in omega (arith, a, b, e)
    | inr o ↦ let b = raised_high ranks.rank (length v.types) (top v) n o in let e = pushed_length v t in omega (arith, b, e)
  ];
  elements = λ n e c l q. elim (cases_lt n (length v.types)) [
    | inl o ↦
        let p : ctype_of v n ≡ Types.Array e c = ap (λ (x : TypeEntry). x.ctype) (sym (entry_stays v (pushed v t) (pushed_grows v t) n o)) ∙ q in
        let P : CType → Type 0 = λ u. IsMade v u in
        let k : IsType v e = known_is_type v e (subst P p (row_at v rows n o).made) in
        let a = ranks.elements n e c o p in let b = raised_low ranks.rank (length v.types) (top v) n o in let d = raised_low ranks.rank (length v.types) (top v) e k in omega (arith, a, b, d)
    | inr o ↦
        let p : t ≡ Types.Array e c = ap (λ (x : TypeEntry). x.ctype) (sym (pushed_entry v t n (is_last v t n l o))) ∙ q in
        let P : CType → Type 0 = λ u. IsMade v u in
        let k : IsType v e = known_is_type v e (subst P p m) in
        let a = ranks.below e k in let b = raised_high ranks.rank (length v.types) (top v) n o in let d = raised_low ranks.rank (length v.types) (top v) e k in omega (arith, a, b, d)
  ];
  members = λ n k l q. elim (cases_lt n (length v.types)) [
    | inl o ↦
        let p : ctype_of v n ≡ Types.Struct k = ap (λ (x : TypeEntry). x.ctype) (sym (entry_stays v (pushed v t) (pushed_grows v t) n o)) ∙ q in
        λ i d j.
        let x : Member = get_or (structure v k).members i d in
        let y : IsType v x.part.of.number = known_is_type v x.part.of.number (members_known v 0 (structure v k).members (members_at v structures k) i d j) in
        let a = ranks.members n k o p i d j in let b = raised_low ranks.rank (length v.types) (top v) n o in let c = raised_low ranks.rank (length v.types) (top v) x.part.of.number y in omega (arith, a, b, c)
    | inr o ↦
        λ i d j.
        let x : Member = get_or (structure v k).members i d in
        let y : IsType v x.part.of.number = known_is_type v x.part.of.number (members_known v 0 (structure v k).members (members_at v structures k) i d j) in
        let a = ranks.below x.part.of.number y in let b = raised_high ranks.rank (length v.types) (top v) n o in let c = raised_low ranks.rank (length v.types) (top v) x.part.of.number y in omega (arith, a, b, c)
  ];
}

pub pushed_lawful : (v : Scope) (t : CType) → AreLawfulTables v → IsMade v t → AreLawfulTables (pushed v t)
pushed_lawful v t h m =
    let w : Scope = pushed v t in let g : TablesGrow v w = pushed_grows v t in record {
      basic = let e = pushed_length v t in let b = h.basic in omega (arith, e, b);
      rows = All-push (IsRow w) v.types (row_in v t) (rows_stay v w g v.types h.rows) (new_row v t m);
      structures = structures_stay v w g v.structs h.structures;
      numbers = λ k l. number_stays v w (Types.Struct k) g (h.numbers k l);
      tags = All-weaker (λ (b : TagBinding). IsTag v b.tagged) (λ (b : TagBinding). IsTag w b.tagged) (λ b. tag_stays v w g b.tagged) v.tags h.tags;
      ranks = pushed_ranks v t h.rows h.structures h.ranks m;
    }

-- ## Steps of typing over scopes

-- The tables stay lawful and grow, and names and functions stay as they are.
pub record Follows (v w : Scope) : Type 0 where
  pub lawful : AreLawfulTables w
  pub grown : TablesGrow v w
  pub names : w.names ≡ v.names
  pub outer : w.outer_names ≡ v.outer_names
  pub functions : w.functions ≡ v.functions

pub follows_none : (v : Scope) → AreLawfulTables v → Follows v v
follows_none v h = record { lawful = h; grown = grow_none v; names = refl; outer = refl; functions = refl }

pub follows_on : (u v w : Scope) → Follows u v → Follows v w → Follows u w
follows_on u v w f g = record {
  lawful = g.lawful;
  grown = grow_on u v w f.grown g.grown;
  names = g.names ∙ f.names;
  outer = g.outer ∙ f.outer;
  functions = g.functions ∙ f.functions;
}

row_by : (v : Scope) (t : CType) (b : Bool) → AreLawfulTables v → IsMade v t → Follows v (cond b (pushed v t) v)
row_by v t true h m = record { lawful = pushed_lawful v t h m; grown = pushed_grows v t; names = refl; outer = refl; functions = refl }
row_by v t false h m = follows_none v h

pub row_follows : (v : Scope) (t : CType) → AreLawfulTables v → IsMade v t → Follows v (with_row v t)
row_follows v t h m = row_by v t (is_founded v t && (number_in v t == length v.types)) h m

founded : (v : Scope) (t : CType) → IsMade v t → is_founded v t ≡ true
founded v Types.Void m = refl
founded v (Types.Int t) m = refl
founded v (Types.Pointer q) m = lt-ltb q.number (length v.types) m
founded v (Types.Array e n) m = lt-ltb e (length v.types) (known_is_type v e m)
founded v (Types.Struct k) m = refl

same_int : (t : IntType) → is_same_int t t ≡ true
same_int t = eq-eqb (int_index t) (int_index t) refl

same_bool : (b : Bool) → is_same_bool b b ≡ true
same_bool true = refl
same_bool false = refl

pub same_ctype : (t : CType) → is_same_ctype t t ≡ true
same_ctype Types.Void = refl
same_ctype (Types.Int t) = same_int t
same_ctype (Types.Pointer q) = and_from (q.number == q.number) (is_same_bool q.constant q.constant && is_same_bool q.volatile q.volatile) (eq-eqb q.number q.number refl)
    (and_from (is_same_bool q.constant q.constant) (is_same_bool q.volatile q.volatile) (same_bool q.constant) (same_bool q.volatile))
same_ctype (Types.Array e n) = and_from (e == e) (n == n) (eq-eqb e e refl) (eq-eqb n n refl)
same_ctype (Types.Struct k) = eq-eqb k k refl

-- a row at the end is found at the latest there
pub place_pushed : (p : CType → Bool) (es : List TypeEntry) (e : TypeEntry) → p e.ctype ≡ true → place p (es ++ e ∷ []) < length (es ++ e ∷ [])
place_pushed p [] e q = let P : Bool → Type 0 = λ b. cond (not b) (1 + 0) 0 < 1 in subst P (sym q) (omega arith)
place_pushed p (f ∷ es) e q = by_test (p f.ctype) (place_pushed p es e q)
  where
    by_test : (b : Bool) → place p (es ++ e ∷ []) < length (es ++ e ∷ []) → cond (not b) (1 + place p (es ++ e ∷ [])) 0 < suc (length (es ++ e ∷ []))
    by_test true h = omega arith
    by_test false h = omega (arith, h)

numbered_by : (v : Scope) (t : CType) (b : Bool) → (number_in v t == length v.types) ≡ b → let w : Scope = cond b (pushed v t) v in IsType w (number_in w t)
numbered_by v t true e = place_pushed (is_same_ctype t) v.types (row_in v t) (same_ctype t)
numbered_by v t false e =
    let most : number_in v t ≤ length v.types = place_within (is_same_ctype t) v.types in
    elim (cases_eq (number_in v t) (length v.types)) [
      | inl same ↦ absurd (eqb-false (number_in v t) (length v.types) e same)
      | inr other ↦ elim (cases_lt (number_in v t) (length v.types)) [ inl l ↦ l | inr m ↦ absurd (other (omega (arith, most, m))) ]
    ]

pub row_numbered : (v : Scope) (t : CType) → IsMade v t → IsType (with_row v t) (number_in (with_row v t) t)
row_numbered v t m =
    let P : Bool → Type 0 = λ b. let w : Scope = cond (b && (number_in v t == length v.types)) (pushed v t) v in IsType w (number_in w t) in
    subst P (sym (founded v t m)) (numbered_by v t (number_in v t == length v.types) refl)

apart_made : (v : Scope) (t : CType) → AreLawfulTables v → IsMade v t → IsMade v (apart_from_const v.types t)
apart_made v Types.Void h m = m
apart_made v (Types.Int t) h m = m
apart_made v (Types.Pointer q) h m = (row_at v h.rows q.number m).class
apart_made v (Types.Array e n) h m =
    let c : ℕ = class_at v.types e in
    let P : CType → Type 0 = λ t. is_complete_type v t ≡ true in
    form_known v (ctype_of v c)
    ∙ ap (λ (t : CType). is_complete_type v t) (row_at v h.rows e (known_is_type v e m)).alike
    ∙ sym (form_known v (ctype_of v e)) ∙ m
apart_made v (Types.Struct k) h m = m

pub type_follows : (v : Scope) (t : CType) → AreLawfulTables v → IsMade v t → Follows v (with_type v t)
type_follows v t h m =
    let apart : CType = apart_from_const v.types t in
    let w : Scope = with_row v apart in
    let f : Follows v w = row_follows v apart h (apart_made v t h m) in
    follows_on v w (with_row w t) f (row_follows w t f.lawful (made_stays v w f.grown t m))

pub type_numbered : (v : Scope) (t : CType) → AreLawfulTables v → IsMade v t → IsType (with_type v t) (number_in (with_type v t) t)
type_numbered v t h m =
    let apart : CType = apart_from_const v.types t in
    let w : Scope = with_row v apart in
    let f : Follows v w = row_follows v apart h (apart_made v t h m) in
    row_numbered w t (made_stays v w f.grown t m)
