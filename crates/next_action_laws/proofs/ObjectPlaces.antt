-- Objects stand where their numbers lead.
use Rattle.std.proofs.Common.{◌≡◌, refl, ap, sym, subst, ◌∙◌, ℕ, zero, suc, ◌+◌, ◌-◌, ◌<◌, ◌≤◌, Bool, true, false, cond}
use Rattle.std.proofs.Common.{List, [], ◌∷◌, ◌++◌, length, map, take, drop, get_or, Option, Some, None, slice_get}
use Rattle.std.proofs.Common.{arith}
use Rattle.std.proofs.lemmas.Bool.{false≢true}
use Rattle.std.proofs.lemmas.Option.{none-some, same_Some, slice_get_within}
use Rattle.std.proofs.lemmas.List.{drop-drop, drop_at, take_at, length-map}
use Rattle.cell_layout.specs.tm_typed.declared.types.CType.{CType}
use Rattle.cell_layout.specs.tm_typed.declared.types.CType.TheVariants as Types
use Rattle.cell_layout.specs.tm_typed.declared.types.TypeEntry.{TypeEntry}
use Rattle.cell_layout.specs.tm_typed.declared.types.Scalar.{Scalar}
use Rattle.cell_layout.specs.tm_typed.declared.scopes.Member.{Member}
use Rattle.cell_layout.specs.tm_typed.declared.files.LocalEntry.{LocalEntry}
use Rattle.cell_layout.specs.tm_typed.States.{Static, no_static}
use Rattle.cell_layout.specs.tm_typed.Files.{TypedFileTree}
use Rattle.cell_layout.specs.tm_laid.declared.objects.DeclaredObject.{DeclaredObject}
use Rattle.cell_layout.specs.tm_laid.declared.objects.LaidObject.{LaidObject}
use Rattle.cell_layout.specs.tm_laid.declared.cells.LaidCell.{LaidCell}
use Rattle.cell_layout.specs.tm_laid.declared.paths.CallPath.{CallPath}
use Rattle.cell_layout.specs.tm_laid.TypeCells.{TypeCell, entry_of, structure_in, is_smashed, elements, in_members}
use Rattle.cell_layout.specs.tm_laid.TypeCells.{cells_by}
use Rattle.cell_layout.specs.tm_laid.TypeCells.{type_cells, type_depth, cells_of_type, abstract_cells_of_type}
use Rattle.cell_layout.specs.tm_laid.Objects.{local_objects, path_objects, static_objects, static_numbers, objects_from}
use Rattle.cell_layout.specs.tm_laid.Objects.{laid_cell}
use Rattle.cell_layout.specs.tm_laid.Objects.{cells_from}
use Rattle.cell_layout.specs.tm_laid.Paths.{locals_of, own_objects, first_objects_of}
use Rattle.cell_layout.specs.tm_laid.Layable.{IsLayable}
use Rattle.cell_layout.specs.tm_laid.Layouts.{no_object, no_path, scalars_of_type, summed_types}
use Rattle.cell_types.proofs.Lists.{get_front, get_back}
use Rattle.cell_types.proofs.Types.{length_of}

-- ## The scalars of a type, wherever its abstract cells begin

scalars : List TypeCell → List Scalar
scalars cs = map (λ c. c.scalar) cs

scalars_append : (xs ys : List TypeCell) → scalars (xs ++ ys) ≡ scalars xs ++ scalars ys
unfolding scalars
scalars_append [] ys = refl
scalars_append (x ∷ xs) ys = ap (λ z. x.scalar ∷ z) (scalars_append xs ys)

same_elements : (f : ℕ → List TypeCell) → ((a b : ℕ) → scalars (f a) ≡ scalars (f b)) → (n step a b : ℕ)
    → scalars (elements f n step a) ≡ scalars (elements f n step b)
unfolding scalars
same_elements f h zero step a b = refl
same_elements f h (suc n) step a b =
    scalars_append (f a) (elements f n step (a + step)) ∙ ap (λ z. z ++ scalars (elements f n step (a + step))) (h a b)
    ∙ ap (λ z. scalars (f b) ++ z) (same_elements f h n step (a + step) (b + step))
    ∙ sym (scalars_append (f b) (elements f n step (b + step)))

same_members : (at : ℕ → ℕ → List TypeCell) (count : ℕ → ℕ) → ((n a b : ℕ) → scalars (at n a) ≡ scalars (at n b))
    → (ms : List Member) (a b : ℕ) → scalars (in_members at count ms a) ≡ scalars (in_members at count ms b)
unfolding scalars
same_members at count h [] a b = refl
same_members at count h (m ∷ ms) a b =
    let n : ℕ = m.part.of.number in
    scalars_append (at n a) (in_members at count ms (a + count n))
    ∙ ap (λ z. z ++ scalars (in_members at count ms (a + count n))) (h n a b)
    ∙ ap (λ z. scalars (at n b) ++ z) (same_members at count h ms (a + count n) (b + count n))
    ∙ sym (scalars_append (at n b) (in_members at count ms (b + count n)))

same_by : (file : TypedFileTree) (at : ℕ → ℕ → List TypeCell) (count : ℕ → ℕ)
    → ((n a b : ℕ) → scalars (at n a) ≡ scalars (at n b)) → (e : TypeEntry) (t : CType) (a b : ℕ)
    → scalars (cells_by file at count a e t) ≡ scalars (cells_by file at count b e t)
unfolding scalars
same_by file at count h e Types.Void a b = refl
same_by file at count h e (Types.Int t) a b = refl
same_by file at count h e (Types.Pointer q) a b = refl
same_by file at count h e (Types.Array x n) a b = same_elements (at x) (h x) n (cond (is_smashed n) 0 (count x)) a b
same_by file at count h e (Types.Struct k) a b = same_members at count h (structure_in file k).members a b

same_scalars : (file : TypedFileTree) (d n a b : ℕ) → scalars (type_cells file d n a) ≡ scalars (type_cells file d n b)
unfolding type_cells scalars
same_scalars file zero n a b = refl
same_scalars file (suc d) n a b =
    same_by file (type_cells file d) (abstract_cells_of_type file) (same_scalars file d) (entry_of file n)
    (entry_of file n).ctype a b

of_laid : (number : ℕ) (cs : List TypeCell) → map (λ (c : LaidCell). c.scalar) (map (laid_cell number) cs) ≡ scalars cs
unfolding scalars
of_laid number [] = refl
of_laid number (c ∷ cs) = ap (λ z. c.scalar ∷ z) (of_laid number cs)

length_scalars : (cs : List TypeCell) → length (scalars cs) ≡ length cs
unfolding scalars
length_scalars [] = refl
length_scalars (c ∷ cs) = ap suc (length_scalars cs)

-- ## Objects with their cells

obj : List LaidObject → ℕ → LaidObject
obj os o = get_or os o no_object

-- the object with this number is the one that is declared so, and its cells are those of its type
pub record IsLaid (file : TypedFileTree) (number c : ℕ) (os : List LaidObject) (o : ℕ) (d : DeclaredObject) : Type
    0 where
  pub there : o < length os
  pub type : (get_or os o no_object).of ≡ d.of
  pub owner : (get_or os o no_object).owner ≡ d.owner
  pub cells : (get_or os o no_object).cells ≡ cells_of_type file d.of.number
  pub first : c ≤ (get_or os o no_object).first_cell
  pub stands : map (λ (x : LaidCell). x.scalar)
      (take (get_or os o no_object).cells
      (drop ((get_or os o no_object).first_cell - c) (cells_from file number os))) ≡ scalars_of_type file d.of.number

module _ (file : TypedFileTree) (order : List ℕ) (h : IsLayable file order) where
  pub count_is : (n a : ℕ) → length (type_cells file (type_depth file) n a) ≡ cells_of_type file n
  unfolding scalars
  count_is n a =
      sym (length_scalars (type_cells file (type_depth file) n a))
      ∙ ap length (same_scalars file (type_depth file) n a 0) ∙ length_of file order h n

  pub scalars_are : (n number a : ℕ)
      → map (λ (c : LaidCell). c.scalar)
      (map (laid_cell number) (type_cells file (type_depth file) n a)) ≡ scalars_of_type file n
  unfolding scalars
  scalars_are n number a = of_laid number (type_cells file (type_depth file) n a)
      ∙ same_scalars file (type_depth file) n a 0

  behind : (number c a : ℕ) (d x : DeclaredObject) (os : List LaidObject) (o : ℕ)
      → IsLaid file (suc number) (c + cells_of_type file d.of.number) os o x
      → IsLaid file number c (record {
        name = d.name;
        place = d.place;
        of = d.of;
        owner = d.owner;
        first_cell = c;
        cells = cells_of_type file d.of.number;
        first_abstract = a;
        abstract_cells = abstract_cells_of_type file d.of.number;
      } ∷ os) (suc o) x
  behind number c a d x os o l =
      let here : List LaidCell = map (laid_cell number) (type_cells file (type_depth file) d.of.number a) in
      let rest : List LaidCell = cells_from file (suc number) os in
      let f = l.first in
      let n : length here ≡ cells_of_type file d.of.number =
      length-map (type_cells file (type_depth file) d.of.number a) (laid_cell number) ∙ count_is d.of.number a in
      let first : ℕ = (get_or os o no_object).first_cell in
      let q : first - c ≡ length here + (first - (c + cells_of_type file d.of.number)) = omega (arith, f, n) in
      record {
        there = (let t = l.there in omega (arith, t));
        type = l.type;
        owner = l.owner;
        cells = l.cells;
        first = omega (arith, f);
        stands =
            ap (λ z. map (λ (y : LaidCell). y.scalar) (take (get_or os o no_object).cells z))
            (ap (λ k. drop k (here ++ rest)) q
            ∙ sym (drop-drop (first - (c + cells_of_type file d.of.number)) (length here) (here ++ rest))
            ∙ ap (drop (first - (c + cells_of_type file d.of.number))) (drop_at here rest (length here) refl))
            ∙ l.stands;
      }

  pub laid_at : (number c a : ℕ) (ds : List DeclaredObject) (o : ℕ) (x : DeclaredObject) → slice_get ds o ≡ Some x
      → IsLaid file number c (objects_from file c a ds) o x
  laid_at number c a [] o x e = absurd (none-some x e)
  laid_at number c a (d ∷ ds) zero x e =
      let is : d ≡ x = same_Some d x e in
      let here : List LaidCell = map (laid_cell number) (type_cells file (type_depth file) d.of.number a) in
      let os : List LaidObject =
      objects_from file (c + cells_of_type file d.of.number) (a + abstract_cells_of_type file d.of.number) ds in
      let rest : List LaidCell = cells_from file (suc number) os in
      let n : length here ≡ cells_of_type file d.of.number =
      length-map (type_cells file (type_depth file) d.of.number a) (laid_cell number) ∙ count_is d.of.number a in
      subst (λ (y : DeclaredObject). IsLaid file number c (objects_from file c a (d ∷ ds)) 0 y) is
      (record {
        there = omega arith;
        type = refl;
        owner = refl;
        cells = refl;
        first = omega arith;
        stands =
            ap (λ k. map (λ (y : LaidCell). y.scalar) (take (cells_of_type file d.of.number) (drop k (here ++ rest))))
            (let z : c - c ≡ 0 = omega arith in z)
            ∙ ap (map (λ (y : LaidCell). y.scalar)) (take_at here rest (cells_of_type file d.of.number) n)
            ∙ scalars_are d.of.number number a;
      })
  laid_at number c a (d ∷ ds) (suc o) x e =
      behind number c a d x (objects_from file (c + cells_of_type file d.of.number)
      (a + abstract_cells_of_type file d.of.number) ds) o
      (laid_at (suc number) (c + cells_of_type file d.of.number) (a + abstract_cells_of_type file d.of.number) ds o x e)

-- ## Objects by their numbers

-- what is declared at a place of a list
pub record IsDeclared (ds : List DeclaredObject) (o n : ℕ) (owner : Option ℕ) : Type 0 where
  pub declared : DeclaredObject
  pub is : slice_get ds o ≡ Some declared
  pub type : declared.of.number ≡ n
  pub owned : declared.owner ≡ owner

declared_behind : (xs ys : List DeclaredObject) (o n : ℕ) (owner : Option ℕ) → IsDeclared ys o n owner
    → IsDeclared (xs ++ ys) (length xs + o) n owner
declared_behind xs ys o n owner d =
    record { declared = d.declared; is = get_back xs ys o ∙ d.is; type = d.type; owned = d.owned }

declared_before : (xs ys : List DeclaredObject) (o n : ℕ) (owner : Option ℕ) → IsDeclared xs o n owner
    → IsDeclared (xs ++ ys) o n owner
declared_before xs ys o n owner d =
    record {
      declared = d.declared;
      is = get_front xs ys o (slice_get_within xs o d.declared d.is) ∙ d.is;
      type = d.type;
      owned = d.owned;
    }

-- an object of static storage that is defined
record IsNumbered (ss : List Static) (n q t : ℕ) : Type 0 where
  least : n ≤ q
  there : IsDeclared (static_objects ss) (q - n) t None

static_first : (s : Static) (ss : List Static) (n : ℕ) (b : Bool) → b ≡ true
    → IsDeclared (cond b (record { name = s.name; place = s.place; of = s.of; owner = None } ∷ static_objects ss)
    (static_objects ss)) (n - n) s.of.number None
static_first s ss n true e =
    let z : 0 ≡ n - n = omega arith in
    let ds : List DeclaredObject =
    record { name = s.name; place = s.place; of = s.of; owner = None } ∷ static_objects ss in
    subst (λ k. IsDeclared ds k s.of.number None) z
    (record {
      declared = record { name = s.name; place = s.place; of = s.of; owner = None };
      is = refl;
      type = refl;
      owned = refl;
    })
static_first s ss n false e = absurd (false≢true e)

static_next : (s : Static) (ss : List Static) (n q t : ℕ) (b : Bool) → IsNumbered ss (cond b (suc n) n) q t
    → (n ≤ q) × IsDeclared (cond b
    (record { name = s.name; place = s.place; of = s.of; owner = None } ∷ static_objects ss) (static_objects ss))
    (q - n) t None
static_next s ss n q t true h =
    let l = h.least in
    let e : suc (q - suc n) ≡ q - n = omega (arith, l) in
    let x : DeclaredObject = record { name = s.name; place = s.place; of = s.of; owner = None } in (
      omega (arith, l),
      subst (λ k. IsDeclared (x ∷ static_objects ss) k t None) e
          (record { declared = h.there.declared; is = h.there.is; type = h.there.type; owned = h.there.owned }),
    )
static_next s ss n q t false h = (h.least, h.there)

static_at : (ss : List Static) (n k : ℕ) (x : Static) → slice_get ss k ≡ Some x → (get_or ss k no_static).defined ≡ true
    → IsNumbered ss n (get_or (static_numbers n ss) k 0) x.of.number
static_at [] n k x e d = absurd (none-some x e)
static_at (s ∷ ss) n zero x e d =
    let is : s ≡ x = same_Some s x e in
    subst (λ (y : Static). IsNumbered (s ∷ ss) n n y.of.number) is
    (record { least = omega arith; there = static_first s ss n s.defined d })
static_at (s ∷ ss) n (suc k) x e d =
    let r = static_next s ss n (get_or (static_numbers (cond s.defined (suc n) n) ss) k 0) x.of.number s.defined
    (static_at ss (cond s.defined (suc n) n) k x e d) in
    record { least = r.0; there = r.1 }

-- a parameter or local object of a path
local_at : (path : ℕ) (ls : List LocalEntry) (k : ℕ) (l : LocalEntry) → slice_get ls k ≡ Some l
    → IsDeclared (local_objects path ls) k l.of.number (Some path)
local_at path [] k l e = absurd (none-some l e)
local_at path (x ∷ ls) zero l e =
    let is : x ≡ l = same_Some x l e in
    subst (λ (y : LocalEntry). IsDeclared (local_objects path (x ∷ ls)) 0 y.of.number (Some path)) is
    (record {
      declared = record { name = x.name; place = x.place; of = x.of; owner = Some path };
      is = refl;
      type = refl;
      owned = refl;
    })
local_at path (x ∷ ls) (suc k) l e = let r = local_at path ls k l e in
    record { declared = r.declared; is = r.is; type = r.type; owned = r.owned }

length_locals : (path : ℕ) (ls : List LocalEntry) → length (local_objects path ls) ≡ length ls
length_locals path [] = refl
length_locals path (l ∷ ls) = ap suc (length_locals path ls)

record IsLocalAt (file : TypedFileTree) (number object : ℕ) (ps : List CallPath) (p k t : ℕ) : Type 0 where
  least : object ≤ get_or (first_objects_of file object ps) p 0
  there : IsDeclared (path_objects file number ps) (get_or (first_objects_of file object ps) p 0 - object + k) t
      (Some (number + p))

path_local : (file : TypedFileTree) (number object : ℕ) (ps : List CallPath) (p k : ℕ) (l : LocalEntry) → p < length ps
    → slice_get (locals_of file (get_or ps p no_path).function) k ≡ Some l
    → IsLocalAt file number object ps p k l.of.number
path_local file number object [] p k l lt e = absurd (omega (arith, lt))
path_local file number object (x ∷ ps) zero k l lt e =
    let own : List DeclaredObject = local_objects number (locals_of file x.function) in
    let rest : List DeclaredObject = path_objects file (suc number) ps in
    let z : k ≡ object - object + k = omega arith in
    let w : number ≡ number + 0 = omega arith in
    record {
      least = omega arith;
      there =
          subst (λ i. IsDeclared (own ++ rest) i l.of.number (Some (number + 0))) z
          (subst (λ i. IsDeclared (own ++ rest) k l.of.number (Some i)) w
          (declared_before own rest k l.of.number (Some number)
          (local_at number (locals_of file x.function) k l e)));
    }
path_local file number object (x ∷ ps) (suc p) k l lt e =
    let own : List DeclaredObject = local_objects number (locals_of file x.function) in
    let rest : List DeclaredObject = path_objects file (suc number) ps in
    let next : ℕ = object + own_objects file x.function in
    let r = path_local file (suc number) next ps p k l (omega (arith, lt)) e in
    let first : ℕ = get_or (first_objects_of file next ps) p 0 in
    let m = r.least in
    let n = length_locals number (locals_of file x.function) in
    let z : length own + (first - next + k) ≡ first - object + k = omega (arith, m, n) in
    let w : suc number + p ≡ number + suc p = omega arith in
    record {
      least = omega (arith, m);
      there =
          subst (λ i. IsDeclared (own ++ rest) i l.of.number (Some (number + suc p))) z
          (subst (λ i. IsDeclared (own ++ rest) (length own + (first - next + k)) l.of.number (Some i)) w
          (declared_behind own rest (first - next + k) l.of.number (Some (suc number + p)) r.there));
    }

-- ## All objects

pub static_declared : (file : TypedFileTree) (ps : List CallPath) (k : ℕ) (x : Static)
    → slice_get file.statics k ≡ Some x → (get_or file.statics k no_static).defined ≡ true
    → IsDeclared (static_objects file.statics ++ path_objects file 0 ps) (get_or (static_numbers 0 file.statics) k 0)
    x.of.number None
static_declared file ps k x e d =
    let r = static_at file.statics 0 k x e d in
    let q : ℕ = get_or (static_numbers 0 file.statics) k 0 in
    let z : q - 0 ≡ q = omega arith in
    declared_before (static_objects file.statics) (path_objects file 0 ps) q x.of.number None
    (subst (λ i. IsDeclared (static_objects file.statics) i x.of.number None) z r.there)

pub local_declared : (file : TypedFileTree) (ps : List CallPath) (p k : ℕ) (l : LocalEntry) → p < length ps
    → slice_get (locals_of file (get_or ps p no_path).function) k ≡ Some l
    → IsDeclared (static_objects file.statics ++ path_objects file 0 ps)
    (get_or (first_objects_of file (length (static_objects file.statics)) ps) p 0 + k) l.of.number (Some p)
local_declared file ps p k l lt e =
    let n : ℕ = length (static_objects file.statics) in
    let r = path_local file 0 n ps p k l lt e in
    let first : ℕ = get_or (first_objects_of file n ps) p 0 in
    let m = r.least in
    let z : n + (first - n + k) ≡ first + k = omega (arith, m) in
    let w : 0 + p ≡ p = omega arith in
    let there : IsDeclared (path_objects file 0 ps) (first - n + k) l.of.number (Some p) =
    subst (λ i. IsDeclared (path_objects file 0 ps) (first - n + k) l.of.number (Some i)) w r.there in
    subst (λ i. IsDeclared (static_objects file.statics ++ path_objects file 0 ps) i l.of.number (Some p)) z
    (declared_behind (static_objects file.statics) (path_objects file 0 ps) (first - n + k) l.of.number (Some p) there)

-- ## How many cells

pub sum_append : (count : ℕ → ℕ) (xs ys : List DeclaredObject)
    → summed_types count (xs ++ ys) ≡ summed_types count xs + summed_types count ys
sum_append count [] ys = omega arith
sum_append count (x ∷ xs) ys = let e = sum_append count xs ys in omega (arith, e)

pub one_of_sum : (count : ℕ → ℕ) (ds : List DeclaredObject) (o : ℕ) (d : DeclaredObject) → slice_get ds o ≡ Some d
    → count d.of.number ≤ summed_types count ds
one_of_sum count [] o d e = absurd (none-some d e)
one_of_sum count (x ∷ ds) zero d e =
    let is : x ≡ d = same_Some x d e in
    subst (λ (y : DeclaredObject). count y.of.number ≤ summed_types count (x ∷ ds)) is (omega arith)
one_of_sum count (x ∷ ds) (suc o) d e = let r = one_of_sum count ds o d e in omega (arith, r)

pub length_from : (file : TypedFileTree) (c a : ℕ) (ds : List DeclaredObject)
    → length (objects_from file c a ds) ≡ length ds
length_from file c a [] = refl
length_from file c a (d ∷ ds) =
    ap suc (length_from file (c + cells_of_type file d.of.number) (a + abstract_cells_of_type file d.of.number) ds)
