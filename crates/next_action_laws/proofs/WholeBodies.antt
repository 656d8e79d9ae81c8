-- Whole bodies keep to proper actions, and so does what comes next after answers that fit.
use Rattle.std.proofs.Common.{◌≡◌, refl, ap, sym, subst, ◌∙◌, ℕ, zero, suc, ◌+◌, ◌-◌, ◌*◌, ◌<◌, ◌≤◌, inl, inr, Bool}
use Rattle.std.proofs.Common.{true, false, List, [], ◌∷◌, ◌++◌, length, map, take, drop, get_or, Option, Some, None}
use Rattle.std.proofs.Common.{slice_get, arith}
use Rattle.std.specs.Prelude.{pos, ◌&&◌, if◌then◌else◌, nat_le, nat_lt, is_some, option_map, All, Contains}
use Rattle.std.proofs.lemmas.Bool.{false≢true, and_parts, and_from, cases_lt, eq-eqb, ltb-true, ltb-false, leb-true}
use Rattle.std.proofs.lemmas.Option.{none-some, same_Some, slice_get-get_or, slice_get-map, slice_get_within}
use Rattle.std.proofs.lemmas.Option.{get_or_from_slice_get}
use Rattle.std.proofs.lemmas.List.{get_or_past}
use Rattle.std.proofs.lemmas.List.Elements.{All-get_or, All-contains}
use Rattle.cell_layout.specs.tm_cint.IntTypes.{lo_of, hi_of}
use Rattle.cell_layout.specs.tm_terms.declared.places.Place.{Place}
use Rattle.cell_layout.specs.tm_terms.declared.refusals.Limit.TheVariants as Limits
use Rattle.cell_layout.specs.tm_typed.declared.types.CType.{CType}
use Rattle.cell_layout.specs.tm_typed.declared.types.CType.TheVariants as Types
use Rattle.cell_layout.specs.tm_typed.declared.types.Scalar.{Scalar}
use Rattle.cell_layout.specs.tm_typed.declared.types.Scalar.TheVariants as Scalars
use Rattle.cell_layout.specs.tm_typed.declared.scopes.ObjectNumber.{ObjectNumber}
use Rattle.cell_layout.specs.tm_typed.declared.scopes.ObjectNumber.TheVariants as Objects
use Rattle.cell_layout.specs.tm_typed.declared.files.LocalEntry.{LocalEntry}
use Rattle.cell_layout.specs.tm_typed.Types.{int_index}
use Rattle.cell_layout.specs.tm_typed.Scopes.{Scope, Function, ctype_of, cells_of}
use Rattle.cell_layout.specs.tm_typed.Operands.{scalar_of, kept_sort}
use Rattle.cell_layout.specs.tm_typed.Initialisers.{part}
use Rattle.cell_layout.specs.tm_typed.States.{Static}
use Rattle.cell_layout.specs.tm_typed.CallGraph.{calls_in}
use Rattle.cell_layout.specs.tm_typed.Functions.{TypedBodyTree}
use Rattle.cell_layout.specs.tm_typed.Files.{TypedFunctionTree, no_typed_function, TypedFileTree}
use Rattle.cell_layout.specs.tm_typed.WellTyped.{ValueKind, a_pointer, kind_of, HasPart}
use Rattle.cell_layout.specs.tm_laid.declared.objects.DeclaredObject.{DeclaredObject}
use Rattle.cell_layout.specs.tm_laid.declared.objects.LaidObject.{LaidObject}
use Rattle.cell_layout.specs.tm_laid.declared.cells.LaidCell.{LaidCell}
use Rattle.cell_layout.specs.tm_laid.declared.scales.Scale.TheVariants as Scales
use Rattle.cell_layout.specs.tm_laid.TypeCells.{cells_of_type}
use Rattle.cell_layout.specs.tm_laid.Paths.{bodies_of, locals_in, locals_of, paths_of}
use Rattle.cell_layout.specs.tm_laid.Layable.{tables_of, IsLayable}
use Rattle.cell_layout.specs.tm_laid.Layouts.{LaidTree, declared_objects, layout_along, layout_of, path_at, object_at}
use Rattle.cell_layout.specs.tm_laid.Layouts.{no_object}
use Rattle.cell_layout.specs.tm_laid.Layouts.{first_path, callee, object_of, is_alive_by, is_same_scalar, begins_with}
use Rattle.cell_layout.specs.tm_laid.Layouts.{scalars_of_type, scalars_from, stands_at, laid_count, is_exceeded}
use Rattle.cell_layout.specs.tm_laid.Layouts.{over_objects}
use Rattle.cell_layout.specs.tm_laid.Layouts.{summed_types}
use Rattle.cell_layout.specs.Laws.{GoesOnBy}
use Rattle.cell_layout.proofs.PathCalls.{calls_lead}
use Rattle.cell_types.specs.concrete_values.declared.values.Pointer.TheVariants as Pointers
use Rattle.cell_types.specs.concrete_values.declared.values.Value.{Value}
use Rattle.cell_types.specs.concrete_values.declared.values.Answer.{Answer}
use Rattle.cell_types.specs.concrete_values.declared.values.Answer.TheVariants.{Done}
use Rattle.cell_types.specs.concrete_values.declared.actions.Next.TheVariants as Acts
use Rattle.cell_types.specs.concrete_values.Values.{nothing}
use Rattle.cell_types.specs.concrete_values.Pointers.{cells_of_object, size_of, placed, pointer_in, is_object_at}
use Rattle.cell_types.specs.concrete_values.Actions.{store_at}
use Rattle.concrete_steps.specs.Places.{result_type}
use Rattle.concrete_steps.specs.NextAction.{After, last, act_then, scalar_at, Exits, passed_then, fallen_then}
use Rattle.concrete_steps.specs.NextAction.{function_at, exits_of, here_with, code_then, body_then, next}
use Rattle.typed_file_laws.specs.Lawful.{object_type}
use Rattle.typed_file_laws.specs.Mentions.{StatementsMention}
use Rattle.typed_file_laws.specs.TypedBodies.{called, IsBodyOf}
use Rattle.typed_file_laws.specs.Sites.{is_defined_object, function_of_file, is_defined_function}
use Rattle.next_action_laws.specs.Actions.{Fit, IsBodyPath, MayUse, IsCell, IsOwn, IsProper, IsPlace}
use Rattle.next_action_laws.specs.Regular.{PartBegins, whole, inner, HasScalar, AreParameters, AreRegularBodies}
use Rattle.next_action_laws.proofs.Keeping.{HasKind, to_scalar, Fits, Keeps, act_keeps, ended_keeps}
use Rattle.next_action_laws.proofs.GivenValues.{low_in, high_in, between_is, nothing_is}
use Rattle.next_action_laws.proofs.Addresses.{at, base_is, store_keeps}
use Rattle.next_action_laws.proofs.Expressions.{scope_in, AreGiven, IsNamed, AreTables, IsStage}
use Rattle.next_action_laws.proofs.Statements.{block_keeps}
use Rattle.next_action_laws.proofs.TypePlaces.{part_is_member, member_place, element_place, scalar_cell, given_cell}
use Rattle.next_action_laws.proofs.ObjectPlaces.{laid_at, IsDeclared, static_declared, local_declared, one_of_sum}
use Rattle.next_action_laws.proofs.ObjectPlaces.{length_from}
use Rattle.next_action_laws.proofs.PathPlaces.{all_cells, same_body, first_of, depth_of, depth_falls, depth_below}

-- ## Lists

same_begins : (xs : List Scalar) → begins_with xs xs ≡ true
same_begins [] = refl
same_begins (x ∷ xs) = and_from (is_same_scalar x x) (begins_with xs xs) (itself x) (same_begins xs)
  where
    itself : (s : Scalar) → is_same_scalar s s ≡ true
    itself (Scalars.Int t) = eq-eqb (int_index t) (int_index t) refl
    itself (Scalars.Pointer c) = eq-eqb c c refl

retabled : (file : TypedFileTree) (scope : Scope) → scope.types ≡ file.types → scope.structs ≡ file.structs
    → (n c m : ℕ) → PartBegins scope n c m → PartBegins (tables_of file) n c m
retabled file scope t s n _ _ whole = whole
retabled file scope t s n _ _ (inner c m i q b e) =
    let same : part scope m i ≡ part (tables_of file) m i =
    ap (λ x. part (record scope { types = x }) m i) t
    ∙ ap (λ x. part (record scope { types = file.types; structs = x }) m i) s in
    inner c m i q (retabled file scope t s n c m b) (sym same ∙ e)

-- what a look-up of a type finds
found_type : {A : Type 0} (f : A → ℕ) (o : Option A) (n : ℕ) → option_map f o ≡ Some n → (x : A) × (o ≡ Some x)
    × (f x ≡ n)
found_type f (Some x) n e = (x, refl, same_Some (f x) n e)
found_type f None n e = absurd (none-some n e)

-- ## The layout

module _ (file : TypedFileTree) (order : List ℕ) (h : IsLayable file order)
    (within : is_exceeded Scales.Large file Limits.Cells ≡ false) (body : ℕ) where
  abbrev pub L : LaidTree
  L = layout_along file (paths_of file)

  abbrev ds : List DeclaredObject
  ds = declared_objects file (paths_of file)

  total : summed_types (cells_of_type file) ds ≤ 65536
  unfolding laid_count
  total =
      let e = all_cells file (cells_of_type file) in
      let l = ltb-false 65536 (over_objects file (cells_of_type file)) within in
      omega (arith, e, l)

  small : (o : ℕ) → o < length L.objects → (object_at L o).cells ≤ 65536
  small o lt =
      let n = length_from file 0 0 ds in
      let d : DeclaredObject = get_or ds o
      (record {
        name = record { start = 0; length = 0 };
        place = record { line = 0; col = 0 };
        of = record { number = 0; constant = false; volatile = false };
        owner = None;
      }) in
      let e : slice_get ds o ≡ Some d = slice_get-get_or ds o d' (omega (arith, lt, n)) in
      let x = laid_at file order h 0 0 0 ds o d e in
      let c = x.cells in
      let s = one_of_sum (cells_of_type file) ds o d e in
      let t = total in
      omega (arith, c, s, t)
    where
      d' : DeclaredObject
      d' = record {
        name = record { start = 0; length = 0 };
        place = record { line = 0; col = 0 };
        of = record { number = 0; constant = false; volatile = false };
        owner = None;
      }

  object_place : (o n : ℕ) (owner : Option ℕ) → IsDeclared ds o n owner → MayUse L body owner → IsPlace L body o 0 n
  object_place o n owner d u =
      let x = laid_at file order h 0 0 0 ds o d.declared d.is in
      let z : (object_at L o).first_cell - 0 ≡ (object_at L o).first_cell = omega arith in
      let is : scalars_from L o 0 ≡ scalars_of_type file n =
      ap (λ k. map (λ (c : LaidCell). c.scalar) (take (object_at L o).cells (drop k L.cells))) (sym z) ∙ x.stands
      ∙ ap (scalars_of_type file) d.type in
      record {
        object = x.there;
        usable = subst (λ (y : Option ℕ). MayUse L body y) (sym (x.owner ∙ d.owned)) u;
        inside = omega arith;
        stands = ap (λ xs. begins_with xs (scalars_of_type file n)) is ∙ same_begins (scalars_of_type file n);
      }

  local_own : (o n path : ℕ) → IsDeclared ds o n (Some path) → IsBodyPath L body path → IsOwn L body o
  local_own o n path d u =
      let x = laid_at file order h 0 0 0 ds o d.declared d.is in
      record { object = x.there; path = path; owner = x.owner ∙ d.owned; own = u }

  parts : (o k m j c n : ℕ) → IsPlace L body o k m → ctype_of (scope_in L) m ≡ Types.Struct j
      → HasPart (scope_in L) j c n → IsPlace L body o (k + c) n
  parts o k m j c n p t x =
      let y = part_is_member (scope_in L) j c n x in
      subst (λ z. IsPlace L body o (k + z) n) x.cell
      (subst (λ z. IsPlace L body o (k + x.member.part.cell) z) x.type
      (member_place L order h body small o k m j y.number x.member p t y.is))

  -- a cell of a scalar type that stands at a place, and one that an initialiser gives to a whole object
  pub scalar_there : (o k n : ℕ) (s : Scalar) → IsPlace L body o k n → scalar_of (scope_in L) n ≡ Some s
      → IsCell L body o k s
  scalar_there o k n s p e = scalar_cell L order h body small o k n s p e

  pub given_there : (o n c : ℕ) (s : Scalar) → IsPlace L body o 0 n → HasScalar (scope_in L) n c s → IsCell L body o c s
  given_there o n c s p x =
      given_cell L order h body small o n c s p
      (record {
        type = x.type;
        begins = retabled file (scope_in L) refl refl n c x.type x.begins;
        scalar = x.scalar;
      })

  tables : length L.objects ≤ 4294967296 → AreTables L body
  tables few = record {
    few = few;
    parts = parts;
    elements = λ o k m n l i p t lt. element_place L order h body small o k m n l i p t lt;
    scalars = scalar_there;
    cells = given_there;
  }

  -- ## Call paths

  alive_by : (path : ℕ) → IsBodyPath L body path → (owner : Option ℕ) → is_alive_by L path owner ≡ true
      → MayUse L body owner
  alive_by path u None e = tt
  alive_by path u (Some q) e =
      let both = and_parts (nat_le q path) (nat_lt path (q + (path_at L q).paths)) e in
      let le = leb-true q path both.0 in
      let lt = ltb-true path (q + (path_at L q).paths) both.1 in
      let w = u.within in
      let lq : q < length (paths_of file) = omega (arith, le, w) in
      let r = same_body file q path lq le lt in
      record { within = lq; same = sym r.1 ∙ u.same }

  -- a pointer into an object
  record IsInside (o k : ℕ) : Type 0 where
    object : o < length L.objects
    inside : k ≤ (object_at L o).cells

  inside_by : (o k : ℕ) (x : Option LaidObject) → slice_get L.objects o ≡ x
      → is_some (placed (cells_of_object x) o (pos k)) ≡ true → IsInside o k
  inside_by o k None e f = absurd (false≢true f)
  inside_by o k (Some x) e f = by_test (nat_le k x.cells) refl f
    where
      by_test : (b : Bool) → nat_le k x.cells ≡ b → is_some (if b then Some (Pointers.To o k) else None) ≡ true
          → IsInside o k
      by_test true t g =
          let le = leb-true k x.cells t in
          let is = ap (λ (y : LaidObject). y.cells) (get_or_from_slice_get L.objects o x no_object e) in
          record { object = slice_get_within L.objects o x e; inside = omega (arith, le, is) }
      by_test false t g = absurd (false≢true g)

  inside_if : (o k : ℕ) (b : Bool)
      → is_some (placed (if b then cells_of_object (slice_get L.objects o) else None) o (pos k)) ≡ true → IsInside o k
  inside_if o k true f = inside_by o k (slice_get L.objects o) refl f
  inside_if o k false f = absurd (false≢true f)

  is_inside : (o k : ℕ) → is_some (pointer_in L o (pos k)) ≡ true → IsInside o k
  unfolding pointer_in size_of
  is_inside o k f = inside_if o k (nat_lt o 4294967296) f

  target : (path : ℕ) → IsBodyPath L body path → (o k n : ℕ) → is_object_at L path o k n ≡ true → IsPlace L body o k n
  target path u o k n e =
      let both = and_parts (is_some (pointer_in L o (pos k)))
      (is_alive_by L path (object_at L o).owner && stands_at L o k n) e in
      let more = and_parts (is_alive_by L path (object_at L o).owner) (stands_at L o k n) both.1 in
      let i = is_inside o k both.0 in
      record {
        object = i.object;
        usable = alive_by path u (object_at L o).owner more.0;
        inside = i.inside;
        stands = more.1;
      }

  abbrev pub function_on : ℕ → ℕ
  function_on path = (path_at L path).function

  pub local_place : (path : ℕ) → IsBodyPath L body path → (k n : ℕ)
      → option_map (λ (o : LocalEntry). o.of.number) (slice_get (locals_of file (function_on path)) k) ≡ Some n
      → IsPlace L body (object_of L path (Objects.Local k)) 0 n × IsOwn L body (object_of L path (Objects.Local k))
  local_place path u k n e =
      let x = found_type (λ (o : LocalEntry). o.of.number) (slice_get (locals_of file (function_on path)) k) n e in
      let l : LocalEntry = x.0 in
      let d = local_declared file (paths_of file) path k l u.within x.1 in
      let o : ℕ = object_of L path (Objects.Local k) in (
        subst (λ y. IsPlace L body o 0 y) x.2 (object_place o l.of.number (Some path) d u),
        local_own o l.of.number path d u,
      )

  pub static_place : (k n : ℕ) → option_map (λ (o : Static). o.of.number) (slice_get file.statics k) ≡ Some n
      → is_defined_object file k ≡ true → (path : ℕ) → IsPlace L body (object_of L path (Objects.Static k)) 0 n
  static_place k n e f path =
      let x = found_type (λ (o : Static). o.of.number) (slice_get file.statics k) n e in
      let s : Static = x.0 in
      let d = static_declared file (paths_of file) k s x.1 f in
      let o : ℕ = object_of L path (Objects.Static k) in
      subst (λ y. IsPlace L body o 0 y) x.2 (object_place o s.of.number None d tt)

  module _ (few : length L.objects ≤ 4294967296)
      (formed : All (λ (f : TypedFunctionTree). IsBodyOf file f f.body) file.functions)
      (sites : (k : ℕ) (b : TypedBodyTree) → (function_of_file file k).body ≡ Some b
      → StatementsMention (is_defined_object file) (calls_in file.calls k) b.statements
      × All (λ g. is_defined_function file g ≡ true) (calls_in file.calls k))
      (regular : AreRegularBodies file) (a : Answer) where
    abbrev K : ℕ → After → After → Type 0
    K m k j = Keeps L body a m k j

    -- the kind of what a function gives
    abbrev gives : ℕ → ValueKind
    gives f = kind_of (kept_sort (result_type L (function_of_file file f)))

    there : (f : ℕ) (b : TypedBodyTree) → (function_of_file file f).body ≡ Some b → f < length file.functions
    there f b e = elim (cases_lt f (length file.functions)) [
      | inl lt ↦ lt
      | inr ge ↦ absurd (none-some b
          (sym (ap (λ (x : TypedFunctionTree). x.body) (get_or_past file.functions f no_typed_function ge)) ∙ e))
    ]

    -- ## Calls

    -- arguments are stored to the parameters of a path
    passed : (m c : ℕ) → IsBodyPath L body c
        → (p : Place) (k : ℕ) (ns : List ℕ) (ls : List LocalEntry) (vs : List Value)
        → ((i : ℕ) (l : LocalEntry) → slice_get ls i ≡ Some l
        → slice_get (locals_of file (function_on c)) (k + i) ≡ Some l)
        → AreParameters (scope_in L) ns ls → AreGiven L ns vs → (go to : After) → K m go to
        → K m (passed_then L c k vs p go) (passed_then L c k vs p to)
    passed m c u p k [] ls [] at' q g go to x = x
    passed m c u p k (n ∷ ns) ls [] at' q g go to x = absurd g
    passed m c u p k [] ls (v ∷ vs) at' q g go to x = absurd g
    passed m c u p k (n ∷ ns) [] (v ∷ vs) at' q g go to x = absurd q
    passed m c u p k (n ∷ ns) (l ∷ ls) (v ∷ vs) at' q g go to x =
        let o : ℕ = object_of L c (Objects.Local k) in
        let z : k + 0 ≡ k = omega arith in
        let is : slice_get (locals_of file (function_on c)) k ≡ Some l =
        ap (slice_get (locals_of file (function_on c))) (sym z) ∙ at' 0 l refl in
        let place : IsPlace L body o 0 l.of.number =
        (local_place c u k l.of.number (ap (option_map (λ (y : LocalEntry). y.of.number)) is)).0 in
        let cell : IsCell L body o 0 g.0 = scalar_there o 0 l.of.number g.0 place (q.0 ∙ g.1) in
        let same : scalar_at L o 0 ≡ g.0 = cell.scalar in
        let rest : K m (passed_then L c (suc k) vs p go) (passed_then L c (suc k) vs p to) =
        passed m c u p (suc k) ns ls vs
        (λ i y e. let w : k + suc i ≡ suc k + i = omega arith in ap (slice_get (locals_of file (function_on c))) (sym w)
        ∙ at' (suc i) y e)
        q.1 g.3 go to x in
        subst (λ (y : Value). K m (act_then L (store_at y (scalar_at L o 0) v p) (λ r. passed_then L c (suc k) vs p go))
        (act_then L (store_at y (scalar_at L o 0) v p) (λ r. passed_then L c (suc k) vs p to)))
        (sym (base_is L few o place.object))
        (subst (λ (s : Scalar). K m (act_then L (store_at (at o 0) s v p) (λ r. passed_then L c (suc k) vs p go))
        (act_then L (store_at (at o 0) s v p) (λ r. passed_then L c (suc k) vs p to))) (sym same)
        (store_keeps L few body a m o 0 g.0 v p (λ r. passed_then L c (suc k) vs p go)
        (λ r. passed_then L c (suc k) vs p to) cell (to_scalar L g.0 v g.2) (λ r. rest)))

    -- what goes on from a body, where paths are so deep
    abbrev Bodies : ℕ → Type 0
    Bodies depth = (m path : ℕ) → IsBodyPath L body path
        → (function_on path < length file.functions → depth_of file order (function_on path) < depth)
        → (go to : Value → After)
        → ((function_of_file file (function_on path)).body ≡ None → K m (go nothing) (to nothing))
        → ((v : Value) → HasKind L (gives (function_on path)) v → K m (go v) (to v))
        → K m (body_then L depth path go) (body_then L depth path to)

    calls : (depth : ℕ) → Bodies depth → (path : ℕ) → IsBodyPath L body path → (b : TypedBodyTree)
        → (function_of_file file (function_on path)).body ≡ Some b
        → depth_of file order (function_on path) < suc depth
        → (m f site : ℕ) (g : Function) (vs : List Value) (p : Place) (go to : Value → After)
        → slice_get (calls_in file.calls (function_on path)) site ≡ Some f
        → slice_get (map called file.functions) f ≡ Some g → AreGiven L g.parameters vs
        → ((v : Value) → HasKind L (kind_of (kept_sort (ctype_of (scope_in L) g.result))) v → K m (go v) (to v))
        → K m (passed_then L (callee L path site) 0 vs p (body_then L depth (callee L path site) go))
        (passed_then L (callee L path site) 0 vs p (body_then L depth (callee L path site) to))
    unfolding layout_of
    calls depth ih path u b e deep m f site g vs p go to s k given x =
        let lt : site < length (calls_in file.calls (function_on path)) =
        slice_get_within (calls_in file.calls (function_on path)) site f s in
        let c : ℕ = callee L path site in
        let goes : GoesOnBy file (layout_of file) path site = calls_lead file order h path site u.within lt in
        let is : function_on c ≡ f = goes.function
        ∙ get_or_from_slice_get (calls_in file.calls (function_on path)) site f 0 s in
        let own : IsBodyPath L body c = record { within = goes.within; same = goes.body ∙ u.same } in
        let has : Contains (calls_in file.calls (function_on path)) f = (site, lt, contained) in
        let defined : is_defined_function file f ≡ true =
        All-contains (λ y. is_defined_function file y ≡ true) (calls_in file.calls (function_on path)) f
        (sites (function_on path) b e).1 has in
        by_body (function_of_file file f).body refl defined c is own has
      where
        contained : get_or (calls_in file.calls (function_on path)) site f ≡ f
        contained = get_or_from_slice_get (calls_in file.calls (function_on path)) site f f s

        by_body : (o : Option TypedBodyTree) → (function_of_file file f).body ≡ o → is_some o ≡ true → (c : ℕ)
            → function_on c ≡ f → IsBodyPath L body c → Contains (calls_in file.calls (function_on path)) f
            → K m (passed_then L c 0 vs p (body_then L depth c go)) (passed_then L c 0 vs p (body_then L depth c to))
        by_body None q d c is own has = absurd (false≢true d)
        by_body (Some b') q d c is own has =
            let F : TypedFunctionTree = function_of_file file f in
            let lf = there f b' q in
            let same : called F ≡ g =
            same_Some (called F) g (sym
            (slice_get-map called file.functions f
            ∙ ap (option_map called) (slice_get-get_or file.functions f no_typed_function lf)) ∙ k) in
            let falls = depth_falls file order h (function_on path) f lf has in
            let r = regular f b' q in
            let own_locals : locals_of file (function_on c) ≡ b'.locals = ap (λ y. locals_of file y) is
            ∙ ap locals_in q in
            let inner' : K m (body_then L depth c go) (body_then L depth c to) =
            ih m c own (λ l. subst (λ y. depth_of file order y < depth) (sym is) (omega (arith, falls, deep))) go to
            (λ n. absurd (none-some b' (sym n ∙ ap (λ y. (function_of_file file y).body) is ∙ q)))
            (λ v y. x v (subst (λ (z : Function). HasKind L (kind_of (kept_sort (ctype_of (scope_in L) z.result))) v)
            same (subst (λ z. HasKind L (gives z) v) is y))) in
            passed m c own p 0 g.parameters b'.locals vs
            (λ i l z. let w : 0 + i ≡ i = omega arith in ap (slice_get (locals_of file (function_on c))) w
            ∙ ap (λ ls. slice_get ls i) own_locals ∙ z)
            (subst (λ (y : Function). AreParameters (scope_in L) y.parameters b'.locals) same r.parameters) given
            (body_then L depth c go) (body_then L depth c to) inner'

    -- what is known on a path
    stage : (depth : ℕ) → Bodies depth → (path : ℕ) → IsBodyPath L body path → (b : TypedBodyTree)
        → (function_of_file file (function_on path)).body ≡ Some b → depth_of file order (function_on path) < suc depth
        → IsStage L body a path b.locals (is_defined_object file) (calls_in file.calls (function_on path))
        (λ site vs p go. passed_then L (callee L path site) 0 vs p (body_then L depth (callee L path site) go))
    stage depth ih path u b e deep = record {
      tables = tables few;
      objects = named;
      own = λ k n q. (local_place path u k n (locals_are k ∙ q)).1;
      targets = target path u;
      called = λ m f site g vs p go to s k given x. calls depth ih path u b e deep m f site g vs p go to s k given x;
    }
      where
        locals_are : (k : ℕ) → option_map (λ (o : LocalEntry). o.of.number)
            (slice_get (locals_of file (function_on path)) k) ≡ option_map (λ (o : LocalEntry). o.of.number)
            (slice_get b.locals k)
        locals_are k = ap (λ x. option_map (λ (o : LocalEntry). o.of.number) (slice_get (locals_in x) k)) e

        named : (x : ObjectNumber) (n : ℕ) → object_type file.statics b.locals x ≡ Some n
            → IsNamed (is_defined_object file) x → IsPlace L body (object_of L path x) 0 n
        named (Objects.Static k) n q d = static_place k n q d path
        named (Objects.Local k) n q d = (local_place path u k n (locals_are k ∙ q)).0

    -- ## Bodies

    fallen : (m : ℕ) (t : CType) (go to : Value → After)
        → ((v : Value) → HasKind L (kind_of (kept_sort t)) v → K m (go v) (to v))
        → K m (fallen_then L t go) (fallen_then L t to)
    fallen m (Types.Int t) go to x =
        act_keeps L body a m (Acts.Chosen (lo_of t) (hi_of t)) go to tt
        (λ y v e. x v (between_is L t (lo_of t) (hi_of t) y v (low_in t) (high_in t) e))
    fallen m (Types.Pointer q) go to x = x nothing (nothing_is L a_pointer refl)
    fallen m Types.Void go to x = x nothing tt
    fallen m (Types.Array e n) go to x = x nothing tt
    fallen m (Types.Struct k) go to x = x nothing tt

    code : (depth : ℕ) → Bodies depth → (m path : ℕ) → IsBodyPath L body path
        → (function_on path < length file.functions → depth_of file order (function_on path) < suc depth)
        → (go to : Value → After)
        → ((function_of_file file (function_on path)).body ≡ None → K m (go nothing) (to nothing))
        → ((v : Value) → HasKind L (gives (function_on path)) v → K m (go v) (to v))
        → (o : Option TypedBodyTree) → (function_of_file file (function_on path)).body ≡ o
        → K m (code_then (here_with L (body_then L depth) path) (result_type L (function_at L path)) o go)
        (code_then (here_with L (body_then L depth) path) (result_type L (function_at L path)) o to)
    code depth ih m path u deep go to none x None e = none e
    code depth ih m path u deep go to none x (Some b) e =
        let f : ℕ = function_on path in
        let F : TypedFunctionTree = function_of_file file f in
        let lf = there f b e in
        let ok : IsBodyOf file F (Some b) =
        subst (λ (y : Option TypedBodyTree). IsBodyOf file F y) e
        (All-get_or (λ (y : TypedFunctionTree). IsBodyOf file y y.body) file.functions f no_typed_function lf
        formed) in
        let t : CType = result_type L F in
        let exits : Exits = exits_of L t go in
        let exits' : Exits = exits_of L t to in
        block_keeps L body a path b.locals (is_defined_object file) (calls_in file.calls f)
        _ (stage depth ih path u b e (deep lf)) F.result m false false b.statements ok (sites f b e).0
        (regular f b e).statements exits exits'
        (record {
          on = fallen m t go to x;
          breaks = λ z. absurd (false≢true z);
          continues = λ z. absurd (false≢true z);
          returns = x;
        })

    whole_body : (depth : ℕ) → Bodies depth
    whole_body zero m path u deep go to none x = elim (cases_lt (function_on path) (length file.functions)) [
      | inl lt ↦ absurd (let l = deep lt in omega (arith, l))
      | inr ge ↦ none (ap (λ (y : TypedFunctionTree). y.body)
          (get_or_past file.functions (function_on path) no_typed_function ge))
    ]
    whole_body (suc depth) m path u deep go to none x =
        code depth (whole_body depth) m path u deep go to none x (function_of_file file (function_on path)).body refl

    pub next_keeps : body < length (bodies_of file) → (m : ℕ) → K m (next L body) (next L body)
    unfolding next
    next_keeps lt m =
        let first = first_of file body lt in
        let path : ℕ = first_path L body in
        let u : IsBodyPath L body path = record { within = first.0; same = first.1 } in
        whole_body (length file.functions) m path u (depth_below file order (function_on path)) (λ v. last Acts.Ended)
        (λ v. last Acts.Ended) (λ e. ended_keeps L body a m) (λ v x. ended_keeps L body a m)

-- ## Answers that fit

-- What comes next after answers that fit is proper, if it is so at first and after each further answer.
after_all : (laid : LaidTree) (body : ℕ) (k : After) → IsProper laid body (k [])
    → ((a : Answer) (l : List Answer) → Fits laid body a (k l) → IsProper laid body (k (l ++ a ∷ [])))
    → (answers : List Answer) → Fit laid k answers → IsProper laid body (k answers)
after_all laid body k first more [] fit = first
after_all laid body k first more (b ∷ answers) fit =
    after_all laid body (λ l. k (b ∷ l)) (more b [] fit.0) (λ a l f. more a (b ∷ l) f) answers fit.1

pub always_proper : (file : TypedFileTree) (order : List ℕ) → IsLayable file order
    → is_exceeded Scales.Large file Limits.Cells ≡ false → length (layout_of file).objects ≤ 4294967296
    → All (λ (f : TypedFunctionTree). IsBodyOf file f f.body) file.functions
    → ((k : ℕ) (b : TypedBodyTree) → (function_of_file file k).body ≡ Some b
    → StatementsMention (is_defined_object file) (calls_in file.calls k) b.statements
    × All (λ g. is_defined_function file g ≡ true) (calls_in file.calls k))
    → AreRegularBodies file → (body : ℕ) → body < length (layout_of file).bodies → (answers : List Answer)
    → Fit (layout_of file) (next (layout_of file) body) answers
    → IsProper (layout_of file) body (next (layout_of file) body answers)
unfolding layout_of
always_proper file order h within few formed sites regular body lt answers fit =
    let N : After = next (layout_along file (paths_of file)) body in
    after_all (layout_along file (paths_of file)) body N
    (next_keeps file order h within body few formed sites regular Done lt 0).first
    (λ a l f. (next_keeps file order h within body few formed sites regular a lt (length l)).more l (omega arith) f)
    answers fit

-- ## Places

pub part_place : (file : TypedFileTree) (order : List ℕ) → IsLayable file order
    → is_exceeded Scales.Large file Limits.Cells ≡ false → length (layout_of file).objects ≤ 4294967296
    → (body o k n j c m : ℕ) → IsPlace (layout_of file) body o k n → ctype_of (tables_of file) n ≡ Types.Struct j
    → HasPart (tables_of file) j c m → IsPlace (layout_of file) body o (k + c) m
unfolding layout_of
part_place file order h within few body o k n j c m p t x =
    let y = part_is_member (tables_of file) j c m x in
    let laid : LaidTree = layout_along file (paths_of file) in
    subst (λ z. IsPlace laid body o (k + z) m) x.cell
    (subst (λ z. IsPlace laid body o (k + x.member.part.cell) z) x.type
    (member_place laid order h body (small file order h within body) o k n j y.number x.member p t y.is))

pub element_there : (file : TypedFileTree) (order : List ℕ) → IsLayable file order
    → is_exceeded Scales.Large file Limits.Cells ≡ false → length (layout_of file).objects ≤ 4294967296
    → (body o k n e l i : ℕ) → IsPlace (layout_of file) body o k n → ctype_of (tables_of file) n ≡ Types.Array e l
    → i < l
    → IsPlace (layout_of file) body o (k + i * cells_of (tables_of file) e) e
unfolding layout_of
element_there file order h within few body o k n e l i p t lt =
    element_place (layout_along file (paths_of file)) order h body (small file order h within body) o k n e l i p t
    lt
