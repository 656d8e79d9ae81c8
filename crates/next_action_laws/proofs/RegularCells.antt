-- The cells that initialisers give are cells of their objects' types.
use Rattle.std.proofs.Common.{◌≡◌, refl, ap, sym, subst, ◌∙◌, ℕ, zero, suc, ◌+◌, ◌*◌, ◌≤◌, inl, inr, Bool, true, false}
use Rattle.std.proofs.Common.{cond, not, ◌&&◌, ◌||◌, List, [], ◌∷◌, ◌++◌, length, get_or, Option, Some, None, slice_get}
use Rattle.std.proofs.Common.{arith}
use Rattle.std.specs.Prelude.{nat_lt, slice_set, is_some, is_none, option_map, map, All, Result, Ok, Err}
use Rattle.std.proofs.lemmas.Bool.{false≢true, cases_lt}
use Rattle.std.proofs.lemmas.Option.{none-some}
use Rattle.std.proofs.lemmas.List.{append-nil, get_or_past, length-set}
use Rattle.std.proofs.lemmas.List.Elements.{All-nil, All-cons, All-append, All-weaker, All-set, All-get_or}
use Rattle.cell_layout.specs.tm_terms.declared.places.Place.{Place}
use Rattle.cell_layout.specs.tm_terms.declared.refusals.Kind.TheVariants as Kinds
use Rattle.cell_layout.specs.tm_terms.declared.refusals.Refusal.{Refusal}
use Rattle.cell_layout.specs.tm_terms.declared.types_named.Storage.{Storage}
use Rattle.cell_layout.specs.tm_terms.declared.types_named.Storage.TheVariants as Storages
use Rattle.cell_layout.specs.tm_terms.ExprTrees.{Tree, place_of}
use Rattle.cell_layout.specs.tm_trees.declared.declarations.Tag.{Tag}
use Rattle.cell_layout.specs.tm_trees.DeclarationTrees.{ValueTree, an_expression, a_list, ValueTrees, no_values}
use Rattle.cell_layout.specs.tm_trees.DeclarationTrees.{and_value}
use Rattle.cell_layout.specs.tm_trees.DeclarationTrees.{InitialiserTree, InitDeclaratorTree, DeclarationTree}
use Rattle.cell_layout.specs.tm_typed.declared.types.CType.{CType}
use Rattle.cell_layout.specs.tm_typed.declared.types.CType.TheVariants as Types
use Rattle.cell_layout.specs.tm_typed.declared.types.TypeEntry.{TypeEntry}
use Rattle.cell_layout.specs.tm_typed.declared.types.Scalar.{Scalar}
use Rattle.cell_layout.specs.tm_typed.declared.scopes.Member.{Member}
use Rattle.cell_layout.specs.tm_typed.declared.scopes.Part.{Part}
use Rattle.cell_layout.specs.tm_typed.declared.scopes.Named.TheVariants as Names
use Rattle.cell_layout.specs.tm_typed.declared.scopes.ObjectNumber.{ObjectNumber}
use Rattle.cell_layout.specs.tm_typed.declared.scopes.ObjectNumber.TheVariants as Objects
use Rattle.cell_layout.specs.tm_typed.declared.scopes.Tagged.{Tagged}
use Rattle.cell_layout.specs.tm_typed.declared.scopes.Tagged.TheVariants as Tagging
use Rattle.cell_layout.specs.tm_typed.declared.files.LocalEntry.{LocalEntry}
use Rattle.cell_layout.specs.tm_typed.declared.specifiers.Said.{Said}
use Rattle.cell_layout.specs.tm_typed.Types.{no_type}
use Rattle.cell_layout.specs.tm_typed.Scopes.{Scope, Structure, no_structure, structure, entry, ctype_of, cells_of}
use Rattle.cell_layout.specs.tm_typed.Scopes.{named}
use Rattle.cell_layout.specs.tm_typed.Scopes.{named_here, tagged_here}
use Rattle.cell_layout.specs.tm_typed.TypeRows.{clipped}
use Rattle.cell_layout.specs.tm_typed.TypedTrees.{RvalueTree, Rated, OperandTree}
use Rattle.cell_layout.specs.tm_typed.Operands.{valued, is_structure, is_null, is_integer, scalar_by, scalar_of, given}
use Rattle.cell_layout.specs.tm_typed.Refusals.{then_with, row, row_unless}
use Rattle.cell_layout.specs.tm_typed.States.{State, Static, no_static, static, static_type}
use Rattle.cell_layout.specs.tm_typed.Evaluation.{typed_in}
use Rattle.cell_layout.specs.tm_typed.Specifiers.{with_struct_tag}
use Rattle.cell_layout.specs.tm_typed.Structures.{is_no_object, is_declared_here, specified}
use Rattle.cell_layout.specs.tm_typed.StaticValues.{static_value}
use Rattle.cell_layout.specs.tm_typed.TypedStatements.{GivenTree, LocalInitialiserTree, LocalTree}
use Rattle.cell_layout.specs.tm_typed.Initialisers.{part_number, part_of, part_in, part, is_aggregate_type}
use Rattle.cell_layout.specs.tm_typed.Initialisers.{is_aggregate}
use Rattle.cell_layout.specs.tm_typed.Initialisers.{scalar_rules, lone_rules, given_behind, lone, list_rules, initial}
use Rattle.cell_layout.specs.tm_typed.Initialisers.{initials}
use Rattle.cell_layout.specs.tm_typed.Initialisers.{Given}
use Rattle.cell_layout.specs.tm_typed.Declarations.{Declared, declared_by, bound_here, typedef_rules, static_cell_of}
use Rattle.cell_layout.specs.tm_typed.Declarations.{with_static}
use Rattle.cell_layout.specs.tm_typed.Declarations.{initialised_static, new_static, linked, clashes, is_other}
use Rattle.cell_layout.specs.tm_typed.Declarations.{linked_object}
use Rattle.cell_layout.specs.tm_typed.Declarations.{is_function, no_value, extern_value, extern_object, object_rules}
use Rattle.cell_layout.specs.tm_typed.Declarations.{static_object}
use Rattle.cell_layout.specs.tm_typed.Declarations.{LocalInitial, initialised_local, new_local, Locals, local_object}
use Rattle.cell_layout.specs.tm_typed.Declarations.{no_locals}
use Rattle.cell_layout.specs.tm_typed.Declarations.{local_rules, lone_tag, tag_rules, local_declared, local_form}
use Rattle.cell_layout.specs.tm_typed.Declarations.{local_declaration}
use Rattle.cell_layout.specs.tm_typed.WellTyped.{OnAnswer}
use Rattle.typed_file_laws.specs.Tables.{IsType, AreLawfulTables}
use Rattle.typed_file_laws.specs.Lawful.{object_type, context, IsBound, IsLawfulState}
use Rattle.typed_file_laws.proofs.low.typing_laws.Steps.{then_on}
use Rattle.typed_file_laws.proofs.RuleSteps.{on_row, on_row_unless, some_any, answer_weaker}
use Rattle.typed_file_laws.proofs.TableGrowth.{TablesGrow, grow_none, entry_stays, cells_stay}
use Rattle.typed_file_laws.proofs.TableStructures.{structure_at, struct_tag_follows}
use Rattle.typed_file_laws.proofs.TypeShapes.{said_stays, void_is_type}
use Rattle.typed_file_laws.proofs.StateSteps.{Keeps, all_bound, all_linked, all_uses, Continues, continues_none}
use Rattle.typed_file_laws.proofs.StateSteps.{continues_on, scope_continues, name_continues, elements_known}
use Rattle.typed_file_laws.proofs.SpecifierSteps.{object_parts, Says, specified_says}
use Rattle.typed_file_laws.proofs.DeclarationSteps.{Gives, initial_gives, evaluated_on, DeclaresName}
use Rattle.typed_file_laws.proofs.DeclarationSteps.{declared_by_declares, typedef_continues, file_object_continues}
use Rattle.typed_file_laws.proofs.DeclarationSteps.{new_static_continues, local_added, local_bound}
use Rattle.next_action_laws.specs.Regular.{PartBegins, whole, inner, HasScalar, GivesCells}

-- ## Parts stay

-- what is found in a table stands in it
pub is_type_of : (v : Scope) (m : ℕ) (t : CType) → ctype_of v m ≡ t → (t ≡ Types.Void → ⊥) → IsType v m
is_type_of v m t e other = elim (cases_lt m (length v.types)) [
  | inl lt ↦ lt
  | inr ge ↦ absurd (other (sym e ∙ ap (λ (x : TypeEntry). x.ctype) (get_or_past v.types m no_type ge)))
]

no_members : (v : Scope) → AreLawfulTables v → (k : ℕ) → (structure v k).complete ≡ false → (structure v k).members ≡ []
no_members v h k e = elim (cases_lt k (length v.structs)) [
  | inl lt ↦ (structure_at v h k lt).empty e
  | inr ge ↦ ap (λ (s : Structure). s.members) (get_or_past v.structs k no_structure ge)
]

module _ (v w : Scope) (h : AreLawfulTables v) (g : TablesGrow v w) where
  ctype_stays : (m : ℕ) → IsType v m → ctype_of w m ≡ ctype_of v m
  ctype_stays m i = ap (λ (x : TypeEntry). x.ctype) (entry_stays v w g m i)

  array_part : (m e l i : ℕ) (q : Part) → ctype_of v m ≡ Types.Array e l → part_in v (Types.Array e l) i ≡ Some q
      → part_in w (ctype_of w m) i ≡ Some q
  array_part m e l i q t f =
      let is : ctype_of w m ≡ Types.Array e l = ctype_stays m (is_type_of v m (Types.Array e l) t (λ z. absurd cc))
      ∙ t in
      let same : cells_of w e ≡ cells_of v e = cells_stay v w g e (elements_known v h m e l t) in
      ap (λ x. part_in w x i) is ∙ ap (λ c. cond (nat_lt i l) (Some (part_number e (clipped (i * c)))) None) same ∙ f

  structure_part : (m k i : ℕ) (q : Part) (b : Bool) → (structure v k).complete ≡ b → ctype_of v m ≡ Types.Struct k
      → part_of (slice_get (structure v k).members i) ≡ Some q
      → part_in w (ctype_of w m) i ≡ Some q
  structure_part m k i q true e t f =
      let is : ctype_of w m ≡ Types.Struct k = ctype_stays m (is_type_of v m (Types.Struct k) t (λ z. absurd cc)) ∙ t in
      ap (λ x. part_in w x i) is ∙ ap (λ (s : Structure). part_of (slice_get s.members i)) (g.structures k e) ∙ f
  structure_part m k i q false e t f =
      let none : slice_get (structure v k).members i ≡ None =
      ap (λ (ms : List Member). slice_get ms i) (no_members v h k e) ∙ nothing_at i in
      absurd (none-some q (sym (ap part_of none) ∙ f))
    where
      nothing_at : (i : ℕ) → slice_get (let ms : List Member = [] in ms) i ≡ None
      nothing_at zero = refl
      nothing_at (suc i) = refl

  part_by : (m i : ℕ) (q : Part) (t : CType) → ctype_of v m ≡ t → part_in v t i ≡ Some q
      → part_in w (ctype_of w m) i ≡ Some q
  part_by m i q (Types.Array e l) t f = array_part m e l i q t f
  part_by m i q (Types.Struct k) t f = structure_part m k i q (structure v k).complete refl t f
  part_by m i q Types.Void t f = absurd (none-some q f)
  part_by m i q (Types.Int u) t f = absurd (none-some q f)
  part_by m i q (Types.Pointer u) t f = absurd (none-some q f)

  pub begins_stays : (n c m : ℕ) → PartBegins v n c m → PartBegins w n c m
  begins_stays n _ _ whole = whole
  begins_stays n _ _ (inner c m i q b e) = inner c m i q (begins_stays n c m b) (part_by m i q (ctype_of v m) refl e)

  scalar_by_type : (m : ℕ) (s : Scalar) (t : CType) → ctype_of v m ≡ t → scalar_by (entry v m) t ≡ Some s → IsType v m
  scalar_by_type m s Types.Void e f = absurd (none-some s f)
  scalar_by_type m s (Types.Int u) e f = is_type_of v m (Types.Int u) e (λ z. absurd cc)
  scalar_by_type m s (Types.Pointer u) e f = is_type_of v m (Types.Pointer u) e (λ z. absurd cc)
  scalar_by_type m s (Types.Array x l) e f = absurd (none-some s f)
  scalar_by_type m s (Types.Struct k) e f = absurd (none-some s f)

  scalar_stays : (m : ℕ) (s : Scalar) → scalar_of v m ≡ Some s → scalar_of w m ≡ Some s
  scalar_stays m s e = ap (λ (x : TypeEntry). scalar_by x x.ctype)
      (entry_stays v w g m (scalar_by_type m s (ctype_of v m) refl e)) ∙ e

  pub cell_stays : (n c : ℕ) (s : Scalar) → HasScalar v n c s → HasScalar w n c s
  cell_stays n c s x = record {
    type = x.type;
    begins = begins_stays n c x.type x.begins;
    scalar = scalar_stays x.type s x.scalar;
  }

  pub cells_stay_given : (n : ℕ) (gs : List GivenTree) → All (λ (x : GivenTree). HasScalar v n x.cell x.scalar) gs
      → All (λ (x : GivenTree). HasScalar w n x.cell x.scalar) gs
  cells_stay_given n gs x =
      All-weaker (λ (y : GivenTree). HasScalar v n y.cell y.scalar) (λ (y : GivenTree). HasScalar w n y.cell y.scalar)
      (λ y z. cell_stays n y.cell y.scalar z) gs x

  aggregate_by_type : (m : ℕ) (t : CType) → ctype_of v m ≡ t → is_aggregate_type t ≡ true
      → is_aggregate_type (ctype_of w m) ≡ true
  aggregate_by_type m (Types.Array x l) e a =
      ap is_aggregate_type (ctype_stays m (is_type_of v m (Types.Array x l) e (λ z. absurd cc)) ∙ e)
  aggregate_by_type m (Types.Struct k) e a =
      ap is_aggregate_type (ctype_stays m (is_type_of v m (Types.Struct k) e (λ z. absurd cc)) ∙ e)
  aggregate_by_type m Types.Void e a = absurd (false≢true a)
  aggregate_by_type m (Types.Int u) e a = absurd (false≢true a)
  aggregate_by_type m (Types.Pointer u) e a = absurd (false≢true a)

  pub aggregate_stays : (m : ℕ) → is_aggregate v m ≡ true → is_aggregate w m ≡ true
  aggregate_stays m a = aggregate_by_type m (ctype_of v m) refl a

no_scalar : (e : TypeEntry) (t : CType) (s : Scalar) → is_aggregate_type t ≡ true → scalar_by e t ≡ Some s → ⊥
no_scalar e Types.Void s a f = false≢true a
no_scalar e (Types.Int u) s a f = false≢true a
no_scalar e (Types.Pointer u) s a f = false≢true a
no_scalar e (Types.Array x l) s a f = none-some s f
no_scalar e (Types.Struct k) s a f = none-some s f

-- ## Initialisers

-- the state follows, and the cells are cells of this type
abbrev pub CellsOf : ℕ → State → ℕ → Given → Type 0
CellsOf m s n a = Continues m s a.1 × All (λ (g : GivenTree). HasScalar a.1.scope n g.cell g.scalar) a.0

cells_since : (m : ℕ) (s t : State) (n : ℕ) (r : Result Given Refusal) → Continues m s t → OnAnswer (CellsOf m t n) r
    → OnAnswer (CellsOf m s n) r
cells_since m s t n r c h =
    answer_weaker (CellsOf m t n) (CellsOf m s n) r (λ a k. (continues_on m s t a.1 c k.0, k.1)) h

scalar_cells : (m : ℕ) (static : Bool) (s : State) (top n c : ℕ) (v : Rated) → IsLawfulState m s
    → ((t : Scalar) → scalar_of s.scope n ≡ Some t → HasScalar s.scope top c t)
    → OnAnswer (CellsOf m s top) (scalar_rules static s n c v)
scalar_cells m static s top n c v h b =
    on_row (CellsOf m s top) (is_structure v.sort) Kinds.Unsupported v.place
    _ (λ a. by_scalar (scalar_of s.scope n) refl)
  where
    by_scalar : (o : Option Scalar) → scalar_of s.scope n ≡ o
        → OnAnswer (CellsOf m s top) (row_unless o Kinds.Mismatch v.place (λ t.
        row_unless (given s.scope v n) Kinds.Mismatch v.place (λ e.
        row (static && is_none (static_value s e)) Kinds.NotConstant v.place
        (Ok (record { cell = c; scalar = t; value = e } ∷ [], s)))))
    by_scalar None e = tt
    by_scalar (Some t) e =
        on_row_unless (λ (x : RvalueTree). Unit {0}) (CellsOf m s top) (given s.scope v n) Kinds.Mismatch v.place
        _ (some_any (given s.scope v n)) (λ x f.
        on_row (CellsOf m s top) (static && is_none (static_value s x)) Kinds.NotConstant v.place _ (λ z. (
          continues_none m s h,
          All-cons (λ (g : GivenTree). HasScalar s.scope top g.cell g.scalar)
              (record { cell = c; scalar = t; value = x }) [] (b t e)
              (All-nil (λ (g : GivenTree). HasScalar s.scope top g.cell g.scalar)),
        )))

begun_cells : (m : ℕ) (static : Bool) (s : State) (top n c : ℕ) (v : Rated) → IsLawfulState m s
    → PartBegins s.scope top c n → OnAnswer (CellsOf m s top) (scalar_rules static s n c v)
begun_cells m static s top n c v h b =
    scalar_cells m static s top n c v h (λ t e. record { type = n; begins = b; scalar = e })

lone_cells : (m : ℕ) (static : Bool) (s : State) (top n c : ℕ) (v : Rated) (b : Bool) → IsLawfulState m s
    → is_aggregate s.scope n ≡ true → OnAnswer (CellsOf m s top) (cond b (Ok ([], s)) (scalar_rules static s n c v))
lone_cells m static s top n c v true h a =
    (continues_none m s h, All-nil (λ (g : GivenTree). HasScalar s.scope top g.cell g.scalar))
lone_cells m static s top n c v false h a =
    scalar_cells m static s top n c v h (λ t e. absurd (no_scalar (entry s.scope n) (ctype_of s.scope n) t a e))

aggregate_cells : (m : ℕ) (static : Bool) (s : State) (top n c : ℕ) (t : Tree) (further : Result Given Refusal)
    (b : Bool) → is_aggregate s.scope n ≡ b → IsLawfulState m s → OnAnswer (CellsOf m s top) further
    → OnAnswer (CellsOf m s top)
    (cond b (then_with (typed_in s t) (λ o. lone_rules static o.1 n c (valued o.1.scope o.0))) further)
aggregate_cells m static s top n c t further true a h k =
    evaluated_on m s t (CellsOf m s top) _ h (λ o d i.
    let v : Rated = valued o.1.scope o.0 in
    cells_since m s o.1 top (lone_rules static o.1 n c v) d
    (lone_cells m static o.1 top n c v (is_integer v.sort && is_null v.sort) d.lawful
    (aggregate_stays s.scope o.1.scope h.tables d.keeps.grown n a)))
aggregate_cells m static s top n c t further false a h k = k

list_cells : (m : ℕ) (static : Bool) (s : State) (top n c : ℕ) (p : Place) (q : Option Part) (t : Option Tree)
    (further : Result Given Refusal) → IsLawfulState m s
    → OnAnswer (CellsOf m s top) further → OnAnswer (CellsOf m s top) (list_rules static s n c p q t further)
list_cells m static s top n c p (Some q) (Some t) further h k =
    aggregate_cells m static s top q.of.number c t further (is_aggregate s.scope q.of.number) refl h k
list_cells m static s top n c p (Some q) None further h k =
    on_row (CellsOf m s top) (not (is_aggregate s.scope n)) Kinds.Mismatch p further (λ a. k)
list_cells m static s top n c p None t further h k =
    on_row (CellsOf m s top) (not (is_aggregate s.scope n)) Kinds.Mismatch p further (λ a. k)

behind_cells : (m : ℕ) (s t : State) (top : ℕ) (cells : List GivenTree) (r : Result Given Refusal) → Continues m s t
    → All (λ (g : GivenTree). HasScalar t.scope top g.cell g.scalar) cells
    → OnAnswer (CellsOf m t top) r → OnAnswer (CellsOf m s top) (given_behind cells r)
behind_cells m s t top cells r c h k =
    then_on (CellsOf m t top) (CellsOf m s top) r (λ g. Ok (cells ++ g.0, g.1)) k (λ g i. (
      continues_on m s t g.1 c i.0,
      All-append (λ (x : GivenTree). HasScalar g.1.scope top x.cell x.scalar) cells g.0
          (cells_stay_given t.scope g.1.scope c.lawful.tables i.0.keeps.grown top cells h) i.1,
    ))

next_cells : (m : ℕ) (static : Bool) (s : State) (top n c i : ℕ) (v : ValueTree) (rest : ValueTrees) (p : Place)
    → IsLawfulState m s → PartBegins s.scope top c n
    → ((k d : ℕ) → PartBegins s.scope top d k → OnAnswer (CellsOf m s top) (initial static s k d v))
    → ((t : State) → IsLawfulState m t → PartBegins t.scope top c n
    → OnAnswer (CellsOf m t top) (initials static t n c (suc i) rest p))
    → (o : Option Part) → part s.scope n i ≡ o
    → OnAnswer (CellsOf m s top)
    (row_unless o Kinds.Mismatch p
    (λ q. then_with (initial static s q.of.number (clipped (c + q.cell)) v)
    (λ g. given_behind g.0 (initials static g.1 n c (suc i) rest p))))
next_cells m static s top n c i v rest p h b one more None e = tt
next_cells m static s top n c i v rest p h b one more (Some q) e =
    then_on (CellsOf m s top) (CellsOf m s top) (initial static s q.of.number (clipped (c + q.cell)) v)
    (λ g. given_behind g.0 (initials static g.1 n c (suc i) rest p))
    (one q.of.number (clipped (c + q.cell)) (inner c n i q b e))
    (λ g k. behind_cells m s g.1 top g.0 (initials static g.1 n c (suc i) rest p) k.0 k.1
    (more g.1 k.0.lawful (begins_stays s.scope g.1.scope h.tables k.0.keeps.grown top c n b)))

mutual
  pub initial_cells : (m : ℕ) (static : Bool) (s : State) (top n c : ℕ) (v : ValueTree) → IsLawfulState m s
      → PartBegins s.scope top c n → OnAnswer (CellsOf m s top) (initial static s n c v)
  initial_cells m static s top n c (an_expression t) h b =
      evaluated_on m s t (CellsOf m s top) _ h
      (λ o d i. cells_since m s o.1 top (scalar_rules static o.1 n c (valued o.1.scope o.0)) d
      (begun_cells m static o.1 top n c (valued o.1.scope o.0) d.lawful
      (begins_stays s.scope o.1.scope h.tables d.keeps.grown top c n b)))
  initial_cells m static s top n c (a_list values p) h b =
      list_cells m static s top n c p (part s.scope n 0) (lone values) (initials static s n c 0 values p) h
      (initials_cells m static s top n c 0 values p h b)

  initials_cells : (m : ℕ) (static : Bool) (s : State) (top n c i : ℕ) (values : ValueTrees) (p : Place)
      → IsLawfulState m s → PartBegins s.scope top c n → OnAnswer (CellsOf m s top) (initials static s n c i values p)
  initials_cells m static s top n c i no_values p h b =
      (continues_none m s h, All-nil (λ (g : GivenTree). HasScalar s.scope top g.cell g.scalar))
  initials_cells m static s top n c i (and_value v values) p h b =
      next_cells m static s top n c i v values p h b (λ k d x. initial_cells m static s top k d v h x)
      (λ t l x. initials_cells m static t top n c (suc i) values p l x) (part s.scope n i) refl

-- ## Objects of static storage, which add nothing to a body

abbrev number_of_static : Static → ℕ
number_of_static o = o.of.number

pub got_last : (xs : List Static) (x : Static)
    → option_map number_of_static (slice_get (xs ++ x ∷ []) (length xs)) ≡ Some x.of.number
got_last [] x = refl
got_last (y ∷ xs) x = got_last xs x

got_set : (xs : List Static) (k : ℕ) (new : Static) (j n : ℕ) → new.of.number ≡ (get_or xs k no_static).of.number
    → option_map number_of_static (slice_get xs j) ≡ Some n
    → option_map number_of_static (slice_get (slice_set xs k new) j) ≡ Some n
got_set [] k new j n e h = absurd (none-some n h)
got_set (x ∷ xs) zero new zero n e h = ap Some e ∙ h
got_set (x ∷ xs) zero new (suc j) n e h = h
got_set (x ∷ xs) (suc k) new zero n e h = h
got_set (x ∷ xs) (suc k) new (suc j) n e h = got_set xs k new j n e h

pub set_continues : (m : ℕ) (s : State) (k : ℕ) (new : Static) → IsLawfulState m s
    → new.of.number ≡ (static s k).of.number
    → Continues m s (with_static s k new)
set_continues m s k new h e =
    let statics : List Static = slice_set s.statics k new in
    let t : State = record s { statics = statics } in
    let more : length s.statics ≤ length statics = (let l = length-set s.statics k new in omega (arith, l)) in
    let keeps : Keeps s t = record {
      grown = grow_none s.scope;
      functions = omega arith;
      objects = kept;
      statics = more;
    } in record {
      lawful = record {
        tables = h.tables;
        names = all_bound m s t keeps s.scope.names h.names;
        linkage = all_linked s t keeps s.linkage h.linkage;
        functions = h.functions;
        statics = All-set (λ (o : Static). IsType s.scope o.of.number) s.statics k new
            (subst (IsType s.scope) (sym e) there) h.statics;
        locals = h.locals;
        uses = all_uses s t keeps s.uses h.uses;
        constants = h.constants;
        labels = h.labels;
      };
      keeps = keeps;
      added = [];
      names = sym (append-nil s.scope.names);
      outer = refl;
      functions = refl;
      declared = [];
      locals = sym (append-nil s.locals);
    }
  where
    kept : (o : ObjectNumber) (n : ℕ) → object_type s.statics s.locals o ≡ Some n
        → object_type (slice_set s.statics k new) s.locals o ≡ Some n
    kept (Objects.Static j) n f = got_set s.statics k new j n e f
    kept (Objects.Local j) n f = f

    there : IsType s.scope (static s k).of.number
    there = elim (cases_lt k (length s.statics)) [
      | inl l ↦ All-get_or (λ (o : Static). IsType s.scope o.of.number) s.statics k no_static l h.statics
      | inr past ↦ subst (λ (o : Static). IsType s.scope o.of.number) (sym (get_or_past s.statics k no_static past))
          (void_is_type s.scope h.tables)
    ]

initialised : (m : ℕ) (s : State) (k : ℕ) (i : Option InitialiserTree) → IsLawfulState m s
    → OnAnswer (Continues m s) (initialised_static s k i)
initialised m s k None h = continues_none m s h
initialised m s k (Some i) h =
    then_on (Gives m s) (Continues m s) (initial true s (static_type s k).number 0 i.value)
    _ (initial_gives m true s (static_type s k).number 0 i.value h)
    (λ g c. continues_on m s g.1 (with_static g.1 k (record (static g.1 k) { given = map (static_cell_of g.1) g.0 }))
    c.0
    (set_continues m g.1 k (record (static g.1 k) { given = map (static_cell_of g.1) g.0 }) c.0.lawful refl))

pub object_on : {A : Type 0} (m : ℕ) (s t : State) (d : Declared) (Q : A → Type 0) (further : Result A Refusal)
    → DeclaresName m s (d, t)
    → (Continues m s t → IsType t.scope d.shape.of.number → OnAnswer Q further) → OnAnswer Q (object_rules t d further)
object_on m s t d Q further h f =
    on_row Q d.shape.left_out Kinds.Unsupported d.place _ (λ x.
    on_row Q (is_declared_here t d.name) Kinds.Redeclared d.place _ (λ y.
    on_row Q (is_no_object t.scope d.shape) Kinds.Mismatch d.place further
    (λ z. let g = h (object_parts t.scope d.shape z).0 in f g.0 g.1)))

state_since : (m : ℕ) (s t : State) (r : Result State Refusal) → Continues m s t → OnAnswer (Continues m t) r
    → OnAnswer (Continues m s) r
state_since m s t r c h = answer_weaker (Continues m t) (Continues m s) r (λ u k. continues_on m s t u c k) h

static_continues : (m : ℕ) (s t : State) (d : Declared) → DeclaresName m s (d, t)
    → OnAnswer (Continues m s) (static_object t d)
static_continues m s t d h =
    let k : ℕ = length t.statics in
    let u : State = new_static t d true in
    let x : State = bound_here u d (Names.Object (Objects.Static k) d.shape.of) in
    object_on m s t d (Continues m s) (initialised_static x k d.initialiser) h (λ c i.
    let e : Continues m t u = new_static_continues m t d true c.lawful i in
    let bound : IsBound m u (Names.Object (Objects.Static k) d.shape.of) =
    got_last t.statics (record {
      name = d.name;
      place = d.place;
      of = d.shape.of;
      defined = true;
      initialised = is_some d.initialiser;
      given = [];
    }) in
    let f : Continues m u x = name_continues m u d.name (Names.Object (Objects.Static k) d.shape.of) e.lawful bound in
    state_since m s x (initialised_static x k d.initialiser) (continues_on m s t x c (continues_on m t u x e f))
    (initialised m x k d.initialiser f.lawful))

-- a declaration `extern` without a value is one at file scope
or_left : (a b c : Bool) → (a || b || c) ≡ false → (a || c) ≡ false
or_left true b c e = e
or_left false true c e = absurd (false≢true (sym e))
or_left false false c e = e

same_row : (m : ℕ) (s : State) (a : Bool) (b : Bool) (k : _) (p : Place) (r r' : Result State Refusal)
    → (b ≡ false → a ≡ false) → OnAnswer (Continues m s) (row a k p r)
    → (OnAnswer (Continues m s) r → OnAnswer (Continues m s) r')
    → OnAnswer (Continues m s) (row b k p r')
same_row m s a true k p r r' i h f = tt
same_row m s true false k p r r' i h f = absurd (false≢true (sym (i refl)))
same_row m s false false k p r r' i h f = f h

extern_value_by : (m : ℕ) (s t : State) (d : Declared) (i : Option InitialiserTree) → d.initialiser ≡ i
    → OnAnswer (Continues m s)
    (initialised_static (let o : ℕ × State = linked_object t d false (linked t d.name) in o.1)
    (let o : ℕ × State = linked_object t d false (linked t d.name) in o.0) i)
    → OnAnswer (Continues m s)
    (then_with (extern_value t i) (λ u. Ok (let o : ℕ × State = linked_object u d false (linked u d.name) in o.1)))
extern_value_by m s t d None e h = h
extern_value_by m s t d (Some i) e h = none i.value
  where
    none : (v : ValueTree) → OnAnswer (Continues m s)
        (then_with (no_value t v) (λ u. Ok (let o : ℕ × State = linked_object u d false (linked u d.name) in o.1)))
    none (an_expression x) = refused (typed_in t x)
      where
        refused : (r : Result (OperandTree × State) Refusal)
            → OnAnswer (Continues m s)
            (then_with (then_with r (λ o. Err (record { kind = Kinds.Mismatch; place = place_of x; limit = None })))
            (λ u. Ok (let o : ℕ × State = linked_object u d false (linked u d.name) in o.1)))
        refused (Err y) = tt
        refused (Ok y) = tt
    none (a_list vs p) = tt

extern_continues : (m : ℕ) (s t : State) (d : Declared) → DeclaresName m s (d, t)
    → OnAnswer (Continues m s) (extern_object t d)
extern_continues m s t d h =
    let file = file_object_continues m s t true d h in
    same_row m s d.shape.left_out d.shape.left_out Kinds.Unsupported d.place _ _ (λ e. e) file (λ f.
    same_row m s (is_other (named_here t.scope d.name) (linked t d.name) || clashes t d (linked t d.name))
    (is_other (named_here t.scope d.name) (linked t d.name) || is_function (named t.scope d.name)
    || clashes t d (linked t d.name)) Kinds.Redeclared d.place _ _
    (or_left (is_other (named_here t.scope d.name) (linked t d.name)) (is_function (named t.scope d.name))
    (clashes t d (linked t d.name))) f (λ g.
    same_row m s (is_no_object t.scope d.shape) (is_no_object t.scope d.shape) Kinds.Mismatch d.place _ _ (λ e. e) g
    (λ i.
    extern_value_by m s t d d.initialiser refl i)))

-- ## Local objects

-- the state follows, and the objects are given cells of their types
abbrev pub LocatesCells : ℕ → State → Locals → Type 0
LocatesCells m s a = Continues m s a.1 × All (λ (l : LocalTree). GivesCells (context m a.1) l.object l.initialiser) a.0

abbrev InitialCells : ℕ → State → ℕ → LocalInitial → Type 0
InitialCells m s n a = Continues m s a.1
    × ((k : ℕ) → (context m a.1).type_of (Objects.Local k) ≡ Some n → GivesCells (context m a.1) k a.0)

local_initial : (m : ℕ) (s : State) (n : ℕ) (i : Option InitialiserTree) → IsLawfulState m s
    → OnAnswer (InitialCells m s n) (initialised_local s n i)
local_initial m s n None h = (continues_none m s h, λ k e. tt)
local_initial m s n (Some i) h =
    then_on (CellsOf m s n) (InitialCells m s n) (initial false s n 0 i.value)
    _ (initial_cells m false s n n 0 i.value h whole) (λ g c. (c.0, λ k e. (n, e, c.1)))

local_cells : (m : ℕ) (s t : State) (d : Declared) → DeclaresName m s (d, t)
    → OnAnswer (LocatesCells m s) (local_object t d)
local_cells m s t d h =
    let u : State = new_local t d in
    let o : LocalEntry = record { name = d.name; place = d.place; of = d.shape.of } in
    let x : State = record t { locals = t.locals ++ o ∷ [] } in
    object_on m s t d (LocatesCells m s) _ h (λ c i.
    let e : Continues m t x = local_added m t o c.lawful i in
    let f : Continues m x u =
    name_continues m x d.name (Names.Object (Objects.Local (length t.locals)) d.shape.of) e.lawful
    (local_bound t o) in
    let to_u : Continues m s u = continues_on m s t u c (continues_on m t x u e f) in
    then_on (InitialCells m u d.shape.of.number) (LocatesCells m s)
    (initialised_local u d.shape.of.number d.initialiser)
    _ (local_initial m u d.shape.of.number d.initialiser f.lawful) (λ a g. (
      continues_on m s u a.1 to_u g.0,
      All-cons (λ (l : LocalTree). GivesCells (context m a.1) l.object l.initialiser)
          (record { object = length t.locals; initialiser = a.0 }) []
          (g.1 (length t.locals) (g.0.keeps.objects (Objects.Local (length t.locals)) d.shape.of.number
          (local_bound t o)))
          (All-nil (λ (l : LocalTree). GivesCells (context m a.1) l.object l.initialiser)),
    )))

no_cells : (m : ℕ) (s : State) (r : Result State Refusal) → OnAnswer (Continues m s) r
    → OnAnswer (LocatesCells m s) (then_with r no_locals)
no_cells m s r h = then_on (Continues m s) (LocatesCells m s) r no_locals h
    (λ t c. (c, All-nil (λ (l : LocalTree). GivesCells (context m t) l.object l.initialiser)))

rules_cells : (m : ℕ) (s t : State) (storage : Option Storage) (d : Declared) → DeclaresName m s (d, t)
    → OnAnswer (LocatesCells m s) (local_rules t storage d)
rules_cells m s t (Some Storages.Typedef) d h = no_cells m s (typedef_rules t d) (typedef_continues m s t d h)
rules_cells m s t (Some Storages.Extern) d h = no_cells m s (extern_object t d) (extern_continues m s t d h)
rules_cells m s t (Some Storages.Static) d h = no_cells m s (static_object t d) (static_continues m s t d h)
rules_cells m s t (Some Storages.Register) d h = local_cells m s t d h
rules_cells m s t (Some Storages.Auto) d h = local_cells m s t d h
rules_cells m s t None d h = local_cells m s t d h

pub gives_stays : (m : ℕ) (s t : State) (k : ℕ) (i : Option LocalInitialiserTree) → Continues m s t → IsLawfulState m s
    → GivesCells (context m s) k i → GivesCells (context m t) k i
gives_stays m s t k None c h g = tt
gives_stays m s t k (Some i) c h g = (
  g.0,
  c.keeps.objects (Objects.Local k) g.0 g.1,
  cells_stay_given s.scope t.scope h.tables c.keeps.grown g.0 i.given g.2,
)

all_declared : (m : ℕ) (s : State) (said : Said) (found : List LocalTree) (ds : List InitDeclaratorTree)
    → Says m s (said, s) → All (λ (l : LocalTree). GivesCells (context m s) l.object l.initialiser) found
    → OnAnswer (LocatesCells m s) (local_declared s said found ds)
all_declared m s said found [] h k = (h.0, k)
all_declared m s said found (d ∷ ds) h k =
    then_on (DeclaresName m s) (LocatesCells m s) (declared_by s said d) _ (declared_by_declares m s said d h) (λ a g.
    then_on (LocatesCells m s) (LocatesCells m s) (local_rules a.1 said.storage a.0)
    _ (rules_cells m s a.1 said.storage a.0 g) (λ l c.
    let later : Says m l.1 (said, l.1) =
    (continues_none m l.1 c.0.lawful, said_stays s.scope l.1.scope c.0.keeps.grown said h.1) in
    let before : All (λ (x : LocalTree). GivesCells (context m l.1) x.object x.initialiser) found =
    All-weaker (λ (x : LocalTree). GivesCells (context m s) x.object x.initialiser)
    (λ (x : LocalTree). GivesCells (context m l.1) x.object x.initialiser)
    (λ x y. gives_stays m s l.1 x.object x.initialiser c.0 h.0.lawful y) found k in
    answer_weaker (LocatesCells m l.1) (LocatesCells m s) (local_declared l.1 said (found ++ l.0) ds)
    (λ b z. (continues_on m s l.1 b.1 c.0 z.0, z.1))
    (all_declared m l.1 said (found ++ l.0) ds later
    (All-append (λ (x : LocalTree). GivesCells (context m l.1) x.object x.initialiser) found l.0 before c.1))))

pub tag_continues : (m : ℕ) (s : State) (t : Tag) (o : Option Tagged) → IsLawfulState m s
    → OnAnswer (Continues m s) (tag_rules s t o)
tag_continues m s t None h =
    scope_continues m s (with_struct_tag t.name s.scope) h (struct_tag_follows s.scope t.name h.tables)
tag_continues m s t (Some (Tagging.Structure k)) h = continues_none m s h
tag_continues m s t (Some (Tagging.Enumeration z)) h = tt

form_cells : (m : ℕ) (s : State) (d : DeclarationTree) (t : Option Tag) → IsLawfulState m s
    → OnAnswer (LocatesCells m s) (local_form s d t)
form_cells m s d (Some t) h =
    no_cells m s (tag_rules s t (tagged_here s.scope t.name)) (tag_continues m s t (tagged_here s.scope t.name) h)
form_cells m s d None h =
    then_on (Says m s) (LocatesCells m s) (specified s d.specifiers) _ (specified_says m s d.specifiers h) (λ a g.
    answer_weaker (LocatesCells m a.1) (LocatesCells m s) (local_declared a.1 a.0 [] d.declarators)
    (λ b z. (continues_on m s a.1 b.1 g.0 z.0, z.1))
    (all_declared m a.1 a.0 [] d.declarators (continues_none m a.1 g.0.lawful, g.1)
    (All-nil (λ (l : LocalTree). GivesCells (context m a.1) l.object l.initialiser))))

pub declaration_cells : (m : ℕ) (s : State) (d : DeclarationTree) → IsLawfulState m s
    → OnAnswer (LocatesCells m s) (local_declaration s d)
declaration_cells m s d h = form_cells m s d (lone_tag d.specifiers d.declarators) h
