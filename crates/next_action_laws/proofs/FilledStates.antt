-- Cells of static storage are given values of their types, at every moment of typing.
use Rattle.std.proofs.Common.{◌≡◌, refl, ap, sym, subst, ◌∙◌, ℕ, ◌≤◌, inl, inr, Bool, true, false}
use Rattle.std.proofs.Common.{List, [], ◌∷◌, ◌++◌, length, get_or, Option, Some, None, slice_get, arith}
use Rattle.std.specs.Prelude.{nat_lt, is_none, option_map, map, All, Result}
use Rattle.std.proofs.lemmas.Bool.{false≢true, cases_lt, lt-ltb, ltb-true}
use Rattle.std.proofs.lemmas.Option.{slice_get-get_or}
use Rattle.std.proofs.lemmas.List.{append-nil, get_or_past}
use Rattle.std.proofs.lemmas.List.Elements.{All-nil, All-cons, All-head, All-tail, All-weaker, All-set, All-map}
use Rattle.cell_layout.specs.tm_cint.declared.int_types.IntType.{IntType}
use Rattle.cell_layout.specs.tm_cint.IntTypes.{IsIn}
use Rattle.cell_layout.specs.tm_terms.declared.refusals.Refusal.{Refusal}
use Rattle.cell_layout.specs.tm_terms.ExprTrees.{Tree}
use Rattle.cell_layout.specs.tm_trees.DeclarationTrees.{InitialiserTree}
use Rattle.cell_layout.specs.tm_typed.declared.types.CType.{CType}
use Rattle.cell_layout.specs.tm_typed.declared.types.CType.TheVariants as Types
use Rattle.cell_layout.specs.tm_typed.declared.types.TypeEntry.{TypeEntry}
use Rattle.cell_layout.specs.tm_typed.declared.types.Scalar.{Scalar}
use Rattle.cell_layout.specs.tm_typed.declared.types.Scalar.TheVariants as Scalars
use Rattle.cell_layout.specs.tm_typed.declared.scopes.Member.{Member}
use Rattle.cell_layout.specs.tm_typed.declared.scopes.ObjectNumber.TheVariants as Objects
use Rattle.cell_layout.specs.tm_typed.declared.files.LocalEntry.{LocalEntry}
use Rattle.cell_layout.specs.tm_typed.declared.files.StaticCell.{StaticCell}
use Rattle.cell_layout.specs.tm_typed.declared.files.StaticValue.{StaticValue}
use Rattle.cell_layout.specs.tm_typed.declared.files.StaticValue.TheVariants as Values
use Rattle.cell_layout.specs.tm_typed.declared.uses.Use.{Use}
use Rattle.cell_layout.specs.tm_typed.declared.uses.Used.{Used}
use Rattle.cell_layout.specs.tm_typed.declared.uses.Used.TheVariants as Uses
use Rattle.cell_layout.specs.tm_typed.Types.{no_type}
use Rattle.cell_layout.specs.tm_typed.Scopes.{Scope, Structure, no_structure, structure, entry, ctype_of, cells_by}
use Rattle.cell_layout.specs.tm_typed.Scopes.{cells_of}
use Rattle.cell_layout.specs.tm_typed.TypeRows.{clipped}
use Rattle.cell_layout.specs.tm_laid.TypeCells.{summed}
use Rattle.cell_layout.specs.tm_typed.TypedTrees.{RvalueTree, a_constant, a_folded, a_null, a_load, an_address}
use Rattle.cell_layout.specs.tm_typed.TypedTrees.{a_structure}
use Rattle.cell_layout.specs.tm_typed.TypedTrees.{the_same, a_unary, a_binary, a_comparison_of_pointers, a_move, a_not}
use Rattle.cell_layout.specs.tm_typed.TypedTrees.{an_and}
use Rattle.cell_layout.specs.tm_typed.TypedTrees.{an_or, a_choice, an_assignment, a_compound, a_compound_move}
use Rattle.cell_layout.specs.tm_typed.TypedTrees.{a_unit_step}
use Rattle.cell_layout.specs.tm_typed.TypedTrees.{a_pointer_step, a_function_call, an_input_value, a_probe, a_comma}
use Rattle.cell_layout.specs.tm_typed.TypedTrees.{a_conversion}
use Rattle.cell_layout.specs.tm_typed.TypedTrees.{a_discard, OperandTree}
use Rattle.cell_layout.specs.tm_typed.Refusals.{then_with}
use Rattle.cell_layout.specs.tm_typed.States.{State, Static, no_static, static, static_type}
use Rattle.cell_layout.specs.tm_typed.Evaluation.{typed_in}
use Rattle.cell_layout.specs.tm_typed.StaticValues.{static_value, as_converted}
use Rattle.cell_layout.specs.tm_typed.TypedStatements.{GivenTree}
use Rattle.cell_layout.specs.tm_typed.Initialisers.{initial, Given}
use Rattle.cell_layout.specs.tm_typed.Declarations.{value_or_null, static_cell_of, with_static, initialised_static}
use Rattle.cell_layout.specs.tm_typed.WellTyped.{ValueKind, a_number, a_pointer, Context, IsRvalue, IsOperand}
use Rattle.cell_layout.specs.tm_typed.WellTyped.{kind_of_scalar}
use Rattle.cell_layout.specs.tm_typed.WellTyped.{OnAnswer}
use Rattle.typed_file_laws.specs.Tables.{AreLawfulTables}
use Rattle.typed_file_laws.specs.Lawful.{context, IsUse, IsLawfulState}
use Rattle.typed_file_laws.specs.Bodies.{IsGivenCell}
use Rattle.typed_file_laws.specs.Mentions.{Mentions}
use Rattle.typed_file_laws.proofs.low.typing_laws.Steps.{then_on}
use Rattle.typed_file_laws.proofs.TableGrowth.{TablesGrow, entry_stays}
use Rattle.typed_file_laws.proofs.TableStructures.{structure_at}
use Rattle.typed_file_laws.proofs.StateSteps.{Keeps, Continues, continues_none, continues_on}
use Rattle.typed_file_laws.proofs.StateSteps.{Evaluates, typed_continues}
use Rattle.typed_file_laws.proofs.DeclarationSteps.{Gives, initial_gives}
use Rattle.typed_file_laws.proofs.FileSteps.{both}
use Rattle.next_action_laws.specs.Regular.{HasScalar, whole}
use Rattle.next_action_laws.proofs.RegularCells.{cell_stays, CellsOf, initial_cells, set_continues}
use Rattle.next_action_laws.proofs.StaticMentions.{Passes, UsesPass, first_pass, told_passes, Told, Says, typed_told}
use Rattle.next_action_laws.proofs.StaticMentions.{IsConstant, CellsMention, GivesConstants, initial_constant}
use Rattle.next_action_laws.proofs.StaticAddresses.{Suits, rvalue_suits}
use Rattle.next_action_laws.proofs.SameStatics.{kept_in}

-- ## Values for cells

-- an address in an object that is used, at an offset of at most its size
pub record IsReached (s : State) (o k : ℕ) : Type 0 where
  pub type : ℕ
  pub is : option_map (λ (x : Static). x.of.number) (slice_get s.statics o) ≡ Some type
  pub inside : k ≤ cells_of s.scope type
  pub used : (u : ℕ → Bool) → UsesPass u s.uses → u o ≡ true

abbrev pub ValueIn : State → Scalar → StaticValue → Type 0
ValueIn s (Scalars.Int t) (Values.Number z) = IsIn t z
ValueIn s (Scalars.Int t) Values.Null = ⊥
ValueIn s (Scalars.Int t) (Values.Address o k) = ⊥
ValueIn s (Scalars.Pointer c) (Values.Number z) = ⊥
ValueIn s (Scalars.Pointer c) Values.Null = Unit {0}
ValueIn s (Scalars.Pointer c) (Values.Address o k) = IsReached s o k

pub record IsFilledIn (s : State) (n : ℕ) (g : StaticCell) : Type 0 where
  pub type : Scalar
  pub cell : HasScalar s.scope n g.cell type
  pub value : ValueIn s type g.value

abbrev pub IsFilledObject : State → Static → Type 0
IsFilledObject s o = All (IsFilledIn s o.of.number) o.given

abbrev pub AreFilledIn : State → Type 0
AreFilledIn s = All (IsFilledObject s) s.statics

-- ## What stays

structure_grows : (v w : Scope) → AreLawfulTables v → TablesGrow v w → (k : ℕ) (b : Bool)
    → (structure v k).complete ≡ b → (structure v k).cells ≤ (structure w k).cells
structure_grows v w h g k true e = let q = ap (λ (s : Structure). s.cells) (g.structures k e) in omega (arith, q)
structure_grows v w h g k false e = elim (cases_lt k (length v.structs)) [
  | inl lt ↦
      (let s = structure_at v h k lt in
      let none : (structure v k).cells ≡ 0 = s.cells ∙ by_members (structure v k).members (s.empty e) in
      omega (arith, none))
  | inr ge ↦
      (let q = ap (λ (s : Structure). s.cells) (get_or_past v.structs k no_structure ge) in omega (arith, q))
]
  where
    by_members : (ms : List Member) → ms ≡ [] → clipped (summed (cells_of v) ms) ≡ 0
    by_members [] q = omega arith
    by_members (m ∷ ms) q = absurd cc

cells_grow_by : (v w : Scope) → AreLawfulTables v → TablesGrow v w → (x : TypeEntry) (t : CType)
    → cells_by v x t ≤ cells_by w x t
cells_grow_by v w h g x Types.Void = omega arith
cells_grow_by v w h g x (Types.Int t) = omega arith
cells_grow_by v w h g x (Types.Pointer q) = omega arith
cells_grow_by v w h g x (Types.Array e n) = omega arith
cells_grow_by v w h g x (Types.Struct k) = structure_grows v w h g k (structure v k).complete refl

pub cells_grow : (v w : Scope) → AreLawfulTables v → TablesGrow v w → (n : ℕ) → cells_of v n ≤ cells_of w n
cells_grow v w h g n = elim (cases_lt n (length v.types)) [
  | inl lt ↦ subst (λ (x : TypeEntry). cells_of v n ≤ cells_by w x x.ctype) (sym (entry_stays v w g n lt))
      (cells_grow_by v w h g (entry v n) (ctype_of v n))
  | inr ge ↦
      (let q = ap (λ (x : TypeEntry). cells_by v x x.ctype) (get_or_past v.types n no_type ge) in
      omega (arith, q))
]

-- More is found and used, and objects of static storage keep their types.
pub record Carries (s t : State) : Type 0 where
  pub lawful : AreLawfulTables s.scope
  pub grown : TablesGrow s.scope t.scope
  pub types : (k n : ℕ) → option_map (λ (x : Static). x.of.number) (slice_get s.statics k) ≡ Some n
      → option_map (λ (x : Static). x.of.number) (slice_get t.statics k) ≡ Some n
  pub more : List Use
  pub uses : t.uses ≡ s.uses ++ more

pub carries_by : (s t : State) → AreLawfulTables s.scope → Keeps s t → (more : List Use) → t.uses ≡ s.uses ++ more
    → Carries s t
carries_by s t h k more e =
    record { lawful = h; grown = k.grown; types = λ o n q. k.objects (Objects.Static o) n q; more = more; uses = e }

value_carried : (s t : State) → Carries s t → (c : Scalar) (v : StaticValue) → ValueIn s c v → ValueIn t c v
value_carried s t c (Scalars.Int x) (Values.Number z) h = h
value_carried s t c (Scalars.Int x) Values.Null h = h
value_carried s t c (Scalars.Int x) (Values.Address o k) h = h
value_carried s t c (Scalars.Pointer x) (Values.Number z) h = h
value_carried s t c (Scalars.Pointer x) Values.Null h = h
value_carried s t c (Scalars.Pointer x) (Values.Address o k) h = record {
  type = h.type;
  is = c.types o h.type h.is;
  inside = let a = h.inside in let b = cells_grow s.scope t.scope c.lawful c.grown h.type in omega (arith, a, b);
  used = λ u p. h.used u (first_pass u s.uses c.more (subst (UsesPass u) c.uses p));
}

pub object_carried : (s t : State) → Carries s t → (n : ℕ) (gs : List StaticCell) → All (IsFilledIn s n) gs
    → All (IsFilledIn t n) gs
object_carried s t c n gs h = All-weaker (IsFilledIn s n) (IsFilledIn t n) (λ g x. record {
  type = x.type;
  cell = cell_stays s.scope t.scope c.lawful c.grown n g.cell x.type x.cell;
  value = value_carried s t c x.type g.value x.value;
}) gs h

pub objects_carried : (s t : State) → Carries s t → (os : List Static) → All (IsFilledObject s) os
    → All (IsFilledObject t) os
objects_carried s t c os h =
    All-weaker (IsFilledObject s) (IsFilledObject t) (λ o x. object_carried s t c o.of.number o.given x) os h

-- with the same objects
pub same_objects : (s t : State) → Carries s t → t.statics ≡ s.statics → AreFilledIn s → AreFilledIn t
same_objects s t c e h =
    subst (λ (os : List Static). All (IsFilledObject t) os) (sym e) (objects_carried s t c s.statics h)

-- ## Steps

-- a step within a block, behind which cells of static storage are given values of their types if they were before it
pub record Further (m : ℕ) (s t : State) : Type 0 where
  pub continues : Continues m s t
  pub lawful : IsLawfulState m t
  pub keeps : Keeps s t
  pub declared : List LocalEntry
  pub locals : t.locals ≡ s.locals ++ declared
  pub filled : AreFilledIn s → AreFilledIn t

pub further_by : (m : ℕ) (s t : State) → Continues m s t → (AreFilledIn s → AreFilledIn t) → Further m s t
further_by m s t c f = record {
  continues = c;
  lawful = c.lawful;
  keeps = c.keeps;
  declared = c.declared;
  locals = c.locals;
  filled = f;
}

pub further_none : (m : ℕ) (s : State) → IsLawfulState m s → Further m s s
further_none m s h = further_by m s s (continues_none m s h) (λ f. f)

pub further_on : (m : ℕ) (s t u : State) → Further m s t → Further m t u → Further m s u
further_on m s t u c d =
    further_by m s u (continues_on m s t u c.continues d.continues) (λ f. d.filled (c.filled f))

-- with the same objects of static storage
pub further_with : (m : ℕ) (s t : State) → IsLawfulState m s → Continues m s t → t.statics ≡ s.statics
    → (more : List Use) → t.uses ≡ s.uses ++ more → Further m s t
further_with m s t h c e more u =
    further_by m s t c (same_objects s t (carries_by s t h.tables c.keeps more u) e)

pub further_same : (m : ℕ) (s t : State) → IsLawfulState m s → Continues m s t → kept_in t ≡ kept_in s → Further m s t
further_same m s t h c e =
    further_with m s t h c (ap (λ (x : List Static × List Use). x.0) e) []
    (ap (λ (x : List Static × List Use). x.1) e ∙ sym (append-nil s.uses))

pub further_told : (m : ℕ) (s t : State) (P : (ℕ → Bool) → List ℕ → Type 0) → IsLawfulState m s → Continues m s t
    → Told s t P → Further m s t
further_told m s t P h c a = further_with m s t h c a.statics a.used a.uses

pub evaluated_further : {B : Type 0} (m : ℕ) (s : State) (t : Tree) (Q : B → Type 0)
    (k : OperandTree × State → Result B Refusal) → IsLawfulState m s
    → ((a : OperandTree × State) → Further m s a.1 → IsOperand (context m a.1) a.0 → OnAnswer Q (k a))
    → OnAnswer Q (then_with (typed_in s t) k)
evaluated_further m s t Q k h f =
    then_on (λ (a : OperandTree × State). Evaluates m s a × Says s a) Q (typed_in s t) k
    (both (Evaluates m s) (Says s) (typed_in s t) (typed_continues m s t h) (typed_told s t))
    (λ a e. f a (further_told m s a.1 _ h e.0.0 e.1) e.0.1)

-- ## What initialisers give

-- a number does not depend on the objects
same_number : (s t : State) (w : Context) (f : IntType) (e : RvalueTree) → IsRvalue w (a_number f) e
    → static_value s e ≡ static_value t e
same_number s t w f (a_constant x z p) i = refl
same_number s t w f (a_folded z e) i = refl
same_number s t w f (a_null p) i = absurd cc
same_number s t w f (a_load c b l) i = refl
same_number s t w f (an_address l p) i = absurd (let q = i.1 in cc)
same_number s t w f (a_structure l) i = refl
same_number s t w f (the_same e p) i = same_number s t w f e i
same_number s t w f (a_unary o x e p) i = refl
same_number s t w f (a_binary o x l r p) i = refl
same_number s t w f (a_comparison_of_pointers b l r p) i = refl
same_number s t w f (a_move b c x e y p) i = absurd (let q = i.1 in cc)
same_number s t w f (a_not e p) i = refl
same_number s t w f (an_and l r p) i = refl
same_number s t w f (an_or l r p) i = refl
same_number s t w f (a_choice c x y p) i = refl
same_number s t w f (an_assignment c l e p) i = refl
same_number s t w f (a_compound o c x b l e p) i = refl
same_number s t w f (a_compound_move b c d l e p) i = refl
same_number s t w f (a_unit_step x c y b l p) i = refl
same_number s t w f (a_pointer_step x c d l p) i = refl
same_number s t w f (a_function_call x y es p) i = refl
same_number s t w f (an_input_value low high p) i = refl
same_number s t w f (a_probe x p) i = refl
same_number s t w f (a_comma l r p) i = refl
same_number s t w f (a_conversion from to e p) i = ap (as_converted to) (same_number s t w from e i.1)
same_number s t w f (a_discard e p) i = refl

one_within : (s : State) (x : Used) → IsUse s x → Passes (λ k. nat_lt k (length s.statics)) x
one_within s (Uses.Static k) h = lt-ltb k (length s.statics) h
one_within s (Uses.Function f) h = tt

uses_within : (s : State) (us : List Use) → All (λ (u : Use). IsUse s u.used) us
    → UsesPass (λ k. nat_lt k (length s.statics)) us
uses_within s [] h = tt
uses_within s (u ∷ us) h = (
  one_within s u.used (All-head (λ (x : Use). IsUse s x.used) u us h),
  uses_within s us (All-tail (λ (x : Use). IsUse s x.used) u us h),
)

module _ (m : ℕ) (s : State) (h : IsLawfulState m s) where
  abbrev Mentioned : RvalueTree → Type 0
  Mentioned e = (u : ℕ → Bool) → UsesPass u s.uses → (c : List ℕ) × Mentions u c e

  abbrev Suitable : ValueKind → Option StaticValue → Type 0
  Suitable k x = (u : ℕ → Bool) → UsesPass u s.uses → Suits m s h u [] k x

  suitable : (k : ValueKind) (e : RvalueTree) → IsRvalue (context m s) k e → Mentioned e
      → Suitable k (static_value s e)
  suitable k e i f u p = let x = f u p in same_suits u x.0 k (static_value s e) (rvalue_suits m s h u x.0 k e i x.1)
    where
      same_suits : (u : ℕ → Bool) (c : List ℕ) (k : ValueKind) (x : Option StaticValue) → Suits m s h u c k x
          → Suits m s h u [] k x
      same_suits u c k x y = y

  number_in_state : (t : IntType) (x : Option StaticValue) → Suitable (a_number t) x → is_none x ≡ false
      → ValueIn s (Scalars.Int t) (value_or_null x)
  number_in_state t None f e = absurd (false≢true (sym e))
  number_in_state t (Some (Values.Number z)) f e = f (λ k. nat_lt k (length s.statics)) (uses_within s s.uses h.uses)
  number_in_state t (Some Values.Null) f e = f (λ k. nat_lt k (length s.statics)) (uses_within s s.uses h.uses)
  number_in_state t (Some (Values.Address o k)) f e =
      f (λ k. nat_lt k (length s.statics)) (uses_within s s.uses h.uses)

  address_in_state : (c : ℕ) (x : Option StaticValue) → Suitable a_pointer x
      → ValueIn s (Scalars.Pointer c) (value_or_null x)
  address_in_state c None f = tt
  address_in_state c (Some (Values.Number z)) f =
      f (λ k. nat_lt k (length s.statics)) (uses_within s s.uses h.uses)
  address_in_state c (Some Values.Null) f = tt
  address_in_state c (Some (Values.Address o k)) f =
      let y = f (λ k. nat_lt k (length s.statics)) (uses_within s s.uses h.uses) in
      let lt = ltb-true o (length s.statics) y.2 in
      let a = y.0 in
      let b = y.1 in
      record {
        type = (static_type s o).number;
        is = ap (option_map (λ (x : Static). x.of.number)) (slice_get-get_or s.statics o no_static lt);
        inside = omega (arith, a, b);
        used = λ u p. (f u p).2;
      }

  value_in_state : (c : Scalar) (e : RvalueTree) → IsRvalue (context m s) (kind_of_scalar c) e → Mentioned e
      → (t : State) → is_none (static_value t e) ≡ false → ValueIn s c (value_or_null (static_value s e))
  value_in_state (Scalars.Int x) e i f t q =
      number_in_state x (static_value s e) (suitable (a_number x) e i f)
      (ap is_none (same_number s t (context m s) x e i) ∙ q)
  value_in_state (Scalars.Pointer x) e i f t q =
      address_in_state x (static_value s e) (suitable a_pointer e i f)

  filled_cells : (n : ℕ) (gs : List GivenTree) → All (IsGivenCell (context m s)) gs
      → All (λ (g : GivenTree). HasScalar s.scope n g.cell g.scalar) gs
      → ((u : ℕ → Bool) → UsesPass u s.uses → (c : List ℕ) × CellsMention gs u c) → All (IsConstant true) gs
      → All (λ (g : GivenTree). IsFilledIn s n (static_cell_of s g)) gs
  filled_cells n [] i j f k = All-nil (λ (g : GivenTree). IsFilledIn s n (static_cell_of s g))
  filled_cells n (g ∷ gs) i j f k =
      let q = All-head (IsConstant true) g gs k refl in
      All-cons (λ (x : GivenTree). IsFilledIn s n (static_cell_of s x)) g gs
      (record {
        type = g.scalar;
        cell = All-head (λ (x : GivenTree). HasScalar s.scope n x.cell x.scalar) g gs j;
        value = value_in_state g.scalar g.value (All-head (IsGivenCell (context m s)) g gs i)
            (λ u p. let x = f u p in (x.0, All-head (λ (y : GivenTree). Mentions u x.0 y.value) g gs x.1)) q.0 q.1;
      })
      (filled_cells n gs (All-tail (IsGivenCell (context m s)) g gs i)
      (All-tail (λ (x : GivenTree). HasScalar s.scope n x.cell x.scalar) g gs j)
      (λ u p. let x = f u p in (x.0, All-tail (λ (y : GivenTree). Mentions u x.0 y.value) g gs x.1))
      (All-tail (IsConstant true) g gs k))

-- an object of static storage is set to one of the same type
pub set_further : (m : ℕ) (s : State) (k : ℕ) (new : Static) → IsLawfulState m s
    → new.of.number ≡ (static s k).of.number → (AreFilledIn s → IsFilledObject s new)
    → Further m s (with_static s k new)
set_further m s k new h e f =
    let t : State = with_static s k new in
    let c : Continues m s t = set_continues m s k new h e in
    let by : Carries s t = carries_by s t h.tables c.keeps [] (sym (append-nil s.uses)) in
    further_by m s t c (λ a.
    All-set (IsFilledObject t) s.statics k new (object_carried s t by new.of.number new.given (f a))
    (objects_carried s t by s.statics a))

abbrev Initialises : ℕ → State → ℕ → Given → Type 0
Initialises m s n a = (Gives m s a × CellsOf m s n a) × GivesConstants true s a

pub initialised_further : (m : ℕ) (s : State) (k : ℕ) (i : Option InitialiserTree) → IsLawfulState m s
    → OnAnswer (Further m s) (initialised_static s k i)
initialised_further m s k None h = further_none m s h
initialised_further m s k (Some i) h =
    let n : ℕ = (static_type s k).number in
    then_on (Initialises m s n) (Further m s) (initial true s n 0 i.value) _
    (both (λ (a : Given). Gives m s a × CellsOf m s n a) (GivesConstants true s) (initial true s n 0 i.value)
    (both (Gives m s) (CellsOf m s n) (initial true s n 0 i.value) (initial_gives m true s n 0 i.value h)
    (initial_cells m true s n n 0 i.value h whole)) (initial_constant true s n 0 i.value)) (λ g c.
    let t : State = g.1 in
    let new : Static = record (static t k) { given = map (static_cell_of t) g.0 } in
    let first : Further m s t = further_told m s t _ h c.0.0.0 c.1.0 in
    let same : n ≡ (static t k).of.number =
    ap (λ (os : List Static). let o : Static = get_or os k no_static in o.of.number) (sym c.1.0.statics) in
    further_on m s t (with_static t k new) first
    (set_further m t k new first.lawful refl (λ a.
    All-map (IsFilledIn t (static t k).of.number) (static_cell_of t) g.0
    (subst (λ x. All (λ (y : GivenTree). IsFilledIn t x (static_cell_of t y)) g.0) same
    (filled_cells m t first.lawful n g.0 c.0.0.1 c.0.1.1 (λ u p. told_passes s t (CellsMention g.0) c.1.0 u p)
    c.1.1)))))
