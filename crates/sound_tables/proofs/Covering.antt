-- The tables of a solution cover each step that a task can take.
use Rattle.std.specs.Prelude.{◌≡◌, ◌⊎◌, ℕ, ◌<◌, ◌≤◌, nat_lt, Bool, true, false, cond}
use Rattle.std.specs.Prelude.{is_none}
use Rattle.std.specs.Prelude.{List, length, Option, Some, None}
use Rattle.std.proofs.Common.{refl, sym, ap, subst, ◌∙◌, inl, inr, arith}
use Rattle.std.proofs.lemmas.List.{get_or_past}
use Rattle.std.specs.Prelude.{bit_or}
use Rattle.std.specs.Int.{bit_at}
use Rattle.std.proofs.lemmas.Nat.Bits.{bit_at_or, bit_at_above}
use Rattle.program_reports.specs.cell_env.Cells.{IsWithin}
use Rattle.program_reports.specs.state_fits.Fits.{FitsCell}
use Rattle.program_reports.specs.state_fits.laws.FileSets.{in_sixteen}
use Rattle.program_shape.specs.tm_laid.declared.objects.LaidObject.{LaidObject}
use Rattle.program_shape.specs.tm_laid.Layouts.{no_object}
use Rattle.program_reports.specs.edge_actions.Layouts.{is_owned_by}
use Rattle.program_shape.specs.concrete_steps.Worlds.{is_part}
use Rattle.program_reports.specs.transfer_rows.Actions.{usable}
use Rattle.std.specs.Prelude.{if◌then◌else◌}
use Rattle.std.proofs.lemmas.Bool.{eq-eqb, eqb-true, ne_eqb, cases_eq, cases_lt}
use Rattle.program_reports.proofs.low.edge_actions.Lists.{lt_from}
use Rattle.program_shape.specs.tm_cint.declared.Class.{Class}
use Rattle.program_shape.specs.tm_typed.declared.types.Scalar.{Scalar}
use Rattle.program_shape.specs.tm_laid.Layouts.{LaidTree, path_at, object_at, cell_at, abstract_at, cell_of}
use Rattle.program_shape.specs.concrete_values.declared.values.Pointer.{Pointer}
use Rattle.program_shape.specs.concrete_values.declared.values.Pointer.TheVariants as Pointers
use Rattle.program_shape.specs.concrete_values.declared.values.Value.{Value}
use Rattle.program_shape.specs.concrete_values.declared.values.Value.TheVariants.{Number, Pointer as APointer}
use Rattle.program_shape.specs.flow_graph.Operations.{Temps, put_at}
use Rattle.program_reports.specs.pointer_dom.Pointer.{ScalarValue, number as a_number, pointer, to}
use Rattle.program_reports.specs.pointer_dom.Values.{Values, IsValueIn}
use Rattle.program_reports.specs.interfere_set.Stores.{Interferences}
use Rattle.program_reports.specs.transfer_rows.StateForms.{Cell, State, value_of}
use Rattle.program_reports.specs.transfer_rows.Actions.{Action, Around, Spot, skips, gives, refines, loads_any}
use Rattle.program_reports.specs.transfer_rows.Rows.{after}
use Rattle.program_reports.specs.transfer_rows.Reports.{IsListed}
use Rattle.program_reports.specs.transfer_rows.Meanings.{Valuation, put, IsSpotOf}
use Rattle.program_reports.specs.transfer_rows.Covering.{AreIn, HasTemp, HasCell, AreLocalsIn, LeadsTo, IsCopyOf}
use Rattle.program_reports.specs.transfer_rows.Covering.{IsPending, IsFresh}
use Rattle.program_reports.specs.transfer_rows.Covering.{IsStored}
use Rattle.program_reports.specs.transfer_rows.Covering as rows
use Rattle.program_reports.proofs.low.transfer_rows.CoverSteps.{some_same, in_temp}
use Rattle.program_reports.proofs.low.transfer_rows.CoverValues.{given_in, fails_in}
use Rattle.program_reports.proofs.low.transfer_rows.Covers.{give_covers, skip_covers}
use Rattle.program_reports.proofs.low.transfer_rows.FilterLaws.{filter_covers}
use Rattle.program_reports.specs.edge_actions.Layouts.{is_reachable, is_shared_cell, spots_of}
use Rattle.program_reports.specs.state_fits.Fits.{IsSeenCell}
use Rattle.program_shape.specs.Shape.{Points, IsShared, IsOwned}
use Rattle.program_shape.specs.Shape.{abstract_of_cell}
use Rattle.sound_tables.specs.Premises.{LaysCells}
use Rattle.sound_tables.specs.Meanings.{Means, FailsAs, IsUsed}
use Rattle.sound_tables.specs.Memberships.{scalar_as, scalars_as, address_as, HasState}
use Rattle.sound_tables.proofs.Shaped.{abstract_within}
use Rattle.sound_tables.proofs.Spots.{spot, spot_found}

-- ## Values

pub address_same : (a b : Pointer) → address_as a ≡ address_as b → a ≡ b
address_same Pointers.Null Pointers.Null h = refl
address_same Pointers.Null Pointers.Invalid h = cc
address_same Pointers.Null (Pointers.To o k) h = cc
address_same Pointers.Invalid Pointers.Null h = cc
address_same Pointers.Invalid Pointers.Invalid h = refl
address_same Pointers.Invalid (Pointers.To o k) h = cc
address_same (Pointers.To o k) Pointers.Null h = cc
address_same (Pointers.To o k) Pointers.Invalid h = cc
address_same (Pointers.To o k) (Pointers.To q j) h =
    let e : o ≡ q = cc in let f : k ≡ j = cc in ap (λ z. Pointers.To z k) e ∙ ap (λ z. Pointers.To q z) f

pointer_same : (a b : Pointer) → (let x : ScalarValue = address_as a in x ≡ address_as b) → APointer a ≡ APointer b
pointer_same a b h = ap APointer (address_same a b h)

number_pointer : (z : _) (b : Pointer) → a_number z ≡ address_as b → ⊥
number_pointer z Pointers.Null h = cc
number_pointer z Pointers.Invalid h = cc
number_pointer z (Pointers.To o k) h = cc

-- values are told apart by the members that they are
pub scalar_same : (a b : Value) → scalar_as a ≡ scalar_as b → a ≡ b
scalar_same (Number x) (Number y) h = let e : x ≡ y = cc in ap Number e
scalar_same (Number x) (APointer q) h = absurd (number_pointer x q h)
scalar_same (APointer q) (Number y) h = absurd (number_pointer y q (sym h))
scalar_same (APointer a) (APointer b) h = pointer_same a b h

put_by : (temps : Temps) (t : ℕ) (v : Value) (u : ℕ) → (u ≡ t) ⊎ (u ≡ t → ⊥)
    → scalar_as (put_at t v temps u) ≡ put (scalars_as temps) t (scalar_as v) u
put_by temps t v u (inl e) =
    ap (λ b. scalar_as (if b then v else temps u)) (eq-eqb t u (sym e))
    ∙ ap (λ b. cond b (scalar_as v) (scalar_as (temps u))) (sym (eq-eqb u t e))
put_by temps t v u (inr ne) =
    ap (λ b. scalar_as (if b then v else temps u)) (ne_eqb t u (λ k. ne (sym k)))
    ∙ ap (λ b. cond b (scalar_as v) (scalar_as (temps u))) (sym (ne_eqb u t ne))

pub put_as : (temps : Temps) (t : ℕ) (v : Value)
    → scalars_as (put_at t v temps) ≡ put (scalars_as temps) t (scalar_as v)
put_as temps t v = λ k u. put_by temps t v u (cases_eq u t) k

-- ## States of nodes

pub got : {part : State → Type 0} (o : Option State) (s : State) → o ≡ Some s → HasState o part → part s
got {part} o s at h = subst part (some_same o h.state s h.is at) h.holds

pub have : {part : State → Type 0} (o : Option State) (s : State) → o ≡ Some s → part s → HasState o part
have o s at h = record { state = s; is = at; holds = h }

-- ## Cells

pub not_below : (m n : ℕ) → n ≤ m → nat_lt m n ≡ false
not_below m n most = by_case (nat_lt m n) refl
  where
    by_case : (b : Bool) → nat_lt m n ≡ b → nat_lt m n ≡ false
    by_case true e = absurd (let less = lt_from m n e in omega (arith, less, most))
    by_case false e = e

none_true : (o : Option ℕ) → o ≡ None → is_none o ≡ true
none_true o e = ap is_none e

is_none_from : (o : Option ℕ) → is_none o ≡ true → o ≡ None
is_none_from None h = refl
is_none_from (Some x) h = cc

object_there : (laid : LaidTree) (o k : ℕ) → k < (object_at laid o).cells → o < length laid.objects
object_there laid o k lt = by_case (cases_lt o (length laid.objects))
  where
    by_case : (o < length laid.objects) ⊎ (length laid.objects ≤ o) → o < length laid.objects
    by_case (inl less) = less
    by_case (inr most) =
        let past = get_or_past laid.objects o no_object most in
        let none : (object_at laid o).cells ≡ 0 = ap (λ (x : LaidObject). x.cells) past in
        absurd (omega (arith, lt, none))

module _ (laid : LaidTree) (task : ℕ) where
  owner_reaches : (o : Option ℕ) → o ≡ None → is_owned_by laid task o ≡ true
  owner_reaches o e = ap (is_owned_by laid task) e

  pub path_reaches : (o : Option ℕ) (path : ℕ) → o ≡ Some path → (path_at laid path).body ≡ task
      → is_owned_by laid task o ≡ true
  path_reaches o path e own = ap (is_owned_by laid task) e ∙ eq-eqb (path_at laid path).body task own

  path_of : (o : Option ℕ) → is_owned_by laid task o ≡ true → is_none o ≡ false
      → (path : ℕ) × (o ≡ Some path) × ((path_at laid path).body ≡ task)
  path_of None h k = absurd (cc)
  path_of (Some path) h k = (path, refl, eqb-true (path_at laid path).body task h)

  -- a local cell that the task has is its own
  pub owned_from : (x : ℕ) → IsSeenCell laid task x → is_shared_cell laid x ≡ false → IsOwned laid x task
  owned_from x seen local =
      let k = path_of (object_at laid (abstract_at laid x).object).owner seen.seen local in
      record { within = seen.cell; path = k.0; owner = k.1; own = k.2 }

  -- a cell that a task may use is one that it has
  pub usable_reaches : (x : ℕ) → IsShared laid x ⊎ IsOwned laid x task
      → (x < length laid.abstract_cells) × (is_reachable laid task (abstract_at laid x).object ≡ true)
  usable_reaches x (inl h) =
      (h.within, owner_reaches (object_at laid (abstract_at laid x).object).owner h.static)
  usable_reaches x (inr h) =
      (h.within, path_reaches (object_at laid (abstract_at laid x).object).owner h.path h.owner h.own)

pub shared_test : (laid : LaidTree) (x : ℕ) → IsShared laid x → is_shared_cell laid x ≡ true
shared_test laid x h = none_true (object_at laid (abstract_at laid x).object).owner h.static

pub shared_from : (laid : LaidTree) (x : ℕ) → x < length laid.abstract_cells → is_shared_cell laid x ≡ true
    → IsShared laid x
shared_from laid x lt h = record {
  within = lt;
  static = is_none_from (object_at laid (abstract_at laid x).object).owner h;
}

-- a cell whose abstract cell there is, is there
pub cell_within : (laid : LaidTree) (c x : ℕ) → abstract_of_cell laid c ≡ x → x < length laid.abstract_cells
    → (c < length laid.cells) × ((cell_at laid c).abstract_cell ≡ x)
cell_within laid c x e lt = by_case (cases_lt c (length laid.cells))
  where
    by_case : (c < length laid.cells) ⊎ (length laid.cells ≤ c)
        → (c < length laid.cells) × ((cell_at laid c).abstract_cell ≡ x)
    by_case (inl less) = (less, sym (abstract_within laid c less) ∙ e)
    by_case (inr most) =
        let past : abstract_of_cell laid c ≡ length laid.abstract_cells =
        ap (λ b. cond b (cell_at laid c).abstract_cell (length laid.abstract_cells))
        (not_below c (length laid.cells) most) in
        absurd (omega (arith, lt, past, e))

-- an access to a cell, at the level of rows
pub record IsSpotAt (laid : LaidTree) (task : ℕ) (scalar : Scalar) (v : Value) (c : ℕ) : Type 0 where
  pub spot : Spot
  pub among : IsSpotOf (spots_of laid task scalar) spot
  pub cell : spot.cell ≡ abstract_of_cell laid c
  pub address : scalar_as v ≡ pointer (to spot.object spot.offset)
  pub seen : IsSeenCell laid task (abstract_of_cell laid c)
  pub within : c < length laid.cells

pub spot_at : (laid : LaidTree) → LaysCells laid → (task : ℕ) (scalar : Scalar) (v : Value) (c : ℕ)
    → Points laid v c → IsShared laid (abstract_of_cell laid c) ⊎ IsOwned laid (abstract_of_cell laid c) task
    → (cell_at laid c).scalar ≡ scalar → IsSpotAt laid task scalar v c
spot_at laid cells task scalar v c points may typed =
    let o = points.object in
    let k = points.offset in
    let stands = cells.there o k points.inside in
    let within : c < length laid.cells = subst (λ z. z < length laid.cells) points.there stands.0 in
    let part : is_part laid o c ≡ true = subst (λ z. is_part laid o z ≡ true) points.there stands.1 in
    let abstract = abstract_within laid c within in
    let is = cells.parts o c within part in
    let object : (abstract_at laid (abstract_of_cell laid c)).object ≡ o =
    ap (λ x. (abstract_at laid x).object) abstract ∙ is.part in
    let reach = usable_reaches laid task (abstract_of_cell laid c) may in
    let reachable : is_reachable laid task o ≡ true =
    subst (λ z. is_reachable laid task z ≡ true) object reach.1 in
    let there = object_there laid o k points.inside in
    let at : (cell_at laid (cell_of laid o k)).scalar ≡ scalar =
    ap (λ z. (cell_at laid z).scalar) points.there ∙ typed in
    record {
      spot = spot laid task scalar o k reachable points.inside at;
      among = spot_found laid task scalar o k reachable points.inside at there;
      cell = ap (λ z. (cell_at laid z).abstract_cell) points.there ∙ sym abstract;
      address = ap scalar_as points.is;
      seen = record { cell = reach.0; seen = reach.1 };
      within = within;
    }

-- ## Pending mutexes

-- a set of the sixteen has only mutexes of these
pub within_small : (c k : ℕ) → IsWithin c 65535 → bit_at c k ≡ 1 → k < 16
within_small c k w one = by_case (cases_lt k 16)
  where
    by_case : (k < 16) ⊎ (16 ≤ k) → k < 16
    by_case (inl less) = less
    by_case (inr most) =
        let none : bit_at 65535 k ≡ 0 = bit_at_above 65535 16 k (omega arith) most in
        let sum = bit_at_or c 65535 k in
        let same : bit_at (bit_or c 65535) k ≡ bit_at 65535 k = ap (λ z. bit_at z k) w in
        absurd (omega (arith, one, none, sum, same))

pub cell_pending : (laid : LaidTree) (task x : ℕ) (a : Option Cell) (c : Cell) → FitsCell laid task x a → a ≡ Some c
    → IsWithin c.pending 65535
cell_pending laid task x None c fits e = absurd (cc)
cell_pending laid task x (Some d) c fits e =
    subst (λ (z : Cell). IsWithin z.pending 65535) (let f : d ≡ c = cc in f)
    (in_sixteen laid d.pending fits.1.pending)

-- ## Rows

module _ (around : Around) (sizes : ℕ → ℕ) (s : State) (temps : Valuation) (store : Interferences)
    (ins : AreIn s temps) (sized : rows.AreSized sizes s) where
  pub row_calc : AreLocalsIn around.is_shared s temps → (a : Action) (temps' : Valuation)
      → ((u : ℕ) → IsUsed a u → HasTemp s u)
      → ((spots : List Spot) (t address : ℕ) (range : Values) → a ≡ loads_any spots t address range → ⊥)
      → Means sizes a temps temps'
      → LeadsTo (after around a s store) (λ s'. rows.CoversCalculation s s' temps temps')
  row_calc locals skips temps' lives none h =
      subst (λ z. LeadsTo (after around skips s store) (λ s'. rows.CoversCalculation s s' temps z)) (sym h)
      (skip_covers around s temps ins store)
  row_calc locals (gives t what) temps' lives none h =
      subst (λ z. LeadsTo (after around (gives t what) s store)
      (λ s'. rows.CoversCalculation s s' temps z)) (sym h.2)
      (give_covers around s temps ins t what h.0 store
      (given_in sizes s temps ins sized what h.0 lives h.1))
  row_calc locals (refines filter) temps' lives none h =
      subst (λ z. LeadsTo (after around (refines filter) s store)
      (λ s'. rows.CoversCalculation s s' temps z)) (sym h.1)
      (filter_covers around temps s filter store ins locals lives h.0)
  row_calc locals (loads_any spots t address range) temps' lives none h =
      absurd (none spots t address range refl)
  row_calc locals a temps' lives none h = absurd h

  pub row_fails : (a : Action) (class : Class) → ((u : ℕ) → IsUsed a u → HasTemp s u) → FailsAs sizes a temps class
      → IsListed around a s class
  unfolding IsListed
  row_fails (gives t what) class lives h = fails_in sizes s temps ins sized what class lives h
  row_fails (refines (usable source)) class lives h =
      (h.0, subst (λ w. IsValueIn (value_of s source) w) h.1 (in_temp s temps source ins (lives source refl)))
  row_fails a class lives h = absurd h
