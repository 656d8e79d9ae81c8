-- What points to an object where its life begins, entry by entry.
use Rattle.std.proofs.Common.{◌≡◌, ◌≢◌, ◌↔◌, ◌⊎◌, ℕ, ◌<◌, inl, inr, refl, sym, ap, subst, ◌∙◌, List, length, Option}
use Rattle.std.proofs.Common.{Some, None}
use Rattle.std.proofs.Common.{Bool, true, false, not, cond, IsTrue, ◌+◌, ◌≤◌, arith}
use Rattle.std.specs.Prelude.{Contains}
use Rattle.std.specs.FinMap as map
use Rattle.std.specs.Ordering.{nat_cmp}
use Rattle.tm_lattice.specs.Tables.{Table, IsPast, IsNext}
use Rattle.tm_lattice.specs.laws.Keys.{same_key, other_key}
use Rattle.std.specs.Cmp.{nat_cmp_total}
use Rattle.std.proofs.lemmas.Bool.{cases_eq, cases_lt}
use Rattle.tm_terms.specs.declared.places.Place.{Place}
use Rattle.tm_typed.specs.declared.types.Scalar.{Scalar}
use Rattle.strided_dom.specs.Progression.{Progression, empty, Has, first_of}
use Rattle.strided_dom.proofs.Members.{not_in_empty, some_or_empty}
use Rattle.pointer_dom.specs.Values.{Values, no_value}
use Rattle.pointer_dom.specs.OffsetSets.{OffsetSet}
use Rattle.pointer_dom.specs.PointerSets.{Pointers, no_pointer, offsets_or_none, offsets_at}
use Rattle.flow_graph.specs.declared.operations.Operation.{Operation}
use Rattle.flow_graph.specs.declared.operations.Operation.TheVariants as Op
use Rattle.post_recheck.specs.transfer_rows.StateForms.{Temp, Cell, State, temp_value, value_of, own_value, own_of}
use Rattle.path_origins.specs.declared.origins.Life.{Life}
use Rattle.operand_orders.specs.Reached.{SolvedBody, operation_at, HasState, IsReached}
use Rattle.operand_orders.specs.access_races.reading.Ways.{HasOne}
use Rattle.operand_orders.specs.reading.Views.{AreCopiesOf, state_from, state_at}
use Rattle.open_choices.specs.Lifetimes.{PointsTo, StoresThrough, stores, IsLeftOver, in_cell, in_store, in_temporary}
use Rattle.open_choices.specs.reading.Left.{address_of, IsHeldByTemp, IsLeftIn, IsHeldBehind, IsHeldByCell}
use Rattle.open_choices.specs.reading.Left.{IsHeldByOthers, IsLeftHere}
use Rattle.open_choices.proofs.Searching.{has_entry}
use Rattle.open_choices.proofs.Tables.{entry_there}

-- ## Values

pub points_none : (v : Values) (object : ℕ) → map.get (let p = v.pointers in p.objects) object ≡ None
    → PointsTo v object → ⊥
points_none v object none h =
    not_in_empty h.offset (subst (λ a. (let o = offsets_or_none a in Has o.offsets h.offset)) none h.has)

pub points_nowhere : (v : Values) (object : ℕ) → v.pointers ≡ no_pointer → PointsTo v object → ⊥
points_nowhere v object none h =
    points_none v object (ap (λ (p : Pointers). map.get p.objects object) none ∙ map.get-empty nat_cmp object) h

pub points_no_offset : (v : Values) (object : ℕ) (o : OffsetSet)
    → map.get (let p = v.pointers in p.objects) object ≡ Some o → o.offsets ≡ empty → PointsTo v object → ⊥
points_no_offset v object o there none h =
    not_in_empty h.offset (subst (λ s. Has s h.offset) none
    (subst (λ a. (let q = offsets_or_none a in Has q.offsets h.offset)) there h.has))

pub points_there : (v : Values) (object : ℕ) (o : OffsetSet)
    → map.get (let p = v.pointers in p.objects) object ≡ Some o → (o.offsets ≡ empty → ⊥) → PointsTo v object
points_there v object o there some =
    let has : Has o.offsets (first_of o.offsets) =
    elim (some_or_empty o.offsets) [ inl h ↦ h | inr none ↦ absurd (some none) ] in record {
      offset = first_of o.offsets;
      has = subst (λ a. (let q = offsets_or_none a in Has q.offsets (first_of o.offsets))) (sym there) has;
    }

-- ## Temporaries

abbrev pub IsHolding : Option ℕ → ℕ → ℕ × Temp → Type 0
IsHolding own object e = (own ≡ Some e.0 → ⊥) × PointsTo e.1.value object

module _ (s : State) (own : Option ℕ) (object : ℕ) (items : List (ℕ × Temp)) (whole : items ≡ map.entries s.temps) where
  pub held_temp : HasOne (IsHolding own object) items → IsHeldByTemp s own object
  held_temp h = record {
    temp = h.one.0;
    other = h.is.0;
    points = subst (λ a. PointsTo (temp_value a) object) (sym (entry_there s.temps items whole h.one h.has)) h.is.1;
  }

  by_entry : (temp : ℕ) (a : Option Temp) → map.get s.temps temp ≡ a → (own ≡ Some temp → ⊥)
      → PointsTo (temp_value a) object → HasOne (IsHolding own object) items
  by_entry temp None e other points =
      absurd (points_nowhere no_value object refl points)
  by_entry temp (Some t) e other points =
      record { one = (temp, t); has = has_entry s.temps items whole temp t e; is = (other, points) }

  pub temp_held : IsHeldByTemp s own object → HasOne (IsHolding own object) items
  temp_held h = by_entry h.temp (map.get s.temps h.temp) refl h.other h.points

-- ## The address of a store

pub through : (op : Operation) (temp : ℕ) → StoresThrough op temp → address_of op ≡ Some temp
through op temp h = by h
  where
    by : {o : Operation} {t : ℕ} → StoresThrough o t → address_of o ≡ Some t
    by stores = refl

same_some : (x y : ℕ) → ◌≡◌ {A = Option ℕ} (Some x) (Some y) → x ≡ y
same_some x y e = cc

none_some : (y : ℕ) → ◌≡◌ {A = Option ℕ} None (Some y) → ⊥
none_some y e = cc

pub back : (op : Operation) (temp : ℕ) → address_of op ≡ Some temp → StoresThrough op temp
back (Op.Store address value scalar into place) temp e =
    subst (λ t. StoresThrough (Op.Store address value scalar into place) t) (same_some address temp e) stores
back op temp e = absurd (none_some temp e)

-- ## A life

module _ (b : SolvedBody) (life : Life) where
  pub here_left : IsLeftHere b life → IsLeftOver b life
  here_left h = elim h.held [
    | inl t ↦ in_temporary {op = operation_at b life.begins} h.state t.temp h.has
        (λ st. t.other (through (operation_at b life.begins) t.temp st)) t.points
    | inr c ↦ in_cell {op = operation_at b life.begins} h.state c.cell h.has (c.left.0, c.left.2) c.left.1
  ]

  over_here : {op : Operation} (s : State) → HasState b life.begins op s
      → (IsHeldByTemp s (address_of op) life.object ⊎ IsHeldByCell b life s) → IsLeftHere b life
  over_here {op} s has held = record {
    state = s;
    has = record {
      number = has.number;
      copy = has.copy;
      is = has.is;
      of = has.of;
      state = has.state;
      operation = refl;
    };
    held = subst (λ o. IsHeldByTemp s (address_of o) life.object ⊎ IsHeldByCell b life s) (sym has.operation) held;
  }

  -- by what others wrote where the life begins, or there
  pub over : IsLeftOver b life
      → (IsHeldByOthers b.store b.number life.object × IsReached b life.begins) ⊎ IsLeftHere b life
  over (in_cell {op = op} s cell has apart points) = inr (over_here {op = op} s has (inr (record {
    cell = cell;
    left = (apart.0, points, apart.1);
  })))
  over (in_store task held cell reached other points) = inl (
    record { task = task; held = held; cell = cell; other = other; points = points },
    reached,
  )
  over (in_temporary {op = op} s temp has other points) = inr (over_here {op = op} s has (inl (record {
    temp = temp;
    other = λ e. other (back op temp e);
    points = points;
  })))

  pub others_left : IsHeldByOthers b.store b.number life.object → IsReached b life.begins → IsLeftOver b life
  others_left h reached = in_store h.task h.held h.cell reached h.other h.points

  -- ## Cells, one by one

  module _ (s : State) where
    abbrev pub NoneLeft : ℕ → Type 0
    NoneLeft n = (k : ℕ) → k < n → IsLeftIn b life k (own_of s k) → ⊥

    absent : (k : ℕ) → map.get s.cells k ≡ None → IsLeftIn b life k (own_of s k) → ⊥
    absent k none h =
        points_nowhere no_value life.object refl (subst (λ a. PointsTo (own_value a) life.object) none h.1)

    pub cell_left : (from cell : ℕ) (entry : Cell) → IsNext s.cells from cell entry → IsLeftIn b life cell entry.value
        → IsHeldByCell b life s
    cell_left from cell entry next h = record {
      cell = cell;
      left = subst (λ a. IsLeftIn b life cell (own_value a)) (sym next.stands) h;
    }

    pub none_left_more : (from cell : ℕ) (entry : Cell) → IsNext s.cells from cell entry → NoneLeft from
        → (IsLeftIn b life cell entry.value → ⊥) → NoneLeft (cell + 1)
    none_left_more from cell entry next before not_here k lt h =
        elim (cases_eq k cell) [
          | inl same ↦ not_here (subst (λ a. IsLeftIn b life cell (own_value a)) next.stands
              (subst (λ n. IsLeftIn b life n (own_of s n)) same h))
          | inr differ ↦ elim (cases_lt k from) [
            | inl less ↦ before k less h
            | inr le ↦ absent k (next.none_between k le (omega (arith, lt, differ))) h
          ]
        ]

    pub none_left : (from : ℕ) → IsPast s.cells from → NoneLeft from → IsHeldByCell b life s → ⊥
    none_left from past before h =
        elim (cases_lt h.cell from) [
          | inl less ↦ before h.cell less h.left
          | inr le ↦ absent h.cell (past h.cell le) h.left
        ]

  -- ## Copies

  module _ (numbers : List ℕ) (copies : AreCopiesOf b.copies life.begins numbers) where
    pub behind_here : HasOne (IsHeldBehind b life (address_of (operation_at b life.begins))) numbers → IsLeftHere b life
    behind_here h =
        let copy = (copies h.one).0 h.has in record {
          state = h.is.state;
          has = record {
            number = h.one;
            copy = copy.copy;
            is = copy.is;
            of = copy.of;
            state = subst (λ o. state_from b o ≡ Some h.is.state) copy.is h.is.is;
            operation = refl;
          };
          held = h.is.held;
        }

    pub here_behind : IsLeftHere b life → HasOne (IsHeldBehind b life (address_of (operation_at b life.begins))) numbers
    here_behind h =
        let there = h.has in record {
          one = there.number;
          has = (copies there.number).1 (record { copy = there.copy; is = there.is; of = there.of });
          is = record {
            state = h.state;
            is = subst (λ o. state_from b o ≡ Some h.state) (sym there.is) there.state;
            held = h.held;
          };
        }

same_state : (s t : State) → ◌≡◌ {A = Option State} (Some s) (Some t) → s ≡ t
same_state s t e = cc

no_state : (s : State) → ◌≡◌ {A = Option State} None (Some s) → ⊥
no_state s e = cc

pub held_behind : (b : SolvedBody) (life : Life) (own : Option ℕ) (copy : ℕ) (s : State) → state_at b copy ≡ Some s
    → (IsHeldByTemp s own life.object ⊎ IsHeldByCell b life s) ↔ IsHeldBehind b life own copy
held_behind b life own copy s e = (
  λ h. record { state = s; is = e; held = h },
  λ h. (let same = same_state s h.state (sym e ∙ h.is) in
      subst (λ z. IsHeldByTemp z own life.object ⊎ IsHeldByCell b life z) (sym same) h.held),
)

pub none_behind : (b : SolvedBody) (life : Life) (own : Option ℕ) (copy : ℕ) → state_at b copy ≡ None
    → IsHeldBehind b life own copy → ⊥
none_behind b life own copy e h = no_state h.state (sym e ∙ h.is)

-- ## Keys of 32 bits

-- no key is greater than k, if with k gone none is there from k on
pub none_greater : {V : Type 0} (t : Table V) (k : ℕ) → IsPast (map.remove t k) k → (key : ℕ) → k < key
    → map.get t key ≡ None
none_greater t k past key less =
    let there : map.get (map.remove t k) key ≡ map.get t key =
    map.get-remove nat_cmp_total t k key
    ∙ ap (λ b. cond b None (map.get t key)) (other_key key k (λ same. absurd (omega (arith, less, same)))) in
    let from : k ≤ key = omega (arith, less) in
    sym there ∙ past key from

-- and one that is there is another number
pub another : {V : Type 0} (t : Table V) (k key : ℕ) (v : V) → IsNext (map.remove t k) k key v → key ≡ k → ⊥
another t k key v next same =
    let gone : map.get (map.remove t k) key ≡ None =
    map.get-remove nat_cmp_total t k key ∙ ap (λ b. cond b None (map.get t key)) (same_key key k same) in
    let found : Some v ≡ None = sym next.stands ∙ gone in
    cc
