-- The cells that are written in the region of a head.
use Rattle.std.proofs.Common.{◌≡◌, refl, sym, ap, subst, ◌∙◌, ℕ, ◌+◌, ◌<◌, ◌≤◌, ◌⊎◌, inl, inr, Bool, true, false, cond, List, [], ◌∷◌, ◌++◌, length, get_or, arith, Option, Some, None}
use Rattle.std.specs.Prelude.{Contains, replicate, nat_lt}
use Rattle.std.proofs.lemmas.Bool.{cases_lt, cases_eq, eqb-true, eq-eqb, ltb-true, lt-ltb}
use Rattle.std.proofs.lemmas.List.{length-replicate, get_or_past, length_push, get_or_append_left, get_or_push, get_or_default}
use Rattle.std.proofs.lemmas.List.Elements.{Contains-push, Contains-push_cases, Contains-append_left, Contains-get_or}
use Rattle.tm_cint.specs.declared.int_types.IntType.{IntType}
use Rattle.tm_cint.specs.declared.int_types.IntType.TheVariants as Ints
use Rattle.tm_typed.specs.declared.types.Scalar.{Scalar}
use Rattle.tm_typed.specs.declared.types.Scalar.TheVariants as Scalars
use Rattle.tm_typed.specs.Types.{int_index}
use Rattle.tm_laid.specs.Layouts.{LaidTree, no_object, abstract_at, is_same_scalar}
use Rattle.flow_graph.specs.declared.graphs.Edge.{Edge}
use Rattle.flow_graph.specs.declared.operations.Into.{Into}
use Rattle.flow_graph.specs.declared.operations.Into.TheVariants as Intos
use Rattle.flow_graph.specs.declared.operations.Operation.{Operation}
use Rattle.flow_graph.specs.declared.operations.Operation.TheVariants as Op
use Rattle.flow_graph.specs.Graphs.{Edges, Among, IsInRegion, IsOfObject, StoresInto, WritesCell, IsWritten}
use Rattle.graph_facts.specs.declared.regions.Head.{Head}
use Rattle.graph_facts.specs.Edges.{AreInRange}
use Rattle.graph_facts.specs.Heads.{IsHeadUpTo}
use Rattle.graph_facts.proofs.Edges.{contains_among}
use Rattle.graph_facts.proofs.Rising.{rising_nil, rising_push}
use Rattle.region_cells.specs.Written.{AreWritten, AreAllWritten}
use Rattle.region_cells.specs.reading.Slots.{scalar_number, object_slot, into_slot, slot_of, AreSlots}
use Rattle.region_cells.specs.reading.Marks.{IsMarked, HasMarkedFrom, IsCovering, IsListed, AreListed}
use Rattle.region_cells.proofs.Marking.{none_marked}

-- ## Numbers of scalar types

small_int : (t : IntType) → int_index t < 11
small_int Ints.Bool = omega arith
small_int Ints.Char = omega arith
small_int Ints.UChar = omega arith
small_int Ints.Short = omega arith
small_int Ints.UShort = omega arith
small_int Ints.Int = omega arith
small_int Ints.UInt = omega arith
small_int Ints.Long = omega arith
small_int Ints.ULong = omega arith
small_int Ints.LLong = omega arith
small_int Ints.ULLong = omega arith

number_of_same : (a b : Scalar) → is_same_scalar a b ≡ true → scalar_number a ≡ scalar_number b
number_of_same (Scalars.Int t) (Scalars.Int u) e = eqb-true (int_index t) (int_index u) e
number_of_same (Scalars.Pointer c) (Scalars.Pointer d) e = ap (λ n. 11 + n) (eqb-true c d e)
number_of_same (Scalars.Int t) (Scalars.Pointer d) e = absurd cc
number_of_same (Scalars.Pointer c) (Scalars.Int u) e = absurd cc

same_by_number : (a b : Scalar) → scalar_number a ≡ scalar_number b → is_same_scalar a b ≡ true
same_by_number (Scalars.Int t) (Scalars.Int u) e = eq-eqb (int_index t) (int_index u) e
same_by_number (Scalars.Pointer c) (Scalars.Pointer d) e = eq-eqb c d (omega (arith, e))
same_by_number (Scalars.Int t) (Scalars.Pointer d) e = absurd (let s = small_int t in omega (arith, e, s))
same_by_number (Scalars.Pointer c) (Scalars.Int u) e = absurd (let s = small_int u in omega (arith, e, s))

-- ## Slots and cells

-- a cell is of the object of this slot, or of its type
abbrev IsHit : LaidTree → ℕ → ℕ → Type 0
IsHit laid s cell = ((s < length laid.objects) × IsOfObject laid s cell) ⊎ (s ≡ length laid.objects + scalar_number (abstract_at laid cell).scalar)

same_some : (s t : ℕ) → Some s ≡ Some t → s ≡ t
same_some s t e = cc

-- a slot of an object
record IsObjectSlot (objects o s : ℕ) : Type 0 where
  same : o ≡ s
  within : o < objects

object_slot_by : (objects o s : ℕ) (b : Bool) → nat_lt o objects ≡ b → cond b (Some o) None ≡ Some s → IsObjectSlot objects o s
object_slot_by objects o s true h e = record { same = same_some o s e; within = ltb-true o objects h }
object_slot_by objects o s false h e = absurd cc

object_written : (laid : LaidTree) (o s cell : ℕ) → object_slot (length laid.objects) o ≡ Some s → IsHit laid s cell → IsOfObject laid o cell
object_written laid o s cell e hit =
    let i = object_slot_by (length laid.objects) o s (nat_lt o (length laid.objects)) refl e in
    let same : o ≡ s = i.same in
    let within : o < length laid.objects = i.within in
    let P : ℕ → Type 0 = λ k. IsOfObject laid k cell in
    elim hit [ inl h ↦ subst P (sym same) h.1 | inr q ↦ absurd (omega (arith, same, within, q)) ]

store_written : (laid : LaidTree) (scalar : Scalar) (into : Into) (s cell : ℕ) → into_slot (length laid.objects) scalar into ≡ Some s → IsHit laid s cell → StoresInto laid scalar into cell
store_written laid scalar (Intos.Object o) s cell e hit = object_written laid o s cell e hit
store_written laid scalar Intos.Pointed s cell e hit =
    let same = same_some (length laid.objects + scalar_number scalar) s e in
    elim hit [
      | inl h ↦ absurd (let l = h.0 in omega (arith, same, l))
      | inr q ↦ same_by_number (abstract_at laid cell).scalar scalar (omega (arith, same, q))
    ]

written_by_slot : (laid : LaidTree) (op : Operation) (s cell : ℕ) → slot_of (length laid.objects) op ≡ Some s → IsHit laid s cell → WritesCell laid op cell
written_by_slot laid (Op.Store address value scalar into place) s cell e hit = store_written laid scalar into s cell e hit
written_by_slot laid (Op.Clear o) s cell e hit = object_written laid o s cell e hit
written_by_slot laid _ s cell e hit = absurd cc

-- the slot of an operation that writes the cell
record HasSlot (laid : LaidTree) (o : Option ℕ) (cell : ℕ) : Type 0 where
  number : ℕ
  is : o ≡ Some number
  hit : IsHit laid number cell

object_there : (laid : LaidTree) (o cell : ℕ) → IsOfObject laid o cell → o < length laid.objects
object_there laid o cell of = elim (cases_lt o (length laid.objects)) [
  | inl lt ↦ lt
  | inr ge ↦ absurd (let e = get_or_past laid.objects o no_object ge in
      let f = ap (λ x. x.first_abstract + x.abstract_cells) e in let l = of.1 in omega (arith, f, l))
]

object_has : (laid : LaidTree) (o cell : ℕ) → IsOfObject laid o cell → HasSlot laid (object_slot (length laid.objects) o) cell
object_has laid o cell of =
    let lt = object_there laid o cell of in
    record { number = o; is = ap (λ b. cond b (Some o) None) (lt-ltb o (length laid.objects) lt); hit = inl (lt, of) }

store_has : (laid : LaidTree) (scalar : Scalar) (into : Into) (cell : ℕ) → StoresInto laid scalar into cell → HasSlot laid (into_slot (length laid.objects) scalar into) cell
store_has laid scalar (Intos.Object o) cell w = object_has laid o cell w
store_has laid scalar Intos.Pointed cell w = record {
  number = length laid.objects + scalar_number scalar;
  is = refl;
  hit = inr (ap (λ n. length laid.objects + n) (sym (number_of_same (abstract_at laid cell).scalar scalar w)));
}

slot_of_written : (laid : LaidTree) (op : Operation) (cell : ℕ) → WritesCell laid op cell → HasSlot laid (slot_of (length laid.objects) op) cell
slot_of_written laid (Op.Store address value scalar into place) cell w = store_has laid scalar into cell w
slot_of_written laid (Op.Clear o) cell w = object_has laid o cell w
slot_of_written laid _ cell w = absurd w

-- ## Heads

pub head_order : (g : Edges) (h : Head) → IsHeadUpTo g h → h.node ≤ h.last
head_order g h up =
    let e = up.head.edge in
    let to = up.head.there in
    let back = up.head.back in
    let low : h.node ≤ e.from = omega (arith, to, back) in
    let r = (up.region e.from).0 (record { edge = e; among = up.head.among; back = up.head.back; there = up.head.there; from = low; until = omega arith }) in
    let b = r.1 in omega (arith, low, b)

pub head_within : (g : Edges) (nodes : ℕ) (h : Head) → AreInRange g nodes → IsHeadUpTo g h → h.last < nodes
head_within g nodes h range up =
    let r = (up.region h.last).1 (head_order g h up, omega arith) in
    let c = contains_among r.edge g r.among in
    let b : r.edge.from < nodes = subst (λ (x : Edge). x.from < nodes) c.2 (range c.0 r.edge c.1).0 in
    let u = r.until in omega (arith, b, u)

-- ## What is listed is written

module _ (laid : LaidTree) (g : Edges) (h : Head) (slots : ℕ) (none marks covered : List Bool) (up : IsHeadUpTo g h) (enough : AreSlots laid (length laid.objects) slots)
    (empty : none ≡ replicate slots false) (marked : HasMarkedFrom g (length laid.objects) h.node (h.last + 1) none marks) (covering : IsCovering laid marks covered) where
  by_mark : (s cell : ℕ) → IsMarked marks s → IsHit laid s cell → IsWritten laid g h.node cell
  by_mark s cell m hit = elim (marked.only s m) [
    | inl a ↦ absurd (none_marked slots s none empty a)
    | inr p ↦ record {
      edge = p.edge;
      among = p.among;
      inside = (up.region p.edge.from).1 (p.from, (let b = p.below in omega (arith, b)));
      writes = written_by_slot laid p.edge.op s cell p.slot hit;
    }
  ]

  listed_written : (cell : ℕ) → IsListed laid marks covered cell → IsWritten laid g h.node cell
  listed_written cell (inl m) = let o = covering.only cell m in by_mark o.object cell o.of.0 (inl (o.within, o.of.1))
  listed_written cell (inr m) = by_mark (length laid.objects + scalar_number (abstract_at laid cell).scalar) cell m (inr refl)

  mark_of : (s cell : ℕ) (e : Edge) → Among e g → IsInRegion g h.node e.from → slot_of (length laid.objects) e.op ≡ Some s → cell < length laid.abstract_cells → IsHit laid s cell → IsMarked marks s
  mark_of s cell e among inside is lt hit =
      let r = (up.region e.from).0 inside in
      let len : length none ≡ slots = ap length empty ∙ length-replicate slots false in
      marked.all s (record { edge = e; among = among; from = r.0; below = (let b = r.1 in omega (arith, b)); slot = is })
      (elim hit [
        | inl o ↦ (let a = o.0 in let b = enough.for_objects in omega (arith, a, b, len))
        | inr q ↦ (let b = enough.for_cells cell lt in omega (arith, q, b, len))
      ])

  written_listed : (cell : ℕ) → cell < length laid.abstract_cells → IsWritten laid g h.node cell → IsListed laid marks covered cell
  written_listed cell lt w =
      let x = slot_of_written laid w.edge.op cell w.writes in
      let m : IsMarked marks x.number = mark_of x.number cell w.edge w.among w.inside x.is lt x.hit in
      elim x.hit [
        | inl o ↦ inl (covering.all cell (record { object = x.number; within = o.0; of = (m, o.1) }) lt)
        | inr q ↦ inr (let P : ℕ → Type 0 = λ k. IsMarked marks k in subst P q m)
      ]

pub all_written : (laid : LaidTree) (g : Edges) (h : Head) (slots end : ℕ) (none marks covered : List Bool) (cells : List ℕ) → IsHeadUpTo g h → AreSlots laid (length laid.objects) slots → none ≡ replicate slots false
    → HasMarkedFrom g (length laid.objects) h.node (h.last + 1) none marks → IsCovering laid marks covered → end ≡ length laid.abstract_cells → AreListed laid marks covered end cells → AreWritten laid g h.node cells
all_written laid g h slots end none marks covered cells up enough empty marked covering e listed = record {
  rising = listed.rising;
  written = λ cell. (
    (λ c. let r = (listed.listed cell).0 c in ((let b = r.0 in omega (arith, b, e)), listed_written laid g h slots none marks covered up enough empty marked covering cell r.1)),
    (λ w. let b = w.0 in (listed.listed cell).1 (omega (arith, b, e), written_listed laid g h slots none marks covered up enough empty marked covering cell b w.1)),
  );
}

-- ## One cell after the other

pub listed_none : (laid : LaidTree) (marks covered : List Bool) (cells : List ℕ) → cells ≡ [] → AreListed laid marks covered 0 cells
listed_none laid marks covered cells e = subst (λ (xs : List ℕ). AreListed laid marks covered 0 xs) (sym e) (record {
  rising = rising_nil;
  listed = λ cell. ((λ c. absurd (let b = c.1 in omega (arith, b))), (λ w. absurd (let b = w.0 in omega (arith, b))));
})

pub listed_more : (laid : LaidTree) (marks covered : List Bool) (cell : ℕ) (cells now : List ℕ) → now ≡ cells ++ cell ∷ [] → IsListed laid marks covered cell → AreListed laid marks covered cell cells
    → AreListed laid marks covered (cell + 1) now
listed_more laid marks covered cell cells now e is before = subst (λ (xs : List ℕ). AreListed laid marks covered (cell + 1) xs) (sym e) (record {
  rising = rising_push cells cell before.rising (λ k d lt. let b = (before.listed (get_or cells k d)).0 (Contains-get_or cells k d lt) in b.0);
  listed = λ x. (
    (λ c. elim (Contains-push_cases cells cell x c) [
      | inl a ↦ (let b = (before.listed x).0 a in let l = b.0 in (omega (arith, l), b.1))
      | inr p ↦ (let P : ℕ → Type 0 = λ k. (k < cell + 1) × IsListed laid marks covered k in subst P p (omega arith, is))
    ]),
    (λ w. elim (cases_eq x cell) [
      | inl p ↦ (let P : ℕ → Type 0 = λ k. Contains (cells ++ cell ∷ []) k in subst P (sym p) (Contains-push cells cell))
      | inr o ↦ Contains-append_left cells (cell ∷ []) x ((before.listed x).1 ((let u : x ≡ cell → ⊥ = o in let l = w.0 in omega (arith, u, l)), w.1))
    ]),
  );
})

pub listed_other : (laid : LaidTree) (marks covered : List Bool) (cell : ℕ) (cells : List ℕ) → (IsListed laid marks covered cell → ⊥) → AreListed laid marks covered cell cells
    → AreListed laid marks covered (cell + 1) cells
listed_other laid marks covered cell cells none before = record {
  rising = before.rising;
  listed = λ x. (
    (λ c. let b = (before.listed x).0 c in let l = b.0 in (omega (arith, l), b.1)),
    (λ w. elim (cases_eq x cell) [
      | inl p ↦ absurd (let P : ℕ → Type 0 = λ k. IsListed laid marks covered k in none (subst P p w.1))
      | inr o ↦ (before.listed x).1 ((let u : x ≡ cell → ⊥ = o in let l = w.0 in omega (arith, u, l)), w.1)
    ]),
  );
}

-- ## One head after the other

pub record AreWrittenBelow (laid : LaidTree) (g : Edges) (heads : List Head) (end : ℕ) (lists : List (List ℕ)) : Type 0 where
  pub count : length lists ≡ end
  pub each : (k : ℕ) (d : Head) → k < end → AreWritten laid g (get_or heads k d).node (get_or lists k [])

pub heads_none : (laid : LaidTree) (g : Edges) (heads : List Head) (lists : List (List ℕ)) → lists ≡ [] → AreWrittenBelow laid g heads 0 lists
heads_none laid g heads lists e = record { count = ap length e; each = λ k d lt. absurd (omega (arith, lt)) }

pub heads_more : (laid : LaidTree) (g : Edges) (heads : List Head) (i : ℕ) (lists now : List (List ℕ)) (cells : List ℕ) → now ≡ lists ++ cells ∷ [] → ((d : Head) → AreWritten laid g (get_or heads i d).node cells)
    → AreWrittenBelow laid g heads i lists → AreWrittenBelow laid g heads (i + 1) now
heads_more laid g heads i lists now cells e written before = subst (λ (ls : List (List ℕ)). AreWrittenBelow laid g heads (i + 1) ls) (sym e) (record {
  count = (let a = length_push lists cells in let b = before.count in omega (arith, a, b));
  each = λ k d lt. elim (cases_eq k i) [
    | inl p ↦
        (let P : ℕ → Type 0 = λ j. AreWritten laid g (get_or heads j d).node (get_or (lists ++ cells ∷ []) j []) in
        subst P (sym p) (subst (λ (xs : List ℕ). AreWritten laid g (get_or heads i d).node xs) (sym (get_or_push lists cells [] i before.count)) (written d)))
    | inr o ↦
        (let l : k < i = (let u : k ≡ i → ⊥ = o in omega (arith, u, lt)) in
        subst (λ (xs : List ℕ). AreWritten laid g (get_or heads k d).node xs) (sym (get_or_append_left lists (cells ∷ []) [] k (let b = before.count in omega (arith, l, b)))) (before.each k d l))
  ];
})

pub written_each : (laid : LaidTree) (g : Edges) (heads : List Head) (i : ℕ) (d0 : Head) (cells : List ℕ) → i < length heads → AreWritten laid g (get_or heads i d0).node cells
    → (d : Head) → AreWritten laid g (get_or heads i d).node cells
written_each laid g heads i d0 cells lt w d = subst (λ (h : Head). AreWritten laid g h.node cells) (get_or_default heads i d0 d lt) w

pub heads_all : (laid : LaidTree) (g : Edges) (heads : List Head) (i : ℕ) (lists : List (List ℕ)) → length heads ≤ i → i ≤ length heads → AreWrittenBelow laid g heads i lists
    → AreAllWritten laid g heads lists
heads_all laid g heads i lists le ge below = record {
  count = (let a = below.count in omega (arith, a, le, ge));
  each = λ k d lt. below.each k d (omega (arith, lt, le));
}

-- ## Enough slots

pub record AreSlotsBelow (laid : LaidTree) (objects end count : ℕ) : Type 0 where
  pub for_objects : objects ≤ count
  pub for_cells : (cell : ℕ) → cell < end → objects + scalar_number (abstract_at laid cell).scalar < count

pub slots_none : (laid : LaidTree) (objects : ℕ) → AreSlotsBelow laid objects 0 objects
slots_none laid objects = record { for_objects = omega arith; for_cells = λ cell lt. absurd (omega (arith, lt)) }

pub slots_more : (laid : LaidTree) (objects cell number count more : ℕ) → number ≡ scalar_number (abstract_at laid cell).scalar → count ≤ more → objects + number + 1 ≤ more → AreSlotsBelow laid objects cell count
    → AreSlotsBelow laid objects (cell + 1) more
slots_more laid objects cell number count more is le enough before = record {
  for_objects = (let a = before.for_objects in omega (arith, a, le));
  for_cells = λ x lt. elim (cases_eq x cell) [
    | inl p ↦ (let P : ℕ → Type 0 = λ k. objects + scalar_number (abstract_at laid k).scalar < more in subst P (sym p) (omega (arith, is, enough)))
    | inr o ↦ (let b = before.for_cells x (let u : x ≡ cell → ⊥ = o in omega (arith, u, lt)) in omega (arith, b, le))
  ];
}

pub slots_all : (laid : LaidTree) (objects end count : ℕ) → length laid.abstract_cells ≤ end → AreSlotsBelow laid objects end count → AreSlots laid objects count
slots_all laid objects end count le before = record { for_objects = before.for_objects; for_cells = λ cell lt. before.for_cells cell (omega (arith, lt, le)) }
