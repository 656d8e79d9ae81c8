-- Lists of bounds and of integer cells, with one more.
use Rattle.std.proofs.Common.{◌≡◌, ◌↔◌, ◌⊎◌, ℕ, ◌+◌, ◌<◌, ◌≤◌, refl, ap, sym, subst, ◌∙◌, inl, inr, List, [], ◌∷◌}
use Rattle.std.proofs.Common.{◌++◌, length, get_or, slice_get, Option, Some, None, arith}
use Rattle.std.specs.Prelude.{ℤ, Contains}
use Rattle.std.proofs.lemmas.Bool.{cases_eq}
use Rattle.std.proofs.lemmas.List.{get_or_push, get_or_append_left, length_push, get_or_default}
use Rattle.std.proofs.lemmas.List.Elements.{Contains-push, Contains-push_cases, Contains-append_left}
use Rattle.std.proofs.lemmas.Option.{slice_get-get_or}
use Rattle.tm_laid.specs.declared.objects.Initial.{Initial}
use Rattle.tm_laid.specs.declared.objects.Initial.TheVariants as Initials
use Rattle.tm_laid.specs.declared.cells.LaidCell.{LaidCell}
use Rattle.tm_laid.specs.Layouts.{LaidTree, cell_at, abstract_at, no_cell}
use Rattle.value_ranges.specs.declared.object_bounds.ObjectBounds.{ObjectBounds}
use Rattle.value_ranges.specs.declared.cells.IntegerCell.{IntegerCell}
use Rattle.value_ranges.specs.declared.object_bounds.Grouping.{Grouping}
use Rattle.value_ranges.specs.declared.object_bounds.Grouping.TheVariants as Groupings
use Rattle.value_ranges.specs.Ranges.{IsIntegerCell, IsKeyOf, key_count}
use Rattle.value_ranges.specs.reading.Notes.{Noted, noted_at, IsNamed, AreListed, AreFirstCells, AreIntegerCells}
use Rattle.value_ranges.specs.reading.Notes.{AreOfObjects, AreWidened, HasNoted, IsFirst, first_bounds}
use Rattle.value_ranges.proofs.Widening.{either, below_cases, below_before, below_here, none_below, all_as, same_all}
use Rattle.value_ranges.proofs.Widening.{number_noted}

Some_is : (b d : ObjectBounds) → Some b ≡ Some d → b ≡ d
Some_is b d e = cc

pub Some_number : (o u : ℕ) → Some o ≡ Some u → o ≡ u
Some_number o u e = cc

pub nothing_contained : {X : Type 0} (x : X) → Contains [] x → ⊥
nothing_contained x (k, lt, e) = absurd (omega (arith, lt))

-- ## Bounds

module _ (noted : List Noted) where
  abbrev At : ObjectBounds → ℕ → Type 0
  At b o = noted_at noted o ≡ Some b

  pub listed_none : AreListed noted 0 []
  listed_none = record {
    rising = λ k l d h lt. absurd (omega (arith, lt));
    exact = λ b. (λ h. absurd (nothing_contained b h), λ h. absurd (none_below (At b) h));
  }

  pub listed_same : (i : ℕ) (list : List ObjectBounds) → noted_at noted i ≡ None → AreListed noted i list
      → AreListed noted (i + 1) list
  listed_same i list none h = record {
    rising = h.rising;
    exact = λ b. (
      λ c. below_before (At b) i ((h.exact b).0 c),
      λ c. either (λ x. (h.exact b).1 x) (λ x. absurd (let clash : None ≡ Some b = sym none ∙ x in cc))
          (below_cases (At b) i c),
    );
  }

  module _ (named : (o : ℕ) → IsNamed o (noted_at noted o)) (i : ℕ) (list : List ObjectBounds) (b : ObjectBounds)
      (there : noted_at noted i ≡ Some b) (h : AreListed noted i list) where
    named_by : (o : ℕ) (x : ObjectBounds) → noted_at noted o ≡ Some x → x.object ≡ o
    named_by o x e = subst (IsNamed o) e (named o)

    before : (x : ObjectBounds) → Contains list x → x.object < b.object
    before x c =
        let at = (h.exact x).0 c in
        let lt = at.1 in
        let one = named_by at.0 x at.2 in
        let other = named_by i b there in
        omega (arith, lt, one, other)

    all : List ObjectBounds
    all = list ++ b ∷ []

    rises : (k l : ℕ) (d : ObjectBounds) → k < l → (l < length list) ⊎ (l ≡ length list)
        → (let x = get_or (list ++ b ∷ []) k d in let y = get_or (list ++ b ∷ []) l d in x.object < y.object)
    rises k l d kl (inl inside) =
        let one = get_or_append_left list (b ∷ []) d k (omega (arith, kl, inside)) in
        let other = get_or_append_left list (b ∷ []) d l inside in
        subst (λ (x : ObjectBounds). (let y = get_or (list ++ b ∷ []) l d in x.object < y.object)) (sym one)
        (subst (λ (y : ObjectBounds). (let x = get_or list k d in x.object < y.object)) (sym other)
        (h.rising k l d kl inside))
    rises k l d kl (inr at_end) =
        let inside : k < length list = omega (arith, kl, at_end) in
        let one = get_or_append_left list (b ∷ []) d k inside in
        let other = get_or_push list b d l (sym at_end) in
        subst (λ (x : ObjectBounds). (let y = get_or (list ++ b ∷ []) l d in x.object < y.object)) (sym one)
        (subst (λ (y : ObjectBounds). (let x = get_or list k d in x.object < y.object)) (sym other)
        (before (get_or list k d) (k, inside, get_or_default list k (get_or list k d) d inside)))

    place : (l : ℕ) → l < length (list ++ b ∷ []) → (l < length list) ⊎ (l ≡ length list)
    place l lt = elim (cases_eq l (length list)) [
      | inl e ↦ inr e
      | inr ne ↦ inl (let long = length_push list b in omega (arith, lt, long, ne))
    ]

    pub listed_more : AreListed noted (i + 1) (list ++ b ∷ [])
    listed_more = record {
      rising = λ k l d kl lt. rises k l d kl (place l lt);
      exact = λ x. (
        λ c. either (λ old. below_before (At x) i ((h.exact x).0 old))
            (λ e. below_here (At x) i (there ∙ ap Some e)) (Contains-push_cases list b x c),
        λ c. either (λ old. Contains-append_left list (b ∷ []) x ((h.exact x).1 old))
            (λ e. subst (λ z. Contains (list ++ b ∷ []) z) (Some_is b x (sym there ∙ e)) (Contains-push list b))
            (below_cases (At x) i c),
      );
    }

-- ## Integer cells

-- it is one of those of which numbers may be told, and the cell is there
pub key_there : (by : Grouping) (laid : LaidTree) (key x : ℕ) → IsKeyOf by laid key x → key < key_count by laid
key_there Groupings.Objects laid key x of = of.there
key_there Groupings.Cells laid key x of = let same = of.0 in let lt = of.1.within in omega (arith, same, lt)

key_within : (by : Grouping) (laid : LaidTree) (key x : ℕ) → IsKeyOf by laid key x → x < length laid.abstract_cells
key_within Groupings.Objects laid key x of = of.within
key_within Groupings.Cells laid key x of = of.1.within

module _ (by : Grouping) (laid : LaidTree) where
  pub cells_none : AreFirstCells by laid 0 []
  cells_none object x = (
    λ h. absurd (nothing_contained (record { cell = x; object = object }) h),
    λ h. absurd (let lt = h.1 in omega (arith, lt)),
  )

  module _ (i : ℕ) (cells : List IntegerCell) (found : Option ℕ)
      (is : (o : ℕ) → (found ≡ Some o) ↔ IsKeyOf by laid o i) (h : AreFirstCells by laid i cells) where
    pub cells_same : found ≡ None → AreFirstCells by laid (i + 1) cells
    cells_same none object x = (
      λ c. let old = (h object x).0 c in (old.0, (let lt = old.1 in omega (arith, lt))),
      λ c. elim (cases_eq x i) [
        | inl same ↦ absurd (let clash : None ≡ Some object =
            sym none ∙ (is object).1 (subst (λ n. IsKeyOf by laid object n) same c.0) in cc)
        | inr other ↦ (h object x).1 (c.0, (let lt = c.1 in omega (arith, lt, other)))
      ],
    )

    module _ (o : ℕ) (e : found ≡ Some o) where
      abbrev new : IntegerCell
      new = record { cell = i; object = o }

      pub cells_more : AreFirstCells by laid (i + 1) (cells ++ new ∷ [])
      cells_more object x = (
        λ c. either
            (λ before. let old = (h object x).0 before in (old.0, (let lt = old.1 in omega (arith, lt))))
            (λ here.
            let cell : i ≡ x = ap (λ (z : IntegerCell). z.cell) here in
            let of : o ≡ object = ap (λ (z : IntegerCell). z.object) here in
            (subst (λ n. IsKeyOf by laid object n) cell ((is object).0 (e ∙ ap Some of)), omega (arith, cell)))
            (Contains-push_cases cells new (record { cell = x; object = object }) c),
        λ c. elim (cases_eq x i) [
          | inl same ↦
              let of : o ≡ object = Some_number o object
              (sym e ∙ (is object).1 (subst (λ n. IsKeyOf by laid object n) same c.0)) in
              subst (λ (z : IntegerCell). Contains (cells ++ new ∷ []) z)
              (λ j. record { cell = (sym same) j; object = of j }) (Contains-push cells new)
          | inr other ↦ Contains-append_left cells (new ∷ []) (record { cell = x; object = object })
              ((h object x).1 (c.0, (let lt = c.1 in omega (arith, lt, other))))
        ],
      )

  pub cells_all : (i : ℕ) (cells : List IntegerCell) → length laid.abstract_cells ≤ i → AreFirstCells by laid i cells
      → AreIntegerCells by laid cells
  cells_all i cells end h object x = (
    λ c. ((h object x).0 c).0,
    λ c. (h object x).1 (c, (let lt = key_within by laid object x c in omega (arith, lt, end))),
  )

  -- what the numbers of each are told of is one of the layout
  pub of_objects : (cells : List IntegerCell) → AreIntegerCells by laid cells → (count : ℕ)
      → count ≡ key_count by laid → AreOfObjects cells count
  of_objects cells are count same k d lt =
      let c = get_or cells k d in
      let same_cell : IntegerCell = record { cell = c.cell; object = c.object } in
      let cell = (are c.object c.cell).0 (k, lt, get_or_default cells k same_cell d lt) in
      let there = key_there by laid c.object c.cell cell in omega (arith, there, same)

-- ## First values

Some_initial : (x y : Initial) → Some x ≡ Some y → x ≡ y
Some_initial x y e = cc

Number_is : (n m : ℤ) → Initials.Number n ≡ Initials.Number m → n ≡ m
Number_is n m e = cc

-- where there are bounds, they are of a number
record IsOfNumber (object : ℕ) (first : Initial) (b : ObjectBounds) : Type 0 where
  pub number : ℤ
  pub first_is : first ≡ Initials.Number number
  pub bounds_are : b ≡ record { object = object; low = number; high = number }

of_number : (object : ℕ) (first : Initial) (b : ObjectBounds) → first_bounds object first ≡ Some b
    → IsOfNumber object first b
of_number object (Initials.Number n) b e =
    let same : ObjectBounds = record { object = object; low = n; high = n } in
    record { number = n; first_is = refl; bounds_are = sym (Some_is same b e) }
of_number object Initials.Null b e = absurd cc
of_number object (Initials.To other offset) b e = absurd cc

pub object_of_number : (object : ℕ) (first : Initial) (b : ObjectBounds) → first_bounds object first ≡ Some b
    → b.object ≡ object
object_of_number object first b e = ap (λ (z : ObjectBounds). z.object) (of_number object first b e).bounds_are

pub value_noted : (object : ℕ) (first : Initial) (b : ObjectBounds) → first_bounds object first ≡ Some b
    → (a c : List Noted) → object < length a → HasNoted b a c
    → AreWidened (λ o n. (object ≡ o) × (first ≡ Initials.Number n)) a c
value_noted object first b e a c lt h =
    let r = of_number object first b e in
    all_as (λ o n. (object ≡ o) × (n ≡ r.number)) (λ o n. (object ≡ o) × (first ≡ Initials.Number n)) a c
    (λ o n k. (k.0, r.first_is ∙ ap (λ z. Initials.Number z) (sym k.1)))
    (λ o n k. (k.0, Number_is n r.number (sym k.1 ∙ r.first_is)))
    (number_noted object r.number a c lt (subst (λ x. HasNoted x a c) r.bounds_are h))

pub no_value_noted : (object : ℕ) (first : Initial) → first_bounds object first ≡ None → (a : List Noted)
    → AreWidened (λ o n. (object ≡ o) × (first ≡ Initials.Number n)) a a
no_value_noted object first e a =
    same_all (λ o n. (object ≡ o) × (first ≡ Initials.Number n)) a
    (λ o n h. let clash : Some (record { object = object; low = n; high = n }) ≡ None =
    sym (ap (first_bounds object) h.1) ∙ e in absurd cc)

module _ (by : Grouping) (laid : LaidTree) (cell : ℕ) (c : LaidCell) (c-is : c ≡ get_or laid.cells cell c)
    (within : cell < length laid.cells) (found : Option ℕ)
    (is : (o : ℕ) → (found ≡ Some o) ↔ IsKeyOf by laid o c.abstract_cell) (first : Initial)
    (first-is : first ≡ get_or laid.initial cell first) (first-lt : cell < length laid.initial) where
  same_cell : cell_at laid cell ≡ c
  same_cell = get_or_default laid.cells cell no_cell c within ∙ sym c-is

  stands : slice_get laid.initial cell ≡ Some first
  stands = slice_get-get_or laid.initial cell first first-lt ∙ ap Some (sym first-is)

  pub first_noted : (object : ℕ) → found ≡ Some object → (a b : List Noted)
      → AreWidened (λ o n. (object ≡ o) × (first ≡ Initials.Number n)) a b
      → AreWidened (λ o n. IsFirst by laid cell o n) a b
  first_noted object e a b p =
      all_as (λ o n. (object ≡ o) × (first ≡ Initials.Number n)) (λ o n. IsFirst by laid cell o n) a b
      (λ o n h. record {
        within = within;
        of = subst (λ (z : LaidCell). IsKeyOf by laid o z.abstract_cell) (sym same_cell)
            ((is o).0 (e ∙ ap Some h.0));
        is = stands ∙ ap Some h.1;
      })
      (λ o n h. (
        Some_number object o
            (sym e ∙ (is o).1 (subst (λ (z : LaidCell). IsKeyOf by laid o z.abstract_cell) same_cell h.of)),
        Some_initial first (Initials.Number n) (sym stands ∙ h.is),
      )) p

-- ## What numbers are told of

module _ (laid : LaidTree) (x : ℕ) (found : Option ℕ) (is : (o : ℕ) → (found ≡ Some o) ↔ IsIntegerCell laid o x) where
  own_object : (o : ℕ) → IsIntegerCell laid o x → (let a = abstract_at laid x in IsIntegerCell laid a.object x)
  own_object o of = subst (λ k. IsIntegerCell laid k x) (sym of.of) of

  -- the cell itself, if it has an object
  pub cell_key : (key : ℕ) → (o : ℕ) → found ≡ Some o → (Some x ≡ Some key) ↔ IsKeyOf Groupings.Cells laid key x
  cell_key key o e = (
    λ same. (sym (Some_number x key same), own_object o ((is o).0 e)),
    λ of. ap Some (sym of.0),
  )

  pub no_cell_key : (key : ℕ) → found ≡ None → (None ≡ Some key) ↔ IsKeyOf Groupings.Cells laid key x
  no_cell_key key none = (
    λ same. absurd (let clash : None ≡ Some key = same in cc),
    λ of. absurd (let clash : None ≡ Some ((abstract_at laid x).object) =
        sym none ∙ (is ((abstract_at laid x).object)).1 of.1 in cc),
  )
