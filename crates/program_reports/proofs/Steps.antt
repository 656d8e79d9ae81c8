-- What is found with one more cell, class, copy and body.
use Rattle.std.proofs.Common.{◌≡◌, ◌↔◌, ◌⊎◌, ℕ, ◌+◌, ◌<◌, ap, sym, subst, ◌∙◌, inl, inr, Bool, true, false, List}
use Rattle.std.proofs.Common.{length, take, get_or, Option, Some, None, IsTrue, arith}
use Rattle.std.proofs.lemmas.Bool.{cases_eq}
use Rattle.tm_cint.specs.declared.Class.{Class}
use Rattle.tm_cint.specs.declared.Class.TheVariants.{Overflow, Div, Shift, Index, Pointer, Deref, Lock}
use Rattle.tm_cint.specs.declared.Class.TheVariants.{Race}
use Rattle.tm_terms.specs.declared.alarms.Alarm.{Alarm}
use Rattle.tm_terms.specs.declared.places.Place.{Place}
use Rattle.transfer_int.specs.declared.outcomes.Classes.{Classes}
use Rattle.transfer_int.specs.Outcomes.{notes}
use Rattle.post_recheck.specs.transfer_rows.StateForms.{State}
use Rattle.post_recheck.specs.table_covers.Solutions.{NodeTable}
use Rattle.post_recheck.specs.task_equations.Bodies.{Body, copy_at}
use Rattle.access_races.specs.declared.accesses.Way.{Way}
use Rattle.access_races.specs.declared.accesses.Access.{Access}
use Rattle.access_races.proofs.Joins.{either, front_more}
use Rattle.program_reports.specs.reading.Found.{IsClassIn, IsTargetIn, IsGivenBelow}
use Rattle.program_reports.specs.reading.Bodies.{IsGivenUpTo}

-- ## Cells

pub targets_more : (cells : List ℕ) (i : ℕ) → i < length cells → (way : Way) (place : Place) (x : Access)
    → IsTargetIn way place (take (i + 1) cells) x ↔ (IsTargetIn way place (take i cells) x
    ⊎ (x ≡ record { cell = get_or cells i 0; way = way; place = place }))
targets_more cells i lt way place x = (
  λ h. either (λ before. inl (record { cell = before; way = h.way; place = h.place }))
      (λ e. inr (λ j. record { cell = (sym e) j; way = h.way j; place = h.place j }))
      ((front_more cells i 0 lt x.cell).0 h.cell),
  λ h. either
      (λ o. record { cell = (front_more cells i 0 lt x.cell).1 (inl o.cell); way = o.way; place = o.place })
      (λ e. record {
        cell = (front_more cells i 0 lt x.cell).1 (inr (sym (ap (λ (y : Access). y.cell) e)));
        way = ap (λ (y : Access). y.way) e;
        place = ap (λ (y : Access). y.place) e;
      }) h,
)

-- ## Classes

-- a class that is noted gives its alarm
pub class_noted : (place : Place) (class : Class) (noted : Bool) (a : Alarm) → noted ≡ true
    → (a ≡ record { place = place; class = class }) ↔ IsClassIn place class noted a
class_noted place class noted a e = (λ h. record { noted_it = e; is = h }, λ h. h.is)

-- one of the classes that are gone through is so
module _ (Is : Class → Type 0) (no_race : Is Race → ⊥) (C0 C1 C2 C3 C4 C5 C6 C7 : Type 0) (h1 : C1 ↔ (C0 ⊎ Is Overflow))
    (h2 : C2 ↔ (C1 ⊎ Is Div)) (h3 : C3 ↔ (C2 ⊎ Is Shift)) (h4 : C4 ↔ (C3 ⊎ Is Index)) (h5 : C5 ↔ (C4 ⊎ Is Pointer))
    (h6 : C6 ↔ (C5 ⊎ Is Deref)) (h7 : C7 ↔ (C6 ⊎ Is Lock)) where
  up6 : C6 → C7
  up6 x = h7.1 (inl x)

  up5 : C5 → C7
  up5 x = up6 (h6.1 (inl x))

  up4 : C4 → C7
  up4 x = up5 (h5.1 (inl x))

  up3 : C3 → C7
  up3 x = up4 (h4.1 (inl x))

  up2 : C2 → C7
  up2 x = up3 (h3.1 (inl x))

  up1 : C1 → C7
  up1 x = up2 (h2.1 (inl x))

  of_class : (class : Class) → Is class → C7
  of_class Overflow h = up1 (h1.1 (inr h))
  of_class Div h = up2 (h2.1 (inr h))
  of_class Shift h = up3 (h3.1 (inr h))
  of_class Index h = up4 (h4.1 (inr h))
  of_class Pointer h = up5 (h5.1 (inr h))
  of_class Deref h = up6 (h6.1 (inr h))
  of_class Lock h = h7.1 (inr h)
  of_class Race h = absurd (no_race h)

  abbrev So : Type 0
  So = C0 ⊎ ((class : Class) × Is class)

  down1 : C1 → So
  down1 x = either (λ o. inl o) (λ h. inr (Overflow, h)) (h1.0 x)

  down2 : C2 → So
  down2 x = either down1 (λ h. inr (Div, h)) (h2.0 x)

  down3 : C3 → So
  down3 x = either down2 (λ h. inr (Shift, h)) (h3.0 x)

  down4 : C4 → So
  down4 x = either down3 (λ h. inr (Index, h)) (h4.0 x)

  down5 : C5 → So
  down5 x = either down4 (λ h. inr (Pointer, h)) (h5.0 x)

  down6 : C6 → So
  down6 x = either down5 (λ h. inr (Deref, h)) (h6.0 x)

  pub all_classes : C7 ↔ (C0 ⊎ ((class : Class) × Is class))
  all_classes = (
    λ x. either down6 (λ h. inr (Lock, h)) (h7.0 x),
    λ x. either (λ o. up1 (h1.1 (inl o))) (λ (n : (class : Class) × Is class). of_class n.0 n.1) x,
  )

module _ (place : Place) (classes : Classes) (a : Alarm) where
  -- the alarm of a class that is noted
  abbrev pub IsNoted : Class → Type 0
  IsNoted class = IsClassIn place class (notes classes class) a

  pub no_race : IsNoted Race → ⊥
  no_race h = absurd (let clash : false ≡ true = h.noted_it in cc)

  pub class_of : ((class : Class) × IsNoted class) ↔ ((a.place ≡ place) × IsTrue (notes classes a.class))
  class_of = (
    λ (n : (class : Class) × IsNoted class). (
      ap (λ (z : Alarm). z.place) n.1.is,
      subst (λ k. IsTrue (notes classes k)) (sym (ap (λ (z : Alarm). z.class) n.1.is)) n.1.noted_it,
    ),
    λ h. (a.class, record { noted_it = h.1; is = λ i. record { place = h.0 i; class = a.class } }),
  )

-- ## Copies

Some_is : (s t : State) → Some s ≡ Some t → s ≡ t
Some_is s t e = cc

module _ (b : Body) (table : NodeTable State) (Gives : ℕ → State → Type 0) (k : ℕ) where
  abbrev reach : ℕ → Option State
  reach n = (let c = copy_at b n in table c.from)

  abbrev Below : ℕ → Type 0
  Below n = IsGivenBelow b table Gives n

  earlier : Below k → Below (k + 1)
  earlier h = record {
    copy = h.copy;
    below = (let lt = h.below in omega (arith, lt));
    state = h.state;
    reached = h.reached;
    gives = h.gives;
  }

  -- by the last copy, or by an earlier one
  split : (h : Below (k + 1)) → (h.copy ≡ k) ⊎ Below k
  split h = elim (cases_eq h.copy k) [
    | inl same ↦ inl same
    | inr other ↦ inr (record {
      copy = h.copy;
      below = (let lt = h.below in omega (arith, lt, other));
      state = h.state;
      reached = h.reached;
      gives = h.gives;
    })
  ]

  pub copies_more : (s : State) → reach k ≡ Some s → Below (k + 1) ↔ (Below k ⊎ Gives k s)
  copies_more s e = (
    λ h. either (λ same. inr (here h same)) (λ o. inl o) (split h),
    λ h. either earlier (λ g. record { copy = k; below = omega arith; state = s; reached = e; gives = g }) h,
  )
    where
      here : (h : Below (k + 1)) → h.copy ≡ k → Gives k s
      here h same =
          let found : reach k ≡ Some h.state = subst (λ n. reach n ≡ Some h.state) same h.reached in
          let state : h.state ≡ s = Some_is h.state s (sym found ∙ e) in
          subst (λ t. Gives k t) state (subst (λ n. Gives n h.state) same h.gives)

  pub copies_same : reach k ≡ None → Below (k + 1) ↔ Below k
  copies_same e = (
    λ h. either (λ same. absurd (let found : reach k ≡ Some h.state =
        subst (λ n. reach n ≡ Some h.state) same h.reached in
        let clash : None ≡ Some h.state = sym e ∙ found in cc)) (λ o. o) (split h),
    earlier,
  )

-- the same beside another fact
pub beside : {T S F H : Type 0} → (S ↔ (F ⊎ H)) → ((T × S) ↔ ((T × F) ⊎ (T × H)))
beside {T} {S} {F} {H} step = (
  λ (h : T × S). either (λ f. inl (h.0, f)) (λ g. inr (h.0, g)) (step.0 h.1),
  λ h. either (λ (o : T × F). (o.0, step.1 (inl o.1))) (λ (g : T × H). (g.0, step.1 (inr g.1))) h,
)

pub beside_same : {T S F : Type 0} → (S ↔ F) → ((T × S) ↔ (T × F))
beside_same {T} {S} {F} same = (λ (h : T × S). (h.0, same.0 h.1), λ (h : T × F). (h.0, same.1 h.1))

-- ## Bodies

pub bodies_more : (Gives : ℕ → Type 0) (n : ℕ) → IsGivenUpTo Gives (n + 1) ↔ (IsGivenUpTo Gives n ⊎ Gives n)
bodies_more Gives n = (
  λ h. elim (cases_eq h.body n) [
    | inl same ↦ inr (subst Gives same h.gives)
    | inr other ↦ inl (record {
      body = h.body;
      below = (let lt = h.below in omega (arith, lt, other));
      gives = h.gives;
    })
  ],
  λ h. either (λ (o : IsGivenUpTo Gives n). record {
    body = o.body;
    below = (let lt = o.below in omega (arith, lt));
    gives = o.gives;
  }) (λ g. record { body = n; below = omega arith; gives = g }) h,
)
