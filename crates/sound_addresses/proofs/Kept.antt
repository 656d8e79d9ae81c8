-- Operations keep the kinds of their temporaries.
use Rattle.std.proofs.Common.{◌≡◌, refl, sym, ap, subst, ◌∙◌, ℕ, ◌+◌, ◌*◌, ◌<◌, ◌≤◌, inl, Bool, true, false, Some}
use Rattle.std.proofs.Common.{Option, length, negsuc}
use Rattle.std.specs.Prelude.{◌==◌, ℤ, pos, ◌+ℤ◌, ◌*ℤ◌, if◌then◌else◌, is_some, int_le, int_lt, Result, Ok, Err, IsSome}
use Rattle.std.proofs.lemmas.Bool.{and_parts, ltb-true, eq-eqb}
use Rattle.std.proofs.lemmas.Option.{same_Some}
use Rattle.operation_laws.specs.tm_cint.declared.Class.{Class}
use Rattle.operation_laws.specs.tm_cint.declared.Class.TheVariants as Classes
use Rattle.operation_laws.specs.tm_terms.declared.places.Place.{Place}
use Rattle.operation_laws.specs.tm_laid.Layouts.{LaidTree, object_at}
use Rattle.operation_laws.specs.concrete_values.declared.values.Value.{Value}
use Rattle.operation_laws.specs.concrete_values.declared.actions.Next.{Next}
use Rattle.operation_laws.specs.concrete_values.Values.{number_of, pointer_of}
use Rattle.operation_laws.specs.concrete_values.Pointers.{pointer_in, shifted, or_invalid, base, part, is_subscript}
use Rattle.operation_laws.specs.concrete_values.Pointers.{element}
use Rattle.operation_laws.specs.concrete_values.Pointers.{is_object_at, dereferenced}
use Rattle.operation_laws.specs.flow_graph.declared.operations.Operation.{Operation}
use Rattle.operation_laws.specs.flow_graph.declared.operations.Operation.TheVariants as Op
use Rattle.operation_laws.specs.flow_graph.Operations.{Temps, given, Silent, Asks, effect_by, gives, given_by, put_at}
use Rattle.sound_runs.specs.program_shape.Shape.{IsAddressed}
use Rattle.operation_laws.specs.next_action_laws.Actions.{IsPlace}
use Rattle.operation_laws.proofs.low.next_action_laws.Addresses.{at, pointer_is, base_is, part_is}
use Rattle.operation_laws.proofs.low.next_action_laws.GivenValues.{leads}
use Rattle.sound_runs.specs.Addresses.{Kind, address_of, anything, StandsThere, IsOfKind, KeepsKinds}

-- ## Operations that take no part and no element

abbrev pub IsDull : Operation → Type 0
IsDull (Op.Offset to from cells) = ⊥
IsDull (Op.Index to from length' cells by place) = ⊥
IsDull op = Unit {0}

dull_addressed : (laid : LaidTree) (op : Operation) → IsDull op → (t : Temps) → IsAddressed laid op t
dull_addressed laid (Op.Offset to from cells) d t = absurd d
dull_addressed laid (Op.Index to from length' cells by place) d t = absurd d
dull_addressed laid _ d t = tt

-- ## What is given

given_value : (to : ℕ) (v : Value) (temps temps' : Temps) (t : ℕ) → effect_by (Some to) temps (gives v) ≡ Silent temps'
    → Some to ≡ Some t → (to ≡ t) × (temps' t ≡ v)
given_value to v temps temps' t e g =
    let same : to ≡ t = same_Some to t g in
    let f : put_at to v temps ≡ temps' = cc in
    let one : (to == t) ≡ true = subst (λ z. (z == t) ≡ true) (sym same) (eq-eqb t t refl) in
    (same, sym (ap (λ h. h t) f) ∙ ap (λ b. if b then v else temps t) one)

no_asks : (to : Option ℕ) (temps : Temps) (r : Result Value Class) (place : Place) (n : Next) (after : Value → Temps)
    → effect_by to temps (given_by place r) ≡ Asks n after → ⊥
no_asks to temps (Ok v) place n after e = absurd (cc)
no_asks to temps (Err c) place n after e = absurd (cc)

result_given : (to : Option ℕ) (temps temps' : Temps) (r : Result Value Class) (place : Place)
    → effect_by to temps (given_by place r) ≡ Silent temps'
    → (v : Value) × (r ≡ Ok v) × (effect_by to temps (gives v) ≡ Silent temps')
result_given to temps temps' (Ok v) place e = (v, refl, e)
result_given to temps temps' (Err c) place e = absurd (cc)

module _ (laid : LaidTree) (body : ℕ) where
  is_anything : (k : Kind) (v : Value) → k ≡ anything → IsOfKind laid body k v
  is_anything k v e = subst (λ z. IsOfKind laid body z v) (sym e) tt

  pub dull_keeps : (kinds : ℕ → Kind) (op : Operation) → IsDull op
      → ((t : ℕ) → given op ≡ Some t → kinds t ≡ anything) → KeepsKinds laid body kinds op
  dull_keeps kinds op d h = record {
    addressed = λ temps temps' u e. dull_addressed laid op d temps;
    silent = λ temps temps' u e t g. is_anything (kinds t) (temps' t) (h t g);
    answered = λ temps n after a v u e f t g. is_anything (kinds t) (after v t) (h t g);
  }

  give_kind : (kinds : ℕ → Kind) (to : ℕ) (k : Kind) (v : Value) (temps temps' : Temps) (t : ℕ) → kinds to ≡ k
      → IsOfKind laid body k v → effect_by (Some to) temps (gives v) ≡ Silent temps' → Some to ≡ Some t
      → IsOfKind laid body (kinds t) (temps' t)
  give_kind kinds to k v temps temps' t is h e g =
      let x = given_value to v temps temps' t e g in
      subst (λ z. IsOfKind laid body z (temps' t)) (sym is ∙ ap kinds x.0)
      (subst (λ z. IsOfKind laid body k z) (sym x.1) h)

  -- what a temporary of the kind holds
  holds : (kinds : ℕ → Kind) (from n : ℕ) (v : Value) → kinds from ≡ address_of n → IsOfKind laid body (kinds from) v
      → StandsThere laid body v n
  holds kinds from n v e h = subst (λ z. IsOfKind laid body z v) e h

  module _ (few : length laid.objects ≤ 4294967296) (kinds : ℕ → Kind) where
    pub base_keeps : (to object n : ℕ) → kinds to ≡ address_of n → IsPlace laid body object 0 n
        → KeepsKinds laid body kinds (Op.Base to object)
    base_keeps to object n is p = record {
      addressed = λ temps temps' u e. tt;
      silent = λ temps temps' u e t g.
          give_kind kinds to (address_of n) (base laid object) temps temps' t is
          (record { object = object; offset = 0; is = base_is laid few object p.object; stands = p }) e g;
      answered = λ temps n after a v u e f t g. absurd (no_ask temps n after e);
    }
      where
        no_ask : (temps : Temps) (n : Next) (after : Value → Temps)
            → effect_by (Some to) temps (gives (base laid object)) ≡ Asks n after → ⊥
        no_ask temps n after e = cc

    pub deref_keeps : (to from n path : ℕ) (place : Place) → kinds to ≡ address_of n
        → ((o k : ℕ) → is_object_at laid path o k n ≡ true → IsPlace laid body o k n)
        → KeepsKinds laid body kinds (Op.Deref to from n path place)
    deref_keeps to from n path place is p = record {
      addressed = λ temps temps' u e. tt;
      silent = λ temps temps' u e t g.
          let r = result_given (Some to) temps temps' (dereferenced laid path n (temps from)) place e in
          let x = leads laid path n (temps from) r.0 r.1 in
          give_kind kinds to (address_of n) r.0 temps temps' t is
          (record { object = x.0; offset = x.1; is = x.2; stands = p x.0 x.1 x.3 }) r.2 g;
      answered = λ temps m after a v u e f t g.
          absurd (no_asks (Some to) temps (dereferenced laid path n (temps from)) place m after e);
    }

    shifted_is : (o k c : ℕ) (v : Value) → v ≡ at o k → o < length laid.objects → k + c ≤ (object_at laid o).cells
        → IsSome (shifted laid (pointer_of v) (pos c))
    unfolding shifted pointer_of
    shifted_is o k c v e lt le =
        subst (λ x. IsSome (shifted laid (pointer_of x) (pos c))) (sym e)
        (ap (λ x. is_some x) (pointer_is laid few o (k + c) lt le))

    pub offset_keeps : (to from a c : ℕ) (k : Kind) → kinds from ≡ address_of a → kinds to ≡ k
        → ((o j : ℕ) → IsPlace laid body o j a
        → (j + c ≤ (object_at laid o).cells) × IsOfKind laid body k (at o (j + c)))
        → KeepsKinds laid body kinds (Op.Offset to from c)
    offset_keeps to from a c k of is p = record {
      addressed = λ temps temps' u e.
          let s = holds kinds from a (temps from) of (u from (inl refl)) in
          shifted_is s.object s.offset c (temps from) s.is s.stands.object (p s.object s.offset s.stands).0;
      silent = λ temps temps' u e t g.
          let s = holds kinds from a (temps from) of (u from (inl refl)) in
          let x = p s.object s.offset s.stands in
          let v : part laid c (temps from) ≡ at s.object (s.offset + c) =
          ap (λ z. part laid c z) s.is ∙ part_is laid few s.object s.offset c s.stands.object x.0 in
          give_kind kinds to k (part laid c (temps from)) temps temps' t is
          (subst (λ z. IsOfKind laid body k z) (sym v) x.1) e g;
      answered = λ temps n after b v u e f t g. absurd (no_ask temps n after e);
    }
      where
        no_ask : (temps : Temps) (n : Next) (after : Value → Temps)
            → effect_by (Some to) temps (gives (part laid c (temps from))) ≡ Asks n after → ⊥
        no_ask temps n after e = cc

    -- a subscript that is no error is below the length
    record IsSubscript (o k n c : ℕ) (z : ℤ) (v : Value) : Type 0 where
      place : ℕ
      below : place < n
      number : z ≡ pos place
      is : v ≡ or_invalid (pointer_in laid o (pos (k + place * c)))

    by_number : (o k n c : ℕ) (z : ℤ) (v : Value)
        → (if is_subscript n z then Ok (or_invalid (pointer_in laid o (pos k +ℤ z *ℤ pos c))) else Err Classes.Index)
        ≡ Ok v → IsSubscript o k n c z v
    by_number o k n c (negsuc j) v e = absurd (cc)
    by_number o k n c (pos j) v e = by_test (is_subscript n (pos j)) refl e
      where
        by_test : (b : Bool) → is_subscript n (pos j) ≡ b
            → (if b then Ok (or_invalid (pointer_in laid o (pos (k + j * c)))) else Err Classes.Index) ≡ Ok v
            → IsSubscript o k n c (pos j) v
        by_test true q f = record {
          place = j;
          below = ltb-true j n (and_parts (int_le (pos 0) (pos j)) (int_lt (pos j) (pos n)) q).1;
          number = refl;
          is = (let same : v ≡ or_invalid (pointer_in laid o (pos (k + j * c))) = cc in same);
        }
        by_test false q f = absurd (cc)

    subscript_is : (o k n c : ℕ) (a i v : Value) → a ≡ at o k → element laid n c a i ≡ Ok v
        → IsSubscript o k n c (number_of i) v
    unfolding element shifted pointer_of
    subscript_is o k n c a i v e f =
        by_number o k n c (number_of i) v (subst (λ x. element laid n c x i ≡ Ok v) e f)

    pub index_keeps : (to from by n c a m : ℕ) (place : Place) → kinds from ≡ address_of a → kinds to ≡ address_of m
        → ((o j i : ℕ) → IsPlace laid body o j a → i < n → IsPlace laid body o (j + i * c) m)
        → KeepsKinds laid body kinds (Op.Index to from n c by place)
    index_keeps to from by n c a m place of is p = record {
      addressed = λ temps temps' u e.
          let s = holds kinds from a (temps from) of (u from (inl refl)) in
          let r = result_given (Some to) temps temps' (element laid n c (temps from) (temps by)) place e in
          let x = subscript_is s.object s.offset n c (temps from) (temps by) r.0 s.is r.1 in
          let q = p s.object s.offset x.place s.stands x.below in
          subst (λ z. IsSome (shifted laid (pointer_of (temps from)) (z *ℤ pos c))) (sym x.number)
          (shifted_is s.object s.offset (x.place * c) (temps from) s.is q.object q.inside);
      silent = λ temps temps' u e t g.
          let s = holds kinds from a (temps from) of (u from (inl refl)) in
          let r = result_given (Some to) temps temps' (element laid n c (temps from) (temps by)) place e in
          let x = subscript_is s.object s.offset n c (temps from) (temps by) r.0 s.is r.1 in
          let q = p s.object s.offset x.place s.stands x.below in
          give_kind kinds to (address_of m) r.0 temps temps' t is
          (record {
            object = s.object;
            offset = s.offset + x.place * c;
            is = x.is ∙ ap or_invalid (pointer_is laid few s.object (s.offset + x.place * c) q.object q.inside);
            stands = q;
          }) r.2 g;
      answered = λ temps w after b v u e f t g.
          absurd (no_asks (Some to) temps (element laid n c (temps from) (temps by)) place w after e);
    }
