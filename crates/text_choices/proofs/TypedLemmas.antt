-- What a typed file leaves open: sizes, and objects that begin with a negative number in an enumeration.
use Rattle.std.proofs.Common.{◌≡◌, refl, ap, sym, subst, ◌∙◌, ℕ, ℤ, pos, ◌<◌, Bool, true, false, ◌&&◌, List, [], ◌∷◌, length, get_or, map, take, zero, suc, arith}
use Rattle.std.specs.Prelude.{negsuc, Contains}
use Rattle.std.specs.Bool.{Decides}
use Rattle.std.specs.List.{HoldsAt}
use Rattle.std.proofs.lemmas.Int.{ints}
use Rattle.std.proofs.lemmas.Bool.Decides.{Decides-by_or}
use Rattle.std.proofs.lemmas.List.{get_or-map, length-map}
use Rattle.std.proofs.lemmas.List.Elements.{Contains-get_or, at_read}
use Rattle.tm_terms.specs.declared.places.Place.{Place}
use Rattle.tm_typed.specs.declared.files.StaticCell.{StaticCell}
use Rattle.tm_typed.specs.declared.files.StaticValue.{StaticValue}
use Rattle.tm_typed.specs.declared.files.StaticValue.TheVariants as Values
use Rattle.tm_typed.specs.declared.files.TypedStatic.{TypedStatic}
use Rattle.tm_typed.specs.declared.types.Qualified.{Qualified}
use Rattle.tm_typed.specs.States.{Static}
use Rattle.tm_typed.specs.TypedFiles.{typed_static_tree}
use Rattle.tm_laid.specs.Layouts.{LaidTree}
use Rattle.part_extents.specs.Parts.{is_of_enumeration}
use Rattle.text_choices.specs.declared.kinds.Kind.TheVariants as Kinds
use Rattle.text_choices.specs.declared.kinds.Choice.{Choice}
use Rattle.text_choices.specs.Choices.{Adds, OfKind}
use Rattle.text_choices.specs.Enumerations.{BeginsNegative}
use Rattle.text_choices.specs.reading.Typed.{is_negative, begins_negative, any_negative, IsOfObject}
use Rattle.text_choices.proofs.Additions.{Adds-same}
use Rattle.text_choices.proofs.Each.{OneOf, one_of}
use Rattle.text_choices.proofs.TokenLemmas.{choice_is}

-- ## Sizes

-- what loops read past the end of places
abbrev pub no_place : Place
no_place = record { line = 0; col = 0 }

abbrev pub SizeAt : Place → Choice → Type 0
SizeAt place c = c ≡ record { place = place; kind = Kinds.Layout }

pub sizes_all : (sizes : List Place) (n : ℕ) (old new : List Choice) → n ≡ length sizes → Adds old new (OneOf SizeAt (take n sizes))
    → Adds old new (OfKind Kinds.Layout (Contains sizes))
sizes_all sizes n old new same h =
    Adds-same old new (OneOf SizeAt sizes) (OfKind Kinds.Layout (Contains sizes))
    (λ c w. (ap (λ (y : Choice). y.kind) w.2, subst (λ (p : Place). Contains sizes p) (sym (ap (λ (y : Choice). y.place) w.2)) w.1))
    (λ c w. (c.place, w.1, choice_is c Kinds.Layout c.place w.0 refl))
    (one_of SizeAt sizes n old new (omega arith) h)

-- ## Negative numbers

negative_number : (z : ℤ) → is_negative (Values.Number z) ≡ true → (n : ℕ) × (z ≡ negsuc n)
negative_number (pos n) h = absurd (grind (arith, ints))
negative_number (negsuc n) h = (n, refl)

negative_value : (v : StaticValue) → is_negative v ≡ true → (n : ℕ) × (v ≡ Values.Number (negsuc n))
negative_value (Values.Number z) h = let w = negative_number z h in (w.0, ap (λ (y : ℤ). let f : ℤ → StaticValue = λ x. Values.Number x in f y) w.1)
negative_value Values.Null h = absurd cc
negative_value (Values.Address o c) h = absurd cc

both : (a b : Bool) → (a && b) ≡ true → (a ≡ true) × (b ≡ true)
both true b h = (refl, h)
both false b h = absurd cc

joined : (a b : Bool) → a ≡ true → b ≡ true → (a && b) ≡ true
joined a b e f = rw e f

module _ (laid : LaidTree) where
  any_decides : (of : Qualified) (given : List StaticCell)
      → Decides (any_negative laid of given) ((k : ℕ) × (k < length given) × HoldsAt (λ cell. begins_negative laid of cell ≡ true) given k)
  any_decides of given = Decides-by_or (begins_negative laid of) (λ cell. begins_negative laid of cell ≡ true) (any_negative laid of) (λ cell. ((λ h. h), (λ h. h))) refl (λ cell cells. refl) given

  any_found : (of : Qualified) (given : List StaticCell) → any_negative laid of given ≡ true → (cell : StaticCell) × Contains given cell × (begins_negative laid of cell ≡ true)
  any_found of given h =
      let none : StaticCell = record { cell = 0; value = Values.Null } in
      let w = (any_decides of given).0 h in
      (get_or given w.0 none, Contains-get_or given w.0 none w.1, w.2 none)

  any_seen : (of : Qualified) (given : List StaticCell) (cell : StaticCell) → Contains given cell → begins_negative laid of cell ≡ true → any_negative laid of given ≡ true
  any_seen of given cell w h =
      (any_decides of given).1 (w.0, w.1, at_read given (λ cell. begins_negative laid of cell ≡ true) w.0 cell w.1 (sym w.2) h)

  pub begins_found : (object : Static) (place : Place) → Contains laid.file.statics object → object.place ≡ place → any_negative laid object.of object.given ≡ true → BeginsNegative laid place
  begins_found object place has is h =
      let w = any_found object.of object.given h in
      let cell = w.0 in
      let parts = both (is_negative cell.value) (is_of_enumeration laid (record { of = object.of; cell = cell.cell })) w.2 in
      let number = negative_value cell.value parts.0 in
      record { object = object; has = has; is = is; cell = cell; given = w.1; below = number.0; negative = number.1; enumerated = parts.1 }

  pub begins_seen : (place : Place) (b : BeginsNegative laid place) → (let o = b.object in any_negative laid o.of o.given ≡ true)
  begins_seen place b =
      let o = b.object in
      let cell = b.cell in
      any_seen o.of o.given cell b.given
      (joined (is_negative cell.value) (is_of_enumeration laid (record { of = o.of; cell = cell.cell })) (ap is_negative b.negative) b.enumerated)

-- ## Objects

-- what stands among objects as records stands among those that the code holds
held : (statics : List TypedStatic) (o : Static) → Contains (map typed_static_tree statics) o → (s : TypedStatic) × Contains statics s × (typed_static_tree s ≡ o)
held [] o (k, h, e) = absurd (omega arith)
held (s ∷ rest) o (zero, h, e) = (s, (0, omega arith, refl), e)
held (s ∷ rest) o (suc k, h, e) =
    let w = held rest o (k, omega (arith, h), e) in
    (w.0, (suc w.1.0, omega (arith, w.1.1), w.1.2), w.2)

told : (statics : List TypedStatic) (s : TypedStatic) → Contains statics s → Contains (map typed_static_tree statics) (typed_static_tree s)
told statics s (k, h, e) =
    (k, omega (arith, h, length-map statics typed_static_tree), get_or-map typed_static_tree statics k s (typed_static_tree s) h ∙ ap typed_static_tree e)

abbrev pub ObjectOf : LaidTree → TypedStatic → Choice → Type 0
ObjectOf laid s c = IsOfObject laid (typed_static_tree s) c

pub objects_all : (laid : LaidTree) (statics : List TypedStatic) (n : ℕ) (old new : List Choice) → laid.file.statics ≡ map typed_static_tree statics → n ≡ length statics
    → Adds old new (OneOf (ObjectOf laid) (take n statics)) → Adds old new (OfKind Kinds.Enum (BeginsNegative laid))
objects_all laid statics n old new are same h =
    Adds-same old new (OneOf (ObjectOf laid) statics) (OfKind Kinds.Enum (BeginsNegative laid)) to fro (one_of (ObjectOf laid) statics n old new (omega arith) h)
  where
    to : (c : Choice) → OneOf (ObjectOf laid) statics c → OfKind Kinds.Enum (BeginsNegative laid) c
    to c w =
        let s = w.0 in
        let f = w.2 in (
          ap (λ (y : Choice). y.kind) f.1,
          begins_found laid (typed_static_tree s) c.place (subst (λ (os : List Static). Contains os (typed_static_tree s)) (sym are) (told statics s w.1))
              (sym (ap (λ (y : Choice). y.place) f.1)) f.0,
        )

    fro : (c : Choice) → OfKind Kinds.Enum (BeginsNegative laid) c → OneOf (ObjectOf laid) statics c
    fro c w =
        let b = w.1 in
        let s = held statics b.object (subst (λ (os : List Static). Contains os b.object) are b.has) in
        let begins = subst (λ (o : Static). any_negative laid o.of o.given ≡ true) (sym s.2) (begins_seen laid c.place b) in
        let here = ap (λ (o : Static). o.place) s.2 ∙ b.is in
        (s.0, s.1, (begins, choice_is c Kinds.Enum (typed_static_tree s.0).place w.0 (sym here)))
