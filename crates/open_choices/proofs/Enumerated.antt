-- What is found of enumerations is what the runs of a body leave open of them.
use Rattle.std.proofs.Common.{◌≡◌, ◌⊎◌, ℕ, inl, inr, refl, sym, ap, subst, ◌∙◌, true, false}
use Rattle.std.specs.Prelude.{Contains}
use Rattle.std.proofs.lemmas.Bool.{false≢true}
use Rattle.tm_cint.specs.declared.int_types.IntType.{IntType}
use Rattle.tm_cint.specs.declared.int_types.IntType.TheVariants as Ints
use Rattle.tm_cint.specs.declared.operators.BinOp.{BinOp}
use Rattle.tm_terms.specs.declared.places.Place.{Place}
use Rattle.tm_typed.specs.declared.expressions.Unary.{Unary}
use Rattle.tm_typed.specs.declared.types.Scalar.{Scalar}
use Rattle.flow_graph.specs.declared.operations.Operation.{Operation}
use Rattle.flow_graph.specs.declared.operations.Operation.TheVariants as Op
use Rattle.flow_graph.specs.declared.operations.Into.{Into}
use Rattle.flow_graph.specs.declared.operations.Test.{Test}
use Rattle.flow_graph.specs.declared.operations.Test.TheVariants as Tests
use Rattle.post_recheck.specs.transfer_rows.StateForms.{State, value_of}
use Rattle.path_origins.specs.declared.origins.Form.{Form}
use Rattle.path_origins.specs.declared.origins.Form.TheVariants as Forms
use Rattle.path_origins.specs.Types.{is_signed_word}
use Rattle.edge_origins.specs.declared.origins.EdgeOrigin.{EdgeOrigin}
use Rattle.text_choices.specs.declared.kinds.Kind.{Kind}
use Rattle.text_choices.specs.declared.kinds.Kind.TheVariants as Kinds
use Rattle.operand_orders.specs.Reached.{SolvedBody, operation_at, origin_at, HasState}
use Rattle.open_choices.specs.Enumerations.{HasNegative, GivesNegative, TurnsNegative, WorksOnNegative, operand, result}
use Rattle.open_choices.specs.Enumerations.{one, compared, StoresNegative, stores, IsOfEnum, stored, worked}
use Rattle.open_choices.specs.Choices.{IsOpenByRuns}
use Rattle.open_choices.specs.declared.looks.Look.{Look}
use Rattle.open_choices.specs.declared.looks.Look.TheVariants as Looks
use Rattle.open_choices.specs.reading.Enumerated.{in_word, unary_of, binary_of, branch_of, branch_by, enumerated_look_of}
use Rattle.open_choices.specs.reading.Enumerated.{HasPositive}
use Rattle.open_choices.specs.reading.Found.{kind_of, place_at, Finds, IsCounted, IsCountedAt}

-- ## What is looked for

module _ (s : State) where
  word_counted : (of : IntType) (look : Look) → IsCounted s look → IsCounted s (in_word of look)
  word_counted Ints.Int look h = h
  word_counted Ints.Long look h = h
  word_counted of look h = tt

  unary_counted : (form : Form) (of : IntType) (operator : Unary) (value : ℕ)
      → IsCounted s (unary_of form of operator value)
  unary_counted (Forms.Unary true) of operator value = word_counted of (Looks.Unary operator value) tt
  unary_counted form of operator value = tt

  binary_counted : (form : Form) (of : IntType) (operator : BinOp) (left right : ℕ)
      → IsCounted s (binary_of form of operator left right)
  binary_counted (Forms.Binary true) of operator left right = word_counted of (Looks.Binary operator left right) tt
  binary_counted form of operator left right = tt

  branch_counted : (form : Form) (of : IntType) (left right : ℕ) → IsCounted s (branch_of form of left right)
  branch_counted (Forms.Test true) of left right = word_counted of (Looks.Branch left right) tt
  branch_counted form of left right = tt

  test_counted : (form : Form) (test : Test) → IsCounted s (branch_by form test)
  test_counted form (Tests.Numbers operator of left right) = branch_counted form of left right
  test_counted form test = tt

  counted : (form : Form) (op : Operation) → IsCounted s (enumerated_look_of form op)
  counted form (Op.Store address value scalar into place) = tt
  counted form (Op.Un to operator of value place) = unary_counted form of operator value
  counted form (Op.Bin to operator of left right place) = binary_counted form of operator left right
  counted form (Op.Assume test) = test_counted form test
  counted form op = tt

module _ (b : SolvedBody) (edge : ℕ) where
  pub all_counted : (let o = origin_at b edge in IsCountedAt b edge (enumerated_look_of o.form (operation_at b edge)))
  all_counted s has = (let o = origin_at b edge in counted s o.form (operation_at b edge))

  pub same_look : (origin : EdgeOrigin) (op : Operation) (look : Look) → origin ≡ origin_at b edge
      → op ≡ operation_at b edge → look ≡ enumerated_look_of origin.form op
      → (let o = origin_at b edge in look ≡ enumerated_look_of o.form (operation_at b edge))
  same_look origin op look origins ops looks =
      looks ∙ λ i. (let o = origins i in enumerated_look_of o.form (ops i))

-- ## What is found is left open

-- a binary operator with a number that is found works on a negative number
module _ (b : SolvedBody) (edge : ℕ) (s : State) where
  abbrev Leaves : Look → Type 0
  Leaves look = Finds b edge s look → IsOpenByRuns b (kind_of look) (place_at b edge look)

  unary_found : (to value : ℕ) (operator : Unary) (of : IntType) (place : Place) (form : Form)
      → HasState b edge (Op.Un to operator of value place) s → (let o = origin_at b edge in o.form ≡ form)
      → Leaves (unary_of form of operator value)
  unary_found to value operator Ints.Int place (Forms.Unary true) has at h =
      worked {op = Op.Un to operator Ints.Int value place} s has (one at refl h) refl
  unary_found to value operator Ints.Long place (Forms.Unary true) has at h =
      worked {op = Op.Un to operator Ints.Long value place} s has (one at refl h) refl
  unary_found to value operator of place (Forms.Unary true) has at h = absurd h
  unary_found to value operator of place form has at h = absurd h

  binary_works : (to left right : ℕ) (operator : BinOp) (of : IntType) (place : Place) (form : Form)
      → form ≡ Forms.Binary true → is_signed_word of ≡ true → Finds b edge s (Looks.Binary operator left right)
      → WorksOnNegative s form (Op.Bin to operator of left right place)
  binary_works to left right operator of place form at word (inl h) = operand at word h
  binary_works to left right operator of place form at word (inr h) = result at word h

  binary_found : (to left right : ℕ) (operator : BinOp) (of : IntType) (place : Place) (form : Form)
      → HasState b edge (Op.Bin to operator of left right place) s → (let o = origin_at b edge in o.form ≡ form)
      → Leaves (binary_of form of operator left right)
  binary_found to left right operator Ints.Int place (Forms.Binary true) has at h =
      (let o = origin_at b edge in worked {op = Op.Bin to operator Ints.Int left right place} s has
      (binary_works to left right operator Ints.Int place o.form at refl h) refl)
  binary_found to left right operator Ints.Long place (Forms.Binary true) has at h =
      (let o = origin_at b edge in worked {op = Op.Bin to operator Ints.Long left right place} s has
      (binary_works to left right operator Ints.Long place o.form at refl h) refl)
  binary_found to left right operator of place (Forms.Binary true) has at h = absurd h
  binary_found to left right operator of place form has at h = absurd h

  branch_found : (left right : ℕ) (operator : BinOp) (of : IntType) (form : Form)
      → HasState b edge (Op.Assume (Tests.Numbers operator of left right)) s
      → (let o = origin_at b edge in o.form ≡ form) → Leaves (branch_of form of left right)
  branch_found left right operator Ints.Int (Forms.Test true) has at h =
      worked {op = Op.Assume (Tests.Numbers operator Ints.Int left right)} s has (compared at refl h) refl
  branch_found left right operator Ints.Long (Forms.Test true) has at h =
      worked {op = Op.Assume (Tests.Numbers operator Ints.Long left right)} s has (compared at refl h) refl
  branch_found left right operator of (Forms.Test true) has at h = absurd h
  branch_found left right operator of form has at h = absurd h

  test_found : (form : Form) (test : Test) → HasState b edge (Op.Assume test) s
      → (let o = origin_at b edge in o.form ≡ form) → Leaves (branch_by form test)
  test_found form (Tests.Numbers operator of left right) has at h =
      branch_found left right operator of form has at h
  test_found form test has at h = absurd h

  pub enumerated_open : (form : Form) (op : Operation) → HasState b edge op s
      → (let o = origin_at b edge in o.form ≡ form) → Leaves (enumerated_look_of form op)
  enumerated_open form (Op.Store address value scalar into place) has at h =
      stored {op = Op.Store address value scalar into place} s has
      (stores h.1.cell h.1.target h.1.enumerated h.0) refl
  enumerated_open form (Op.Un to operator of value place) has at h =
      unary_found to value operator of place form has at h
  enumerated_open form (Op.Bin to operator of left right place) has at h =
      binary_found to left right operator of place form has at h
  enumerated_open form (Op.Assume test) has at h = test_found form test has at h
  enumerated_open form op has at h = absurd h

-- ## What is left open is found

word_looked : (of : IntType) (look : Look) → is_signed_word of ≡ true → in_word of look ≡ look
word_looked Ints.Int look e = refl
word_looked Ints.Long look e = refl
word_looked of look e = absurd (false≢true e)

module _ (b : SolvedBody) (edge : ℕ) (s : State) where
  -- what is looked for at an edge with the form is found
  abbrev pub IsEnumerated : Form → Operation → Type 0
  IsEnumerated form op = (let look = enumerated_look_of form op in
      Finds b edge s look × (kind_of look ≡ Kinds.Enum) × (let o = origin_at b edge in place_at b edge look ≡ o.place))

  -- of a look that is the one for the operation
  by_look : (form : Form) (op : Operation) (look : Look) → enumerated_look_of form op ≡ look → Finds b edge s look
      → kind_of look ≡ Kinds.Enum → (let o = origin_at b edge in place_at b edge look ≡ o.place)
      → IsEnumerated form op
  by_look form op look same h kind place =
      subst (λ l. Finds b edge s l × (kind_of l ≡ Kinds.Enum)
      × (let o = origin_at b edge in place_at b edge l ≡ o.place)) (sym same) (h, kind, place)

  binary_look : (to left right : ℕ) (operator : BinOp) (of : IntType) (place : Place) (form : Form)
      → form ≡ Forms.Binary true → is_signed_word of ≡ true
      → enumerated_look_of form (Op.Bin to operator of left right place) ≡ Looks.Binary operator left right
  binary_look to left right operator of place form at word =
      ap (λ f. binary_of f of operator left right) at ∙ word_looked of (Looks.Binary operator left right) word

  pub stored_found : (form : Form) {op : Operation} → StoresNegative b s op → IsEnumerated form op
  stored_found form
      (stores {address = address} {value = value} {scalar = scalar} {into = into} {place = place} cell target is negative) =
      ((negative, record { cell = cell; target = target; enumerated = is }), refl, refl)

  pub worked_found : {form : Form} {op : Operation} → WorksOnNegative s form op → IsEnumerated form op
  worked_found {form} (operand {to = to} {left = left} {right = right} {op = operator} {of = of} {place = place} at word h) =
      by_look form (Op.Bin to operator of left right place) (Looks.Binary operator left right)
      (binary_look to left right operator of place form at word) (inl h) refl refl
  worked_found {form} (result {to = to} {left = left} {right = right} {op = operator} {of = of} {place = place} at word h) =
      by_look form (Op.Bin to operator of left right place) (Looks.Binary operator left right)
      (binary_look to left right operator of place form at word) (inr h) refl refl
  worked_found {form} (one {to = to} {value = value} {op = operator} {of = of} {place = place} at word h) =
      by_look form (Op.Un to operator of value place) (Looks.Unary operator value)
      (ap (λ f. unary_of f of operator value) at ∙ word_looked of (Looks.Unary operator value) word) h refl refl
  worked_found {form} (compared {left = left} {right = right} {op = operator} {of = of} at word h) =
      by_look form (Op.Assume (Tests.Numbers operator of left right)) (Looks.Branch left right)
      (ap (λ f. branch_of f of left right) at ∙ word_looked of (Looks.Branch left right) word) h refl refl
