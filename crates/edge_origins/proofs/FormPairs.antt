-- Operations and their forms.
use Rattle.std.proofs.Common.{◌≡◌, ◌↔◌, IsTrue, Bool, true, false, ℕ, zero, suc, ◌+◌, ◌<◌, ◌≤◌, List, [], ◌∷◌, ◌++◌}
use Rattle.std.proofs.Common.{length, get_or, take, refl, sym, ap, subst, arith}
use Rattle.std.proofs.lemmas.Bool.{false≢true}
use Rattle.std.proofs.lemmas.List.{take_more, take_all}
use Rattle.flow_graph.specs.declared.operations.Test.{Test}
use Rattle.flow_graph.specs.declared.operations.Test.TheVariants as Tests
use Rattle.flow_graph.specs.declared.operations.Operation.{Operation}
use Rattle.flow_graph.specs.declared.operations.Operation.TheVariants as Op
use Rattle.flow_graph.specs.declared.graphs.Edge.{Edge}
use Rattle.path_origins.specs.declared.origins.Form.{Form}
use Rattle.path_origins.specs.declared.origins.Form.TheVariants as Forms
use Rattle.edge_origins.specs.declared.origins.EdgeOrigin.{EdgeOrigin}
use Rattle.edge_origins.specs.Bodies.{HasForm, a_test, AreOf, of_none, of_more}
use Rattle.edge_origins.specs.Bodies.{a_base, a_binary, a_clear, a_constant, a_conversion, a_copy, a_follow, a_load}
use Rattle.edge_origins.specs.Bodies.{a_lock, a_move, a_part, a_probe, a_skip, a_store, a_unary}
use Rattle.edge_origins.specs.Bodies.{a_usable, a_volatile_load, a_yield, an_element, an_equality}
use Rattle.edge_origins.specs.Bodies.{an_initialiser, an_unlock, any_value}

-- an operation has this form
pub formed : {op o : Operation} {form f : Form} → op ≡ o → form ≡ f → HasForm o f → IsTrue true ↔ HasForm op form
formed {op} {o} {form} {f} same same_form h =
    let At : Operation → Type 0 = λ p. HasForm p form in
    (λ _. subst At (sym same) (subst (HasForm o) (sym same_form) h), λ _. refl)

-- the forms that an operation has, where there is one
abbrev pub IsOf : Operation → Form → Type 0
IsOf Op.Skip g = g ≡ Forms.Skip
IsOf (Op.Const _ _) g = g ≡ Forms.Constant
IsOf (Op.Copy _ _) g = g ≡ Forms.Copy
IsOf (Op.Un _ _ _ _ _) g = (b : Bool) × (g ≡ Forms.Unary b)
IsOf (Op.Bin _ _ _ _ _ _) g = (b : Bool) × (g ≡ Forms.Binary b)
IsOf (Op.BinPointers _ _ _ _) g = g ≡ Forms.Equality
IsOf (Op.Convert _ _ _ _) g = g ≡ Forms.Conversion
IsOf (Op.Base _ _) g = g ≡ Forms.Base
IsOf (Op.Offset _ _ _) g = g ≡ Forms.Part
IsOf (Op.Index _ _ _ _ _ _) g = g ≡ Forms.Element
IsOf (Op.Deref _ _ _ _ _) g = g ≡ Forms.Follow
IsOf (Op.Load _ _ _ _) g = g ≡ Forms.Load
IsOf (Op.LoadAny _ _ _ _) g = g ≡ Forms.Load
IsOf (Op.Any _ _ _) g = g ≡ Forms.Any
IsOf (Op.Clear _) g = g ≡ Forms.Clear
IsOf (Op.Usable _ _) g = g ≡ Forms.Usable
IsOf (Op.Lock _ _) g = g ≡ Forms.Lock
IsOf (Op.Unlock _ _) g = g ≡ Forms.Unlock
IsOf Op.Yield g = g ≡ Forms.Yield
IsOf (Op.Probe _ _ _) g = g ≡ Forms.Probe
IsOf operation g = Unit {0}

pub is_of : {op : Operation} {f : Form} → HasForm op f → IsOf op f
is_of a_skip = refl
is_of a_constant = refl
is_of a_copy = refl
is_of a_unary = (_, refl)
is_of a_binary = (_, refl)
is_of an_equality = refl
is_of a_conversion = refl
is_of a_base = refl
is_of a_part = refl
is_of an_element = refl
is_of a_follow = refl
is_of a_load = refl
is_of a_volatile_load = refl
is_of any_value = refl
is_of a_clear = refl
is_of a_usable = refl
is_of a_lock = refl
is_of an_unlock = refl
is_of a_yield = refl
is_of a_probe = refl
is_of a_move = tt
is_of a_store = tt
is_of an_initialiser = tt
is_of (a_test _) = tt

-- an operation has not this form
pub unformed : {op o : Operation} {form : Form} → op ≡ o → (HasForm o form → ⊥) → IsTrue false ↔ HasForm op form
unformed {op} {o} {form} same none =
    let At : Operation → Type 0 = λ p. HasForm p form in
    (λ no. absurd (false≢true no), λ h. absurd (none (subst At same h)))

-- a test has this form
pub test_formed : {test t : Test} {form f : Form} → test ≡ t → form ≡ f → HasForm (Op.Assume t) f
    → IsTrue true ↔ HasForm (Op.Assume test) form
test_formed {test} {t} {form} {f} same same_form h =
    let At : Test → Type 0 = λ u. HasForm (Op.Assume u) form in
    let Of : Form → Type 0 = λ g. HasForm (Op.Assume t) g in
    (λ _. subst At (sym same) (subst Of (sym same_form) h), λ _. refl)

-- the forms that a test has
abbrev pub IsTestOf : Test → Form → Type 0
IsTestOf (Tests.Pointers _ _ _) g = g ≡ Forms.EqualityTest
IsTestOf test g = (b : Bool) × (g ≡ Forms.Test b)

pub of_test : (t : Test) {f : Form} → HasForm (Op.Assume t) f → IsTestOf t f
of_test (Tests.Numbers _ _ _ _) (a_test b) = (b, refl)
of_test (Tests.Pointers _ _ _) (a_test b) = refl
of_test (Tests.Truth _ _) (a_test b) = (b, refl)
of_test (Tests.Case _ _ _) (a_test b) = (b, refl)

-- a test has not this form
pub test_unformed : {test t : Test} {form : Form} → test ≡ t → (HasForm (Op.Assume t) form → ⊥)
    → IsTrue false ↔ HasForm (Op.Assume test) form
test_unformed {test} {t} {form} same none =
    let At : Test → Type 0 = λ u. HasForm (Op.Assume u) form in
    (λ no. absurd (false≢true no), λ h. absurd (none (subst At same h)))

-- ## In order

of_push : (es : List Edge) (os : List EdgeOrigin) (e : Edge) (o : EdgeOrigin) → AreOf es os → HasForm e.op o.form
    → AreOf (es ++ e ∷ []) (os ++ o ∷ [])
of_push [] [] e o of_none h = of_more h of_none
of_push [] (p ∷ os) e o none h = elim none [ ]
of_push (f ∷ es) [] e o none h = elim none [ ]
of_push (f ∷ es) (p ∷ os) e o (of_more one rest) h = of_more one (of_push es os e o rest h)

pub of_next : (es : List Edge) (os : List EdgeOrigin) (i : ℕ) (e : Edge) (o : EdgeOrigin) → i < length es
    → i < length os → AreOf (take i es) (take i os) → HasForm (get_or es i e).op (get_or os i o).form
    → AreOf (take (i + 1) es) (take (i + 1) os)
of_next es os i e o below within before h =
    let more = of_push (take i es) (take i os) (get_or es i e) (get_or os i o) before h in
    let Es : List Edge → Type 0 = λ l. AreOf l (take i os ++ get_or os i o ∷ []) in
    let Os : List EdgeOrigin → Type 0 = λ l. AreOf (take (i + 1) es) l in
    subst Os (sym (take_more os i o within)) (subst Es (sym (take_more es i e below)) more)

pub of_all : (es : List Edge) (os : List EdgeOrigin) (i : ℕ) → length es ≤ i → length os ≤ i
    → AreOf (take i es) (take i os) → AreOf es os
of_all es os i below within before =
    let Es : List Edge → Type 0 = λ l. AreOf l (take i os) in
    let Os : List EdgeOrigin → Type 0 = λ l. AreOf es l in
    subst Os (take_all i os within) (subst Es (take_all i es below) before)

-- there are as many edges as origins
pub as_many : {es : List Edge} {os : List EdgeOrigin} → AreOf es os → length es ≡ length os
as_many of_none = refl
as_many (of_more h rest) = ap suc (as_many rest)

-- the operation at a number has the form there
pub of_at : {es : List Edge} {os : List EdgeOrigin} → AreOf es os → (i : ℕ) (e : Edge) (o : EdgeOrigin) → i < length es
    → HasForm (get_or es i e).op (get_or os i o).form
of_at of_none i e o lt = absurd (omega (arith, lt))
of_at (of_more h rest) zero e o lt = h
of_at (of_more h rest) (suc i) e o lt = of_at rest i e o (omega (arith, lt))
