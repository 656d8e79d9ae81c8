-- Which operation is of which kind, where it leads somewhere, and what it uses.
use Rattle.std.specs.Prelude.{◌≡◌, ◌⊎◌, ℕ, ◌<◌, Bool, true, false, not, List, [], ◌∷◌}
use Rattle.std.proofs.Common.{refl, sym, ap, ◌∙◌, inl, inr}
use Rattle.program_shape.specs.tm_terms.declared.places.Place.{Place}
use Rattle.program_shape.specs.tm_typed.declared.types.Scalar.{Scalar}
use Rattle.program_shape.specs.tm_typed.declared.expressions.Unary.TheVariants.{Negate, Complement}
use Rattle.program_shape.specs.tm_laid.Layouts.{LaidTree}
use Rattle.program_shape.specs.flow_graph.declared.operations.Into.{Into}
use Rattle.program_shape.specs.flow_graph.declared.operations.Test.{Test}
use Rattle.program_shape.specs.flow_graph.declared.operations.Test.TheVariants as Tests
use Rattle.program_shape.specs.flow_graph.declared.operations.Operation.{Operation as GraphOperation}
use Rattle.program_shape.specs.flow_graph.declared.operations.Operation.TheVariants as Op
use Rattle.program_shape.specs.flow_graph.Operations.{used, tested}
use Rattle.program_shape.specs.flow_graph.Graphs.{Among}
use Rattle.program_shape.specs.mutex_configs.Sets.{has, leads_nowhere, IsOfSixteen}
use Rattle.program_reports.specs.pointer_dom.Values.{Values}
use Rattle.program_reports.specs.transfer_rows.Actions.{Spot, loads_any}
use Rattle.program_reports.specs.transfer_rows.Meanings.{IsOperand, IsFiltered}
use Rattle.program_reports.specs.edge_actions.Edges.{action_of, filter_of}
use Rattle.program_shape.specs.tm_soundness.Shape.{calculation, load, load_any, store, clear, unlock, yields, probe}
use Rattle.program_shape.specs.Shape.{operation_of}
use Rattle.sound_tables.specs.Meanings.{IsUsed}
use Rattle.sound_tables.proofs.SetsAfter.{IsQuiet}

pub is_load : (op : GraphOperation) (answer : Bool) (a t : ℕ) → operation_of op answer ≡ load a t
    → (s : Scalar) × (q : Place) × (op ≡ Op.Load t a s q)
is_load (Op.Load to b s q) answer a t h =
    (s, q, let e : b ≡ a = cc in let f : to ≡ t = cc in ap (λ z. Op.Load z b s q) f ∙ ap (λ z. Op.Load t z s q) e)
is_load op answer a t h = absurd (cc)

pub is_load_any : (op : GraphOperation) (answer : Bool) (a : ℕ) → operation_of op answer ≡ load_any a
    → (t : ℕ) × (s : Scalar) × (q : Place) × (op ≡ Op.LoadAny t a s q)
is_load_any (Op.LoadAny to b s q) answer a h = (to, s, q, let e : b ≡ a = cc in ap (λ z. Op.LoadAny to z s q) e)
is_load_any op answer a h = absurd (cc)

pub is_store : (op : GraphOperation) (answer : Bool) (a v : ℕ) → operation_of op answer ≡ store a v
    → (s : Scalar) × (into : Into) × (q : Place) × (op ≡ Op.Store a v s into q)
is_store (Op.Store b w s into q) answer a v h = (
  s,
  into,
  q,
  let e : b ≡ a = cc in let f : w ≡ v = cc in
      ap (λ z. Op.Store z w s into q) e ∙ ap (λ z. Op.Store a z s into q) f,
)
is_store op answer a v h = absurd (cc)

pub is_clear : (op : GraphOperation) (answer : Bool) → operation_of op answer ≡ clear
    → (o : ℕ) × (op ≡ Op.Clear o)
is_clear (Op.Clear o) answer h = (o, refl)
is_clear op answer h = absurd (cc)

pub is_unlock : (op : GraphOperation) (answer : Bool) (m : ℕ) → operation_of op answer ≡ unlock m
    → (q : Place) × (op ≡ Op.Unlock m q)
is_unlock (Op.Unlock n q) answer m h = (q, let e : n ≡ m = cc in ap (λ z. Op.Unlock z q) e)
is_unlock op answer m h = absurd (cc)

pub is_yield : (op : GraphOperation) (answer : Bool) → operation_of op answer ≡ yields → op ≡ Op.Yield
is_yield Op.Yield answer h = refl
is_yield op answer h = absurd (cc)

pub is_probe : (op : GraphOperation) (answer : Bool) (m t : ℕ) (b : Bool) → operation_of op answer ≡ probe m t b
    → (q : Place) × (op ≡ Op.Probe t m q) × (answer ≡ b)
is_probe (Op.Probe to n q) answer m t b h =
    (q, let e : n ≡ m = cc in let f : to ≡ t = cc in ap (λ z. Op.Probe z n q) f ∙ ap (λ z. Op.Probe t z q) e, cc)
is_probe op answer m t b h = absurd (cc)

-- ## Where an operation leads

pub quiet_leads : (op : GraphOperation) (answer : Bool) (l : ℕ) → IsQuiet (operation_of op answer)
    → leads_nowhere op answer l ≡ false
unfolding leads_nowhere
quiet_leads (Op.Lock m q) answer l h = absurd h
quiet_leads (Op.Unlock m q) answer l h = absurd h
quiet_leads Op.Yield answer l h = absurd h
quiet_leads (Op.Probe to m q) true l h = refl
quiet_leads (Op.Probe to m q) false l h = absurd h
quiet_leads op answer l h = refl

pub yield_leads : (answer : Bool) (l : ℕ) → leads_nowhere Op.Yield answer l ≡ false
unfolding leads_nowhere
yield_leads answer l = refl

pub lock_leads : (m l : ℕ) (q : Place) (answer : Bool) → has l m ≡ false → leads_nowhere (Op.Lock m q) answer l ≡ false
unfolding leads_nowhere
lock_leads m l q answer h = h

pub unlock_leads : (m l : ℕ) (q : Place) (answer : Bool) → has l m ≡ true
    → leads_nowhere (Op.Unlock m q) answer l ≡ false
unfolding leads_nowhere
unlock_leads m l q answer h = ap not h

pub free_leads : (t m l : ℕ) (q : Place) → has l m ≡ false → leads_nowhere (Op.Probe t m q) false l ≡ false
unfolding leads_nowhere
free_leads t m l q h = h

pub lock_small : (m : ℕ) (q : Place) → IsOfSixteen (Op.Lock m q) → m < 16
unfolding IsOfSixteen
lock_small m q h = h

pub probe_small : (t m : ℕ) (q : Place) → IsOfSixteen (Op.Probe t m q) → m < 16
unfolding IsOfSixteen
probe_small t m q h = h

pub unlock_small : (m : ℕ) (q : Place) → IsOfSixteen (Op.Unlock m q) → m < 16
unfolding IsOfSixteen
unlock_small m q h = h

-- ## What an operation uses

two : {A : Type 0} (x y u : A) → (u ≡ x) ⊎ (u ≡ y) → Among u (x ∷ y ∷ [])
two x y u (inl e) = inl (sym e)
two x y u (inr e) = inr (inl (sym e))

test_used : (pointers : Bool) (test : Test) (u : ℕ) → IsFiltered (filter_of pointers test) u → Among u (tested test)
test_used pointers (Tests.Numbers operator of left right) u h = two left right u h
test_used pointers (Tests.Pointers equal left right) u h = two left right u h
test_used true (Tests.Truth holds value) u (inl e) = inl (sym e)
test_used true (Tests.Truth holds value) u (inr e) = absurd e
test_used false (Tests.Truth holds value) u (inl e) = inl (sym e)
test_used false (Tests.Truth holds value) u (inr e) = absurd e
test_used pointers (Tests.Case holds label value) u (inl e) = inl (sym e)
test_used pointers (Tests.Case holds label value) u (inr e) = absurd e

pub used_in : (laid : LaidTree) (task : ℕ) (pointers answer : Bool) (op : GraphOperation) (u : ℕ)
    → IsUsed (action_of laid task pointers answer op) u → Among u (used op)
unfolding IsOperand
used_in laid task pointers answer Op.Skip u h = absurd h
used_in laid task pointers answer (Op.Const to value) u h = absurd h
used_in laid task pointers answer (Op.Copy to from) u h = inl (sym h)
used_in laid task pointers answer (Op.Un to Negate of from place) u h = inl (sym h)
used_in laid task pointers answer (Op.Un to Complement of from place) u h = inl (sym h)
used_in laid task pointers answer (Op.Bin to operator of left right place) u h = two left right u h
used_in laid task pointers answer (Op.BinPointers to equal left right) u h = two left right u h
used_in laid task pointers answer (Op.Convert to was of from) u h = inl (sym h)
used_in laid task pointers answer (Op.Base to object) u h = absurd h
used_in laid task pointers answer (Op.Offset to from cells) u h = inl (sym h)
used_in laid task pointers answer (Op.Index to from count cells by place) u h = two from by u h
used_in laid task pointers answer (Op.Move to from cells minus by place) u h = two from by u h
used_in laid task pointers answer (Op.Deref to from target path place) u h = inl (sym h)
used_in laid task pointers answer (Op.Load to address scalar place) u h = inl (sym h)
used_in laid task pointers answer (Op.LoadAny to address scalar place) u h = inl (sym h)
used_in laid task pointers answer (Op.Store address value scalar into place) u h = two address value u h
used_in laid task pointers answer (Op.Any to low high) u h = absurd h
used_in laid task pointers answer (Op.Clear object) u h = absurd h
used_in laid task pointers answer (Op.Usable pointer place) u h = inl (sym h)
used_in laid task pointers answer (Op.Assume test) u h = test_used pointers test u h
used_in laid task pointers answer (Op.Lock mutex place) u h = absurd h
used_in laid task pointers answer (Op.Unlock mutex place) u h = absurd h
used_in laid task pointers answer Op.Yield u h = absurd h
used_in laid task pointers answer (Op.Probe to mutex place) u h = absurd h

-- a calculation is no load
pub no_load : (laid : LaidTree) (task : ℕ) (pointers answer : Bool) (op : GraphOperation)
    → operation_of op answer ≡ calculation → (spots : List Spot) (t a : ℕ) (range : Values)
    → action_of laid task pointers answer op ≡ loads_any spots t a range → ⊥
no_load laid task pointers answer (Op.LoadAny to address scalar place) is spots t a range h = cc
no_load laid task pointers answer op is spots t a range h = cc
