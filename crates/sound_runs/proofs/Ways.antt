-- What leaves a node at which a run stands.
use Rattle.std.proofs.Common.{◌≡◌, inl, inr, refl, sym, ap, subst, ◌∙◌, ℕ, Bool, true, false, if◌then◌else◌}
use Rattle.std.proofs.Common.{List, [], ◌∷◌}
use Rattle.std.proofs.Common.{Option, Some, None, Result, Ok, Err, is_some}
use Rattle.std.specs.Prelude.{◌==◌}
use Rattle.std.proofs.lemmas.Bool.{eq-eqb}
use Rattle.layout_laws.specs.tm_cint.declared.Class.{Class}
use Rattle.layout_laws.specs.tm_terms.declared.places.Place.{Place}
use Rattle.layout_laws.specs.tm_typed.declared.types.Scalar.{Scalar}
use Rattle.layout_laws.specs.tm_laid.Layouts.{LaidTree}
use Rattle.program_shape.specs.concrete_values.declared.values.Pointer.TheVariants as Pointers
use Rattle.program_shape.specs.concrete_values.declared.values.Value.{Value}
use Rattle.program_shape.specs.concrete_values.declared.values.Value.TheVariants.{Number, Pointer as APointer}
use Rattle.program_shape.specs.concrete_values.declared.values.Answer.{Answer}
use Rattle.program_shape.specs.concrete_values.declared.actions.Next.{Next}
use Rattle.program_shape.specs.concrete_values.declared.actions.Next.TheVariants as Acts
use Rattle.program_shape.specs.concrete_values.Values.{pointer_of}
use Rattle.program_shape.specs.concrete_values.Operators.{unary, binary}
use Rattle.program_shape.specs.concrete_values.Pointers.{element, moved, dereferenced, usable, size_of}
use Rattle.program_shape.specs.concrete_values.Actions.{load_at, store_at, clear_at}
use Rattle.program_shape.specs.concrete_steps.NextAction.{After}
use Rattle.program_shape.specs.flow_graph.declared.operations.Into.{Into}
use Rattle.program_shape.specs.flow_graph.declared.operations.Operation.{Operation}
use Rattle.program_shape.specs.flow_graph.declared.operations.Operation.TheVariants as Op
use Rattle.program_shape.specs.flow_graph.declared.graphs.Edge.{Edge}
use Rattle.program_shape.specs.flow_graph.Graphs.{Edges, Among, leaving, Leaves, IsSure, IsOpposite, IsFork, IsPlain}
use Rattle.program_shape.specs.flow_graph.Operations.{Temps, holds, put_at, given_by, lets_through, effect_by, Silent}
use Rattle.program_shape.specs.flow_graph.Operations.{Asks, Breaks, effect}
use Rattle.program_shape.specs.flow_graph.Runs.{Memory}
use Rattle.program_shape.specs.flow_graph.Positions.{Asking, Stops, asking, breaking, spinning, ending}
use Rattle.program_shape.specs.mutex_configs.Sets.{held_after, found_after}
use Rattle.program_shape.specs.tm_soundness.Shape.{calculation}
use Rattle.program_shape.specs.Shape.{operation_of, place_at}
use Rattle.sound_runs.specs.Sources.{place_of_next}

-- ## Edges that leave a node

among_case : (x e : Edge) (g : Edges) (node : ℕ) → (Among e g → Among e (leaving g node)) → (b : Bool)
    → (x.from == node) ≡ b → e.from ≡ node → Among e (x ∷ g)
    → Among e (if b then x ∷ leaving g node else leaving g node)
among_case x e g node ih true h at (inl p) = inl p
among_case x e g node ih true h at (inr q) = inr (ih q)
among_case x e g node ih false h at (inl p) =
    let k : (x.from == node) ≡ true = eq-eqb x.from node (ap (λ (z : Edge). z.from) p ∙ at) in
    let l : true ≡ false = sym k ∙ h in cc
among_case x e g node ih false h at (inr q) = ih q

pub among_leaving : (g : Edges) (node : ℕ) (e : Edge) → e.from ≡ node → Among e g → Among e (leaving g node)
among_leaving [] node e at a = absurd a
among_leaving (x ∷ g) node e at a = among_case x e g node (among_leaving g node e at) (x.from == node) refl at a

opposite_sure : (o o' : Operation) → IsOpposite o o' → (IsSure o → ⊥) × (IsSure o' → ⊥)
opposite_sure (Op.Assume test) o' h = (λ s. s, λ s. subst IsSure h.1 s)
opposite_sure o o' h = absurd h

-- where an operation leaves that is no test, nothing else leaves
fork_alone : (l : Edges) → IsFork l → (e f : Edge) → IsSure e.op → Among e l → Among f l → f ≡ e
fork_alone [] h e f s a b = absurd a
fork_alone (x ∷ []) h e f s (inl a) (inl b) = sym b ∙ a
fork_alone (x ∷ []) h e f s (inl a) (inr b) = absurd b
fork_alone (x ∷ []) h e f s (inr a) b = absurd a
fork_alone (x ∷ y ∷ []) h e f s (inl a) b =
    absurd ((opposite_sure x.op y.op h).0 (subst (λ (z : Edge). IsSure z.op) (sym a) s))
fork_alone (x ∷ y ∷ []) h e f s (inr (inl a)) b =
    absurd ((opposite_sure x.op y.op h).1 (subst (λ (z : Edge). IsSure z.op) (sym a) s))
fork_alone (x ∷ y ∷ []) h e f s (inr (inr a)) b = absurd a
fork_alone (x ∷ y ∷ z ∷ l) h e f s a b = absurd h

pub only_one : (g : Edges) → IsPlain g → (node : ℕ) (e f : Edge) → IsSure e.op → Leaves g node e → Leaves g node f
    → f ≡ e
only_one g plain node e f s a b =
    fork_alone (leaving g node) (plain node) e f s (among_leaving g node e a.from a.among)
    (among_leaving g node f b.from b.among)

-- ## Which operation asks for an action

-- and what it does with the answer
abbrev pub AskedBy : Next → Operation → Temps → (Value → Temps) → Type 0
AskedBy (Acts.Load o k s false p) op t f = (x : ℕ) × (to : ℕ) × (op ≡ Op.Load to x s p)
    × (t x ≡ APointer (Pointers.To o k)) × (f ≡ (λ v. put_at to v t))
AskedBy (Acts.Load o k s true p) op t f = (x : ℕ) × (to : ℕ) × (op ≡ Op.LoadAny to x s p)
    × (t x ≡ APointer (Pointers.To o k)) × (f ≡ (λ v. put_at to v t))
AskedBy (Acts.Store o k s v p) op t f = (x : ℕ) × (y : ℕ) × (into : Into) × (op ≡ Op.Store x y s into p)
    × (t x ≡ APointer (Pointers.To o k)) × (t y ≡ v) × (f ≡ (λ v. t))
AskedBy (Acts.Chosen low high) op t f = (to : ℕ) × (op ≡ Op.Any to low high)
AskedBy (Acts.Clear o) op t f = (op ≡ Op.Clear o) × (f ≡ (λ v. t))
AskedBy (Acts.Lock m p) op t f = (op ≡ Op.Lock m p) × (f ≡ (λ v. t))
AskedBy (Acts.Unlock m p) op t f = (op ≡ Op.Unlock m p) × (f ≡ (λ v. t))
AskedBy Acts.Yield op t f = (op ≡ Op.Yield) × (f ≡ (λ v. t))
AskedBy (Acts.Probe m p) op t f = (to : ℕ) × (op ≡ Op.Probe to m p) × (f ≡ (λ v. put_at to v t))
AskedBy (Acts.Fault class p) op t f = ⊥
AskedBy Acts.Ended op t f = ⊥
AskedBy Acts.Spins op t f = ⊥
AskedBy Acts.Misfit op t f = Unit {0}

load_asks : (x to : ℕ) (s : Scalar) (p : Place) (t : Temps) (a : Value) → t x ≡ a
    → AskedBy (load_at a s false p) (Op.Load to x s p) t (λ v. put_at to v t)
unfolding load_at pointer_of
load_asks x to s p t (Number n) e = tt
load_asks x to s p t (APointer Pointers.Null) e = tt
load_asks x to s p t (APointer Pointers.Invalid) e = tt
load_asks x to s p t (APointer (Pointers.To o k)) e = (x, to, refl, e, refl)

load_any_asks : (x to : ℕ) (s : Scalar) (p : Place) (t : Temps) (a : Value) → t x ≡ a
    → AskedBy (load_at a s true p) (Op.LoadAny to x s p) t (λ v. put_at to v t)
unfolding load_at pointer_of
load_any_asks x to s p t (Number n) e = tt
load_any_asks x to s p t (APointer Pointers.Null) e = tt
load_any_asks x to s p t (APointer Pointers.Invalid) e = tt
load_any_asks x to s p t (APointer (Pointers.To o k)) e = (x, to, refl, e, refl)

store_asks : (x y : ℕ) (s : Scalar) (into : Into) (p : Place) (t : Temps) (a : Value) → t x ≡ a
    → AskedBy (store_at a s (t y) p) (Op.Store x y s into p) t (λ v. t)
unfolding store_at pointer_of
store_asks x y s into p t (Number n) e = tt
store_asks x y s into p t (APointer Pointers.Null) e = tt
store_asks x y s into p t (APointer Pointers.Invalid) e = tt
store_asks x y s into p t (APointer (Pointers.To o k)) e = (x, y, into, refl, e, refl, refl)

clear_asks : (o : ℕ) (t : Temps) (b : Bool)
    → AskedBy (if b then Acts.Clear o else Acts.Misfit) (Op.Clear o) t (λ v. t)
clear_asks o t true = (refl, refl)
clear_asks o t false = tt

clear_at_asks : (laid : LaidTree) (o : ℕ) (t : Temps) → AskedBy (clear_at laid o) (Op.Clear o) t (λ v. t)
unfolding clear_at
clear_at_asks laid o t = clear_asks o t (is_some (size_of laid o))

result_asks : (to : Option ℕ) (t : Temps) (place : Place) (r : Result Value Class) (n : Next) (f : Value → Temps)
    → effect_by to t (given_by place r) ≡ Asks n f → ⊥
result_asks to t place (Ok v) n f h = cc
result_asks to t place (Err class) n f h = cc

test_asks : (t : Temps) (b : Bool) (n : Next) (f : Value → Temps) → effect_by None t (lets_through b) ≡ Asks n f → ⊥
test_asks t true n f h = cc
test_asks t false n f h = cc

same_asks : {n n' : Next} {f f' : Value → Temps} → Asks n f ≡ Asks n' f' → (n ≡ n') × (f ≡ f')
same_asks h = (cc, cc)

moved_to : (op : Operation) (t : Temps) (n n' : Next) (f f' : Value → Temps) → Asks n f ≡ Asks n' f' → AskedBy n op t f
    → AskedBy n' op t f'
moved_to op t n n' f f' h a = let s = same_asks h in
    subst (λ z. AskedBy n' op t z) s.1 (subst (λ z. AskedBy z op t f) s.0 a)

pub asks_by : (laid : LaidTree) (op : Operation) (t : Temps) (n : Next) (f : Value → Temps)
    → effect laid op t ≡ Asks n f → AskedBy n op t f
asks_by laid (Op.Load to x s p) t n f h =
    moved_to (Op.Load to x s p) t (load_at (t x) s false p) n (λ v. put_at to v t) f h (load_asks x to s p t (t x) refl)
asks_by laid (Op.LoadAny to x s p) t n f h =
    moved_to (Op.LoadAny to x s p) t (load_at (t x) s true p) n (λ v. put_at to v t) f h
    (load_any_asks x to s p t (t x) refl)
asks_by laid (Op.Store x y s into p) t n f h =
    moved_to (Op.Store x y s into p) t (store_at (t x) s (t y) p) n (λ v. t) f h (store_asks x y s into p t (t x) refl)
asks_by laid (Op.Any to low high) t n f h =
    moved_to (Op.Any to low high) t (Acts.Chosen low high) n (λ v. put_at to v t) f h (to, refl)
asks_by laid (Op.Clear o) t n f h =
    moved_to (Op.Clear o) t (clear_at laid o) n (λ v. t) f h (clear_at_asks laid o t)
asks_by laid (Op.Lock m p) t n f h = moved_to (Op.Lock m p) t (Acts.Lock m p) n (λ v. t) f h (refl, refl)
asks_by laid (Op.Unlock m p) t n f h = moved_to (Op.Unlock m p) t (Acts.Unlock m p) n (λ v. t) f h (refl, refl)
asks_by laid Op.Yield t n f h = moved_to Op.Yield t Acts.Yield n (λ v. t) f h (refl, refl)
asks_by laid (Op.Probe to m p) t n f h =
    moved_to (Op.Probe to m p) t (Acts.Probe m p) n (λ v. put_at to v t) f h (to, refl, refl)
asks_by laid (Op.Un to o of from p) t n f h = absurd (result_asks (Some to) t p (unary o of (t from)) n f h)
asks_by laid (Op.Bin to o of l r p) t n f h = absurd (result_asks (Some to) t p (binary o of (t l) (t r)) n f h)
asks_by laid (Op.Index to from length cells by p) t n f h =
    absurd (result_asks (Some to) t p (element laid length cells (t from) (t by)) n f h)
asks_by laid (Op.Move to from cells minus by p) t n f h =
    absurd (result_asks (Some to) t p (moved laid minus cells (t from) (t by)) n f h)
asks_by laid (Op.Deref to from target path p) t n f h =
    absurd (result_asks (Some to) t p (dereferenced laid path target (t from)) n f h)
asks_by laid (Op.Usable pointer p) t n f h = absurd (result_asks None t p (usable (t pointer)) n f h)
asks_by laid (Op.Assume test) t n f h = absurd (test_asks t (holds test t) n f h)
asks_by laid Op.Skip t n f h = absurd (cc)
asks_by laid (Op.Const to v) t n f h = absurd (cc)
asks_by laid (Op.Copy to from) t n f h = absurd (cc)
asks_by laid (Op.BinPointers to equal l r) t n f h = absurd (cc)
asks_by laid (Op.Convert to was of from) t n f h = absurd (cc)
asks_by laid (Op.Base to o) t n f h = absurd (cc)
asks_by laid (Op.Offset to from cells) t n f h = absurd (cc)

pub asks_sure : (laid : LaidTree) (op : Operation) (t : Temps) (n : Next) (f : Value → Temps)
    → effect laid op t ≡ Asks n f → IsSure op
asks_sure laid (Op.Assume test) t n f h = absurd (test_asks t (holds test t) n f h)
asks_sure laid op t n f h = tt

-- ## Which operation fails

test_breaks : (t : Temps) (b : Bool) (k : Class) (p : Place) → effect_by None t (lets_through b) ≡ Breaks k p → ⊥
test_breaks t true k p h = cc
test_breaks t false k p h = cc

pub breaks_sure : (laid : LaidTree) (op : Operation) (t : Temps) (k : Class) (p : Place)
    → effect laid op t ≡ Breaks k p → IsSure op
breaks_sure laid (Op.Assume test) t k p h = absurd (test_breaks t (holds test t) k p h)
breaks_sure laid op t k p h = tt

result_place : (to : Option ℕ) (t : Temps) (here : Place) (r : Result Value Class) (k : Class) (p : Place)
    → effect_by to t (given_by here r) ≡ Breaks k p → here ≡ p
result_place to t here (Ok v) k p h = absurd (cc)
result_place to t here (Err class) k p h = cc

-- an operation that fails is a calculation, at its place
abbrev pub IsFailing : Operation → Place → Type 0
IsFailing op p = (place_at op ≡ Some p) × ((b : Bool) → operation_of op b ≡ calculation)

pub breaks_by : (laid : LaidTree) (op : Operation) (t : Temps) (k : Class) (p : Place) → effect laid op t ≡ Breaks k p
    → IsFailing op p
breaks_by laid (Op.Un to o of from here) t k p h =
    (ap (λ z. Some z) (result_place (Some to) t here (unary o of (t from)) k p h), λ b. refl)
breaks_by laid (Op.Bin to o of l r here) t k p h =
    (ap (λ z. Some z) (result_place (Some to) t here (binary o of (t l) (t r)) k p h), λ b. refl)
breaks_by laid (Op.Index to from length cells by here) t k p h =
    (ap (λ z. Some z) (result_place (Some to) t here (element laid length cells (t from) (t by)) k p h), λ b. refl)
breaks_by laid (Op.Move to from cells minus by here) t k p h =
    (ap (λ z. Some z) (result_place (Some to) t here (moved laid minus cells (t from) (t by)) k p h), λ b. refl)
breaks_by laid (Op.Deref to from target path here) t k p h =
    (ap (λ z. Some z) (result_place (Some to) t here (dereferenced laid path target (t from)) k p h), λ b. refl)
breaks_by laid (Op.Usable pointer here) t k p h =
    (ap (λ z. Some z) (result_place None t here (usable (t pointer)) k p h), λ b. refl)
breaks_by laid (Op.Assume test) t k p h = absurd (test_breaks t (holds test t) k p h)
breaks_by laid op t k p h = absurd (cc)

-- ## Which operation goes on by itself

-- a calculation, which changes no set
pub record IsCalculation (op : Operation) : Type 0 where
  pub operation : (b : Bool) → operation_of op b ≡ calculation
  pub held : (l : ℕ) → held_after op l ≡ l
  pub found : (b : Bool) (l : ℕ) → found_after op b l ≡ l

pub silent_by : (laid : LaidTree) (op : Operation) (t t' : Temps) → effect laid op t ≡ Silent t' → IsCalculation op
unfolding held_after found_after
silent_by laid (Op.Load to x s p) t t' h = absurd (cc)
silent_by laid (Op.LoadAny to x s p) t t' h = absurd (cc)
silent_by laid (Op.Store x y s into p) t t' h = absurd (cc)
silent_by laid (Op.Any to low high) t t' h = absurd (cc)
silent_by laid (Op.Clear o) t t' h = absurd (cc)
silent_by laid (Op.Lock m p) t t' h = absurd (cc)
silent_by laid (Op.Unlock m p) t t' h = absurd (cc)
silent_by laid Op.Yield t t' h = absurd (cc)
silent_by laid (Op.Probe to m p) t t' h = absurd (cc)
silent_by laid op t t' h = record { operation = λ b. refl; held = λ l. refl; found = λ b l. refl }

-- ## What stops a run

-- the place of what asks
pub asks_place : (n : Next) (op : Operation) (t : Temps) (f : Value → Temps) → (n ≡ Acts.Misfit → ⊥) → AskedBy n op t f
    → place_at op ≡ place_of_next n
asks_place (Acts.Load o k s false p) op t f not a = ap place_at a.2
asks_place (Acts.Load o k s true p) op t f not a = ap place_at a.2
asks_place (Acts.Store o k s v p) op t f not a = ap place_at a.3
asks_place (Acts.Chosen low high) op t f not a = ap place_at a.1
asks_place (Acts.Clear o) op t f not a = ap place_at a.0
asks_place (Acts.Lock m p) op t f not a = ap place_at a.0
asks_place (Acts.Unlock m p) op t f not a = ap place_at a.0
asks_place Acts.Yield op t f not a = ap place_at a.0
asks_place (Acts.Probe m p) op t f not a = ap place_at a.1
asks_place (Acts.Fault class p) op t f not a = absurd a
asks_place Acts.Ended op t f not a = absurd a
asks_place Acts.Spins op t f not a = absurd a
asks_place Acts.Misfit op t f not a = absurd (not refl)

-- an action that waits for an answer
abbrev pub IsAsk : Next → Type 0
IsAsk (Acts.Fault class p) = ⊥
IsAsk Acts.Ended = ⊥
IsAsk Acts.Spins = ⊥
IsAsk Acts.Misfit = ⊥
IsAsk _ = Unit {0}

module _ (laid : LaidTree) (g : Edges) (next : After) (answers : List Answer) (node : ℕ) (m : Memory) where
  abbrev Stopped : Next → Type 0
  Stopped n = Stops laid g next answers node m n

  pub asked : (n : Next) → IsAsk n → Stopped n → Asking laid g next answers node m n
  asked n ask (asking a) = a
  asked n ask (breaking e l h) = absurd ask
  asked n ask (spinning node' m' h) = absurd ask
  asked n ask (ending h) = absurd ask

  pub failed : (n : Next) (k : Class) (p : Place) → n ≡ Acts.Fault k p → Stopped n
      → (e : Edge) × Leaves g node e × (effect laid e.op m.temps ≡ Breaks k p)
  failed n k p is (asking a) =
      absurd (subst (λ z. AskedBy z a.edge.op m.temps a.after) is (asks_by laid a.edge.op m.temps n a.after a.asks))
  failed n k p is (breaking {class = k'} {place = p'} e l h) =
      let a : k' ≡ k = cc in let b : p' ≡ p = cc in
      (e, l, subst (λ z. effect laid e.op m.temps ≡ Breaks z p) a (subst (λ z. effect laid e.op m.temps ≡ Breaks k' z) b h))
  failed n k p is (spinning node' m' h) = absurd (cc)
  failed n k p is (ending h) = absurd (cc)

  -- where a body ends nothing leaves
  pub ended : (n : Next) → n ≡ Acts.Ended → Stopped n → (e : Edge) → Leaves g node e → ⊥
  ended n is (asking a) e l =
      subst (λ z. AskedBy z a.edge.op m.temps a.after) is (asks_by laid a.edge.op m.temps n a.after a.asks)
  ended n is (breaking e' l' h) e l = cc
  ended n is (spinning node' m' h) e l = cc
  ended n is (ending h) e l = subst (λ z. Among e z) h (among_leaving g node e l.from l.among)
