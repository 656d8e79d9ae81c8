-- Steps whose variables have kinds: where a part or an element is taken, its address is one where the type stands.
use Rattle.std.proofs.Common.{◌≡◌, refl, sym, ap, ◌∙◌, ℕ, List, [], true, false, Option, Some, None}
use Rattle.std.proofs.Common.{slice_get}
use Rattle.std.proofs.lemmas.Option.{same_Some}
use Rattle.operation_laws.specs.tm_laid.Layouts.{LaidTree}
use Rattle.operation_laws.specs.flow_graph.declared.operations.Operation.{Operation}
use Rattle.operation_laws.specs.flow_graph.declared.operations.Operation.TheVariants as Op
use Rattle.operation_laws.specs.flow_graph.Operations.{given}
use Rattle.operation_laws.specs.lowering.Steps.{Steps, no_more, first_then, Step, operate, value_of, only_do, truth_of}
use Rattle.operation_laws.specs.lowering.Steps.{choose, choose_only, call_of, Inputs, Code, code, Fork, fork_by}
use Rattle.operation_laws.specs.lowering.Steps.{converse, both_of, either_of, Plan, Parts}
use Rattle.operation_laws.specs.lowering.Table.{Conversion, convert_then}
use Rattle.operation_laws.specs.lowering.Built.{renamed}
use Rattle.operation_laws.proofs.Natures as Fit
use Rattle.operation_laws.proofs.Within.{renamed_to, given_renamed}
use Rattle.sound_runs.specs.Addresses.{Kind, address_of, anything, KeepsKinds}
use Rattle.sound_addresses.proofs.Kept.{IsDull, dull_keeps}

pub dull_renamed : (f : ℕ → ℕ) (u : ℕ) (op : Operation) → IsDull op → IsDull (renamed f u op)
dull_renamed f u (Op.Offset to from cells) d = absurd d
dull_renamed f u (Op.Index to from length' cells by place) d = absurd d
dull_renamed f u _ d = tt

-- the temporaries of variables that hold addresses hold them
abbrev pub Sees : List Kind → (ℕ → ℕ) → (ℕ → Kind) → Type 0
Sees vs f kinds = (v n : ℕ) → slice_get vs v ≡ Some (address_of n) → kinds (f v) ≡ address_of n

-- a temporary or variable that is to hold an address has that kind
abbrev pub TempIs : List Kind → ℕ → Kind → Type 0
TempIs ss t (address_of n) = slice_get ss t ≡ Some (address_of n)
TempIs ss t anything = Unit {0}

abbrev pub IsAnything : Kind → Type 0
IsAnything (address_of n) = ⊥
IsAnything anything = Unit {0}

-- a call gives anything
abbrev pub Calls : (ℕ → Type 0) → ℕ → List Kind → Option Kind → Type 0
Calls Call site ins None = Call site
Calls Call site ins (Some k) = Call site × (k ≡ anything)

module _ (laid : LaidTree) (body : ℕ) where
  -- over whatever temporaries of these kinds, the operation keeps the kinds
  abbrev pub OperationFits : List Kind → Operation → Kind → Type 0
  OperationFits vs op k = (f : ℕ → ℕ) (to : ℕ) (kinds : ℕ → Kind) → Sees vs f kinds → kinds to ≡ k
      → KeepsKinds laid body kinds (renamed f to op)

  abbrev pub kinded : Fit.Natures
  kinded = record {
    Nature = Kind;
    Is = TempIs;
    IsAny = IsAnything;
    Acts = λ vs op. IsDull op;
    Yields = OperationFits;
    Tests = λ vs test. Unit {0};
    IsTruth = λ k. k ≡ anything;
    IsCase = λ k. Unit {0};
    Becomes = λ j k. k ≡ anything;
  }

  pub dull_gives : (vs : List Kind) (op : Operation) (t : ℕ) → given op ≡ Some t → IsDull op
      → OperationFits vs op anything
  dull_gives vs op t e h f to kinds see is =
      dull_keeps laid body kinds (renamed f to op) (dull_renamed f to op h) (λ u q.
      let s : Some to ≡ Some u = sym (given_renamed f to op ∙ ap (renamed_to to) e) ∙ q in
      ap kinds (sym (same_Some to u s)) ∙ is)

module _ (laid : LaidTree) (body : ℕ) (Call : ℕ → Type 0) where
  abbrev pub StepsFit : List Kind → Steps → List Kind → Type 0
  StepsFit = Fit.StepsFit (kinded laid body) (Calls Call)

  abbrev pub InputsFit : Inputs → Type 0
  InputsFit es = (ins : List Kind) × Fit.InputsFit (kinded laid body) (Calls Call) es ins

  -- a part, and the kind of its value
  abbrev pub CodeFits : Code → Kind → Type 0
  CodeFits c k = Fit.CodeFits (kinded laid body) (Calls Call) c (Some k)

  abbrev pub ForkFits : Fork → Type 0
  ForkFits = Fit.ForkFits (kinded laid body) (Calls Call)

  abbrev pub MaybeFork : Option Fork → Type 0
  MaybeFork = Fit.MaybeFork (kinded laid body) (Calls Call)

  abbrev pub AnySteps : Steps → Type 0
  AnySteps = Fit.AnySteps (kinded laid body) (Calls Call)

  abbrev pub MaybeCode : Option Code → Type 0
  MaybeCode = Fit.MaybeCode (kinded laid body) (Calls Call) (Some anything)

  abbrev pub PlanFits : Plan → Type 0
  PlanFits = Fit.PlanFits (kinded laid body) (Calls Call) (Some anything)

  abbrev pub PartsFit : Parts → Type 0
  PartsFit = Fit.PartsFit (kinded laid body) (Calls Call) (Some anything)

  -- ## Steps that take no part and no element

  abbrev pub DullStep : Step → Type 0
  DullStep (operate op) = IsDull op
  DullStep (value_of c) = CodeFits c anything
  DullStep (only_do c) = CodeFits c anything
  DullStep (truth_of f) = ForkFits f
  DullStep (choose f x y) = ForkFits f × CodeFits x anything × CodeFits y anything
  DullStep (choose_only f x y) = ForkFits f × CodeFits x anything × CodeFits y anything
  DullStep (call_of b site es p) = Call site × InputsFit es

  abbrev pub DullSteps : Steps → Type 0
  DullSteps no_more = Unit {0}
  DullSteps (first_then s rest) = DullStep s × DullSteps rest

  dull_operation : (op : Operation) (g : Option ℕ) → given op ≡ g → (vs : List Kind) → IsDull op
      → (o : Option Kind) × Fit.Operates (kinded laid body) vs op g o
  dull_operation op None e vs h = (None, h)
  dull_operation op (Some t) e vs h = (Some anything, dull_gives laid body vs op t e h)

  dull_step : (s : Step) (vs : List Kind) → DullStep s
      → (o : Option Kind) × Fit.StepFits (kinded laid body) (Calls Call) vs s o
  dull_step (operate op) vs h = dull_operation op (given op) refl vs h
  dull_step (value_of c) vs h = (Some anything, h)
  dull_step (only_do c) vs h = (None, (Some anything, h))
  dull_step (truth_of f) vs h = (Some anything, (refl, h))
  dull_step (choose f x y) vs h = (Some anything, (anything, anything, h.0, h.1, refl, h.2, refl))
  dull_step (choose_only f x y) vs h = (None, (Some anything, Some anything, h.0, h.1, h.2))
  dull_step (call_of true site es p) vs h = (Some anything, (h.1.0, h.1.1, (h.0, refl)))
  dull_step (call_of false site es p) vs h = (None, (h.1.0, None, h.1.1, h.0))

  pub dull_steps : (steps : Steps) (vs : List Kind) → DullSteps steps → (ws : List Kind) × StepsFit vs steps ws
  dull_steps no_more vs h = (vs, refl)
  dull_steps (first_then s rest) vs h =
      let x = dull_step s vs h.0 in
      let y = dull_steps rest (Fit.with_var vs x.0) h.1 in
      (y.0, (x.0, x.1, y.1))

  -- parts and branches that take none themselves
  abbrev pub DullCode : Code → Type 0
  DullCode (code steps r) = DullSteps steps

  pub dull_code : (c : Code) → DullCode c → CodeFits c anything
  dull_code (code steps None) h = let x = dull_steps steps [] h in (x.0, x.1, tt)
  dull_code (code steps (Some v)) h = let x = dull_steps steps [] h in (x.0, x.1, tt)

  abbrev pub DullFork : Fork → Type 0
  DullFork (fork_by steps test) = DullSteps steps
  DullFork (converse f) = ForkFits f
  DullFork (both_of f g) = ForkFits f × ForkFits g
  DullFork (either_of f g) = ForkFits f × ForkFits g

  pub dull_fork : (f : Fork) → DullFork f → ForkFits f
  dull_fork (fork_by steps test) h = let x = dull_steps steps [] h in (x.0, x.1, tt)
  dull_fork _ h = h

  -- a part for any value
  pub any_code : (c : Code) (k : Kind) → CodeFits c k → CodeFits c anything
  any_code (code steps (Some v)) (address_of n) h = (h.0, h.1, tt)
  any_code (code steps None) (address_of n) h = absurd h.2
  any_code (code steps (Some v)) anything h = h
  any_code (code steps None) anything h = h

  pub convert_dull : (c : Conversion) (v : ℕ) (rest : Steps) → DullSteps rest → DullSteps (convert_then c v rest)
  convert_dull None v rest h = h
  convert_dull (Some c) v rest h = (tt, h)
