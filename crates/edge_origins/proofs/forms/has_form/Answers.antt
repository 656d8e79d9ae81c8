use Rattle.std.proofs.Common.{inl, inr, sym, subst}
use Rattle.flow_graph.specs.declared.operations.Operation.{Operation}
use Rattle.edge_origins.specs.Bodies.{HasForm}
use Rattle.edge_origins.specs.Bodies.{a_base, a_binary, a_clear, a_constant, a_conversion, a_copy, a_follow, a_load}
use Rattle.edge_origins.specs.Bodies.{a_lock, a_move, a_part, a_probe, a_skip, a_store, a_unary}
use Rattle.edge_origins.specs.Bodies.{a_usable, a_volatile_load, a_yield, an_element, an_equality}
use Rattle.edge_origins.specs.Bodies.{an_initialiser, an_unlock, any_value}
use Rattle.edge_origins.proofs.FormPairs.{formed, unformed, is_of}
use Rattle.edge_origins.proofs.forms.has_form.Goals as goal

pub returns-in-Skip-matches : goal.returns-in-Skip-matches
returns-in-Skip-matches c = formed c.in-Skip.is c.in-Skip-matches.is a_skip

pub returns-in-Constant : goal.returns-in-Constant
returns-in-Constant c = formed c.in-Const.is c.in-Constant.is a_constant

pub returns-in-Copy-matches : goal.returns-in-Copy-matches
returns-in-Copy-matches c = formed c.in-Copy.is c.in-Copy-matches.is a_copy

pub returns-in-Unary : goal.returns-in-Unary
returns-in-Unary c = formed c.in-Un.is c.in-Unary.is a_unary

pub returns-in-Binary : goal.returns-in-Binary
returns-in-Binary c = formed c.in-Bin.is c.in-Binary.is a_binary

pub returns-in-Equality : goal.returns-in-Equality
returns-in-Equality c = formed c.in-BinPointers.is c.in-Equality.is an_equality

pub returns-in-Conversion : goal.returns-in-Conversion
returns-in-Conversion c = formed c.in-Convert.is c.in-Conversion.is a_conversion

pub returns-in-Base-matches : goal.returns-in-Base-matches
returns-in-Base-matches c = formed c.in-Base.is c.in-Base-matches.is a_base

pub returns-in-Part : goal.returns-in-Part
returns-in-Part c = formed c.in-Offset.is c.in-Part.is a_part

pub returns-in-Element : goal.returns-in-Element
returns-in-Element c = formed c.in-Index.is c.in-Element.is an_element

pub returns-in-Move-matches : goal.returns-in-Move-matches
returns-in-Move-matches c = formed c.in-Move.is c.in-Move-matches.is a_move

pub returns-in-Follow : goal.returns-in-Follow
returns-in-Follow c = formed c.in-Deref.is c.in-Follow.is a_follow

pub returns-in-Load-matches : goal.returns-in-Load-matches
returns-in-Load-matches c = formed c.in-Load.is c.in-Load-matches.is a_load

pub returns-in-Load-matches-2 : goal.returns-in-Load-matches-2
returns-in-Load-matches-2 c = formed c.in-LoadAny.is c.in-Load-matches-2.is a_volatile_load

pub returns-in-Store-matches : goal.returns-in-Store-matches
returns-in-Store-matches c = elim c.in-Store-matches.is [
  | inl e ↦ formed c.in-Store.is e a_store
  | inr e ↦ formed c.in-Store.is e an_initialiser
]

pub returns-in-Any-matches : goal.returns-in-Any-matches
returns-in-Any-matches c = formed c.in-Any.is c.in-Any-matches.is any_value

pub returns-in-Clear-matches : goal.returns-in-Clear-matches
returns-in-Clear-matches c = formed c.in-Clear.is c.in-Clear-matches.is a_clear

pub returns-in-Usable-matches : goal.returns-in-Usable-matches
returns-in-Usable-matches c = formed c.in-Usable.is c.in-Usable-matches.is a_usable

pub returns-in-Assume : goal.returns-in-Assume
returns-in-Assume c =
    let At : Operation → Type 0 = λ p. HasForm p c.args.form in (
      λ yes. subst At (sym c.in-Assume.is) (c.is_test.ensures.0 yes),
      λ h. c.is_test.ensures.1 (subst At c.in-Assume.is h),
    )

pub returns-in-Lock-matches : goal.returns-in-Lock-matches
returns-in-Lock-matches c = formed c.in-Lock.is c.in-Lock-matches.is a_lock

pub returns-in-Unlock-matches : goal.returns-in-Unlock-matches
returns-in-Unlock-matches c = formed c.in-Unlock.is c.in-Unlock-matches.is an_unlock

pub returns-in-Yield-matches : goal.returns-in-Yield-matches
returns-in-Yield-matches c = formed c.in-Yield.is c.in-Yield-matches.is a_yield

pub returns-in-Probe-matches : goal.returns-in-Probe-matches
returns-in-Probe-matches c = formed c.in-Probe.is c.in-Probe-matches.is a_probe

pub returns-in_default : goal.returns-in_default
returns-in_default c = unformed c.in-Skip.is (λ h. c.in_default.not-Skip (is_of h))

pub returns-in_default-matches : goal.returns-in_default-matches
returns-in_default-matches c = unformed c.in-Const.is (λ h. c.in_default-matches.not-Constant (is_of h))

pub returns-in_default-matches-2 : goal.returns-in_default-matches-2
returns-in_default-matches-2 c = unformed c.in-Copy.is (λ h. c.in_default-matches-2.not-Copy (is_of h))

pub returns-in_default-matches-3 : goal.returns-in_default-matches-3
returns-in_default-matches-3 c = unformed c.in-Un.is (λ h.
    let u = is_of h in c.in_default-matches-3.not-Unary u.0 u.1)

pub returns-in_default-matches-4 : goal.returns-in_default-matches-4
returns-in_default-matches-4 c = unformed c.in-Bin.is (λ h.
    let b = is_of h in c.in_default-matches-4.not-Binary b.0 b.1)

pub returns-in_default-matches-5 : goal.returns-in_default-matches-5
returns-in_default-matches-5 c = unformed c.in-BinPointers.is (λ h. c.in_default-matches-5.not-Equality (is_of h))

pub returns-in_default-matches-6 : goal.returns-in_default-matches-6
returns-in_default-matches-6 c = unformed c.in-Convert.is (λ h. c.in_default-matches-6.not-Conversion (is_of h))

pub returns-in_default-matches-7 : goal.returns-in_default-matches-7
returns-in_default-matches-7 c = unformed c.in-Base.is (λ h. c.in_default-matches-7.not-Base (is_of h))

pub returns-in_default-matches-8 : goal.returns-in_default-matches-8
returns-in_default-matches-8 c = unformed c.in-Offset.is (λ h. c.in_default-matches-8.not-Part (is_of h))

pub returns-in_default-matches-9 : goal.returns-in_default-matches-9
returns-in_default-matches-9 c = unformed c.in-Index.is (λ h. c.in_default-matches-9.not-Element (is_of h))

pub returns-in_default-matches-11 : goal.returns-in_default-matches-11
returns-in_default-matches-11 c = unformed c.in-Deref.is (λ h. c.in_default-matches-11.not-Follow (is_of h))

pub returns-in_default-matches-12 : goal.returns-in_default-matches-12
returns-in_default-matches-12 c = unformed c.in-Load.is (λ h. c.in_default-matches-12.not-Load (is_of h))

pub returns-in_default-matches-13 : goal.returns-in_default-matches-13
returns-in_default-matches-13 c = unformed c.in-LoadAny.is (λ h. c.in_default-matches-13.not-Load (is_of h))

pub returns-in_default-matches-15 : goal.returns-in_default-matches-15
returns-in_default-matches-15 c = unformed c.in-Any.is (λ h. c.in_default-matches-15.not-Any (is_of h))

pub returns-in_default-matches-16 : goal.returns-in_default-matches-16
returns-in_default-matches-16 c = unformed c.in-Clear.is (λ h. c.in_default-matches-16.not-Clear (is_of h))

pub returns-in_default-matches-17 : goal.returns-in_default-matches-17
returns-in_default-matches-17 c = unformed c.in-Usable.is (λ h. c.in_default-matches-17.not-Usable (is_of h))

pub returns-in_default-matches-18 : goal.returns-in_default-matches-18
returns-in_default-matches-18 c = unformed c.in-Lock.is (λ h. c.in_default-matches-18.not-Lock (is_of h))

pub returns-in_default-matches-19 : goal.returns-in_default-matches-19
returns-in_default-matches-19 c = unformed c.in-Unlock.is (λ h. c.in_default-matches-19.not-Unlock (is_of h))

pub returns-in_default-matches-20 : goal.returns-in_default-matches-20
returns-in_default-matches-20 c = unformed c.in-Yield.is (λ h. c.in_default-matches-20.not-Yield (is_of h))

pub returns-in_default-matches-21 : goal.returns-in_default-matches-21
returns-in_default-matches-21 c = unformed c.in-Probe.is (λ h. c.in_default-matches-21.not-Probe (is_of h))
