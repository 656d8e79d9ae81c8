-- Operations over other temporaries.
use Rattle.std.proofs.Common.{◌≡◌, ℕ, ◌<◌, true, false, refl, ◌∙◌, ap}
use Rattle.std.specs.Prelude.{Option, Some, None}
use Rattle.concrete_steps.specs.tm_laid.Layouts.{LaidTree}
use Rattle.concrete_steps.specs.concrete_values.Values.{is_true}
use Rattle.concrete_steps.specs.concrete_values.Operators.{unary, binary, converted, is_case}
use Rattle.concrete_steps.specs.concrete_values.Pointers.{part, element, moved, dereferenced, usable, is_compared}
use Rattle.concrete_steps.specs.concrete_values.Pointers.{compared}
use Rattle.concrete_steps.specs.concrete_values.Actions.{load_at, store_at}
use Rattle.flow_graph.specs.declared.operations.Test.{Test}
use Rattle.flow_graph.specs.declared.operations.Test.TheVariants as Tests
use Rattle.flow_graph.specs.declared.operations.Operation.{Operation}
use Rattle.flow_graph.specs.declared.operations.Operation.TheVariants as Op
use Rattle.flow_graph.specs.Operations.{Temps, is_given_true, is_as, holds, gives, shut, asks, given_by, lets_through}
use Rattle.flow_graph.specs.Operations.{doing, given, used, tested, effect_by}
use Rattle.flow_graph.specs.Graphs.{IsSure, IsTest}
use Rattle.flow_graph.proofs.Positions.{sure_open}
use Rattle.lowering.specs.Built.{renamed_test, renamed}
use Rattle.lowering.proofs.Scopes.{Below}

abbrev pub renamed_to : ℕ → Option ℕ → Option ℕ
renamed_to to (Some t) = Some to
renamed_to to None = None

pub given_renamed : (f : ℕ → ℕ) (t : ℕ) (op : Operation) → given (renamed f t op) ≡ renamed_to t (given op)
given_renamed f t Op.Skip = refl
given_renamed f t (Op.Const to value) = refl
given_renamed f t (Op.Copy to from) = refl
given_renamed f t (Op.Un to operator of from place) = refl
given_renamed f t (Op.Bin to operator of left right place) = refl
given_renamed f t (Op.BinPointers to equal left right) = refl
given_renamed f t (Op.Convert to was of from) = refl
given_renamed f t (Op.Base to object) = refl
given_renamed f t (Op.Offset to from cells) = refl
given_renamed f t (Op.Index to from length cells by place) = refl
given_renamed f t (Op.Move to from cells minus by place) = refl
given_renamed f t (Op.Deref to from target path place) = refl
given_renamed f t (Op.Load to address scalar place) = refl
given_renamed f t (Op.LoadAny to address scalar place) = refl
given_renamed f t (Op.Store address value scalar into place) = refl
given_renamed f t (Op.Any to low high) = refl
given_renamed f t (Op.Clear object) = refl
given_renamed f t (Op.Usable pointer place) = refl
given_renamed f t (Op.Assume test) = refl
given_renamed f t (Op.Lock mutex place) = refl
given_renamed f t (Op.Unlock mutex place) = refl
given_renamed f t Op.Yield = refl
given_renamed f t (Op.Probe to mutex place) = refl

pub holds_renamed : (f : ℕ → ℕ) (test : Test) (t : Temps) → holds (renamed_test f test) t ≡ holds test (λ v. t (f v))
holds_renamed f (Tests.Numbers operator of left right) t = refl
holds_renamed f (Tests.Pointers equal left right) t = refl
holds_renamed f (Tests.Truth is value) t = refl
holds_renamed f (Tests.Case is label value) t = refl

pub doing_renamed : (laid : LaidTree) (f : ℕ → ℕ) (u : ℕ) (op : Operation) (t : Temps)
    → doing laid (renamed f u op) t ≡ doing laid op (λ v. t (f v))
doing_renamed laid f u Op.Skip t = refl
doing_renamed laid f u (Op.Const to value) t = refl
doing_renamed laid f u (Op.Copy to from) t = refl
doing_renamed laid f u (Op.Un to operator of from place) t = refl
doing_renamed laid f u (Op.Bin to operator of left right place) t = refl
doing_renamed laid f u (Op.BinPointers to equal left right) t = refl
doing_renamed laid f u (Op.Convert to was of from) t = refl
doing_renamed laid f u (Op.Base to object) t = refl
doing_renamed laid f u (Op.Offset to from cells) t = refl
doing_renamed laid f u (Op.Index to from length cells by place) t = refl
doing_renamed laid f u (Op.Move to from cells minus by place) t = refl
doing_renamed laid f u (Op.Deref to from target path place) t = refl
doing_renamed laid f u (Op.Load to address scalar place) t = refl
doing_renamed laid f u (Op.LoadAny to address scalar place) t = refl
doing_renamed laid f u (Op.Store address value scalar into place) t = refl
doing_renamed laid f u (Op.Any to low high) t = refl
doing_renamed laid f u (Op.Clear object) t = refl
doing_renamed laid f u (Op.Usable pointer place) t = refl
doing_renamed laid f u (Op.Assume test) t = ap lets_through (holds_renamed f test t)
doing_renamed laid f u (Op.Lock mutex place) t = refl
doing_renamed laid f u (Op.Unlock mutex place) t = refl
doing_renamed laid f u Op.Yield t = refl
doing_renamed laid f u (Op.Probe to mutex place) t = refl

pub holds_same : (test : Test) (s t : Temps) (n : ℕ) → Below n (tested test) → ((v : ℕ) → v < n → s v ≡ t v)
    → holds test s ≡ holds test t
holds_same (Tests.Numbers operator of left right) s t n b h =
    ap (λ y. is_given_true (binary operator of y (s right))) (h left b.0)
    ∙ ap (λ z. is_given_true (binary operator of (t left) z)) (h right b.1.0)
holds_same (Tests.Pointers equal left right) s t n b h = ap (λ y. is_compared equal y (s right)) (h left b.0)
    ∙ ap (λ z. is_compared equal (t left) z) (h right b.1.0)
holds_same (Tests.Truth is value) s t n b h = ap (λ z. is_as is (is_true z)) (h value b.0)
holds_same (Tests.Case is label value) s t n b h = ap (λ z. is_as is (is_case label z)) (h value b.0)

pub doing_same : (laid : LaidTree) (op : Operation) (s t : Temps) (n : ℕ) → Below n (used op)
    → ((v : ℕ) → v < n → s v ≡ t v) → doing laid op s ≡ doing laid op t
doing_same laid Op.Skip s t n b h = refl
doing_same laid (Op.Const to value) s t n b h = refl
doing_same laid (Op.Copy to from) s t n b h = ap (λ z. gives z) (h from b.0)
doing_same laid (Op.Un to operator of from place) s t n b h = ap (λ z. given_by place (unary operator of z))
    (h from b.0)
doing_same laid (Op.Bin to operator of left right place) s t n b h =
    ap (λ y. given_by place (binary operator of y (s right))) (h left b.0)
    ∙ ap (λ z. given_by place (binary operator of (t left) z)) (h right b.1.0)
doing_same laid (Op.BinPointers to equal left right) s t n b h = ap (λ y. gives (compared equal y (s right)))
    (h left b.0) ∙ ap (λ z. gives (compared equal (t left) z)) (h right b.1.0)
doing_same laid (Op.Convert to was of from) s t n b h = ap (λ z. gives (converted was of z)) (h from b.0)
doing_same laid (Op.Base to object) s t n b h = refl
doing_same laid (Op.Offset to from cells) s t n b h = ap (λ z. gives (part laid cells z)) (h from b.0)
doing_same laid (Op.Index to from length cells by place) s t n b h =
    ap (λ y. given_by place (element laid length cells y (s by))) (h from b.0)
    ∙ ap (λ z. given_by place (element laid length cells (t from) z)) (h by b.1.0)
doing_same laid (Op.Move to from cells minus by place) s t n b h =
    ap (λ y. given_by place (moved laid minus cells y (s by))) (h from b.0)
    ∙ ap (λ z. given_by place (moved laid minus cells (t from) z)) (h by b.1.0)
doing_same laid (Op.Deref to from target path place) s t n b h =
    ap (λ z. given_by place (dereferenced laid path target z)) (h from b.0)
doing_same laid (Op.Load to address scalar place) s t n b h = ap (λ z. asks (load_at z scalar false place))
    (h address b.0)
doing_same laid (Op.LoadAny to address scalar place) s t n b h = ap (λ z. asks (load_at z scalar true place))
    (h address b.0)
doing_same laid (Op.Store address value scalar into place) s t n b h =
    ap (λ y. asks (store_at y scalar (s value) place)) (h address b.0)
    ∙ ap (λ z. asks (store_at (t address) scalar z place)) (h value b.1.0)
doing_same laid (Op.Any to low high) s t n b h = refl
doing_same laid (Op.Clear object) s t n b h = refl
doing_same laid (Op.Usable pointer place) s t n b h = ap (λ z. given_by place (usable z)) (h pointer b.0)
doing_same laid (Op.Assume test) s t n b h = ap lets_through (holds_same test s t n b h)
doing_same laid (Op.Lock mutex place) s t n b h = refl
doing_same laid (Op.Unlock mutex place) s t n b h = refl
doing_same laid Op.Yield s t n b h = refl
doing_same laid (Op.Probe to mutex place) s t n b h = refl

pub sure_renamed : (f : ℕ → ℕ) (t : ℕ) (op : Operation) → IsSure op → IsSure (renamed f t op)
sure_renamed f t Op.Skip h = tt
sure_renamed f t (Op.Const to value) h = tt
sure_renamed f t (Op.Copy to from) h = tt
sure_renamed f t (Op.Un to operator of from place) h = tt
sure_renamed f t (Op.Bin to operator of left right place) h = tt
sure_renamed f t (Op.BinPointers to equal left right) h = tt
sure_renamed f t (Op.Convert to was of from) h = tt
sure_renamed f t (Op.Base to object) h = tt
sure_renamed f t (Op.Offset to from cells) h = tt
sure_renamed f t (Op.Index to from length cells by place) h = tt
sure_renamed f t (Op.Move to from cells minus by place) h = tt
sure_renamed f t (Op.Deref to from target path place) h = tt
sure_renamed f t (Op.Load to address scalar place) h = tt
sure_renamed f t (Op.LoadAny to address scalar place) h = tt
sure_renamed f t (Op.Store address value scalar into place) h = tt
sure_renamed f t (Op.Any to low high) h = tt
sure_renamed f t (Op.Clear object) h = tt
sure_renamed f t (Op.Usable pointer place) h = tt
sure_renamed f t (Op.Assume test) h = absurd h
sure_renamed f t (Op.Lock mutex place) h = tt
sure_renamed f t (Op.Unlock mutex place) h = tt
sure_renamed f t Op.Yield h = tt
sure_renamed f t (Op.Probe to mutex place) h = tt

pub test_renamed : (f : ℕ → ℕ) (test : Test) → IsTest test → IsTest (renamed_test f test)
test_renamed f (Tests.Numbers operator of left right) h = h
test_renamed f (Tests.Pointers equal left right) h = tt
test_renamed f (Tests.Truth is value) h = tt
test_renamed f (Tests.Case is label value) h = tt

-- what is no test never shuts
pub sure_goes : (laid : LaidTree) (op : Operation) (t : Temps) → IsSure op → doing laid op t ≡ shut → ⊥
sure_goes laid op t h e = sure_open laid op t h (ap (λ d. effect_by (given op) t d) e)
