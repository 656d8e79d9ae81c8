-- What is noted of the edges of bodies: those of tasks, and of the initial section.
use Rattle.std.specs.Prelude.{◌≡◌, ℕ, suc, ◌+◌, ◌<◌, Bool, true, false, List, [], ◌∷◌, length, Some, Contains, ◌↔◌}
use Rattle.std.specs.Prelude.{slice_get}
use Rattle.tm_terms.specs.declared.places.Place.{Place}
use Rattle.tm_laid.specs.Layouts.{LaidTree, first_path}
use Rattle.flow_graph.specs.declared.operations.Test.{Test}
use Rattle.flow_graph.specs.declared.operations.Test.TheVariants as Tests
use Rattle.flow_graph.specs.declared.operations.Operation.{Operation}
use Rattle.flow_graph.specs.declared.operations.Operation.TheVariants as Op
use Rattle.flow_graph.specs.declared.graphs.Edge.{Edge}
use Rattle.flow_graph.specs.declared.graphs.Graph.{Graph}
use Rattle.body_builder.specs.concrete_steps.NextAction.{function_at}
use Rattle.path_origins.specs.declared.origins.Form.{Form}
use Rattle.path_origins.specs.declared.origins.Form.TheVariants as Forms
use Rattle.path_origins.specs.declared.origins.NotedEdge.{NotedEdge}
use Rattle.path_origins.specs.declared.origins.NotedCall.{NotedCall}
use Rattle.path_origins.specs.declared.origins.Unsequenced.{Unsequenced}
use Rattle.path_origins.specs.declared.origins.Reload.{Reload}
use Rattle.path_origins.specs.declared.origins.Overwrite.{Overwrite}
use Rattle.path_origins.specs.declared.origins.Life.{Life}
use Rattle.path_origins.specs.declared.origins.Passing.{Passing}
use Rattle.path_origins.specs.Noted.{Noted, operands_by, reload_by, overwrite_by, life_by}
use Rattle.path_origins.specs.Bodies.{noted_path}
use Rattle.edge_origins.specs.declared.origins.EdgeOrigin.{EdgeOrigin}
use Rattle.edge_origins.specs.declared.origins.Fall.{Fall}
use Rattle.edge_origins.specs.declared.origins.BodyOrigins.{BodyOrigins}

-- ## The forms of operations

-- the form of a test, and of an operation; a move tells of any type, and an operator of any operands
abbrev pub test_form : Bool → Test → Form
test_form b (Tests.Pointers equal left right) = Forms.EqualityTest
test_form b _ = Forms.Test b

pub data HasForm : Operation → Form → Type 0 where
  a_skip : HasForm Op.Skip Forms.Skip
  a_constant : {t : _} {v : _} → HasForm (Op.Const t v) Forms.Constant
  a_copy : {t f : _} → HasForm (Op.Copy t f) Forms.Copy
  a_unary : {t o of f p b : _} → HasForm (Op.Un t o of f p) (Forms.Unary b)
  a_binary : {t o of l r p b : _} → HasForm (Op.Bin t o of l r p) (Forms.Binary b)
  an_equality : {t q l r : _} → HasForm (Op.BinPointers t q l r) Forms.Equality
  a_conversion : {t w of f : _} → HasForm (Op.Convert t w of f) Forms.Conversion
  a_base : {t o : _} → HasForm (Op.Base t o) Forms.Base
  a_part : {t f c : _} → HasForm (Op.Offset t f c) Forms.Part
  an_element : {t f n c b p : _} → HasForm (Op.Index t f n c b p) Forms.Element
  a_move : {t f c m b p n : _} → HasForm (Op.Move t f c m b p) (Forms.Move n)
  a_follow : {t f g q p : _} → HasForm (Op.Deref t f g q p) Forms.Follow
  a_load : {t a s p : _} → HasForm (Op.Load t a s p) Forms.Load
  a_volatile_load : {t a s p : _} → HasForm (Op.LoadAny t a s p) Forms.Load
  a_store : {a v s i p : _} → HasForm (Op.Store a v s i p) Forms.Store
  an_initialiser : {a v s i p : _} → HasForm (Op.Store a v s i p) Forms.Initialise
  any_value : {t l h : _} → HasForm (Op.Any t l h) Forms.Any
  a_clear : {o : _} → HasForm (Op.Clear o) Forms.Clear
  a_usable : {t p : _} → HasForm (Op.Usable t p) Forms.Usable
  a_test : {t : _} → (b : _) → HasForm (Op.Assume t) (test_form b t)
  a_lock : {m p : _} → HasForm (Op.Lock m p) Forms.Lock
  an_unlock : {m p : _} → HasForm (Op.Unlock m p) Forms.Unlock
  a_yield : HasForm Op.Yield Forms.Yield
  a_probe : {t m p : _} → HasForm (Op.Probe t m p) Forms.Probe

-- origins of edges, one for each: their operations have these forms
pub data AreOf : List Edge → List EdgeOrigin → Type 0 where
  of_none : AreOf [] []
  of_more : {e : Edge} {es : List Edge} {o : EdgeOrigin} {os : List EdgeOrigin} → HasForm e.op o.form → AreOf es os
      → AreOf (e ∷ es) (o ∷ os)

-- ## The paths of a body

-- The signs `(` of the source stand at these places, and the bodies of paths have so many edges.
module _ (laid : LaidTree) (is_open : Place → Bool) (sizes : ℕ → ℕ) where
  -- the body of a path has as many edges as its walk gives
  abbrev pub AreSizes : Type 0
  AreSizes = (path : ℕ) → path < length laid.paths
      → (let x = noted_path laid is_open sizes path in sizes path ≡ x.size)

  -- the body of a path begins at an edge of the graph of a body, and its value is used or is not
  pub data Starts (body : ℕ) : ℕ → ℕ → Bool → Type 0 where
    first : Starts body (first_path laid body) 0 false
    called : {path at : ℕ} {used : Bool} (c : NotedCall) → Starts body path at used
        → (let x = noted_path laid is_open sizes path in Contains x.calls c)
        → Starts body c.path (at + c.at) c.used

  -- what is noted of an edge of the graph
  pub record IsOrigin (body number : ℕ) (o : EdgeOrigin) : Type 0 where
    pub path : ℕ
    pub at : ℕ
    pub used : Bool
    pub starts : Starts body path at used
    pub edge : NotedEdge
    pub among : (let x = noted_path laid is_open sizes path in Contains x.edges edge)
    pub numbered : number ≡ at + edge.at
    pub is : o ≡ record { path = path; place = edge.place; form = edge.form }

  -- what is noted beside the edges, of one kind, which is counted so from a later edge on
  pub record IsNoted {A : Type 0} (of : Noted → List A) (by : ℕ → A → A) (body : ℕ) (found : A) : Type 0 where
    pub path : ℕ
    pub at : ℕ
    pub used : Bool
    pub starts : Starts body path at used
    pub noted : A
    pub among : Contains (of (noted_path laid is_open sizes path)) noted
    pub is : found ≡ by at noted

  -- an end without `return`, where the value is used
  pub record IsFall (body : ℕ) (f : Fall) : Type 0 where
    pub path : ℕ
    pub at : ℕ
    pub starts : Starts body path at true
    pub noted : ℕ
    pub among : (let x = noted_path laid is_open sizes path in Contains x.falls noted)
    pub edge : f.edge ≡ at + noted
    pub place : f.place ≡ (function_at laid path).place

  -- What is noted of a body, and that its graph has exactly these edges.
  pub record IsBodyOrigins (graph : Graph) (body : ℕ) (o : BodyOrigins) : Type 0 where
    pub edges : (number : ℕ) (e : EdgeOrigin) → (slice_get o.edges.items number ≡ Some e) ↔ IsOrigin body number e
    pub forms : AreOf graph.edges.items o.edges.items
    pub operands : (u : Unsequenced) → Contains o.operands.items u
        ↔ IsNoted (λ x. x.operands) operands_by body u
    pub reloads : (r : Reload) → Contains o.reloads.items r ↔ IsNoted (λ x. x.reloads) reload_by body r
    pub overwrites : (w : Overwrite) → Contains o.overwrites.items w
        ↔ IsNoted (λ x. x.overwrites) overwrite_by body w
    pub lives : (l : Life) → Contains o.lives.items l ↔ IsNoted (λ x. x.lives) life_by body l
    pub falls : (f : Fall) → Contains o.falls.items f ↔ IsFall body f
    pub passings : (p : Passing) → Contains o.passings.items p ↔ IsNoted (λ x. x.passings) (λ at q. q) body p

  -- and so for all bodies from one on, which have these graphs
  pub data AreBodyOriginsFrom : ℕ → List Graph → List BodyOrigins → Type 0 where
    no_more : {body : ℕ} → AreBodyOriginsFrom body [] []
    one_more : {body : ℕ} {g : Graph} {gs : List Graph} {o : BodyOrigins} {os : List BodyOrigins}
        → IsBodyOrigins g body o → AreBodyOriginsFrom (suc body) gs os
        → AreBodyOriginsFrom body (g ∷ gs) (o ∷ os)

-- what is noted of all bodies
pub record AreBodyOrigins (laid : LaidTree) (is_open : Place → Bool) (graphs : List Graph) (os : List BodyOrigins)
    : Type 0 where
  pub sizes : ℕ → ℕ
  pub are : AreSizes laid is_open sizes
  pub each : AreBodyOriginsFrom laid is_open sizes 0 graphs os
