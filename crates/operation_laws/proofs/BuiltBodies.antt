-- The law of induction over whole graphs: calls store their arguments and go on in the body that is called, on the path
-- where the call leads.
use Rattle.std.proofs.Common.{◌≡◌, refl, sym, subst, ◌∙◌, ℕ, zero, suc, ◌⊎◌, inl, inr, Bool, true, false, List, []}
use Rattle.std.proofs.Common.{◌∷◌, ◌++◌, length, Option, Some, None}
use Rattle.std.specs.Prelude.{if◌then◌else◌, nat_lt}
use Rattle.std.proofs.lemmas.Option.{none-some}
use Rattle.temporary_types.specs.tm_cint.IntTypes.{lo_of, hi_of}
use Rattle.temporary_types.specs.tm_terms.declared.places.Place.{Place}
use Rattle.temporary_types.specs.tm_typed.declared.types.CType.{CType}
use Rattle.temporary_types.specs.tm_typed.declared.types.CType.TheVariants as Types
use Rattle.temporary_types.specs.tm_typed.Functions.{TypedBodyTree}
use Rattle.temporary_types.specs.tm_laid.Layouts.{LaidTree, first_path, callee}
use Rattle.temporary_types.specs.concrete_values.Values.{nothing}
use Rattle.temporary_types.specs.flow_graph.declared.operations.Operation.{Operation}
use Rattle.temporary_types.specs.flow_graph.declared.operations.Operation.TheVariants as Op
use Rattle.next_action_laws.specs.concrete_steps.Places.{result_type}
use Rattle.next_action_laws.specs.concrete_steps.NextAction.{function_at}
use Rattle.lowering_laws.specs.lowering.Table.{is_value_type, plans}
use Rattle.lowering_laws.specs.lowering.Built.{Building, Passed, Later, AfterPart, Sites, is_return, nodes_by}
use Rattle.lowering_laws.specs.lowering.Built.{place_result, result_of, plan_piece, stores_piece, fallen_piece}
use Rattle.lowering_laws.specs.lowering.Built.{result_at, function_end, task_end, nothing_piece, function_piece}
use Rattle.lowering_laws.specs.lowering.Built.{sites_of, path_piece, entry, built}
use Rattle.operation_laws.proofs.Natures.{Natures, PlanFits}
use Rattle.operation_laws.proofs.BuiltSteps.{Known, known, Sayings, AreTemps, HasValue, Built, PartBuilt, Given}
use Rattle.operation_laws.proofs.BuiltSteps.{AreKept, meets}
use Rattle.operation_laws.proofs.BuiltPlans.{IsResult, Through, result_built, continues, plan_built}

module _ (N : Natures) (F : Sayings N) (laid : LaidTree) where
  abbrev V : Type 0
  V = N.Nature

  abbrev IsBody : ℕ → TypedBodyTree → Type 0
  IsBody path b = (function_at laid path).body ≡ Some b

  abbrev pub IsFree : Option V → Type 0
  IsFree None = Unit {0}
  IsFree (Some v) = N.IsAny v

  -- a function that ends without `return` gives a value of the nature of its result
  abbrev pub Falls : CType → Option V → Type 0
  Falls (Types.Int t) None = ⊥
  Falls (Types.Int t) (Some v) = (ss : List V) (n : ℕ) → F.Gives ss n (λ r. Op.Any r (lo_of t) (hi_of t)) v
  Falls (Types.Pointer q) None = ⊥
  Falls (Types.Pointer q) (Some v) = (ss : List V) (n : ℕ) → F.Gives ss n (λ r. Op.Const r nothing) v
  Falls _ None = Unit {0}
  Falls _ (Some v) = N.IsAny v

  -- the call path on which a call goes on, where its arguments are stored, and its value has the nature of the result
  pub record Enters (On : ℕ → Type 0) (result : ℕ → Option V) (path : ℕ) (ins : List V) (o : Option V) : Type 0 where
    pub on : On path
    pub stores : (p : Known V) (ss : List V) (ts : List ℕ) (pl : Place) (b : Building) → F.Leads p (known ss b)
        → AreTemps N F ss p.temps ts ins → Built N F p (stores_piece laid path 0 ts pl b)
    pub value : IsFree o ⊎ ((b : TypedBodyTree) × IsBody path b × (result path ≡ o))

  -- What is known of call paths on which so many calls may stand in each other, of the calls on them, and of the
  -- results of their functions.
  pub record AreBodies (On : ℕ → ℕ → Type 0) (Call : ℕ → ℕ → List V → Option V → Type 0) (result : ℕ → Option V)
      : Type 0 where
    -- that of the invalid pointer
    pub invalid : V
    pub gives : (ss : List V) (n : ℕ) → F.Gives ss n (λ r. Op.Const r nothing) invalid
    pub deepest : (path : ℕ) → On 0 path → (b : TypedBodyTree) → IsBody path b → IsFree (result path)
    pub enters : (depth path : ℕ) → On (suc depth) path → (b : TypedBodyTree) → IsBody path b → (site : ℕ)
        (ins : List V) (o : Option V) → Call path site ins o → Enters (On depth) result (callee laid path site) ins o
    pub fit : (depth path : ℕ) → On (suc depth) path → (b : TypedBodyTree) → IsBody path b
        → PlanFits N (Call path) (result path) (plans laid path b.statements)
    pub falls : (path : ℕ) (b : TypedBodyTree) → IsBody path b
        → Falls (result_type laid (function_at laid path)) (result path)

  module _ (K : AreKept N F) (On : ℕ → ℕ → Type 0) (Call : ℕ → ℕ → List V → Option V → Type 0)
      (result : ℕ → Option V) (B : AreBodies On Call result) where
    -- the body of a call path, whose value has the nature of the result
    record PathBuilt (p : Known V) (path : ℕ) (x : AfterPart) : Type 0 where
      natures : List V
      leads : F.Leads p (known natures x.at)
      value : (b : TypedBodyTree) → IsBody path b → HasValue N F natures p.temps x.temp (result path)

    abbrev Closes : (List ℕ → Building → Building) → Type 0
    Closes close = (p : Known V) (ss : List V) (ns : List ℕ) (b : Building) → F.Leads p (known ss b)
        → F.Leads p (known ss (close ns b))

    ends_by : (t : Bool) → Closes (if t then task_end else function_end)
    ends_by true p ss ns b f = continues N F K p ss ns b f
    ends_by false p ss ns b f = meets N F K p ss (ns ++ b.node ∷ []) b f

    free : (ss : List V) (n : ℕ) (t : Option ℕ) (o : Option V) → IsFree o → HasValue N F ss n t o
    free ss n t None h = tt
    free ss n None (Some v) h = K.any ss n 0 v h
    free ss n (Some t) (Some v) h = K.any ss n t v h

    nothing_built : (p : Known V) (path : ℕ) (ss : List V) (b : Building) → F.Leads p (known ss b)
        → ((b : TypedBodyTree) → IsBody path b → IsFree (result path)) → PathBuilt p path (nothing_piece b)
    nothing_built p path ss b f h =
        record {
          natures = ss ++ B.invalid ∷ [];
          leads = (K.gives_new p ss b (λ r. Op.Const r nothing) B.invalid (B.gives ss p.temps) f).0;
          value = λ d e. free (ss ++ B.invalid ∷ []) p.temps (Some b.temps) (result path) (h d e);
        }

    given_built : (p : Known V) (r : ℕ → Operation) (v : V) (res : Option ℕ) (ss : List V) (b : Building)
        → ((ss : List V) (n : ℕ) → F.Gives ss n r v) → F.Leads p (known ss b)
        → IsResult N F (known ss b) p.temps (Some v) res
        → PartBuilt N F p (record { at = place_result res r b; temp = Some (result_of res b) }) (Some v)
    given_built p r v res ss b g f k =
        let z : Given N F (known ss b) p.temps (place_result res r b) (result_of res b) v =
        result_built N F K (known ss b) p.temps res r v ss b k (g ss b.temps) (K.same f) in
        record {
          natures = z.natures;
          leads = K.on f z.leads;
          value = K.opened (known z.natures (place_result res r b)) p.temps (result_of res b) v z.opened;
        }

    fallen_built : (t : CType) (r : Option V) → Falls t r → (p : Known V) (res : Option ℕ) (ss : List V)
        (b : Building) → F.Leads p (known ss b) → IsResult N F (known ss b) p.temps r res
        → PartBuilt N F p (record { at = fallen_piece t res b; temp = result_at (is_value_type t) res b }) r
    fallen_built (Types.Int t) None h p res ss b f k = absurd h
    fallen_built (Types.Int t) (Some v) h p res ss b f k =
        given_built p (λ r. Op.Any r (lo_of t) (hi_of t)) v res ss b h f k
    fallen_built (Types.Pointer q) None h p res ss b f k = absurd h
    fallen_built (Types.Pointer q) (Some v) h p res ss b f k =
        given_built p (λ r. Op.Const r nothing) v res ss b h f k
    fallen_built _ None h p res ss b f k = record { natures = ss; leads = f; value = tt }
    fallen_built _ (Some v) h p res ss b f k =
        record { natures = ss; leads = f; value = K.any ss p.temps 0 v h }

    -- where paths are so deep
    abbrev Bodies : ℕ → Type 0
    Bodies depth = (close : List ℕ → Building → Building) → Closes close → (p : Known V) (path : ℕ) → On depth path
        → (ss : List V) (b : Building) → F.Leads p (known ss b) → PathBuilt p path (path_piece close laid depth path b)

    call_built : (depth : ℕ) → Bodies depth → (path : ℕ) → On (suc depth) path → (d : TypedBodyTree) → IsBody path d
        → (p : Known V) (site : ℕ) (ins : List V) (o : Option V) → Call path site ins o → (ss : List V) (ts : List ℕ)
        (pl : Place) (b : Building) → F.Leads p (known ss b) → AreTemps N F ss p.temps ts ins
        → PartBuilt N F p (sites_of laid (path_piece function_end laid depth) path site ts pl b) o
    call_built depth ih path u d e p site ins o c ss ts pl b f a =
        let to : ℕ = callee laid path site in
        let i : Enters (On depth) result to ins o = B.enters depth path u d e site ins o c in
        let s : Built N F p (stores_piece laid to 0 ts pl b) = i.stores p ss ts pl b f a in
        let x : AfterPart = path_piece function_end laid depth to (stores_piece laid to 0 ts pl b) in
        let y : PathBuilt p to x =
        ih function_end (ends_by false) p to i.on s.natures (stores_piece laid to 0 ts pl b) s.leads in
        record { natures = y.natures; leads = y.leads; value = by_value y.natures x.temp i.value y.value }
      where
        by_value : (ss : List V) (t : Option ℕ)
            → IsFree o ⊎ ((b : TypedBodyTree) × IsBody (callee laid path site) b × (result (callee laid path site) ≡ o))
            → ((b : TypedBodyTree) → IsBody (callee laid path site) b
            → HasValue N F ss p.temps t (result (callee laid path site))) → HasValue N F ss p.temps t o
        by_value ss t (inl h) k = free ss p.temps t o h
        by_value ss t (inr h) k = subst (λ z. HasValue N F ss p.temps t z) h.2 (k h.0 h.1)

    function_built : (depth : ℕ) → Bodies depth → (close : List ℕ → Building → Building) → Closes close
        → (p : Known V) (path : ℕ) → On (suc depth) path → (o : Option TypedBodyTree)
        → (function_at laid path).body ≡ o → (ss : List V) (b : Building) → F.Leads p (known ss b)
        → PathBuilt p path
        (function_piece (sites_of laid (path_piece function_end laid depth) path) laid path close
        (result_type laid (function_at laid path)) o b)
    function_built depth ih close closes p path u None e ss b f =
        nothing_built p path ss b f (λ d q. absurd (none-some d (sym e ∙ q)))
    function_built depth ih close closes p path u (Some d) e ss b f =
        let call : Sites = sites_of laid (path_piece function_end laid depth) path in
        let t : CType = result_type laid (function_at laid path) in
        let x : Passed = plan_piece call (plans laid path d.statements) Later None b in
        let y : Through N F p p.temps (result path) x =
        plan_built N F K (Call path) call (call_built depth ih path u d e) p.temps (result path) p
        (plans laid path d.statements) (B.fit depth path u d e) Later None ss b f (K.later f) in
        let fallen : Building = fallen_piece t x.result x.at in
        let z : PartBuilt N F p (record { at = fallen; temp = result_at (is_value_type t) x.result x.at }) (result path)
        = fallen_built t (result path) (B.falls path d e) p x.result y.natures x.at y.leads y.result in
        record {
          natures = z.natures;
          leads = closes p z.natures (nodes_by is_return x.pending) fallen z.leads;
          value = λ d' q. z.value;
        }

    whole_built : (depth : ℕ) → Bodies depth
    whole_built zero close closes p path u ss b f = nothing_built p path ss b f (B.deepest path u)
    whole_built (suc depth) close closes p path u ss b f =
        function_built depth (whole_built depth) close closes p path u (function_at laid path).body refl ss b f

    pub graph_built : F.Leads (known [] entry) (known [] entry) → (body : ℕ)
        → On (length laid.file.functions) (first_path laid body) → Built N F (known [] entry) (built laid body)
    graph_built f body u =
        let close : List ℕ → Building → Building =
        if nat_lt body (length laid.file.tasks) then task_end else function_end in
        let y : PathBuilt (known [] entry) (first_path laid body)
        (path_piece close laid (length laid.file.functions) (first_path laid body) entry) =
        whole_built (length laid.file.functions) close (ends_by (nat_lt body (length laid.file.tasks)))
        (known [] entry) (first_path laid body) u [] entry f in
        record { natures = y.natures; leads = y.leads }
