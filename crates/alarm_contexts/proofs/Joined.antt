-- One more context of an alarm is merged with those before it.
use Rattle.std.proofs.Common.{◌≡◌, ◌↔◌, ◌⊎◌, ℕ, ◌+◌, ◌<◌, refl, ap, sym, subst, ◌∙◌, inl, inr, true, List, [], ◌∷◌, ◌++◌}
use Rattle.std.proofs.Common.{length, get_or, arith}
use Rattle.std.specs.Prelude.{Contains}
use Rattle.std.proofs.lemmas.Bool.{cases_lt, and_parts, and_from}
use Rattle.std.proofs.lemmas.List.{length-append, get_or_past, get_or_append_left, get_or_push}
use Rattle.std.proofs.lemmas.List.Elements.{Contains-append_left, Contains-append_right, Contains-append_cases}
use Rattle.interfere_set.specs.pointer_dom.Values.{Values, IsValues, joined_values, no_value}
use Rattle.access_races.proofs.Joins.{either}
use Rattle.alarm_contexts.specs.declared.alarm_context.ContextEdge.{ContextEdge}
use Rattle.alarm_contexts.specs.declared.alarm_context.AlarmContexts.{AlarmContexts}
use Rattle.alarm_contexts.specs.declared.exits.Context.{Context}
use Rattle.alarm_contexts.specs.declared.flaws.ObjectFlaw.{ObjectFlaw}
use Rattle.access_races.specs.Rising.{AreRising}
use Rattle.alarm_contexts.specs.Order.{IsEdgeBefore}
use Rattle.alarm_contexts.specs.Bounds.{IsLeastAbove}
use Rattle.alarm_contexts.specs.reading.Operands.{AreJoined}
use Rattle.alarm_contexts.specs.reading.Merging.{edge_of, IsAlone, IsJoined, IsEdgeOf, HasValue, IsValueOf}
use Rattle.alarm_contexts.specs.reading.Merging.{IsFlawOf, IsMerged}
use Rattle.access_races.proofs.Rising.{none, first, only}
use Rattle.alarm_contexts.proofs.Bounds.{least_none, least_one, least_both, least_same}
use Rattle.alarm_contexts.proofs.Edges.{edges_added}

-- ## Operands

-- one more operand is joined
pub operands_more : (one other : List Values) (n : ℕ) (both new : List Values) (v : Values)
    → AreJoined one other n both → new ≡ both ++ v ∷ []
    → v ≡ joined_values (get_or one n no_value) (get_or other n no_value) → AreJoined one other (n + 1) new
operands_more one other n both new v h new-is v-is =
    let count = length-append both (v ∷ []) in
    let long = h.count in record {
      count = ap length new-is ∙ omega (arith, count, long);
      each = λ role lt. elim (cases_lt role n) [
        | inl less ↦ ap (λ l. get_or l role no_value) new-is
            ∙ get_or_append_left both (v ∷ []) no_value role (omega (arith, less, long)) ∙ h.each role less
        | inr le ↦
            let at : n ≡ role = omega (arith, lt, le) in
            ap (λ l. get_or l role no_value) new-is ∙ get_or_push both v no_value role (h.count ∙ at)
            ∙ subst (λ m. v ≡ joined_values (get_or one m no_value) (get_or other m no_value)) at v-is
      ];
    }

-- ## Contexts

abbrev edge : Context → ContextEdge
edge x = edge_of x.exit

module _ (values : Context → List Values) (Flawed : Context → ObjectFlaw → Type 0) where
  -- the same contexts
  pub merged_same : (Is Now : Context → Type 0) → ((x : Context) → Is x → Now x) → ((x : Context) → Now x → Is x)
      → (a : AlarmContexts) → IsMerged values Flawed Is a → IsMerged values Flawed Now a
  merged_same Is Now to from a h = record {
    one = h.one;
    is = to h.one h.is;
    rising = h.rising;
    edges = λ e. (
      λ c. let k = (h.edges e).0 c in record { one = k.one; is = to k.one k.is; edge = k.edge },
      λ k. (h.edges e).1 (record { one = k.one; is = from k.one k.is; edge = k.edge }),
    );
    count = λ role. (
      λ lt. let k = (h.count role).0 lt in record { one = k.one; is = to k.one k.is; within = k.within },
      λ k. (h.count role).1 (record { one = k.one; is = from k.one k.is; within = k.within }),
    );
    operands = λ role. least_same (IsValueOf values Is role) (IsValueOf values Now role)
        (get_or a.operands.items role no_value) (h.operands role)
        (λ v k. record { one = k.one; is = to k.one k.is; within = k.within; value = k.value })
        (λ v k. record { one = k.one; is = from k.one k.is; within = k.within; value = k.value });
    ordered = h.ordered;
    flaws = λ f. (
      λ c. let k = (h.flaws f).0 c in record { one = k.one; is = to k.one k.is; flaw = k.flaw },
      λ k. (h.flaws f).1 (record { one = k.one; is = from k.one k.is; flaw = k.flaw }),
    );
    always = (
      λ t x n. h.always.0 t x (from x n),
      λ all. h.always.1 (λ x i. all x (to x i)),
    );
  }

  module _ (Is Now : Context → Type 0) (this : Context) (more : (x : Context) → Now x ↔ (Is x ⊎ (this ≡ x)))
      (are : (x : Context) → Now x → (role : ℕ) → IsValues (get_or (values x) role no_value))
      (wrong : List ObjectFlaw) (wrong-is : (f : ObjectFlaw) → Contains wrong f ↔ Flawed this f) where
    has_this : Now this
    has_this = (more this).1 (inr refl)

    has_old : (x : Context) → Is x → Now x
    has_old x i = (more x).1 (inl i)

    values_are : (role : ℕ) (v : Values) → IsValueOf values Now role v → IsValues v
    values_are role v h = subst IsValues (sym h.value) (are h.one h.is role)

    -- what the context itself has
    abbrev Mine : ℕ → Values → Type 0
    Mine role v = (role < length (values this)) × (v ≡ get_or (values this) role no_value)

    mine_now : (role : ℕ) (v : Values) → Mine role v → IsValueOf values Now role v
    mine_now role v h = record { one = this; is = has_this; within = h.0; value = h.1 }

    mine_from : (role : ℕ) (v : Values) (h : IsValueOf values Now role v) → this ≡ h.one → Mine role v
    mine_from role v h s = (
      subst (λ x. role < length (values x)) (sym s) h.within,
      h.value ∙ ap (λ x. get_or (values x) role no_value) (sym s),
    )

    mine_least : (role : ℕ) → IsLeastAbove (Mine role) (get_or (values this) role no_value)
    mine_least role = elim (cases_lt role (length (values this))) [
      | inl lt ↦ least_one (Mine role) (get_or (values this) role no_value) (are this has_this role) (lt, refl)
          (λ w h. h.1)
      | inr le ↦ subst (IsLeastAbove (Mine role)) (sym (get_or_past (values this) role no_value le))
          (least_none (Mine role) (λ w h. absurd (let lt = h.0 in omega (arith, lt, le))))
    ]

    -- ## The first

    module _ (a : AlarmContexts) (is : IsAlone this (values this) wrong a) (fresh : (x : Context) → Is x → ⊥) where
      alone_edges : (e : ContextEdge) → Contains a.edges.items e ↔ IsEdgeOf values Now e
      alone_edges e = (
        λ c. record {
          one = this;
          is = has_this;
          edge = only (edge this) e (subst (λ l. Contains l e) is.edges c);
        },
        λ k. either (λ o. absurd (fresh k.one o))
            (λ s. subst (λ l. Contains l e) (sym is.edges)
            (subst (Contains (edge this ∷ [])) (ap edge s ∙ k.edge) (first (edge this) []))) ((more k.one).0 k.is),
      )

      alone_count : (role : ℕ) → (role < length a.operands.items) ↔ HasValue values Now role
      alone_count role = (
        λ lt. record { one = this; is = has_this; within = subst (λ l. role < length l) is.operands lt },
        λ k. either (λ o. absurd (fresh k.one o))
            (λ s. subst (λ l. role < length l) (sym is.operands)
            (subst (λ x. role < length (values x)) (sym s) k.within)) ((more k.one).0 k.is),
      )

      alone_operands : (role : ℕ) → IsLeastAbove (IsValueOf values Now role) (get_or a.operands.items role no_value)
      alone_operands role =
          subst (λ l. IsLeastAbove (IsValueOf values Now role) (get_or l role no_value)) (sym is.operands)
          (least_same (Mine role) (IsValueOf values Now role) (get_or (values this) role no_value) (mine_least role)
          (mine_now role) (λ v k. either (λ o. absurd (fresh k.one o)) (mine_from role v k) ((more k.one).0 k.is)))

      alone_flaws : (f : ObjectFlaw) → Contains a.flaws.items f ↔ IsFlawOf Flawed Now f
      alone_flaws f = (
        λ c. record { one = this; is = has_this; flaw = (wrong-is f).0 ((is.flaws.same f).0 c) },
        λ k. either (λ o. absurd (fresh k.one o))
            (λ s. (is.flaws.same f).1 ((wrong-is f).1 (subst (λ x. Flawed x f) (sym s) k.flaw))) ((more k.one).0 k.is),
      )

      pub alone_merged : IsMerged values Flawed Now a
      alone_merged = record {
        one = this;
        is = has_this;
        rising = subst (AreRising IsEdgeBefore) (sym is.edges) ((λ y c. absurd (none y c)), tt);
        edges = alone_edges;
        count = alone_count;
        operands = alone_operands;
        ordered = is.flaws.rising;
        flaws = alone_flaws;
        always = (
          λ t x n. either (λ o. absurd (fresh x o))
              (λ s. subst (λ (z : Context). z.exit.ends ≡ true) s (sym is.always ∙ t)) ((more x).0 n),
          λ all. is.always ∙ all this has_this,
        );
      }

    -- ## One more

    module _ (last : AlarmContexts) (h : IsMerged values Flawed Is last)
        (after : (x : Context) → Is x → IsEdgeBefore (edge x) (edge this) ⊎ (edge x ≡ edge this)) (a : AlarmContexts)
        (is : IsJoined last this (values this) wrong a) where
      most : (f : ContextEdge) → Contains last.edges.items f → IsEdgeBefore f (edge this) ⊎ (f ≡ edge this)
      most f c =
          let k = (h.edges f).0 c in
          subst (λ z. IsEdgeBefore z (edge this) ⊎ (z ≡ edge this)) k.edge (after k.one k.is)

      joined_edges : (e : ContextEdge) → Contains a.edges.items e ↔ IsEdgeOf values Now e
      joined_edges e =
          let step = (edges_added (edge this) last.edges.items a.edges.items h.rising most is.edges).more e in (
            λ c. either
                (λ o. let k = (h.edges e).0 o in record { one = k.one; is = has_old k.one k.is; edge = k.edge })
                (λ s. record { one = this; is = has_this; edge = s }) (step.0 c),
            λ k. step.1 (either
                (λ (o : Is k.one). inl ((h.edges e).1 (record { one = k.one; is = o; edge = k.edge })))
                (λ s. inr (ap edge s ∙ k.edge)) ((more k.one).0 k.is)),
          )

      joined_count : (role : ℕ) → (role < length a.operands.items) ↔ HasValue values Now role
      joined_count role =
          let count = is.operands.count in (
            λ lt. elim (cases_lt role (length last.operands.items)) [
              | inl in_last ↦ let k = (h.count role).0 in_last in
                  record { one = k.one; is = has_old k.one k.is; within = k.within }
              | inr le ↦ record { one = this; is = has_this; within = omega (arith, lt, le, count) }
            ],
            λ k. either
                (λ (o : Is k.one). let lt = (h.count role).1 (record { one = k.one; is = o; within = k.within }) in
                omega (arith, lt, count))
                (λ s. let lt : role < length (values this) = subst (λ x. role < length (values x)) (sym s) k.within in
                omega (arith, lt, count)) ((more k.one).0 k.is),
          )

      joined_operands : (role : ℕ) → IsLeastAbove (IsValueOf values Now role) (get_or a.operands.items role no_value)
      joined_operands role = elim (cases_lt role (length a.operands.items)) [
        | inl lt ↦
            let count = is.operands.count in
            subst (IsLeastAbove (IsValueOf values Now role))
            (sym (is.operands.each role (subst (λ n. role < n) count lt)))
            (least_both (IsValueOf values Is role) (Mine role) (IsValueOf values Now role)
            (get_or last.operands.items role no_value) (get_or (values this) role no_value) (h.operands role)
            (mine_least role)
            (λ v k. either
            (λ (o : Is k.one). inl (record { one = k.one; is = o; within = k.within; value = k.value }))
            (λ s. inr (mine_from role v k s)) ((more k.one).0 k.is))
            (λ v k. record { one = k.one; is = has_old k.one k.is; within = k.within; value = k.value })
            (mine_now role) (values_are role))
        | inr le ↦ subst (IsLeastAbove (IsValueOf values Now role))
            (sym (get_or_past a.operands.items role no_value le))
            (least_none (IsValueOf values Now role) (λ v k. absurd
            (let lt = (joined_count role).1 (record { one = k.one; is = k.is; within = k.within }) in
            omega (arith, lt, le))))
      ]

      joined_flaws : (f : ObjectFlaw) → Contains a.flaws.items f ↔ IsFlawOf Flawed Now f
      joined_flaws f = (
        λ c. either
            (λ o. let k = (h.flaws f).0 o in record { one = k.one; is = has_old k.one k.is; flaw = k.flaw })
            (λ w. record { one = this; is = has_this; flaw = (wrong-is f).0 w })
            (Contains-append_cases last.flaws.items wrong f ((is.flaws.same f).0 c)),
        λ k. (is.flaws.same f).1 (either
            (λ (o : Is k.one). Contains-append_left last.flaws.items wrong f
            ((h.flaws f).1 (record { one = k.one; is = o; flaw = k.flaw })))
            (λ s. Contains-append_right last.flaws.items wrong f
            ((wrong-is f).1 (subst (λ x. Flawed x f) (sym s) k.flaw))) ((more k.one).0 k.is)),
      )

      pub joined_merged : IsMerged values Flawed Now a
      joined_merged = record {
        one = this;
        is = has_this;
        rising = (edges_added (edge this) last.edges.items a.edges.items h.rising most is.edges).rising;
        edges = joined_edges;
        count = joined_count;
        operands = joined_operands;
        ordered = is.flaws.rising;
        flaws = joined_flaws;
        always = (
          λ t x n.
              let both = and_parts last.always this.exit.ends (sym is.always ∙ t) in
              either (λ o. h.always.0 both.0 x o)
              (λ s. subst (λ (z : Context). z.exit.ends ≡ true) s both.1) ((more x).0 n),
          λ all. is.always ∙ and_from last.always this.exit.ends (h.always.1 (λ x i. all x (has_old x i)))
              (all this has_this),
        );
      }
