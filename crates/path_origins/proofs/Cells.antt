-- Local objects and their cells, one behind another, by numbers that are counted from the first edge of the body.
use Rattle.std.proofs.Common.{◌≡◌, ℕ, zero, suc, ◌+◌, ◌-◌, ◌<◌, ◌≤◌, Bool, true, not, ◌&&◌, cond, List, [], ◌∷◌}
use Rattle.std.proofs.Common.{length, map, drop, get_or, Option, Some, None, option_map, refl, ap, sym, ◌∙◌}
use Rattle.std.proofs.Common.{add-zero, arith, ap₂, Result}
use Rattle.std.specs.Prelude.{OnOk}
use Rattle.std.proofs.lemmas.List.{drop_all}
use Rattle.std.proofs.lemmas.Result.{on_ok_weaker}
use Rattle.tm_terms.specs.declared.places.Place.{Place}
use Rattle.tm_typed.specs.declared.types.Qualified.{Qualified}
use Rattle.tm_typed.specs.declared.types.CType.{CType}
use Rattle.tm_typed.specs.declared.statements.LocalObject.{LocalObject}
use Rattle.tm_typed.specs.TypedStatements.{GivenTree, LocalInitialiserTree, LocalTree, local_tree}
use Rattle.tm_laid.specs.Layouts.{LaidTree, object_of, object_at}
use Rattle.tm_typed.specs.declared.scopes.ObjectNumber.TheVariants as Numbers
use Rattle.body_builder.specs.concrete_steps.NextAction.{is_given, rest_of}
use Rattle.body_builder.specs.concrete_steps.Places.{rvalue_place}
use Rattle.part_extents.specs.Parts.{cell_type}
use Rattle.body_builder.specs.lowering.Table.{is_scalar_object}
use Rattle.path_origins.specs.declared.origins.Form.TheVariants as Forms
use Rattle.path_origins.specs.declared.origins.Span.{Span}
use Rattle.path_origins.specs.declared.origins.Life.{Life}
use Rattle.path_origins.specs.declared.origins.Notes.{Notes}
use Rattle.path_origins.specs.declared.types.Given.{Given}
use Rattle.path_origins.specs.Types.{given, differs}
use Rattle.path_origins.specs.Noted.{Noted, nothing, behind, both, one, one_if, passing_if, life_by, span_by}
use Rattle.path_origins.specs.Expressions.{walked}
use Rattle.path_origins.specs.Statements.{nowhere, cell_value, cell_stored, cells_stored, is_first, initialised}
use Rattle.path_origins.specs.Statements.{initialiser_span, declared, all_declared}
use Rattle.path_origins.specs.Shown.{shown}
use Rattle.path_origins.specs.reading.Walks.{IsBehind, life_added}
use Rattle.path_origins.specs.reading.Ends.{against_before}
use Rattle.path_origins.specs.reading.Leaving.{span_from}
use Rattle.path_origins.proofs.Laws.{nothing_behind, behind_still, then_behind}
use Rattle.path_origins.proofs.Beside.{both_noted, passing_noted, life_noted}
use Rattle.path_origins.proofs.Leaving.{next}

-- what two edges span
span_at : (s : Span) (first end : ℕ) → s.first ≡ first → s.end ≡ end → s ≡ record { first = first; end = end }
span_at s first end e f = λ i. record { first = e i; end = f i }

module _ (laid : LaidTree) (is_open : Place → Bool) (sizes : ℕ → ℕ) (path : ℕ) where
  -- ## Cells

  -- the given value of a cell of an object of a type
  pub given_cell_noted : {T E : Type 0} (q : Qualified) (g : GivenTree) (v : Given) (t : CType) (p : Place)
      (r : Result T E) (a b c : Notes) → p ≡ rvalue_place g.value → v ≡ given laid is_open path g.value
      → t ≡ cell_type laid (record { of = q; cell = g.cell })
      → IsBehind a b (walked laid is_open sizes path true g.value).value
      → OnOk r (shown c ≡ passing_if (differs v t) p (shown b))
      → OnOk r (IsBehind a c (cell_value laid is_open sizes path q nowhere true (g ∷ [])))
  given_cell_noted q g v t p r a b c ep ev et h k =
      let x = (walked laid is_open sizes path true g.value).value in
      let of = cell_type laid (record { of = q; cell = g.cell }) in
      let own = rvalue_place g.value in
      let is = differs (given laid is_open path g.value) of in
      let same : differs v t ≡ is = ap₂ (λ (z : Given) (u : CType). differs z u) ev et in
      on_ok_weaker r (λ (e : shown c ≡ passing_if (differs v t) p (shown b)).
      passing_noted is own (shown a) (shown b) (shown c) x h
      (e ∙ ap₂ (λ z (o : Place). passing_if z o (shown b)) same ep)) k

  -- a cell behind its base, its part and its value
  pub cell_noted : (o : ℕ) (q : Qualified) (p : Place) (k : ℕ) (gs : List GivenTree) (is found : Bool)
      (a b c d e : Notes) → is ≡ not (is_first laid is_open sizes path k && is_scalar_object laid path o)
      → found ≡ is_given k gs → IsBehind a b (one p Forms.Base) → IsBehind b c (one_if is p Forms.Part)
      → IsBehind c d (cell_value laid is_open sizes path q p found gs) → IsBehind d e (one p Forms.Initialise)
      → IsBehind a e (cell_stored laid is_open sizes path o q p k gs)
  cell_noted o q p k gs is found a b c d e ei ef h1 h2 h3 h4 =
      let v = cell_value laid is_open sizes path q p (is_given k gs) gs in
      let part = one_if (not (is_first laid is_open sizes path k && is_scalar_object laid path o)) p Forms.Part in
      let h2' = h2 ∙ ap (λ x. behind (shown b) (one_if x p Forms.Part)) ei in
      let h3' = h3 ∙ ap (λ x. behind (shown c) (cell_value laid is_open sizes path q p x gs)) ef in
      let last = then_behind (shown c) (shown d) (shown e) v (one p Forms.Initialise) h3' h4 in
      let tail = then_behind (shown b) (shown c) (shown e) part (behind v (one p Forms.Initialise)) h2' last in
      then_behind (shown a) (shown b) (shown e) (one p Forms.Base)
      (behind part (behind v (one p Forms.Initialise))) h1 tail

  -- the cells from this one on are left, of so many, behind those that are stored
  pub record HasCells (o : ℕ) (q : Qualified) (p : Place) (n k : ℕ) (gs : List GivenTree) (all : Noted)
      (from to : Notes) : Type 0 where
    pub before : Noted
    pub noted : IsBehind from to before
    pub none : k ≡ 0 → before ≡ nothing
    pub left : cells_stored laid is_open sizes path o q p (n - k) k gs before ≡ all

  pub cells_first : (o : ℕ) (q : Qualified) (p : Place) (n : ℕ) (gs : List GivenTree) (a : Notes)
      → HasCells o q p n 0 gs (cells_stored laid is_open sizes path o q p n 0 gs nothing) a a
  cells_first o q p n gs a =
      let e : n - 0 ≡ n = omega arith in
      record {
        before = nothing;
        noted = behind_still (shown a) (shown a) refl;
        none = λ _. refl;
        left = ap (λ m. cells_stored laid is_open sizes path o q p m 0 gs nothing) e;
      }

  -- the cells so far and one more
  abbrev pub with_cell : Place → ℕ → Noted → Noted → Noted
  with_cell p k before x = cond (is_first laid is_open sizes path k) x (both p before x)

  joined : (p : Place) (k : ℕ) (first second : Span) (a b c d : Notes) (before x : Noted)
      → (k ≡ 0 → before ≡ nothing) → IsBehind a b before → IsBehind b c x → first.first ≡ a.size
      → first.end ≡ b.size → second.first ≡ b.size → second.end ≡ c.size
      → shown d ≡ against_before k p first second (shown c) → IsBehind a d (with_cell p k before x)
  joined p zero first second a b c d before x none h1 h2 e1 e2 e3 e4 h3 =
      h3 ∙ then_behind (shown a) (shown b) (shown c) before x h1 h2
      ∙ ap (behind (shown a)) (ap (λ z. behind z x) (none refl) ∙ nothing_behind x)
  joined p (suc k) first second a b c d before x none h1 h2 e1 e2 e3 e4 h3 =
      both_noted p first second (shown a) (shown b) (shown c) (shown d) before x h1 h2 e1 e2 e3 e4 h3

  pub cells_more : (o : ℕ) (q : Qualified) (p : Place) (n k : ℕ) (gs hs : List GivenTree) (all : Noted) (found : Bool)
      (first second : Span) (a b c d : Notes) → k < n → found ≡ is_given k gs → hs ≡ rest_of found gs
      → IsBehind b c (cell_stored laid is_open sizes path o q p k gs) → first.first ≡ a.size → first.end ≡ b.size
      → second.first ≡ b.size → second.end ≡ c.size → shown d ≡ against_before k p first second (shown c)
      → HasCells o q p n k gs all a b → HasCells o q p n (k + 1) hs all a d
  cells_more o q p n k gs hs all found first second a b c d lt ef eh h e1 e2 e3 e4 h3 has =
      let one : n - k ≡ suc (n - (k + 1)) = omega arith in
      let next : k + 1 ≡ suc k = omega arith in
      let m = n - (k + 1) in
      let x = cell_stored laid is_open sizes path o q p k gs in
      let now = with_cell p k has.before x in
      record {
        before = now;
        noted = joined p k first second a b c d has.before x has.none has.noted h e1 e2 e3 e4 h3;
        none = λ (e : k + 1 ≡ 0). absurd (omega arith);
        left = ap (λ j. cells_stored laid is_open sizes path o q p m j hs now) next
            ∙ (ap (λ (ys : List GivenTree). cells_stored laid is_open sizes path o q p m (suc k) ys now)
            (eh ∙ ap (λ f. rest_of f gs) ef)
            ∙ (sym (ap (λ j. cells_stored laid is_open sizes path o q p j k gs has.before) one) ∙ has.left));
      }

  pub cells_last : (o : ℕ) (q : Qualified) (p : Place) (n k : ℕ) (gs : List GivenTree) (all : Noted) (a b : Notes)
      → n ≤ k → HasCells o q p n k gs all a b → IsBehind a b all
  cells_last o q p n k gs all a b le has =
      let none : n - k ≡ 0 = omega arith in
      has.noted ∙ ap (behind (shown a))
      (sym (ap (λ j. cells_stored laid is_open sizes path o q p j k gs has.before) none) ∙ has.left)

  -- ## Local objects

  initialiser_in : (n m e : ℕ) (i : Option LocalInitialiserTree) (x : Noted) → m ≡ n + 1 → e ≡ m + x.size
      → span_from m i e ≡ option_map (span_by n) (initialiser_span laid is_open sizes path i x)
  initialiser_in n m e None x em ee = refl
  initialiser_in n m e (Some i) x em ee =
      let end : e ≡ n + suc x.size = omega (arith, em, ee) in
      ap Some (span_at (record { first = m; end = e }) (n + 1) (n + suc x.size) em end)

  -- an object that is cleared, initialised, and begins to live
  pub declared_noted : (l : LocalTree) (o : ℕ) (p : Place) (scope : Span) (s : Option Span) (life : Life)
      (a b c d : Notes) → o ≡ object_of laid path (Numbers.Local l.object) → p ≡ (object_at laid o).place
      → IsBehind a b (one p Forms.Clear) → scope.first ≡ a.size → scope.end ≡ b.size
      → IsBehind b c (initialised laid is_open sizes path o l.initialiser)
      → s ≡ span_from b.size l.initialiser c.size
      → life ≡ record { object = o; place = p; begins = a.size; scope = scope; initialiser = s }
      → shown d ≡ life_added life (shown c) → IsBehind a d (declared laid is_open sizes path l)
  declared_noted l o p scope s life a b c d eo ep h1 e1 e2 h2 es el h3 =
      let own = object_of laid path (Numbers.Local l.object) in
      let x = initialised laid is_open sizes path own l.initialiser in
      let at : p ≡ (object_at laid own).place = ep ∙ ap (λ k. (object_at laid k).place) eo in
      let q = (object_at laid own).place in
      let h1' = h1 ∙ ap (λ (r : Place). behind (shown a) (one r Forms.Clear)) at in
      let h2' = h2 ∙ ap (λ k. behind (shown b) (initialised laid is_open sizes path k l.initialiser)) eo in
      let b_size : b.size ≡ a.size + 1 = ap (λ (z : Noted). z.size) h1' in
      let c_size : c.size ≡ b.size + x.size = ap (λ (z : Noted). z.size) h2' in
      let life_in : Life = record {
        object = own;
        place = q;
        begins = 0;
        scope = record { first = 0; end = 1 };
        initialiser = initialiser_span laid is_open sizes path l.initialiser x;
      } in
      let span : s ≡ option_map (span_by a.size) (initialiser_span laid is_open sizes path l.initialiser x) =
      es ∙ initialiser_in a.size b.size c.size l.initialiser x b_size c_size in
      let around : scope ≡ record { first = a.size + 0; end = a.size + 1 } =
      span_at scope (a.size + 0) (a.size + 1) (e1 ∙ sym (add-zero a.size)) (e2 ∙ b_size) in
      let same : life ≡ life_by a.size life_in = el ∙ (λ i. record {
        object = eo i;
        place = at i;
        begins = sym (add-zero a.size) i;
        scope = around i;
        initialiser = span i;
      }) in
      life_noted life life_in (shown a) (shown c) (shown d) (behind (one q Forms.Clear) x) same
      (then_behind (shown a) (shown b) (shown c) (one q Forms.Clear) x h1' h2') h3

  pub locals_more : (xs : List LocalObject) (i : ℕ) (x : LocalObject) → i < length xs → x ≡ get_or xs i x
      → all_declared laid is_open sizes path (map local_tree (drop i xs))
      ≡ behind (declared laid is_open sizes path (local_tree x))
      (all_declared laid is_open sizes path (map local_tree (drop (i + 1) xs)))
  locals_more xs i x lt e =
      ap (λ (ys : List LocalObject). all_declared laid is_open sizes path (map local_tree ys)) (next xs i x lt e)

  pub locals_last : (xs : List LocalObject) (i : ℕ) → length xs ≤ i
      → all_declared laid is_open sizes path (map local_tree (drop i xs)) ≡ nothing
  locals_last xs i le =
      ap (λ (ys : List LocalObject). all_declared laid is_open sizes path (map local_tree ys)) (drop_all i xs le)
