-- The labels of a `switch`, one after the other.
use Rattle.std.proofs.Common.{◌≡◌, ℕ, ◌+◌, ◌<◌, ◌≤◌, List, [], ◌∷◌, ◌++◌, length, drop, get_or, refl, sym, ap, ◌∙◌}
use Rattle.std.proofs.Common.{suc, ℤ, true}
use Rattle.std.proofs.lemmas.List.{append_assoc, append-nil, drop_more, drop_all}
use Rattle.tm_terms.specs.declared.places.Place.{Place}
use Rattle.tm_typed.specs.declared.statements.TypedSwitchPart.{TypedSwitchPart}
use Rattle.tm_typed.specs.declared.statements.TypedSwitchPart.TheVariants as Parts
use Rattle.tm_typed.specs.TypedStatements.{as_typed_cases}
use Rattle.tm_laid.specs.Layouts.{LaidTree}
use Rattle.body_builder.specs.lowering.Table.{parts}
use Rattle.flow_graph.specs.declared.operations.Test.TheVariants as Tests
use Rattle.body_builder.specs.lowering.Built.{Building, Labels, branch, goto, tests_piece}
use Rattle.body_builder.specs.declared.fragments.Found.{Found}
use Rattle.body_builder.specs.Placing.{tested, Finds}

module _ (laid : LaidTree) (path value : ℕ) where
  abbrev pub tests_of : List TypedSwitchPart → Building → Labels
  tests_of xs b = tests_piece (parts laid path (as_typed_cases xs)) value b

  -- the labels from this part on are left, behind these nodes
  pub record HasLabels (xs : List TypedSwitchPart) (i : ℕ) (ns : List ℕ) (b : Building) (y : Labels) : Type 0 where
    pub at : (tests_of (drop i xs) b).at ≡ y.at
    pub nodes : ns ++ (tests_of (drop i xs) b).nodes ≡ y.nodes

  pub labels_first : (xs : List TypedSwitchPart) (b : Building) → HasLabels xs 0 [] b (tests_of xs b)
  labels_first xs b = record { at = refl; nodes = refl }

  pub labels_last : (xs : List TypedSwitchPart) (i : ℕ) (ns : List ℕ) (b : Building) (y : Labels) → length xs ≤ i
      → HasLabels xs i ns b y → (b ≡ y.at) × (ns ≡ y.nodes)
  labels_last xs i ns b y le h =
      let none = ap (λ (zs : List TypedSwitchPart). tests_of zs b) (drop_all i xs le) in (
        sym (ap (λ (l : Labels). l.at) none) ∙ h.at,
        sym (append-nil ns) ∙ (sym (ap (λ (l : Labels). ns ++ l.nodes) none) ∙ h.nodes),
      )

  -- a label is tested
  pub labels_more : (xs : List TypedSwitchPart) (i : ℕ) (d : TypedSwitchPart) (z : ℤ) (p : Place) (ns ms : List ℕ)
      (x : Found) (n : ℕ) (b b0 b1 : Building) (y : Labels) → i < length xs → get_or xs i d ≡ Parts.Case z p
      → Finds (tested (Tests.Case true z value) b) b0 x → n ≡ b0.node → b1 ≡ goto x.other b0
      → ms ≡ ns ++ n ∷ [] → HasLabels xs i ns b y → HasLabels xs (i + 1) ms b1 y
  unfolding tested
  labels_more xs i d z p ns ms x n b b0 b1 y lt is found en e1 em h =
      let rest = drop (i + 1) xs in
      let next : Building = goto (suc b.nodes) (branch (Tests.Case true z value) b) in
      let e = ap (λ (zs : List TypedSwitchPart). tests_of zs b) (drop_more xs i d lt)
      ∙ ap (λ (part : TypedSwitchPart). tests_of (part ∷ rest) b) is in
      let eb : b1 ≡ next = e1 ∙ (ap (λ k. goto k b0) found.2 ∙ ap (λ (c : Building). goto (suc b.nodes) c) found.0) in
      let ek : n ≡ b.nodes = en ∙ ap (λ (c : Building). c.node) found.0 in
      record {
        at = ap (λ (c : Building). (tests_of rest c).at) eb ∙ (sym (ap (λ (l : Labels). l.at) e) ∙ h.at);
        nodes = ap (λ (c : Building). ms ++ (tests_of rest c).nodes) eb
            ∙ (ap (λ (ks : List ℕ). ks ++ (tests_of rest next).nodes) (em ∙ ap (λ k. ns ++ k ∷ []) ek)
            ∙ (append_assoc ns (b.nodes ∷ []) (tests_of rest next).nodes
            ∙ (sym (ap (λ (l : Labels). ns ++ l.nodes) e) ∙ h.nodes)));
      }

  -- a part that is no label, after which there are the same nodes
  pub labels_same : (xs : List TypedSwitchPart) (i : ℕ) (d part : TypedSwitchPart) (ns ms : List ℕ) (b b1 : Building)
      (y : Labels) → i < length xs → get_or xs i d ≡ part
      → tests_of (part ∷ drop (i + 1) xs) b ≡ tests_of (drop (i + 1) xs) b → b1 ≡ b → ms ≡ ns
      → HasLabels xs i ns b y → HasLabels xs (i + 1) ms b1 y
  labels_same xs i d part ns ms b b1 y lt is same eb en h =
      let rest = drop (i + 1) xs in
      let e = ap (λ (zs : List TypedSwitchPart). tests_of zs b) (drop_more xs i d lt)
      ∙ (ap (λ (x : TypedSwitchPart). tests_of (x ∷ rest) b) is ∙ same) in
      record {
        at = ap (λ (c : Building). (tests_of rest c).at) eb ∙ (sym (ap (λ (l : Labels). l.at) e) ∙ h.at);
        nodes = ap (λ (c : Building). ms ++ (tests_of rest c).nodes) eb
            ∙ (ap (λ (ks : List ℕ). ks ++ (tests_of rest b).nodes) en
            ∙ (sym (ap (λ (l : Labels). ns ++ l.nodes) e) ∙ h.nodes));
      }
