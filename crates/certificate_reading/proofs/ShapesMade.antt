-- The shape of a body is made cell by cell.
use Rattle.std.proofs.Common.{◌≡◌, sym, ap, subst, ◌∙◌, ◌↔◌, ℕ, ◌+◌, ◌<◌, ◌≤◌, Bool, true, false, List, []}
use Rattle.std.proofs.Common.{◌∷◌, ◌++◌, ◌⊎◌, inl, inr, length, get_or, length-append, arith}
use Rattle.std.proofs.Math.ListN.{get_or-append}
use Rattle.std.proofs.Math.Seq.{get_or-append_seam}
use Rattle.std.proofs.lemmas.List.{get_or_default, get_or_past}
use Rattle.tm_laid.specs.declared.cells.AbstractCell.{AbstractCell}
use Rattle.tm_laid.specs.Layouts.{LaidTree, abstract_at, no_abstract_cell}
use Rattle.edge_actions.specs.Layouts.{is_reachable, is_shared_cell}
use Rattle.temporary_extents.specs.declared.extents.Extent.{Extent}
use Rattle.temporary_extents.specs.declared.extents.Extent.TheVariants.{Nothing}
use Rattle.temporary_extents.specs.Extents.{extent_at, scalar_extent}
use Rattle.post_recheck.specs.state_fits.Fits.{IsSeenCell}
use Rattle.certificate_reading.specs.declared.shapes.Shape.{Shape}
use Rattle.certificate_reading.specs.reading.Shapes.{IsSeenShared, IsSeenLocal, IsShape, IsShapeBefore}
use Rattle.certificate_reading.proofs.NumbersOf.{with_number, without_number, all_numbers}

not_both : {b : Bool} → b ≡ true → b ≡ false → ⊥
not_both t f = let e : true ≡ false = sym t ∙ f in cc

-- ## One more element

one_longer : {A : Type 0} (n : ℕ) (xs now : List A) (v : A) → length xs ≡ n → now ≡ xs ++ v ∷ [] → length now ≡ n + 1
one_longer n xs now v count is = ap length is ∙ (length-append xs (v ∷ []) ∙ ap (λ m. m + 1) count)

-- what holds of each element holds with the next one
module _ {A : Type 0} (d : A) (Holds : ℕ → A → Type 0) (n : ℕ) (xs now : List A) (v : A) (count : length xs ≡ n)
    (is : now ≡ xs ++ v ∷ []) where
  with_next : ((x : ℕ) → x < n → Holds x (get_or xs x d)) → Holds n v → (x : ℕ) → x < n + 1 → Holds x (get_or now x d)
  with_next each next x l = elim (less_or_next x n l) [
    | inl b ↦ subst (Holds x) (sym (ap (λ ys. get_or ys x d) is ∙ get_or-append xs (v ∷ []) d x
        (omega (arith, b, count)))) (each x b)
    | inr s ↦ subst (λ y. Holds y (get_or now y d)) (sym s)
        (subst (Holds n) (sym (ap (λ ys. get_or ys n d) is ∙ (ap (λ m. get_or (xs ++ v ∷ []) m d) (sym count)
        ∙ get_or-append_seam xs v [] d))) next)
  ]
    where
      less_or_next : (k m : ℕ) → k < m + 1 → (k < m) ⊎ (k ≡ m)
      less_or_next k m h = grind arith

-- ## The next cell

module _ (laid : LaidTree) (task n : ℕ) where
  -- the next cell stands there, its type, whether the body sees it, and what it adds to the shape of those before it
  pub record IsNextShape (old new : Shape) (b : Bool) : Type 0 where
    pub there : n < length laid.abstract_cells
    pub cell : AbstractCell
    pub cell_is : cell ≡ get_or laid.abstract_cells n cell
    pub seen_is : b ≡ is_reachable laid task cell.object
    pub before : IsShapeBefore laid task n old
    pub extent : Extent
    pub extent_is : extent ≡ scalar_extent cell.scalar
    pub kinds : new.kinds.items ≡ old.kinds.items ++ extent ∷ []
    pub marks : new.marks.items ≡ old.marks.items ++ b ∷ []
    pub mask : new.mask ≡ old.mask

  module _ (old new : Shape) (b : Bool) (next : IsNextShape old new b) where
    found : next.cell ≡ abstract_at laid n
    found = next.cell_is ∙ get_or_default laid.abstract_cells n next.cell no_abstract_cell next.there

    extent_next : (let a = abstract_at laid n in next.extent ≡ scalar_extent a.scalar)
    extent_next = next.extent_is ∙ ap (λ (a : AbstractCell). scalar_extent a.scalar) found

    sees : (let a = abstract_at laid n in is_reachable laid task a.object ≡ b)
    sees = sym (next.seen_is ∙ ap (λ (a : AbstractCell). is_reachable laid task a.object) found)

    seen_next : b ≡ true → IsSeenCell laid task n
    seen_next t = record { cell = next.there; seen = sees ∙ t }

    marked_next : (b ≡ true) ↔ IsSeenCell laid task n
    marked_next = (seen_next, (λ s. sym sees ∙ s.seen))

    unseen_next : b ≡ false → IsSeenCell laid task n → ⊥
    unseen_next f s = not_both (marked_next.1 s) f

    extents_next : (x : ℕ) → x < n + 1
        → (let a = abstract_at laid x in extent_at new.kinds.items x ≡ scalar_extent a.scalar)
    extents_next =
        with_next Nothing (λ x e. (let a = abstract_at laid x in e ≡ scalar_extent a.scalar)) n old.kinds.items
        new.kinds.items next.extent next.before.extents next.kinds next.before.kinds extent_next

    marks_next : (x : ℕ) → x < n + 1 → (get_or new.marks.items x false ≡ true) ↔ IsSeenCell laid task x
    marks_next =
        with_next false (λ x m. (m ≡ true) ↔ IsSeenCell laid task x) n old.marks.items new.marks.items b next.before.all
        next.marks next.before.marks marked_next

    as_long : length new.kinds.items ≡ n + 1
    as_long = one_longer n old.kinds.items new.kinds.items next.extent next.before.extents next.kinds

    as_many : length new.marks.items ≡ n + 1
    as_many = one_longer n old.marks.items new.marks.items b next.before.all next.marks

    pub unseen : b ≡ false → new.seen.items ≡ old.seen.items → new.shared.items ≡ old.shared.items
        → new.local.items ≡ old.local.items → IsShapeBefore laid task (n + 1) new
    unseen f seen shared local =
        let not = unseen_next f in
        record {
          seen = without_number (IsSeenCell laid task) n old.seen.items new.seen.items next.before.seen not seen;
          shared = without_number (IsSeenShared laid task) n old.shared.items new.shared.items next.before.shared
              (λ s. not s.0) shared;
          local = without_number (IsSeenLocal laid task) n old.local.items new.local.items next.before.local
              (λ s. not s.0) local;
          extents = as_long;
          kinds = extents_next;
          all = as_many;
          marks = marks_next;
          mask = next.mask ∙ next.before.mask;
        }

    pub shared_next : b ≡ true → is_shared_cell laid n ≡ true → new.seen.items ≡ old.seen.items ++ n ∷ []
        → new.shared.items ≡ old.shared.items ++ n ∷ [] → new.local.items ≡ old.local.items
        → IsShapeBefore laid task (n + 1) new
    shared_next t is seen shared local =
        let s = seen_next t in
        record {
          seen = with_number (IsSeenCell laid task) n old.seen.items new.seen.items next.before.seen s seen;
          shared = with_number (IsSeenShared laid task) n old.shared.items new.shared.items next.before.shared (s, is)
              shared;
          local = without_number (IsSeenLocal laid task) n old.local.items new.local.items next.before.local
              (λ l. not_both is l.1) local;
          extents = as_long;
          kinds = extents_next;
          all = as_many;
          marks = marks_next;
          mask = next.mask ∙ next.before.mask;
        }

    pub local_next : b ≡ true → is_shared_cell laid n ≡ false → new.seen.items ≡ old.seen.items ++ n ∷ []
        → new.shared.items ≡ old.shared.items → new.local.items ≡ old.local.items ++ n ∷ []
        → IsShapeBefore laid task (n + 1) new
    local_next t is seen shared local =
        let s = seen_next t in
        record {
          seen = with_number (IsSeenCell laid task) n old.seen.items new.seen.items next.before.seen s seen;
          shared = without_number (IsSeenShared laid task) n old.shared.items new.shared.items next.before.shared
              (λ l. not_both l.1 is) shared;
          local = with_number (IsSeenLocal laid task) n old.local.items new.local.items next.before.local (s, is) local;
          extents = as_long;
          kinds = extents_next;
          all = as_many;
          marks = marks_next;
          mask = next.mask ∙ next.before.mask;
        }

-- ## All cells

pub shape_is : (laid : LaidTree) (task n : ℕ) (shape : Shape) → length laid.abstract_cells ≤ n
    → IsShapeBefore laid task n shape → IsShape laid task shape
shape_is laid task n shape all h =
    record {
      seen = all_numbers (IsSeenCell laid task) n shape.seen.items h.seen bounded;
      shared = all_numbers (IsSeenShared laid task) n shape.shared.items h.shared (λ x s. bounded x s.0);
      local = all_numbers (IsSeenLocal laid task) n shape.local.items h.local (λ x s. bounded x s.0);
      kinds = λ x s. h.kinds x (bounded x s);
      marked = marked;
      marks = λ x s. (h.marks x (bounded x s)).1 s;
      mask = h.mask;
    }
  where
    bounded : (x : ℕ) → IsSeenCell laid task x → x < n
    bounded x s = let l = s.cell in omega (arith, l, all)

    marked : (x : ℕ) → get_or shape.marks.items x false ≡ true → IsSeenCell laid task x
    marked x t = elim (less_or x n) [
      | inl b ↦ (h.marks x b).0 t
      | inr o ↦ absurd (not_both t (get_or_past shape.marks.items x false (let a = h.all in omega (arith, a, o))))
    ]
      where
        less_or : (k m : ℕ) → (k < m) ⊎ (m ≤ k)
        less_or k m = grind arith
