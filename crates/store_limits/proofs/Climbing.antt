-- Stores of a program that rise, and publications.
use Rattle.std.specs.Prelude.{◌≡◌, ℕ, zero, ◌-◌, ◌<◌, ◌≤◌, List, [], ◌∷◌, refl}
use Rattle.std.proofs.Common.{sym, subst, inl, inr, arith}
use Rattle.std.proofs.lemmas.Bool.{cases_lt}
use Rattle.program_equations.specs.tm_lattice.Rounds.{IsHistory, IsPublished, IsClosed}
use Rattle.program_equations.specs.tm_lattice.Heights.{IsHeight}
use Rattle.program_equations.proofs.low.tm_lattice.Climb as climb
use Rattle.program_equations.specs.interfere_set.Stores.{Interferences, IsStore, IsStoreBelow, joined_store}
use Rattle.program_equations.specs.interfere_set.Stores.{rounded_store, store_height}
use Rattle.program_equations.specs.interfere_set.laws.StoreLaws.{store_order, store_join, store_closure, store_heights}
use Rattle.program_equations.specs.value_heights.Heights.{value_height}
use Rattle.program_equations.specs.value_heights.laws.ValueHeights.{value_heights}
use Rattle.program_equations.specs.Programs.{ProgramBodies, IsProgram}
use Rattle.program_equations.specs.Systems.{stores, FitsProgram, pass_of}
use Rattle.program_equations.specs.Solutions.{passing}
use Rattle.program_equations.specs.laws.StoresFit.{bottom}
use Rattle.program_equations.specs.laws.Passing.{fitting, passes_rise}
use Rattle.store_limits.specs.Limits.{store_limit, published}
use Rattle.store_limits.proofs.Bounded.{store_bounded}

abbrev pub height_of : Interferences → ℕ
height_of store = store_height value_height store

heights : IsHeight IsStore IsStoreBelow (store_height value_height)
heights = store_heights value_height value_heights

-- one publication more
pub then_published : (p : ProgramBodies) (t : ℕ) → t < p.tasks → (store : Interferences)
    (earlier : List Interferences) → IsHistory stores passing p (store ∷ earlier)
    → IsHistory stores passing p (published p t store ∷ store ∷ earlier)
then_published p t lt store earlier history =
    let step : IsPublished stores passing p store (store ∷ earlier) (published p t store) = record {
      task = t;
      exists = lt;
      read = store;
      stood = (zero, omega arith, refl);
      joins = refl;
    } in
    (step, history)

module _ (p : ProgramBodies) (is : IsProgram p) where
  -- ## Stores that rise

  pub higher : (store other : Interferences) → FitsProgram p store → FitsProgram p other → IsStoreBelow store other
      → (store ≡ other → ⊥) → height_of store < height_of other
  higher store other fits fits' below differ = elim (cases_lt (height_of store) (height_of other)) [
    | inl less ↦ less
    | inr flat ↦ absurd (differ (heights.strictly store other fits.form fits'.form below flat))
  ]

  pub nearer : (store other : Interferences) → FitsProgram p store → FitsProgram p other → IsStoreBelow store other
      → (store ≡ other → ⊥) → store_limit p - height_of other < store_limit p - height_of store
  nearer store other fits fits' below differ =
      less_left (height_of store) (height_of other) (store_limit p) (higher store other fits fits' below differ)
      (store_bounded p other fits')
    where
      less_left : (a b limit : ℕ) → a < b → b ≤ limit → limit - b < limit - a
      less_left a b limit lt le = omega (arith, lt, le)

  -- ## Publications

  module _ (t : ℕ) (lt : t < p.tasks) (store : Interferences) (fits : FitsProgram p store) where
    abbrev pass : Interferences
    pass = pass_of p t store

    pass_fits : FitsProgram p pass
    pass_fits = (fitting p is).passed_fits t store lt fits

    abbrev both : Interferences
    both = joined_store store pass

    both_fits : FitsProgram p both
    both_fits = (fitting p is).joined_fits store pass fits pass_fits

    pub published_fits : FitsProgram p (published p t store)
    published_fits = (fitting p is).rounded_fits both both_fits

    outer : IsStoreBelow both (published p t store)
    outer = store_closure.extensive p.marks both tt both_fits.form

    pub published_above : IsStoreBelow store (published p t store)
    published_above =
        store_order.transitive store both (published p t store) fits.form both_fits.form published_fits.form
        (store_join.left store pass fits.form pass_fits.form) outer

    pub published_same : IsStoreBelow (published p t store) store → published p t store ≡ store
    published_same below =
        store_order.antisymmetric (published p t store) store published_fits.form fits.form below published_above

    pub published_nearer : (IsStoreBelow (published p t store) store → ⊥)
        → store_limit p - height_of (published p t store) < store_limit p - height_of store
    published_nearer more =
        nearer store (published p t store) fits published_fits published_above
        (λ same. more (subst (λ s. IsStoreBelow s store) same (store_order.reflexive store fits.form)))

    -- a publication that makes the store no higher leaves it
    pub published_quiet : height_of (published p t store) ≤ height_of store → IsStoreBelow (published p t store) store
    published_quiet flat =
        subst (λ s. IsStoreBelow s store)
        (heights.strictly store (published p t store) fits.form published_fits.form published_above flat)
        (store_order.reflexive store fits.form)

    -- a task whose publication adds nothing has a pass below the store
    pub pass_below : IsStoreBelow (published p t store) store → IsStoreBelow pass store
    pass_below below =
        store_order.transitive pass (published p t store) store pass_fits.form published_fits.form fits.form
        (store_order.transitive pass both (published p t store) pass_fits.form both_fits.form published_fits.form
        (store_join.right store pass fits.form pass_fits.form) outer) below

  -- ## Histories

  climbing : climb.IsLawful stores passing p
  climbing = record {
    order = store_order;
    join = store_join;
    closure = store_closure;
    fitting = fitting p is;
    bottom = bottom p.marks;
    monotone = passes_rise p is;
  }

  -- a store of a history fits the program
  pub history_fits : (store : Interferences) (earlier : List Interferences)
      → IsHistory stores passing p (store ∷ earlier) → FitsProgram p store
  history_fits store earlier history =
      (climb.reached stores passing p climbing store earlier history zero store (omega arith)).fits

  -- and is its own rounding
  pub history_round : (store : Interferences) (earlier : List Interferences)
      → IsHistory stores passing p (store ∷ earlier) → rounded_store p.marks store ≡ store
  history_round store [] begins = subst (λ s. rounded_store p.marks s ≡ s) (sym begins) (bottom p.marks).rounding
  history_round store (before ∷ earlier) history =
      let step = history.0 in
      let now = history_fits before earlier history.1 in
      let read = climb.reached stores passing p climbing before earlier history.1 step.stood.0 step.read step.stood.1 in
      let read_fits = subst (FitsProgram p) step.stood.2 read.fits in
      let pass_fits = (fitting p is).passed_fits step.task step.read step.exists read_fits in
      let both = joined_store before (pass_of p step.task step.read) in
      let both_is = store_join.value before (pass_of p step.task step.read) now.form pass_fits.form in
      subst (λ s. rounded_store p.marks s ≡ s) (sym step.joins) (store_closure.idempotent p.marks both tt both_is)

  pub quiet_is_closed : (store : Interferences) (earlier : List Interferences)
      → IsHistory stores passing p (store ∷ earlier)
      → ((t : ℕ) → t < p.tasks → IsStoreBelow (published p t store) store) → IsClosed stores passing p store
  quiet_is_closed store earlier history quiet =
      let fits = history_fits store earlier history in record {
        fits = fits;
        rounding = history_round store earlier history;
        passes = λ t lt. pass_below t lt store fits (quiet t lt);
      }
