-- How the rounds and the histories of a program climb.
use Rattle.std.proofs.Common.{◌≡◌, ℕ, zero, suc, ◌+◌, ◌<◌, ◌≤◌, List, [], ◌∷◌, length, get_or, sym, ap, subst, ◌∙◌, inl, inr, arith, add-zero, add-suc}
use Rattle.std.proofs.lemmas.Bool.{cases_lt}
use Rattle.tm_lattice.specs.declared.lattices.Lattice as lattice
use Rattle.tm_lattice.specs.declared.passers.Passer as passer
use Rattle.tm_lattice.specs.LatticeLaws.{IsOrder, IsJoin, IsClosure}
use Rattle.tm_lattice.specs.Fitting.{IsFitting, IsBottom, IsMonotone}
use Rattle.tm_lattice.specs.Rounds.{with_passes, up, IsHistory, IsClosed}

-- the laws of the store and of one program
pub record IsLawful {P S M : Type 0} (store : lattice.Ghosts S M) (passer : passer.Ghosts P S M) (program : P) : Type 0 where
  pub order : IsOrder store.is_value store.leq
  pub join : IsJoin store.is_value store.leq store.joined
  pub closure : IsClosure store.is_value store.is_marks store.leq store.rounded
  pub fitting : IsFitting store (passer.marks_of program) (passer.task_count program) (passer.least program) (passer.passed program) (passer.fits program)
  pub bottom : IsBottom store (passer.marks_of program) (passer.least program)
  pub monotone : IsMonotone store (passer.task_count program) (passer.passed program) (passer.fits program)

module _ {P S M : Type 0} (store : lattice.Ghosts S M) (passer : passer.Ghosts P S M) (program : P) (laws : IsLawful store passer program) where
  abbrev Fits : S → Type 0
  Fits s = passer.fits program s

  abbrev Is : S → Type 0
  Is s = store.is_value s

  abbrev Below : S → S → Type 0
  Below s t = store.leq s t

  abbrev tasks : ℕ
  tasks = passer.task_count program

  abbrev pass : ℕ → S → S
  pass task s = passer.passed program task s

  abbrev outward : S → S
  outward s = store.rounded (passer.marks_of program) s

  abbrev all : ℕ → S → S
  all n s = with_passes store passer program n s

  abbrev round : ℕ → S
  round k = up store passer program k

  is : (s : S) → Fits s → Is s
  is s fits = laws.fitting.value s fits

  all_fits : (n : ℕ) (s : S) → n ≤ tasks → Fits s → Fits (all n s)
  all_fits zero s within fits = fits
  all_fits (suc n) s within fits =
      laws.fitting.joined_fits (all n s) (pass n s) (all_fits n s (omega arith) fits) (laws.fitting.passed_fits n s (omega arith) fits)

  -- all passes are over s, and joined to it
  above_all : (n : ℕ) (s : S) → n ≤ tasks → Fits s → Below s (all n s)
  above_all zero s within fits = laws.order.reflexive s (is s fits)
  above_all (suc n) s within fits =
      let rest = all_fits n s (omega arith) fits in
      let here = laws.fitting.passed_fits n s (omega arith) fits in
      laws.order.transitive s (all n s) (all (suc n) s) (is _ fits) (is _ rest) (is _ (all_fits (suc n) s within fits)) (above_all n s (omega arith) fits) (laws.join.left (all n s) (pass n s) (is _ rest) (is _ here))

  pass_below_all : (n : ℕ) (s : S) (task : ℕ) → n ≤ tasks → task < n → Fits s → Below (pass task s) (all n s)
  pass_below_all zero s task within lt fits = absurd (omega arith)
  pass_below_all (suc n) s task within lt fits =
      let rest = all_fits n s (omega arith) fits in
      let here = laws.fitting.passed_fits n s (omega arith) fits in
      let there = laws.fitting.passed_fits task s (omega arith) fits in
      let whole = all_fits (suc n) s within fits in
      elim (cases_lt task n) [
        | inl before ↦ laws.order.transitive (pass task s) (all n s) (all (suc n) s) (is _ there) (is _ rest) (is _ whole) (pass_below_all n s task (omega arith) before fits) (laws.join.left (all n s) (pass n s) (is _ rest) (is _ here))
        | inr after ↦
            let same : n ≡ task = omega arith in
            let right = laws.join.right (all n s) (pass n s) (is _ rest) (is _ here) in
            subst (λ t. Below (pass t s) (all (suc n) s)) same right
      ]

  -- and nothing else is joined to it
  all_below : (n : ℕ) (s t : S) → n ≤ tasks → Fits s → Fits t → Below s t → ((task : ℕ) → task < n → Below (pass task s) t) → Below (all n s) t
  all_below zero s t within fits fits' below each = below
  all_below (suc n) s t within fits fits' below each =
      let rest = all_fits n s (omega arith) fits in
      let here = laws.fitting.passed_fits n s (omega arith) fits in
      laws.join.least (all n s) (pass n s) t (is _ rest) (is _ here) (is _ fits') (all_below n s t (omega arith) fits fits' below (λ task lt. each task (omega arith))) (each n (omega arith))

  pub round_fits : (k : ℕ) → Fits (round k)
  round_fits zero = laws.fitting.bottom_fits
  round_fits (suc k) = laws.fitting.rounded_fits _ (all_fits tasks (round k) (omega arith) (round_fits k))

  -- what stands below a round with its passes stands below the next one
  below_next : (k : ℕ) (s : S) → Fits s → Below s (all tasks (round k)) → Below (outward s) (round (suc k))
  below_next k s fits below =
      laws.closure.monotone (passer.marks_of program) s (all tasks (round k)) laws.fitting.marks_are (is _ fits) (is _ (all_fits tasks (round k) (omega arith) (round_fits k))) below

  pub rises : (k : ℕ) → Below (round k) (round (suc k))
  rises k =
      let fits = round_fits k in
      let whole = all_fits tasks (round k) (omega arith) fits in
      laws.order.transitive (round k) (all tasks (round k)) (round (suc k)) (is _ fits) (is _ whole) (is _ (round_fits (suc k))) (above_all tasks (round k) (omega arith) fits)
      (laws.closure.extensive (passer.marks_of program) (all tasks (round k)) laws.fitting.marks_are (is _ whole))

  pub rises_by : (k n : ℕ) → Below (round k) (round (k + n))
  rises_by k zero = rw add-zero (laws.order.reflexive (round k) (is _ (round_fits k)))
  rises_by k (suc n) = rw add-suc (laws.order.transitive (round k) (round (k + n)) (round (suc (k + n))) (is _ (round_fits k)) (is _ (round_fits (k + n))) (is _ (round_fits (suc (k + n)))) (rises_by k n) (rises (k + n)))

  pub stays : (k n : ℕ) → round (suc k) ≡ round k → round (k + n) ≡ round k
  stays k zero same = ap round (omega arith)
  stays k (suc n) same = rw add-suc (ap (λ s. outward (all tasks s)) (stays k n same) ∙ same)

  pub below_closed : (k : ℕ) (s : S) → IsClosed store passer program s → Below (round k) s
  below_closed zero s closed = laws.bottom.below s (is _ closed.fits)
  below_closed (suc k) s closed =
      let before = below_closed k s closed in
      let fits = round_fits k in
      let whole = all_fits tasks (round k) (omega arith) fits in
      let each : (task : ℕ) → task < tasks → Below (pass task (round k)) s = λ task lt.
      laws.order.transitive (pass task (round k)) (pass task s) s (is _ (laws.fitting.passed_fits task (round k) lt fits)) (is _ (laws.fitting.passed_fits task s lt closed.fits)) (is _ closed.fits)
      (laws.monotone task (round k) s lt fits closed.fits before) (closed.passes task lt) in
      let inside = all_below tasks (round k) s (omega arith) fits closed.fits before each in
      subst (λ t. Below (round (suc k)) t) closed.rounding (laws.closure.monotone (passer.marks_of program) (all tasks (round k)) s laws.fitting.marks_are (is _ whole) (is _ closed.fits) inside)

  -- a store of a history fits, and lies below the round of the publications before the newest
  pub record IsReached (k : ℕ) (s : S) : Type 0 where
    pub fits : Fits s
    pub below : Below s (round k)

  later : (k : ℕ) (s : S) → IsReached k s → IsReached (suc k) s
  later k s reached = record {
    fits = reached.fits;
    below = laws.order.transitive s (round k) (round (suc k)) (is _ reached.fits) (is _ (round_fits k)) (is _ (round_fits (suc k))) reached.below (rises k);
  }

  -- one publication more
  published : (k task : ℕ) (now read : S) → task < tasks → IsReached k now → IsReached k read → IsReached (suc k) (outward (store.joined now (pass task read)))
  published k task now read exists at_now at_read =
      let fits = round_fits k in
      let added = laws.fitting.passed_fits task read exists at_read.fits in
      let whole = all_fits tasks (round k) (omega arith) fits in
      let both = laws.fitting.joined_fits now (pass task read) at_now.fits added in
      let most = laws.fitting.passed_fits task (round k) exists fits in
      let now_below : Below now (all tasks (round k)) =
      laws.order.transitive now (round k) (all tasks (round k)) (is _ at_now.fits) (is _ fits) (is _ whole) at_now.below (above_all tasks (round k) (omega arith) fits) in
      let added_below : Below (pass task read) (all tasks (round k)) =
      laws.order.transitive (pass task read) (pass task (round k)) (all tasks (round k)) (is _ added) (is _ most) (is _ whole) (laws.monotone task read (round k) exists at_read.fits fits at_read.below) (pass_below_all tasks (round k) task (omega arith) exists fits) in
      record {
        fits = laws.fitting.rounded_fits _ both;
        below = below_next k _ both (laws.join.least now (pass task read) (all tasks (round k)) (is _ at_now.fits) (is _ added) (is _ whole) now_below added_below);
      }

  pub reached : (s : S) (earlier : List S) → IsHistory store passer program (s ∷ earlier) → (i : ℕ) (d : S) → i < length (s ∷ earlier) → IsReached (length earlier) (get_or (s ∷ earlier) i d)
  reached s [] begins zero d within = record {
    fits = subst Fits (sym begins) laws.fitting.bottom_fits;
    below = subst (λ t. Below t (round zero)) (sym begins) (laws.order.reflexive (round zero) (is _ (round_fits zero)));
  }
  reached s [] begins (suc i) d within = absurd (omega arith)
  reached s (now ∷ before) history zero d within =
      let step = history.0 in
      let at_now = reached now before history.1 zero d (omega arith) in
      let at_read = subst (IsReached (length before)) step.stood.2 (reached now before history.1 step.stood.0 step.read step.stood.1) in
      subst (IsReached (suc (length before))) (sym step.joins) (published (length before) step.task now step.read step.exists at_now at_read)
  reached s (now ∷ before) history (suc i) d within = later (length before) _ (reached now before history.1 i d (omega arith))

  -- a closed store that ends a history is the round of its publications, and each later one
  pub settled : (s : S) (earlier : List S) (more : ℕ) → IsHistory store passer program (s ∷ earlier) → IsClosed store passer program s → s ≡ round (length earlier + more)
  settled s earlier more history closed =
      let k = length earlier + more in
      let newest = reached s earlier history zero s (omega arith) in
      let inside : Below s (round k) =
      laws.order.transitive s (round (length earlier)) (round k) (is _ closed.fits) (is _ (round_fits (length earlier))) (is _ (round_fits k)) newest.below (rises_by (length earlier) more) in
      laws.order.antisymmetric s (round k) (is _ closed.fits) (is _ (round_fits k)) inside (below_closed k s closed)

  -- two histories that end in closed stores end in one
  pub one_end : (s t : S) (earlier earlier' : List S) → IsHistory store passer program (s ∷ earlier) → IsClosed store passer program s → IsHistory store passer program (t ∷ earlier') → IsClosed store passer program t → s ≡ t
  one_end s t earlier earlier' history closed history' closed' =
      settled s earlier (length earlier') history closed ∙ ap round (omega arith) ∙ sym (settled t earlier' (length earlier) history' closed')
