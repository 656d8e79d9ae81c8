-- When the bodies of two programs are equal.
use Rattle.std.specs.Prelude.{◌≡◌, ℕ, zero, suc, ◌+◌, ◌<◌, List, [], ◌∷◌, length, get_or, refl}
use Rattle.std.proofs.Common.{sym, ap, subst, ◌∙◌, arith, inl, inr}
use Rattle.std.proofs.lemmas.Bool.{cases_lt}
use Rattle.std.proofs.lemmas.List.{get_or_default}
use Rattle.flow_graph.specs.declared.graphs.Graph.{Graph}
use Rattle.mutex_configs.specs.declared.nodes.ConfiguredGraph.{ConfiguredGraph}
use Rattle.program_systems.specs.body_systems.Facts.{Facts}
use Rattle.program_systems.specs.ProgramFacts.{read_body, read_bodies}
use Rattle.program_systems.proofs.Bodies.{read_count, read_at}

-- the bodies below a number are equal
pub record AreSameBelow (gs gs' : List Graph) (cs cs' : List ConfiguredGraph) (fs fs' : List Facts) (n : ℕ) : Type 0 where
  pub each : (t : ℕ) (g g' : Graph) (c c' : ConfiguredGraph) (f f' : Facts) → t < n
      → read_body (get_or gs t g) (get_or cs t c) (get_or fs t f) ≡ read_body (get_or gs' t g') (get_or cs' t c') (get_or fs' t f')

pub none_yet : (gs gs' : List Graph) (cs cs' : List ConfiguredGraph) (fs fs' : List Facts)
    → AreSameBelow gs gs' cs cs' fs fs' 0
none_yet gs gs' cs cs' fs fs' = record { each = λ t g g' c c' f f' lt. absurd (omega (arith, lt)) }

-- what is read of a list, whatever stands behind its end
reads : {A : Type 0} (xs : List A) (n : ℕ) (x : A) → n < length xs → x ≡ get_or xs n x → (d : A) → get_or xs n d ≡ x
reads xs n x within read d = sym (read ∙ get_or_default xs n x d within)

module _ (gs gs' : List Graph) (cs cs' : List ConfiguredGraph) (fs fs' : List Facts)
    (c-count : length cs ≡ length gs) (c-count' : length cs' ≡ length gs')
    (f-count : length fs ≡ length gs) (f-count' : length fs' ≡ length gs') where
  pub counts : read_bodies gs cs fs ≡ read_bodies gs' cs' fs' → length gs ≡ length gs'
  counts e = sym (read_count gs cs fs c-count f-count) ∙ ap length e ∙ read_count gs' cs' fs' c-count' f-count'

  module _ (n : ℕ) (lt : n < length gs) (lt' : n < length gs') (g g' : Graph) (c c' : ConfiguredGraph) (f f' : Facts)
      (g-is : g ≡ get_or gs n g) (g'-is : g' ≡ get_or gs' n g') (c-is : c ≡ get_or cs n c) (c'-is : c' ≡ get_or cs' n c')
      (f-is : f ≡ get_or fs n f) (f'-is : f' ≡ get_or fs' n f') where
    in_cs : n < length cs
    in_cs = omega (arith, lt, c-count)

    in_cs' : n < length cs'
    in_cs' = omega (arith, lt', c-count')

    in_fs : n < length fs
    in_fs = omega (arith, lt, f-count)

    in_fs' : n < length fs'
    in_fs' = omega (arith, lt', f-count')

    one_is : (x : Graph) (y : ConfiguredGraph) (z : Facts)
        → read_body (get_or gs n x) (get_or cs n y) (get_or fs n z) ≡ read_body g c f
    one_is x y z =
        ap (λ a. read_body a (get_or cs n y) (get_or fs n z)) (reads gs n g lt g-is x)
        ∙ ap (λ a. read_body g a (get_or fs n z)) (reads cs n c in_cs c-is y)
        ∙ ap (λ a. read_body g c a) (reads fs n f in_fs f-is z)

    other_is : (x : Graph) (y : ConfiguredGraph) (z : Facts)
        → read_body (get_or gs' n x) (get_or cs' n y) (get_or fs' n z) ≡ read_body g' c' f'
    other_is x y z =
        ap (λ a. read_body a (get_or cs' n y) (get_or fs' n z)) (reads gs' n g' lt' g'-is x)
        ∙ ap (λ a. read_body g' a (get_or fs' n z)) (reads cs' n c' in_cs' c'-is y)
        ∙ ap (λ a. read_body g' c' a) (reads fs' n f' in_fs' f'-is z)

    -- equal programs have equal bodies
    pub bodies_are : read_bodies gs cs fs ≡ read_bodies gs' cs' fs' → read_body g c f ≡ read_body g' c' f'
    bodies_are e =
        sym (one_is g c f) ∙ sym (read_at gs cs fs n (read_body g c f) g c f c-count f-count lt)
        ∙ ap (λ bs. get_or bs n (read_body g c f)) e
        ∙ read_at gs' cs' fs' n (read_body g c f) g' c' f' c-count' f-count' lt' ∙ other_is g' c' f'

    -- one more body is equal
    pub one_more : AreSameBelow gs gs' cs cs' fs fs' n → read_body g c f ≡ read_body g' c' f'
        → AreSameBelow gs gs' cs cs' fs fs' (n + 1)
    one_more before same = record {
      each = λ t x x' y y' z z' below. elim (cases_lt t n) [
        | inl earlier ↦ before.each t x x' y y' z z' earlier
        | inr end ↦
            let here : n ≡ t = omega (arith, below, end) in
            subst (λ k. read_body (get_or gs k x) (get_or cs k y) (get_or fs k z)
            ≡ read_body (get_or gs' k x') (get_or cs' k y') (get_or fs' k z')) here
            (one_is x y z ∙ same ∙ sym (other_is x' y' z'))
      ];
    }

-- bodies that are all equal
pub all_same : (gs gs' : List Graph) (cs cs' : List ConfiguredGraph) (fs fs' : List Facts) → length gs ≡ length gs'
    → length cs ≡ length gs → length cs' ≡ length gs' → length fs ≡ length gs → length fs' ≡ length gs'
    → ((t : ℕ) (g g' : Graph) (c c' : ConfiguredGraph) (f f' : Facts) → t < length gs
    → read_body (get_or gs t g) (get_or cs t c) (get_or fs t f)
    ≡ read_body (get_or gs' t g') (get_or cs' t c') (get_or fs' t f'))
    → read_bodies gs cs fs ≡ read_bodies gs' cs' fs'
all_same [] [] cs cs' fs fs' a b b' d d' each = refl
all_same [] (g' ∷ gs') cs cs' fs fs' a b b' d d' each = absurd (omega (arith, a))
all_same (g ∷ gs) [] cs cs' fs fs' a b b' d d' each = absurd (omega (arith, a))
all_same (g ∷ gs) (g' ∷ gs') [] cs' fs fs' a b b' d d' each = absurd (omega (arith, b))
all_same (g ∷ gs) (g' ∷ gs') (c ∷ cs) [] fs fs' a b b' d d' each = absurd (omega (arith, b'))
all_same (g ∷ gs) (g' ∷ gs') (c ∷ cs) (c' ∷ cs') [] fs' a b b' d d' each = absurd (omega (arith, d))
all_same (g ∷ gs) (g' ∷ gs') (c ∷ cs) (c' ∷ cs') (f ∷ fs) [] a b b' d d' each = absurd (omega (arith, d'))
all_same (g ∷ gs) (g' ∷ gs') (c ∷ cs) (c' ∷ cs') (f ∷ fs) (f' ∷ fs') a b b' d d' each =
    ap (λ x. x ∷ read_bodies gs cs fs) (each zero g g' c c' f f' (omega arith))
    ∙ ap (λ xs. read_body g' c' f' ∷ xs) (all_same gs gs' cs cs' fs fs' (omega (arith, a)) (omega (arith, b))
    (omega (arith, b')) (omega (arith, d)) (omega (arith, d'))
    (λ t x x' y y' z z' lt. each (suc t) x x' y y' z z' (omega (arith, lt))))
