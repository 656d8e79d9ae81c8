-- Contexts that were found are of bodies and copies that there are, and their operands are sets of values.
use Rattle.std.proofs.Common.{◌≡◌, ℕ, zero, suc, ◌<◌, sym, subst, List, [], ◌∷◌, length, get_or, take}
use Rattle.std.proofs.Common.{IfSome, Option}
use Rattle.std.specs.Prelude.{Contains}
use Rattle.std.proofs.lemmas.List.{get_or_default}
use Rattle.access_races.proofs.Joins.{either}
use Rattle.interfere_set.specs.pointer_dom.Values.{IsValues, no_value}
use Rattle.interfere_set.specs.Stores.{Interferences}
use Rattle.program_reports.specs.post_recheck.transfer_rows.StateForms.{State}
use Rattle.program_reports.specs.post_recheck.table_covers.Solutions.{NodeTable}
use Rattle.program_reports.specs.post_recheck.program_equations.Programs.{ProgramBodies, body_at, IsProgram}
use Rattle.program_reports.specs.post_recheck.program_equations.Solutions.{table_at, tables_of}
use Rattle.program_reports.specs.post_recheck.program_equations.Systems.{FitsBody}
use Rattle.program_reports.specs.post_recheck.Pairs.{FitsPair}
use Rattle.program_reports.specs.Reports.{copy_in}
use Rattle.alarm_contexts.specs.declared.exits.Context.{Context}
use Rattle.alarm_contexts.specs.reading.Found.{IsContextUpTo}
use Rattle.alarm_contexts.specs.reading.Operands.{operands_of}
use Rattle.alarm_contexts.specs.reading.Merging.{IsSorting}
use Rattle.access_races.proofs.Rising.{none, first, later, cases}
use Rattle.alarm_contexts.proofs.Leaving.{as_context, operands_fit}

front_in : (n : ℕ) (xs : List Context) (x : Context) → Contains (take n xs) x → Contains xs x
front_in zero [] x h = absurd (none x h)
front_in (suc n) [] x h = absurd (none x h)
front_in zero (a ∷ xs) x h = absurd (none x h)
front_in (suc n) (a ∷ xs) x h =
    either (λ e. subst (Contains (a ∷ xs)) e (first a xs)) (λ more. later a x xs (front_in n xs x more))
    (cases a x (take n xs) h)

module _ (p : ProgramBodies) (is : IsProgram p) (store : Interferences) where
  module _ (tables : ℕ → NodeTable State) (x : Context) (h : IsContextUpTo p store tables (length p.bodies) x) where
    pub in_bodies : x.exit.body < length p.bodies
    in_bodies =
        let like = as_context p tables store is x h in
        subst (λ t. t < length p.bodies) (sym like.body) like.context.reached.body

    pub in_copies : (let b = body_at p x.exit.body in x.exit.copy < length b.copies)
    in_copies =
        let like = as_context p tables store is x h in
        subst (λ t. let b = body_at p t in x.exit.copy < length b.copies) (sym like.body)
        (subst (λ k. let b = body_at p h.body in k < length b.copies) (sym like.copy) like.context.reached.copy)

  module _ (tables : List (List (Option State))) (fits : FitsPair p (record { tables = tables; store = store })) where
    fitting : (x : Context) → IsContextUpTo p store (tables_of tables) (length p.bodies) x → (role : ℕ)
        → IsValues (get_or (operands_of p (tables_of tables) x) role no_value)
    fitting x h =
        let like = as_context p (tables_of tables) store is x h in
        let t = h.body in
        let k = h.gives.copy in
        let reached = like.context.reached in
        let node = (copy_in p t k).from in
        let copy = (is.each t reached.body).body.copies k reached.copy in
        let within : node < length (table_at tables t) =
        subst (λ n. node < n) (sym (fits.nodes t reached.body)) copy.from in
        let there : FitsBody (body_at p t) node h.gives.state =
        subst (λ o. IfSome o (FitsBody (body_at p t) node)) reached.state
        (fits.states t node reached.body within) in
        operands_fit p (tables_of tables) store x t k h.gives.state like there.form

    module _ (contexts : List Context)
        (found : (x : Context) → Contains contexts x
        → IsContextUpTo p store (tables_of tables) (length p.bodies) x)
        (ranked : List Context) (sorting : IsSorting contexts ranked) (xs : List Context) (xs-is : xs ≡ ranked) where
      pub are_values : (n : ℕ) (x : Context) → Contains (take n xs) x → (role : ℕ)
          → IsValues (get_or (operands_of p (tables_of tables) x) role no_value)
      are_values n x h =
          fitting x (found x ((sorting.same x).0 (subst (λ l. Contains l x) xs-is (front_in n xs x h))))

pub among : (contexts ranked : List Context) → IsSorting contexts ranked → (xs : List Context) → xs ≡ ranked → (i : ℕ)
    (d : Context) → i < length xs → Contains contexts (get_or xs i d)
among contexts ranked sorting xs xs-is i d lt =
    (sorting.same (get_or xs i d)).0
    (subst (λ l. Contains l (get_or xs i d)) xs-is (i, lt, get_or_default xs i (get_or xs i d) d lt))
