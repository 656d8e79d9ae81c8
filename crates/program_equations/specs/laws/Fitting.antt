-- The equations of each body of a program are a system of equations in the states that fit the body.
use Rattle.std.specs.Prelude.{◌≡◌, ℕ, ◌<◌, length, Option, IfSome}
use Rattle.std.proofs.Common.{sym, subst}
use Rattle.edge_filters.specs.interfere_set.Stores.{Interferences}
use Rattle.edge_filters.specs.transfer_rows.StateForms.{State}
use Rattle.task_equations.specs.table_covers.Systems.{IsLawfulSystem}
use Rattle.task_equations.specs.state_fits.Fits.{FitsStore}
use Rattle.task_equations.specs.Bodies.{Body}
use Rattle.task_equations.specs.Equations.{equations_of}
use Rattle.task_equations.specs.Premises.{IsBody}
use Rattle.task_equations.specs.laws.Lawful.{equations_are_lawful}
use Rattle.program_equations.specs.Programs.{ProgramBodies, body_at, IsProgram}
use Rattle.program_equations.specs.Systems.{states, FitsBody, FitsProgram}

module _ (p : ProgramBodies) (is : IsProgram p) (t : ℕ) (lt : t < length p.bodies) where
  abbrev body : Body
  body = body_at p t

  pub body_is : IsBody body (is.sorts t)
  body_is = (is.each t lt).body

  pub laid_is : (let b = body_at p t in b.laid ≡ p.laid)
  laid_is = (is.each t lt).numbered.laid

  -- a store that fits the program fits each body
  pub store_fits : (store : Interferences) → FitsProgram p store
      → (let b = body_at p t in FitsStore b.laid p.tasks store)
  store_fits store fits = subst (λ l. FitsStore l p.tasks store) (sym laid_is) fits

  -- the equations of each body of a program, over a store that fits, are a system of equations
  pub body_is_lawful : (entry : Option State) (store : Interferences) → FitsProgram p store
      → IfSome entry (FitsBody (body_at p t) 0)
      → IsLawfulSystem states.is_value states.leq states.joined (FitsBody (body_at p t))
      (equations_of (body_at p t) entry store)
  body_is_lawful entry store fits entry-fits =
      equations_are_lawful body (is.sorts t) body_is p.tasks store (store_fits store fits) entry entry-fits
