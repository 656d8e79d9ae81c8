-- What the copies of edges give.
use Rattle.std.specs.Prelude.{◌≡◌, ℕ, Bool, true, length, not, is_some}
use Rattle.tm_cint.specs.declared.Class.{Class}
use Rattle.tm_terms.specs.declared.places.Place.{Place}
use Rattle.interfere_set.specs.Stores.{Interferences}
use Rattle.program_reports.specs.post_recheck.transfer_rows.StateForms.{State}
use Rattle.program_reports.specs.post_recheck.transfer_rows.Rows.{after}
use Rattle.program_reports.specs.post_recheck.table_covers.Solutions.{NodeTable}
use Rattle.program_reports.specs.post_recheck.task_equations.Bodies.{Body, copy_at}
use Rattle.program_reports.specs.post_recheck.task_equations.Equations.{action_along, around_along}
use Rattle.program_reports.specs.post_recheck.program_equations.Programs.{ProgramBodies, body_at}
use Rattle.program_reports.specs.reading.Found.{GivesAlarm, IsGivenBelow}
use Rattle.program_reports.specs.reading.Bodies.{IsGivenUpTo}
use Rattle.alarm_contexts.specs.declared.exits.Exit.{Exit}
use Rattle.alarm_contexts.specs.declared.exits.Context.{Context}

-- the context of this class at the place
abbrev pub context_at : Place → Exit → Class → Context
context_at place exit class = record { alarm = record { place = place; class = class }; exit = exit }

-- that of a class that is noted
pub record IsClassAt (place : Place) (exit : Exit) (class : Class) (noted : Bool) (x : Context) : Type 0 where
  pub noted_it : noted ≡ true
  pub is : x ≡ context_at place exit class

-- a copy, behind which control goes on or does not
abbrev pub exit_with : Body → ℕ → Bool → Exit
exit_with b k ends = (let c = copy_at b k in record { body = b.task; edge = c.edge; copy = k; ends = ends })

module _ (b : Body) (store : Interferences) where
  -- a copy out of a node in this state
  abbrev pub exit_at : ℕ → State → Exit
  exit_at k s =
      let c = copy_at b k in exit_with b k (not (is_some (after (around_along b c) (action_along b c) s store)))

  -- it does not exclude the alarm
  pub record GivesContext (k : ℕ) (s : State) (x : Context) : Type 0 where
    pub alarm : GivesAlarm b k s x.alarm
    pub exit : x.exit ≡ exit_at k s

  -- one of the first copies, from a node with a state
  abbrev pub IsContextBelow : NodeTable State → ℕ → Context → Type 0
  IsContextBelow table n x = IsGivenBelow b table (λ k s. GivesContext k s x) n

module _ (p : ProgramBodies) (store : Interferences) (tables : ℕ → NodeTable State) where
  -- of a body
  abbrev pub IsContextIn : ℕ → Context → Type 0
  IsContextIn t x = (let b = body_at p t in IsContextBelow b store (tables t) (length b.copies) x)

  -- of one of the first bodies
  abbrev pub IsContextUpTo : ℕ → Context → Type 0
  IsContextUpTo n x = IsGivenUpTo (λ t. IsContextIn t x) n
