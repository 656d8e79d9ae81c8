-- What the code has noted so far, as a list of each kind; and how it goes on.
use Rattle.std.specs.Prelude.{◌≡◌, ℕ, ◌+◌, Bool, true, false, [], ◌∷◌, ◌++◌, map, take, drop}
use Rattle.tm_terms.specs.declared.places.Place.{Place}
use Rattle.path_origins.specs.declared.origins.Form.TheVariants as Forms
use Rattle.path_origins.specs.declared.origins.Span.{Span}
use Rattle.path_origins.specs.declared.origins.Life.{Life}
use Rattle.path_origins.specs.declared.origins.Notes.{Notes}
use Rattle.path_origins.specs.declared.walks.Wanted.{Wanted}
use Rattle.path_origins.specs.declared.walks.Wanted.TheVariants as Wants
use Rattle.path_origins.specs.declared.statements.Ways.{Ways}
use Rattle.path_origins.specs.Shown.{shown}
use Rattle.path_origins.specs.Noted.{Noted, nothing, one, tests, skips, behind, ending, overwrites_of}
use Rattle.path_origins.specs.Expressions.{Walked}
use Rattle.path_origins.specs.Statements.{Left}

-- a part stands behind what was noted before
abbrev pub IsBehind : Notes → Notes → Noted → Type 0
IsBehind old new x = shown new ≡ behind (shown old) x

-- ## Ends of expressions

-- what is noted of an expression that is wanted so
abbrev pub by_wanted : Wanted → Walked → Noted
by_wanted Wants.Value w = w.value
by_wanted Wants.Bare w = w.bare
by_wanted Wants.Branch w = w.fork

-- what stands behind a value that is wanted so
abbrev pub tested_end : Bool → Place → Noted
tested_end true p = behind (one p Forms.Usable) (tests p (Forms.Test false))
tested_end false p = tests p (Forms.Test false)

abbrev pub end_by : Wanted → Bool → Place → Noted
end_by Wants.Value pointer p = nothing
end_by Wants.Bare pointer p = nothing
end_by Wants.Branch pointer p = tested_end pointer p

-- what stands behind two ways
abbrev pub met_end : Place → Noted
met_end p = behind (one p Forms.Constant) (behind (one p Forms.Constant) (skips p 2))

abbrev pub decided_by : Wanted → Place → Noted
decided_by Wants.Value p = met_end p
decided_by Wants.Bare p = met_end p
decided_by Wants.Branch p = nothing

-- ## What is noted beside edges, by numbers that are counted from the first edge of the body

abbrev pub operands_added : Place → Span → Span → Noted → Noted
operands_added p first second x =
    record x { operands = x.operands ++ record { place = p; first = first; second = second } ∷ [] }

abbrev pub reload_added : Place → ℕ → Span → Noted → Noted
reload_added p load right x =
    record x { reloads = x.reloads ++ record { place = p; load = load; right = right } ∷ [] }

-- the right side of `op=`, which stands against the address with these edges and against what is loaded of it
abbrev pub right_added : Place → Span → Noted → Noted → Noted → Noted
right_added p edges x load r =
    let y : Noted = behind x load in
    let z : Noted = behind y r in
    let right : Span = record { first = y.size; end = z.size } in
    reload_added p x.size right (operands_added p edges right z)

-- a sequence point follows the stores behind so many
abbrev pub sequenced_from : ℕ → Noted → Noted
sequenced_from n x = record x { pending = take n x.pending }

-- a store, which overwrites those behind so many
abbrev pub stored_from : ℕ → Place → Noted → Noted
stored_from n p x =
    let y = behind x (one p Forms.Store) in
    record y {
      overwrites = y.overwrites ++ overwrites_of p x.size (drop n x.pending);
      pending = x.pending ++ x.size ∷ [];
    }

abbrev pub fall_added : Noted → Noted
fall_added x = record x { falls = x.falls ++ x.size ∷ [] }

abbrev pub life_added : Life → Noted → Noted
life_added l x = record x { unended = x.unended ++ l ∷ [] }

-- the scopes behind so many end
abbrev pub scoped_from : ℕ → Noted → Noted
scoped_from n x = record x {
  lives = x.lives ++ map (ending x.size) (drop n x.unended);
  unended = take n x.unended;
}

-- ## Statements

-- the same of a statement, with the ways by which control leaves it
pub record IsLeftBehind (old new : Notes) (before after : Ways) (s : Left) : Type 0 where
  pub noted : IsBehind old new s.noted
  pub breaks : after.breaks ≡ before.breaks + s.breaks
  pub continues : after.continues ≡ before.continues + s.continues
  pub returns : after.returns ≡ before.returns + s.returns
