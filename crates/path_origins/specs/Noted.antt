-- What is noted of edges, one part behind another: in each part edges are counted from its first one, those of the
-- bodies of calls among them.
use Rattle.std.specs.Prelude.{ℕ, zero, suc, ◌+◌, Bool, true, false, List, [], ◌∷◌, ◌++◌, map, option_map}
use Rattle.tm_terms.specs.declared.places.Place.{Place}
use Rattle.path_origins.specs.declared.origins.Form.{Form}
use Rattle.path_origins.specs.declared.origins.Form.TheVariants as Forms
use Rattle.path_origins.specs.declared.origins.NotedEdge.{NotedEdge}
use Rattle.path_origins.specs.declared.origins.NotedCall.{NotedCall}
use Rattle.path_origins.specs.declared.origins.Span.{Span}
use Rattle.path_origins.specs.declared.origins.Unsequenced.{Unsequenced}
use Rattle.path_origins.specs.declared.origins.Reload.{Reload}
use Rattle.path_origins.specs.declared.origins.Overwrite.{Overwrite}
use Rattle.path_origins.specs.declared.origins.Life.{Life}
use Rattle.path_origins.specs.declared.origins.Passing.{Passing}
use Rattle.path_origins.specs.declared.origins.Passed.{Passed}
use Rattle.path_origins.specs.declared.origins.Passed.TheVariants as Passes

pub record Noted : Type 0 where
  -- how many edges there are
  pub size : ℕ
  -- those that are none of the body of a call
  pub edges : List NotedEdge
  pub calls : List NotedCall
  pub operands : List Unsequenced
  pub reloads : List Reload
  pub overwrites : List Overwrite
  pub lives : List Life
  pub falls : List ℕ
  pub passings : List Passing
  -- the stores that no sequence point follows, and the lives whose scope has not ended
  pub pending : List ℕ
  pub unended : List Life

abbrev pub nothing : Noted
nothing = record {
  size = 0;
  edges = [];
  calls = [];
  operands = [];
  reloads = [];
  overwrites = [];
  lives = [];
  falls = [];
  passings = [];
  pending = [];
  unended = [];
}

-- ## Edges that are counted from an earlier one on, before which so many stand

abbrev pub edge_by : ℕ → NotedEdge → NotedEdge
edge_by n e = record e { at = n + e.at }

abbrev pub call_by : ℕ → NotedCall → NotedCall
call_by n c = record c { at = n + c.at }

abbrev pub span_by : ℕ → Span → Span
span_by n s = record { first = n + s.first; end = n + s.end }

abbrev pub operands_by : ℕ → Unsequenced → Unsequenced
operands_by n u = record { place = u.place; first = span_by n u.first; second = span_by n u.second }

abbrev pub reload_by : ℕ → Reload → Reload
reload_by n r = record { place = r.place; load = n + r.load; right = span_by n r.right }

abbrev pub overwrite_by : ℕ → Overwrite → Overwrite
overwrite_by n o = record { place = o.place; store = n + o.store; earlier = n + o.earlier }

abbrev pub life_by : ℕ → Life → Life
life_by n l = record {
  object = l.object;
  place = l.place;
  begins = n + l.begins;
  scope = span_by n l.scope;
  initialiser = option_map (span_by n) l.initialiser;
}

abbrev pub by : ℕ → Noted → Noted
by n x = record {
  size = x.size;
  edges = map (edge_by n) x.edges;
  calls = map (call_by n) x.calls;
  operands = map (operands_by n) x.operands;
  reloads = map (reload_by n) x.reloads;
  overwrites = map (overwrite_by n) x.overwrites;
  lives = map (life_by n) x.lives;
  falls = map (λ k. n + k) x.falls;
  passings = x.passings;
  pending = map (λ k. n + k) x.pending;
  unended = map (life_by n) x.unended;
}

abbrev pub joined : Noted → Noted → Noted
joined x y = record {
  size = x.size + y.size;
  edges = x.edges ++ y.edges;
  calls = x.calls ++ y.calls;
  operands = x.operands ++ y.operands;
  reloads = x.reloads ++ y.reloads;
  overwrites = x.overwrites ++ y.overwrites;
  lives = x.lives ++ y.lives;
  falls = x.falls ++ y.falls;
  passings = x.passings ++ y.passings;
  pending = x.pending ++ y.pending;
  unended = x.unended ++ y.unended;
}

-- one part behind another
abbrev pub behind : Noted → Noted → Noted
behind x y = joined x (by x.size y)

-- ## Parts

-- an edge
abbrev pub one : Place → Form → Noted
one p f = record nothing { size = 1; edges = record { at = 0; place = p; form = f } ∷ [] }

abbrev pub one_if : Bool → Place → Form → Noted
one_if true p f = one p f
one_if false p f = nothing

-- a test and its opposite
abbrev pub tests : Place → Form → Noted
tests p f = behind (one p f) (one p f)

-- so many edges on which control goes on
abbrev pub skips : Place → ℕ → Noted
skips p zero = nothing
skips p (suc n) = behind (one p Forms.Skip) (skips p n)

-- the body of a path, which has so many edges, where its value is used or is not
abbrev pub called_body : ℕ → ℕ → Bool → Noted
called_body size path used = record nothing {
  size = size;
  calls = record { path = path; at = 0; used = used } ∷ [];
}

-- ## What is noted beside edges

-- the edges of a part that stands behind so many
abbrev pub span_of : ℕ → Noted → Span
span_of n x = record { first = n; end = n + x.size }

-- two unsequenced operands, one behind the other (C99 6.5p2)
abbrev pub both : Place → Noted → Noted → Noted
both p x y =
    let z = behind x y in
    record z {
      operands = z.operands ++ record { place = p; first = span_of 0 x; second = span_of x.size y } ∷ [];
    }

-- a sequence point follows
abbrev pub sequenced : Noted → Noted
sequenced x = record x { pending = [] }

-- a life goes on up to an end
abbrev pub ending : ℕ → Life → Life
ending n l = record l { scope = record l.scope { end = n } }

-- the scopes of what is declared in a part end with it (C99 6.2.1p4)
abbrev pub scoped : Noted → Noted
scoped x = record x { lives = x.lives ++ map (ending x.size) x.unended; unended = [] }

-- something is given at a place, if it is so
abbrev pub given_if : Bool → Passed → Place → Noted → Noted
given_if true g p x = record x { passings = x.passings ++ record { place = p; passed = g } ∷ [] }
given_if false g p x = x

-- a pointer
abbrev pub passing_if : Bool → Place → Noted → Noted
passing_if is p x = given_if is Passes.Pointer p x

-- a number by a cast to an enumeration
abbrev pub enumerating_if : Bool → Place → Noted → Noted
enumerating_if is p x = given_if is Passes.Enumeration p x

-- a store behind operands, which overwrites those of their stores that no sequence point follows (C99 6.5p2)
abbrev pub overwrites_of : Place → ℕ → List ℕ → List Overwrite
overwrites_of p s [] = []
overwrites_of p s (k ∷ ks) = record { place = p; store = s; earlier = k } ∷ overwrites_of p s ks

abbrev pub stored : Place → Noted → Noted
stored p x =
    let y = behind x (one p Forms.Store) in
    record y {
      overwrites = y.overwrites ++ overwrites_of p x.size x.pending;
      pending = x.pending ++ x.size ∷ [];
    }
