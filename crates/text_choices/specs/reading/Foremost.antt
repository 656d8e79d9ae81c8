-- How the code finds which declaration of a name is told: of each name one declaration is kept, to which another one
-- yields exactly where it yields to all of that name.
use Rattle.std.specs.Prelude.{◌≡◌, ◌↔◌, ◌<◌, ℕ, false, cond, List, Option, Some, None, slice_index_or, ⊤}
use Rattle.tm_terms.specs.declared.tokens.Name.{Name}
use Rattle.tm_terms.specs.Names.{is_same_name}
use Rattle.text_choices.specs.declared.reserved.Declared.{Declared as CodeDeclared}
use Rattle.text_choices.specs.Texts.{Declared}
use Rattle.text_choices.specs.reading.Declared.{declared_of, Yields}

-- what loops read past the end of declarations
abbrev pub no_declared : CodeDeclared
no_declared = record {
  name = record { start = 0; length = 0 };
  place = record { line = 0; col = 0 };
  defined = false;
  internal = false;
}

-- of two declarations of a name this one is kept
pub record IsKept (one other kept : Declared) : Type 0 where
  pub named : one.name ≡ other.name → kept.name ≡ one.name
  pub decides : one.name ≡ other.name → (it : Declared) → it.name ≡ one.name
      → Yields it kept ↔ (Yields it one × Yields it other)

-- of a declaration and what is kept of its name so far, if there is something
abbrev pub IsJoined : Option CodeDeclared → CodeDeclared → CodeDeclared → Type 0
IsJoined None it kept = kept ≡ it
IsJoined (Some other) it kept = IsKept (declared_of other) (declared_of it) (declared_of kept)

-- what is kept of each name, with one declaration more
pub record AddsOne (before behind : Name → Option CodeDeclared) (it : CodeDeclared) : Type 0 where
  pub kept : CodeDeclared
  pub joined : IsJoined (before it.name) it kept
  pub put : (n : Name) → behind n ≡ cond (is_same_name it.name n) (Some kept) (before n)

-- a declaration yields to what is kept
abbrev pub YieldsTo : Option CodeDeclared → Declared → Type 0
YieldsTo None it = ⊤
YieldsTo (Some kept) it = Yields it (declared_of kept)

-- so much is kept of a name among the first declarations
pub record IsForemost (declared : List CodeDeclared) (n : ℕ) (name : Name) (kept : Option CodeDeclared) : Type 0 where
  pub named : (d : CodeDeclared) → kept ≡ Some d → d.name ≡ name
  pub decides : (it : Declared) → it.name ≡ name
      → YieldsTo kept it ↔ ((k : ℕ) → k < n → Yields it (declared_of (slice_index_or declared k no_declared)))

-- of each name
abbrev pub AreForemost : List CodeDeclared → ℕ → (Name → Option CodeDeclared) → Type 0
AreForemost declared n kept = (name : Name) → IsForemost declared n name (kept name)
