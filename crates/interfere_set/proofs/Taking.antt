-- What one task's sync entries give at a lock.
use Rattle.std.proofs.Common.{◌≡◌, ◌≢◌, ℕ, Bool, true, false, cond, eqb, eq-eqb, eqb-true, refl, sym, ap, ◌∙◌}
use Rattle.tm_lattice.specs.Tables.{Table}
use Rattle.pointer_dom.specs.Values.{Values, no_value}
use Rattle.interfere_set.specs.Stores.{left_at}

eqb_there : (a b : ℕ) → a ≢ b → eqb a b ≡ false
eqb_there a b differ = elim (eqb a b) as (λ t. eqb a b ≡ t → t ≡ false) [
  | true ↦ λ is. absurd (differ (eqb-true a b is))
  | false ↦ λ is. refl
] refl

module _ (task mutex cell : ℕ) (e : ℕ × Table (Table Values)) where
  abbrev pub part_of : Values
  part_of = cond (eqb e.0 task) no_value (left_at mutex cell e.1)

  -- the task's own entries give nothing
  pub own_part : e.0 ≡ task → part_of ≡ no_value
  own_part same = ap (λ b. cond b no_value (left_at mutex cell e.1)) (eq-eqb e.0 task same)

  -- those of another task give what it left
  pub others_part : (v : Values) → e.0 ≢ task → v ≡ left_at mutex cell e.1 → part_of ≡ v
  others_part v differ is = ap (λ b. cond b no_value (left_at mutex cell e.1)) (eqb_there e.0 task differ) ∙ sym is
