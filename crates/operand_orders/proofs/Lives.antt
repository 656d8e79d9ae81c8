-- The lives of objects, with one more.
use Rattle.std.proofs.Common.{◌≡◌, ◌↔◌, ◌⊎◌, ℕ, ◌+◌, ◌<◌, ap, sym, subst, ◌∙◌, inl, inr, Bool, true, false}
use Rattle.std.proofs.Common.{List, length, get_or, take}
use Rattle.std.specs.Prelude.{Contains}
use Rattle.path_origins.specs.declared.origins.Life.{Life}
use Rattle.std.proofs.lemmas.Bool.{true≢false}
use Rattle.tm_laid.specs.Layouts.{is_shared}
use Rattle.operand_orders.specs.declared.scopes.ObjectLives.{ObjectLives}
use Rattle.operand_orders.specs.Reached.{SolvedBody, IsWithin, IsOpen}
use Rattle.operand_orders.specs.Reached.IsOpen.{static, declared}
use Rattle.access_races.specs.reading.Ways.{list_at, HasOne}
use Rattle.operand_orders.specs.reading.Scopes.{AreLivesOf}
use Rattle.access_races.proofs.Joins.{either, front_more}

pub life_more : (xs : List Life) (i : ℕ) (d : Life) → i < length xs → (o : ℕ) (l : Life)
    → (Contains (take (i + 1) xs) l × (l.object ≡ o))
    ↔ ((Contains (take i xs) l × (l.object ≡ o)) ⊎ ((o ≡ (get_or xs i d).object) × (l ≡ get_or xs i d)))
life_more xs i d lt o l = (
  λ h. either (λ before. inl (before, h.1))
      (λ same. inr (sym h.1 ∙ sym (ap (λ (z : Life). z.object) same), sym same)) ((front_more xs i d lt l).0 h.0),
  λ h. either
      (λ (b : Contains (take i xs) l × (l.object ≡ o)). ((front_more xs i d lt l).1 (inl b.0), b.1))
      (λ (s : (o ≡ (get_or xs i d).object) × (l ≡ get_or xs i d)). (
        (front_more xs i d lt l).1 (inr (sym s.1)),
        ap (λ (z : Life). z.object) s.1 ∙ sym s.0,
      )) h,
)

-- an object that is not of static storage is open where the edge is in the scope of one of its lives
pub open_is : (b : SolvedBody) (lives : ObjectLives) → AreLivesOf (let o = b.origins in o.lives.items) lives
    → (edge object : ℕ) → is_shared b.laid object ≡ false → (own : List Life)
    → own ≡ list_at lives.by_object.items object → (r : Bool)
    → ((r ≡ true) ↔ HasOne (λ (life : Life). IsWithin edge life.scope) own) → (r ≡ true) ↔ IsOpen b edge object
open_is b lives are edge object local own own-is r exact = (there, back)
  where
    there : r ≡ true → IsOpen b edge object
    there t =
        let h = exact.0 t in
        let given = (are.each object h.one).0 (subst (λ l. Contains l h.one) own-is h.has) in
        declared h.one given.0 given.1 h.is

    back : IsOpen b edge object → r ≡ true
    back (static shared) = absurd (true≢false (sym shared ∙ local))
    back (declared life has of within) = exact.1 (record {
      one = life;
      has = subst (λ l. Contains l life) (sym own-is) ((are.each object life).1 (has, of));
      is = within;
    })
