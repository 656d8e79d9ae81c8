-- Accesses of one object that are alike.
use Rattle.std.proofs.Common.{◌≡◌, ◌↔◌, ℕ, ap, sym, subst, ◌∙◌, true, Some}
use Rattle.program_reports.specs.post_recheck.transfer_rows.StateForms.{State}
use Rattle.program_reports.specs.post_recheck.table_covers.Solutions.{NodeTable}
use Rattle.program_reports.specs.post_recheck.program_equations.Programs.{ProgramBodies}
use Rattle.program_reports.specs.Reports.{IsAccess, AreRacing, IsWriting, operation_in, left_in, place_of}
use Rattle.access_groups.specs.declared.object_access.ObjectAccess.{ObjectAccess}
use Rattle.access_groups.specs.Groups.{object_in, IsAccessAt, IsRacingThere}
use Rattle.access_groups.proofs.Sorting.{AreAlike}

module _ (p : ProgramBodies) (tables : ℕ → NodeTable State) where
  -- a copy of a task is as an entry tells
  pub record IsAs (e : ObjectAccess) (t k : ℕ) : Type 0 where
    pub placed : place_of (operation_in p t k) ≡ Some e.place
    pub kind : (e.stores ≡ true) ↔ IsWriting (operation_in p t k)
    pub holds : (let q = left_in p t k in q.held ≡ e.held)

  pub at_from : (object : ℕ) (e : ObjectAccess) (k cell : ℕ) → IsAccess p tables e.task k cell → object_in p cell ≡ object
      → IsAs e e.task k → IsAccessAt p tables object e k cell
  at_from object e k cell access of like = record {
    access = access;
    of = of;
    placed = like.placed;
    kind = like.kind;
    holds = like.holds;
  }

  -- the same one of an alike entry
  pub at_alike : (object : ℕ) (e f : ObjectAccess) → AreAlike e f → (k cell : ℕ) → IsAccessAt p tables object e k cell
      → IsAccessAt p tables object f k cell
  at_alike object e f same k cell h =
      let g : ObjectAccess = record {
        place = f.place;
        task = f.task;
        stores = f.stores;
        held = f.held;
        free = e.free;
        racing = e.racing;
      } in
      let e-is : e ≡ g = λ i. record {
        place = same.place i;
        task = same.task i;
        stores = same.stores i;
        held = same.held i;
        free = e.free;
        racing = e.racing;
      } in
      let there : IsAccessAt p tables object g k cell =
      subst (λ z. IsAccessAt p tables object z k cell) e-is h in record {
        access = there.access;
        of = there.of;
        placed = there.placed;
        kind = there.kind;
        holds = there.holds;
      }

  -- a race of a copy that is as an entry tells
  pub racing_there : (object : ℕ) (f : ObjectAccess) (t : ℕ) → t ≡ f.task → (k u l : ℕ) (r : AreRacing p tables t k u l)
      → object_in p r.cell ≡ object → IsAs f t k → IsRacingThere p tables object f
  racing_there object f t same k u l r of like =
      subst (λ n. (r : AreRacing p tables n k u l) → object_in p r.cell ≡ object → IsAs f n k
      → IsRacingThere p tables object f) (sym same)
      (λ r' of' like'. record {
        copy = k;
        other_task = u;
        other_copy = l;
        races = r';
        at = at_from object f k r'.cell r'.one of' like';
      }) r of like

  pub racing_alike : (object : ℕ) (e f : ObjectAccess) → AreAlike e f → IsRacingThere p tables object e
      → IsRacingThere p tables object f
  racing_alike object e f same h =
      racing_there object f e.task same.task h.copy h.other_task h.other_copy h.races h.at.of
      (record {
        placed = h.at.placed ∙ ap Some same.place;
        kind = (λ s. h.at.kind.0 (same.stores ∙ s), λ w. sym same.stores ∙ h.at.kind.1 w);
        holds = h.at.holds ∙ same.held;
      })
