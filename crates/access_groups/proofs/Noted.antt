-- What is noted with one more access.
use Rattle.std.proofs.Common.{◌≡◌, ◌↔◌, ◌⊎◌, ℕ, ◌+◌, ◌<◌, refl, sym, subst, ◌∙◌, Bool, true, false, List}
use Rattle.std.proofs.Common.{length, get_or, take}
use Rattle.std.specs.declared.vec.Vec.{Vec}
use Rattle.tm_laid.specs.Layouts.{LaidTree, abstract_at}
use Rattle.access_races.specs.declared.accesses.Way.{Way}
use Rattle.access_races.specs.declared.accesses.Access.{Access}
use Rattle.program_reports.proofs.Tables.{relabelled}
use Rattle.access_races.proofs.Joins.{one_more}
use Rattle.access_groups.specs.declared.object_access.ObjectAccess.{ObjectAccess}
use Rattle.access_groups.specs.declared.site.Site.{Site}
use Rattle.access_groups.specs.reading.Sites.{no_site}
use Rattle.access_groups.specs.reading.Noted.{IsNotedAs, IsNotedIn}

-- ## What is noted

pub same_truth : (x y : Bool) → (x ≡ true → y ≡ true) → (y ≡ true → x ≡ true) → x ≡ y
same_truth true y f g = sym (f refl)
same_truth false true f g = g refl
same_truth false false f g = refl

module _ {A : Type 0} (ways : List (Vec Way A)) where
  -- an access is noted in one way
  noted_one : (x : Access) (e f : ObjectAccess) → IsNotedAs ways x e → IsNotedAs ways x f → e ≡ f
  noted_one x e f h k =
      let racing = same_truth e.racing f.racing (λ t. k.racing.1 (h.racing.0 t)) (λ t. h.racing.1 (k.racing.0 t)) in
      let place = h.place ∙ sym k.place in
      let task = h.task ∙ sym k.task in
      let stores = h.stores ∙ sym k.stores in
      let held = h.held ∙ sym k.held in
      let free = h.free ∙ sym k.free in
      λ i. record {
        place = place i;
        task = task i;
        stores = stores i;
        held = held i;
        free = free i;
        racing = racing i;
      }

  module _ (laid : LaidTree) (xs : List Site) (i : ℕ) (lt : i < length xs) (this : ObjectAccess)
      (noted : IsNotedAs ways (get_or xs i no_site).access this) (object : ℕ)
      (of : (let a = abstract_at laid (get_or xs i no_site).access.cell in object ≡ a.object)) where
    pub noted_more : (o : ℕ) (e : ObjectAccess) → IsNotedIn ways laid (take (i + 1) xs) o e
        ↔ (IsNotedIn ways laid (take i xs) o e ⊎ ((o ≡ object) × (e ≡ this)))
    noted_more o e =
        let last = (get_or xs i no_site).access in
        relabelled
        (one_more (λ (x : Site). (let a = abstract_at laid x.access.cell in o ≡ a.object) × IsNotedAs ways x.access e)
        xs i no_site lt) (
          λ h. (h.0 ∙ sym of, noted_one last e this h.1 noted),
          λ s. (s.0 ∙ of, subst (IsNotedAs ways last) (sym s.1) noted),
        )
