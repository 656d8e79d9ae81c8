-- Partners of accesses.
use Rattle.std.proofs.Common.{◌≡◌, ◌↔◌, ℕ, ◌+◌, ◌<◌, refl, sym, subst, Bool, true, false, List, [], ◌∷◌, ◌++◌}
use Rattle.std.proofs.Common.{get_or}
use Rattle.std.specs.Prelude.{Contains}
use Rattle.std.specs.declared.vec.Vec.{Vec}
use Rattle.access_races.specs.declared.accesses.Way.{Way}
use Rattle.access_races.specs.Races.{do_race}
use Rattle.access_groups.specs.declared.object_access.ObjectAccess.{ObjectAccess}
use Rattle.access_races.specs.reading.Ways.{list_at}
use Rattle.access_partners.specs.declared.partners.Partners.{Partners}
use Rattle.access_partners.specs.declared.points.Point.{Point}
use Rattle.access_partners.specs.reading.Accesses.{access_at}
use Rattle.access_partners.specs.reading.Points.{way_at, DoMeet}
use Rattle.access_partners.specs.reading.Pairs.{IsSame, AreSame, ArePair, IsFirstSame, ArePairs, HasPartners, ArePartnersBy}
use Rattle.access_partners.proofs.Lists.{all_more, push_count}
use Rattle.access_partners.proofs.Racing.{meet_back}

-- ## Accesses that race with the same ones

pub same_self : (e : ObjectAccess) (these : List Point) → IsSame e these e these
same_self e these = record { like = record { task = refl; stores = refl; held = refl }; points = refl }

same_back : (e f : ObjectAccess) (these those : List Point) → IsSame e these f those → IsSame f those e these
same_back e f these those s = record {
  like = record { task = sym s.like.task; stores = sym s.like.stores; held = sym s.like.held };
  points = sym s.points;
}

same_way : (f g : ObjectAccess) (those more : List Point) → IsSame f those g more → (q : Point) → way_at f q ≡ way_at g q
same_way f g those more s q = λ i. record {
  task = s.like.task i;
  priority = q.priority;
  held = s.like.held i;
  found = q.found;
  writes = s.like.stores i;
}

same_meet : (e f g : ObjectAccess) (these those more : List Point) → IsSame f those g more → DoMeet e these f those
    → DoMeet e these g more
same_meet e f g these those more s h =
    let q = h.is.one in record {
      one = h.one;
      has = h.has;
      is = record {
        one = q;
        has = subst (λ l. Contains l q) s.points h.is.has;
        is = (
          h.is.is.0,
          subst (λ (w : Way). do_race (way_at e h.one) w ≡ true) (same_way f g those more s q) h.is.is.1,
        );
      };
    }

meet_same : (e f g : ObjectAccess) (these those more : List Point) → IsSame e these g more → DoMeet e these f those
    → DoMeet g more f those
meet_same e f g these those more s h =
    meet_back g f more those (same_meet f e g those these more s (meet_back f e those these h))

module _ {A : Type 0} (accesses : List ObjectAccess) (points : List (Vec Point A)) where
  -- ## Pairs

  -- whether two race is known of the first that is the same
  pub known_pair : (at other first : ℕ) (pairs : List Bool) → ArePairs accesses points at other pairs
      → IsFirstSame accesses points other first → first < other
      → (get_or pairs first false ≡ true) ↔ ArePair accesses points at other
  known_pair at other first pairs known is lt =
      let e = access_at accesses at in
      let f = access_at accesses first in
      let g = access_at accesses other in
      let these = list_at points at in
      let those = list_at points first in
      let more = list_at points other in (
        λ t. same_meet e f g these those more is.same ((known.each first lt).0 t),
        λ h. (known.each first lt).1 (same_meet e g f these more those (same_back f g those more is.same) h),
      )

  pub pairs_more : (at n : ℕ) (pairs : List Bool) → ArePairs accesses points at n pairs → (b : Bool)
      → ((b ≡ true) ↔ ArePair accesses points at n) → ArePairs accesses points at (n + 1) (pairs ++ b ∷ [])
  pairs_more at n pairs h b is = record {
    count = push_count pairs (pairs ++ b ∷ []) b n refl h.count;
    each = all_more (λ k (x : Bool). (x ≡ true) ↔ ArePair accesses points at k) false pairs b n h.count h.each is;
  }

  -- ## Partners

  pub same_partners : (at first count : ℕ) (shown : List ObjectAccess) → AreSame accesses points first at
      → HasPartners accesses points first count shown → HasPartners accesses points at count shown
  same_partners at first count shown same h =
      let e = access_at accesses first in
      let g = access_at accesses at in
      let these = list_at points first in
      let more = list_at points at in record {
        pairs = h.pairs;
        are = record {
          count = h.are.count;
          each = λ j lt.
              let f = access_at accesses j in
              let those = list_at points j in (
                λ t. meet_same e f g these those more same ((h.are.each j lt).0 t),
                λ d. (h.are.each j lt).1 (meet_same g f e more those these (same_back e g these more same) d),
              );
        };
        counted = h.counted;
        first_eight = h.first_eight;
      }

  pub partners_more : (n : ℕ) (partners : List Partners) → ArePartnersBy accesses points n partners → (s : Partners)
      → HasPartners accesses points n s.count s.shown.items
      → ArePartnersBy accesses points (n + 1) (partners ++ s ∷ [])
  partners_more n partners h s has = record {
    count = push_count partners (partners ++ s ∷ []) s n refl h.count;
    each = λ i d lt.
        all_more (λ k (x : Partners). HasPartners accesses points k x.count x.shown.items) d partners s n h.count
        (λ k below. h.each k d below) has i lt;
  }
