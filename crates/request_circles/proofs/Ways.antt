-- Ways of a number of steps at most: once round a ring, from requests to the heads of their classes, and over circular
-- requests alone.
use Rattle.std.proofs.Common.{◌≡◌, ◌⊎◌, ℕ, zero, suc, ◌+◌, ◌<◌, ◌≤◌, refl, ap, sym, subst, ◌∙◌, inl, inr, Bool, true}
use Rattle.std.proofs.Common.{List, [], ◌∷◌, length, arith}
use Rattle.std.specs.Prelude.{Contains}
use Rattle.std.specs.Int.{bit_at}
use Rattle.std.proofs.lemmas.List.{get_or_default}
use Rattle.tm_soundness.specs.Known.{Chain, one_step, more_steps}
use Rattle.interfere_set.specs.Stores.{are_apart}
use Rattle.request_circles.specs.declared.requests.Request.{Request}
use Rattle.request_circles.specs.Requests.{LeadsTo, Leads}
use Rattle.request_circles.specs.Rings.{LeadAlong, IsRing}
use Rattle.request_circles.specs.reading.Steps.{no_request, request_at, IsStep, IsOnCircle, AreLeft}
use Rattle.request_circles.specs.reading.Classes.{IsSameClass, number_at, AreClasses}
use Rattle.request_circles.specs.reading.Distances.{IsWithin}
use Rattle.request_circles.proofs.Chains.{joined}

-- ## Ways

module _ (A : Type 0) (R : A → A → Type 0) where
  -- it leads to the end by so many steps at most, and one at least
  abbrev pub Way : A → ℕ → A → Type 0
  Way end zero a = ⊥
  Way end (suc n) a = (b : A) × R a b × ((b ≡ end) ⊎ Way end n b)

  pub longer : (end : A) (m n : ℕ) (a : A) → m ≤ n → Way end m a → Way end n a
  longer end zero n a le h = absurd h
  longer end (suc m) zero a le h = absurd (omega (arith, le))
  longer end (suc m) (suc n) a le (b, s, inl e) = (b, s, inl e)
  longer end (suc m) (suc n) a le (b, s, inr h) = (b, s, inr (longer end m n b (omega (arith, le)) h))

  pub chain_of : (end : A) (n : ℕ) (a : A) → Way end n a → Chain R a end
  chain_of end zero a h = absurd h
  chain_of end (suc n) a (b, s, inl e) = one_step (subst (R a) e s)
  chain_of end (suc n) a (b, s, inr h) = more_steps s (chain_of end n b h)

  pub way_of : (a end : A) → Chain R a end → (n : ℕ) × Way end n a
  way_of a end (one_step h) = (1, (end, h, inl refl))
  way_of a end (more_steps {b = b} h rest) = let w = way_of b end rest in (suc w.0, (b, h, inr w.1))

  pub both_ways : (middle end : A) (n m k : ℕ) (a : A) → n + m ≡ k → Way middle n a → Way end m middle → Way end k a
  both_ways middle end zero m k a e h two = absurd h
  both_ways middle end (suc n) m zero a e h two = absurd (omega (arith, e))
  both_ways middle end (suc n) m (suc k) a e (b, s, inl is) two =
      (b, s, inr (subst (Way end k) (sym is) (longer end m k middle (omega (arith, e)) two)))
  both_ways middle end (suc n) m (suc k) a e (b, s, inr h) two =
      (b, s, inr (both_ways middle end n m k b (omega (arith, e)) h two))

-- ## Once round a ring

pub element : (a b : Request) (rest : List Request) → Contains (a ∷ rest) b → (a ≡ b) ⊎ Contains rest b
element a b rest (zero, lt, e) = inl e
element a b rest (suc k, lt, e) = inr (k, omega (arith, lt), e)

pub first_element : (a : Request) (rest : List Request) → Contains (a ∷ rest) a
first_element a rest = (zero, omega arith, refl)

pub later_element : (a b : Request) (rest : List Request) → Contains rest b → Contains (a ∷ rest) b
later_element a b rest (k, lt, e) = (suc k, omega (arith, lt), e)

pub no_element : (a : Request) → Contains [] a → ⊥
no_element a (k, lt, e) = absurd (omega (arith, lt))

module _ (Is : Request → Type 0) where
  abbrev Next : Request → Request → Type 0
  Next = Leads Is

  leads_on : (a b : Request) → Is a → Is b → LeadsTo a b → Leads Is a b
  leads_on a b x y l = record { one = x; other = y; leads = l }

  -- from a request along others to an end
  along : (a end : Request) (others : List Request) → Is a → Is end → ((s : Request) → Contains others s → Is s)
      → LeadAlong a others end → Way Request (Leads Is) end (suc (length others)) a
  along a end [] x y each l = (end, leads_on a end x y l, inl refl)
  along a end (s ∷ others) x y each l =
      let z = each s (first_element s others) in (
        s,
        leads_on a s x z l.0,
        inr (along s end others z y (λ t c. each t (later_element s t others c)) l.1),
      )

  -- to one of the others, and from there to the end
  record Parts (a end r : Request) (count : ℕ) : Type 0 where
    before : ℕ
    after : ℕ
    sum : after + before ≡ suc count
    there : Way Request (Leads Is) r before a
    on : Way Request (Leads Is) end after r

  parts : (a end r : Request) (others : List Request) → Is a → Is end → ((s : Request) → Contains others s → Is s)
      → LeadAlong a others end → Contains others r → Parts a end r (length others)
  parts a end r [] x y each l c = absurd (no_element r c)
  parts a end r (s ∷ others) x y each l c =
      let z = each s (first_element s others) in
      let more = λ (t : Request) (d : Contains others t). each t (later_element s t others d) in
      by_place z more (λ d. parts s end r others z y more l.1 d) (element s r others c)
    where
      by_place : Is s → ((t : Request) → Contains others t → Is t)
          → (Contains others r → Parts s end r (length others)) → (s ≡ r) ⊎ Contains others r
          → Parts a end r (length (s ∷ others))
      by_place z more rest (inl e) = record {
        before = 1;
        after = suc (length others);
        sum = omega arith;
        there = (s, leads_on a s x z l.0, inl e);
        on = subst (Way Request (Leads Is) end (suc (length others))) e (along s end others z y more l.1);
      }
      by_place z more rest (inr d) =
          let p = rest d in
          record {
            before = suc p.before;
            after = p.after;
            sum = let e = p.sum in omega (arith, e);
            there = (s, leads_on a s x z l.0, inr p.there);
            on = p.on;
          }

  pub round : (ring : List Request) (r : Request) → IsRing Is ring → Contains ring r
      → Way Request (Leads Is) r (length ring) r
  round ring r is c =
      let a : Request = is.first in
      let others : List Request = is.others in
      let each = λ (s : Request) (d : Contains (a ∷ others) s). is.each s (subst (λ xs. Contains xs s) (sym is.are) d) in
      let x = each a (first_element a others) in
      let rest = λ (s : Request) (d : Contains others s). each s (later_element a s others d) in
      subst (λ (n : ℕ). Way Request (Leads Is) r n r) (sym (ap length is.are))
      (by_place a others x rest is.leads (element a r others (subst (λ xs. Contains xs r) is.are c)))
    where
      by_place : (a : Request) (others : List Request) → Is a → ((s : Request) → Contains others s → Is s)
          → LeadAlong a others a → (a ≡ r) ⊎ Contains others r → Way Request (Leads Is) r (suc (length others)) r
      by_place a others x rest l (inl e) =
          subst (λ (s : Request). Way Request (Leads Is) s (suc (length others)) s) e (along a a others x x rest l)
      by_place a others x rest l (inr d) =
          let p = parts a a r others x x rest l d in
          both_ways Request (Leads Is) a r p.after p.before (suc (length others)) r p.sum p.on p.there

-- ## From requests to heads

pub same_leads : (r s a b : Request) → IsSameClass a r → IsSameClass b s → LeadsTo r s → LeadsTo a b
same_leads r s a b one other l = record {
  differ = λ e. l.differ (sym one.task ∙ e ∙ other.task);
  apart = subst (λ (h : ℕ). are_apart h b.held ≡ true) (sym one.held)
      (subst (λ (h : ℕ). are_apart r.held h ≡ true) (sym other.held) l.apart);
  holds = subst (λ (m : ℕ). bit_at b.held m ≡ 1) (sym one.mutex)
      (subst (λ (h : ℕ). bit_at h r.mutex ≡ 1) (sym other.held) l.holds);
}

module _ (requests heads : List Request) (numbers : List ℕ) (are : AreClasses requests heads numbers (length requests)) where
  pub request_is : (s : Request) (c : Contains requests s) → request_at requests c.0 ≡ s
  request_is s c = get_or_default requests c.0 no_request s c.1 ∙ c.2

  to_heads : (n : ℕ) (r end : Request) (k l : ℕ) → k < length heads → l < length heads
      → IsSameClass (request_at heads k) r → IsSameClass (request_at heads l) end
      → Way Request (Leads (Contains requests)) end n r → Way ℕ (IsStep heads true) l n k
  to_heads zero r end k l a b one other h = absurd h
  to_heads (suc n) r end k l a b one other (c, s, inl e) = (
    l,
    record {
      one = a;
      other = b;
      joins = same_leads r end (request_at heads k) (request_at heads l) one other (subst (LeadsTo r) e s.leads);
    },
    inl refl,
  )
  to_heads (suc n) r end k l a b one other (c, s, inr h) =
      let i : ℕ = (let d = s.other in d.0) in
      let lt : i < length requests = (let d = s.other in d.1) in
      let m = number_at numbers i in
      let class : IsSameClass (request_at heads m) c =
      subst (IsSameClass (request_at heads m)) (request_is c s.other) (are.class i lt) in (
        m,
        record {
          one = a;
          other = are.within i lt;
          joins = same_leads r c (request_at heads k) (request_at heads m) one class s.leads;
        },
        inr (to_heads n c end m l (are.within i lt) b class other h),
      )

  module _ (left : List Bool) (all : AreLeft heads left) (end : ℕ) where
    over_left : (n k : ℕ) → (k ≡ end) ⊎ Chain (IsStep heads true) end k → Way ℕ (IsStep heads true) end n k
        → IsWithin heads left end n k
    over_left zero k from h = absurd h
    over_left (suc n) k from (j, s, near) = (
      j,
      record {
        there = all.each k (circle from);
        step = record { one = s.other; other = s.one; joins = s.joins };
      },
      on (λ h. over_left n j (inr (reached from)) h) near,
    )
      where
        circle : (k ≡ end) ⊎ Chain (IsStep heads true) end k → IsOnCircle heads k
        circle (inl e) =
            subst (Chain (IsStep heads true) k) (sym e) (chain_of ℕ (IsStep heads true) end (suc n) k (j, s, near))
        circle (inr c) =
            joined (IsStep heads true) k end k (chain_of ℕ (IsStep heads true) end (suc n) k (j, s, near)) c

        reached : (k ≡ end) ⊎ Chain (IsStep heads true) end k → Chain (IsStep heads true) end j
        reached (inl e) = one_step (subst (λ (x : ℕ). IsStep heads true x j) e s)
        reached (inr c) = joined (IsStep heads true) end k j c (one_step s)

        on : (Way ℕ (IsStep heads true) end n j → IsWithin heads left end n j)
            → (j ≡ end) ⊎ Way ℕ (IsStep heads true) end n j → (j ≡ end) ⊎ IsWithin heads left end n j
        on f (inl e) = inl e
        on f (inr h) = inr (f h)

  -- what leads back to itself does so over the heads that are left
  pub back_within : (left : List Bool) → AreLeft heads left → (i n : ℕ) → i < length requests
      → Way Request (Leads (Contains requests)) (request_at requests i) n (request_at requests i)
      → IsWithin heads left (number_at numbers i) n (number_at numbers i)
  back_within left all i n lt h =
      let k = number_at numbers i in
      over_left left all k n k (inl refl)
      (to_heads n (request_at requests i) (request_at requests i) k k (are.within i lt) (are.within i lt)
      (are.class i lt) (are.class i lt) h)
