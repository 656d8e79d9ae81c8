-- One more context is merged with those before it.
use Rattle.std.proofs.Common.{◌≡◌, ◌↔◌, ◌⊎◌, ℕ, zero, suc, ◌<◌, ap, sym, subst, ◌∙◌, inl, inr, false, List, [], ◌∷◌, ◌++◌}
use Rattle.std.proofs.Common.{length, get_or, take, arith}
use Rattle.std.specs.Prelude.{Contains}
use Rattle.std.proofs.lemmas.List.{get_or_default}
use Rattle.std.proofs.lemmas.List.Elements.{Contains-append_left, Contains-push, Contains-push_cases}
use Rattle.tm_cint.specs.declared.Class.TheVariants.{Overflow}
use Rattle.tm_terms.specs.declared.alarms.Alarm.{Alarm}
use Rattle.tm_terms.specs.Alarms.{AlarmBefore}
use Rattle.interfere_set.specs.pointer_dom.Values.{Values, IsValues, no_value}
use Rattle.access_races.proofs.Joins.{either}
use Rattle.alarm_contexts.specs.declared.alarm_context.AlarmContexts.{AlarmContexts}
use Rattle.alarm_contexts.specs.declared.exits.Context.{Context}
use Rattle.alarm_contexts.specs.declared.flaws.ObjectFlaw.{ObjectFlaw}
use Rattle.access_races.specs.Rising.{AreRising}
use Rattle.alarm_contexts.specs.Contexts.{alarm_of}
use Rattle.alarm_contexts.specs.reading.Merging.{Precedes, IsAlone, IsJoined, IsAdded, IsMerged, IsGiven}
use Rattle.alarm_contexts.specs.reading.Merging.{AreMerged}
use Rattle.alarm_contexts.specs.reading.Merging.IsAdded.{begins, joins, behind}
use Rattle.access_races.proofs.Rising.{none, first, cases, rising_push, rising_front, rising_last}
use Rattle.alarm_contexts.proofs.Sorting.{alarm_trans, alarm_never, alarm_after, edge_after}
use Rattle.alarm_contexts.proofs.Joined.{merged_same, alone_merged, joined_merged}

abbrev Before : AlarmContexts → AlarmContexts → Type 0
Before a b = AlarmBefore (alarm_of a) (alarm_of b)

module _ (values : Context → List Values) (Flawed : Context → ObjectFlaw → Type 0) (old now : List Context) (this : Context)
    (more : (x : Context) → Contains now x ↔ (Contains old x ⊎ (this ≡ x)))
    (are : (x : Context) → Contains now x → (role : ℕ) → IsValues (get_or (values x) role no_value))
    (wrong : List ObjectFlaw) (wrong-is : (f : ObjectFlaw) → Contains wrong f ↔ Flawed this f) where
  given_more : (alarm : Alarm) → this.alarm ≡ alarm → (x : Context)
      → IsGiven now alarm x ↔ (IsGiven old alarm x ⊎ (this ≡ x))
  given_more alarm e x = (
    λ g. either (λ o. inl (record { has = o; alike = g.alike })) (λ s. inr s) ((more x).0 g.has),
    λ k. either (λ (o : IsGiven old alarm x). record { has = (more x).1 (inl o.has); alike = o.alike })
        (λ s. record { has = (more x).1 (inr s); alike = ap (λ (z : Context). z.alarm) (sym s) ∙ e }) k,
  )

  -- another alarm has the contexts that it had
  kept : (a : AlarmContexts) → IsMerged values Flawed (IsGiven old (alarm_of a)) a → (alarm_of a ≡ this.alarm → ⊥)
      → IsMerged values Flawed (IsGiven now (alarm_of a)) a
  kept a h differs =
      merged_same values Flawed (IsGiven old (alarm_of a)) (IsGiven now (alarm_of a))
      (λ x g. record { has = (more x).1 (inl g.has); alike = g.alike })
      (λ x g. either (λ (o : Contains old x). record { has = o; alike = g.alike })
      (λ s. absurd (differs (sym g.alike ∙ ap (λ (z : Context). z.alarm) (sym s)))) ((more x).0 g.has)) a h

  -- the first one of its alarm
  alone : (a : AlarmContexts) → IsAlone this (values this) wrong a
      → ((x : Context) → Contains old x → x.alarm ≡ this.alarm → ⊥) → IsMerged values Flawed (IsGiven now (alarm_of a)) a
  alone a is fresh =
      alone_merged values Flawed (IsGiven old (alarm_of a)) (IsGiven now (alarm_of a)) this
      (given_more (alarm_of a) (sym is.alarm)) (λ x g. are x g.has) wrong wrong-is a is (λ x g. fresh x g.has (g.alike ∙ is.alarm))

  module _ (list : List AlarmContexts) (h : AreMerged values Flawed old list)
      (after : (x : Context) → Contains old x → Precedes x this) where
    begun : (a : AlarmContexts) → list ≡ [] → IsAlone this (values this) wrong a → AreMerged values Flawed now (a ∷ [])
    begun a empty is =
        let fresh : (x : Context) → Contains old x → ⊥ = λ x o. (let f = h.all x o in
        none f.0 (subst (λ l. Contains l f.0) empty f.1)) in record {
          rising = (λ y c. absurd (none y c), tt);
          each = λ b c. either
              (λ s. subst (λ z. IsMerged values Flawed (IsGiven now (alarm_of z)) z) s (alone a is (λ x o same. fresh x o)))
              (λ k. absurd (none b k)) (cases a b [] c);
          all = λ x c. either (λ o. absurd (fresh x o))
              (λ s. (a, first a [], is.alarm ∙ ap (λ (z : Context). z.alarm) s)) ((more x).0 c);
        }

    module _ (front : List AlarmContexts) (last : AlarmContexts) (list-is : list ≡ front ++ last ∷ []) where
      abbrev both : List AlarmContexts
      both = front ++ last ∷ []

      rises : AreRising Before both
      rises = subst (AreRising Before) list-is h.rising

      listed : (a : AlarmContexts) → Contains both a → IsMerged values Flawed (IsGiven old (alarm_of a)) a
      listed a c = h.each a (subst (λ l. Contains l a) (sym list-is) c)

      in_front : (a : AlarmContexts) → Contains front a → Contains both a
      in_front a c = Contains-append_left front (last ∷ []) a c

      found : (x : Context) → Contains old x → (f : AlarmContexts) × Contains both f × (alarm_of f ≡ x.alarm)
      found x o = let f = h.all x o in (f.0, subst (λ l. Contains l f.0) list-is f.1, f.2)

      before_last : (a : AlarmContexts) → Contains front a → Before a last
      before_last a c = rising_last Before front last rises a c

      module _ (a : AlarmContexts) (same : alarm_of last ≡ this.alarm) (is : IsJoined last this (values this) wrong a) where
        merged_last : IsMerged values Flawed (IsGiven now (alarm_of a)) a
        merged_last =
            subst (λ alarm. IsMerged values Flawed (IsGiven now alarm) a) (sym is.alarm)
            (joined_merged values Flawed (IsGiven old (alarm_of last)) (IsGiven now (alarm_of last)) this
            (given_more (alarm_of last) (sym same)) (λ x g. are x g.has) wrong wrong-is last (listed last (Contains-push front last))
            (λ x g. edge_after x this (after x g.has) (g.alike ∙ same)) a is)

        in_new : Contains (front ++ a ∷ []) a
        in_new = Contains-push front a

        joined_last : AreMerged values Flawed now (front ++ a ∷ [])
        joined_last = record {
          rising = rising_push Before front a (rising_front Before front last rises)
              (λ x c. subst (AlarmBefore (alarm_of x)) (sym is.alarm) (before_last x c));
          each = λ b c. either
              (λ o. kept b (listed b (in_front b o)) (λ s. alarm_never (alarm_of last)
              (subst (λ alarm. AlarmBefore alarm (alarm_of last)) (s ∙ sym same) (before_last b o))))
              (λ s. subst (λ z. IsMerged values Flawed (IsGiven now (alarm_of z)) z) s merged_last)
              (Contains-push_cases front a b c);
          all = λ x c. either
              (λ o. let f = found x o in either
              (λ (there : Contains front f.0). (f.0, Contains-append_left front (a ∷ []) f.0 there, f.2))
              (λ s. (a, in_new, is.alarm ∙ ap alarm_of s ∙ f.2)) (Contains-push_cases front last f.0 f.1))
              (λ s. (a, in_new, is.alarm ∙ same ∙ ap (λ (z : Context). z.alarm) s)) ((more x).0 c);
        }

      module _ (a : AlarmContexts) (differs : alarm_of last ≡ this.alarm → ⊥) (is : IsAlone this (values this) wrong a) where
        last_before : AlarmBefore (alarm_of last) this.alarm
        last_before =
            let l = listed last (Contains-push front last) in
            either (λ b. subst (λ alarm. AlarmBefore alarm this.alarm) l.is.alike b)
            (λ s. absurd (differs (sym l.is.alike ∙ s))) (alarm_after l.one this (after l.one l.is.has))

        before : (b : AlarmContexts) → Contains both b → AlarmBefore (alarm_of b) this.alarm
        before b c = either
            (λ o. alarm_trans (alarm_of b) (alarm_of last) this.alarm (before_last b o) last_before)
            (λ s. subst (λ z. AlarmBefore (alarm_of z) this.alarm) s last_before) (Contains-push_cases front last b c)

        fresh : (x : Context) → Contains old x → x.alarm ≡ this.alarm → ⊥
        fresh x o same =
            let f = found x o in
            alarm_never this.alarm (subst (λ alarm. AlarmBefore alarm this.alarm) (f.2 ∙ same) (before f.0 f.1))

        following : AreMerged values Flawed now (both ++ a ∷ [])
        following = record {
          rising = rising_push Before both a rises
              (λ b c. subst (AlarmBefore (alarm_of b)) (sym is.alarm) (before b c));
          each = λ b c. either
              (λ o. kept b (listed b o) (λ s. alarm_never this.alarm
              (subst (λ alarm. AlarmBefore alarm this.alarm) s (before b o))))
              (λ s. subst (λ z. IsMerged values Flawed (IsGiven now (alarm_of z)) z) s (alone a is fresh))
              (Contains-push_cases both a b c);
          all = λ x c. either
              (λ o. let f = found x o in (f.0, Contains-append_left both (a ∷ []) f.0 f.1, f.2))
              (λ s. (a, Contains-push both a, is.alarm ∙ ap (λ (z : Context). z.alarm) s)) ((more x).0 c);
        }

    pub merged_more : (new : List AlarmContexts) → IsAdded list this (values this) wrong new → AreMerged values Flawed now new
    merged_more new (begins a list-is is new-is) = subst (AreMerged values Flawed now) (sym new-is) (begun a list-is is)
    merged_more new (joins front last a list-is same is new-is) =
        subst (AreMerged values Flawed now) (sym new-is) (joined_last front last list-is a same is)
    merged_more new (behind front last a list-is differs is new-is) =
        subst (AreMerged values Flawed now) (sym new-is) (following front last list-is a differs is)

-- ## All of them

-- what stands in place of a context that there is not
abbrev pub no_context : Context
no_context = record {
  alarm = record { place = record { line = 0; col = 0 }; class = Overflow };
  exit = record { body = 0; edge = 0; copy = 0; ends = false };
}

pub merged_none : (values : Context → List Values) (Flawed : Context → ObjectFlaw → Type 0) (list : List AlarmContexts) → list ≡ [] → AreMerged values Flawed [] list
merged_none values Flawed list e = subst (AreMerged values Flawed []) (sym e) (record {
  rising = tt;
  each = λ x c. absurd (none x c);
  all = λ x c. absurd (none x c);
})

-- the context with a number comes after those before it
pub after_front : (xs : List Context) (i : ℕ) (d : Context) → i < length xs → AreRising Precedes xs → (x : Context)
    → Contains (take i xs) x → Precedes x (get_or xs i d)
after_front [] i d lt r x h = absurd (omega (arith, lt))
after_front (a ∷ xs) zero d lt r x h = absurd (none x h)
after_front (a ∷ xs) (suc i) d lt r x h =
    let within : i < length xs = omega (arith, lt) in
    either (λ e. subst (λ z. Precedes z (get_or xs i d)) e
    (r.0 (get_or xs i d) (i, within, get_or_default xs i (get_or xs i d) d within)))
    (λ more. after_front xs i d within r.1 x more) (cases a x (take i xs) h)

-- the same ones
pub merged_all : (values : Context → List Values) (Flawed : Context → ObjectFlaw → Type 0) (given ranked : List Context) (list : List AlarmContexts)
    → ((x : Context) → Contains ranked x ↔ Contains given x) → AreMerged values Flawed ranked list
    → AreMerged values Flawed given list
merged_all values Flawed given ranked list same h = record {
  rising = h.rising;
  each = λ a c. merged_same values Flawed (IsGiven ranked (alarm_of a)) (IsGiven given (alarm_of a))
      (λ x g. record { has = (same x).0 g.has; alike = g.alike })
      (λ x g. record { has = (same x).1 g.has; alike = g.alike }) a (h.each a c);
  all = λ x c. h.all x ((same x).1 c);
}
