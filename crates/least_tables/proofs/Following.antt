-- Which edges are noted at nodes: each brings at least what stands there.
use Rattle.std.proofs.Common.{◌≡◌, ◌≢◌, refl, ℕ, ◌<◌, IfSome, List, length, Option, Some, None, Bool, true, false, MatchBool, get_or, set, sym, ap, subst, ◌∙◌, inl, inr, arith}
use Rattle.std.proofs.lemmas.Bool.{cases_eq}
use Rattle.std.proofs.lemmas.List.{get_or-set_same, get_or-set_other}
use Rattle.tm_lattice.specs.declared.lattices.Lattice as lattice
use Rattle.tm_lattice.specs.LatticeLaws.{IsOrder, IsJoin}
use Rattle.tm_lattice.specs.Tables.{IsBelow, joined_value}
use Rattle.table_covers.specs.declared.links.Link.{Link}
use Rattle.table_covers.specs.Systems.{System, IsLawfulSystem, from_of, to_of}
use Rattle.table_covers.specs.Solutions.{NodeTable, at, edge_count, along, IsNodewiseBelow, IsStarted}
use Rattle.least_tables.specs.reading.WorkLists.{IsFollowed, AreFollowed}
use Rattle.table_covers.specs.laws.Closing as closing
use Rattle.least_tables.proofs.Steps as steps

some_same : (e k : ℕ) → Some e ≡ Some k → e ≡ k
some_same e k same = (let r = same in cc)

none_some : (k : ℕ) → None ≡ Some k → ⊥
none_some k same = (let r = same in cc)

module _ {V M : Type 0} (states : lattice.Ghosts V M) (suits : ℕ → V → Type 0) (sys : System V)
    (order : IsOrder states.is_value states.leq) (join : IsJoin states.is_value states.leq states.joined)
    (law : IsLawfulSystem states.is_value states.leq states.joined suits sys) where
  abbrev Below : Option V → Option V → Type 0
  Below x y = IsBelow states.leq x y

  abbrev to : ℕ → ℕ
  to e = to_of (sys.links) e

  abbrev from : ℕ → ℕ
  from e = from_of (sys.links) e

  pub none_noted : (table : NodeTable V) (followed : List (Option ℕ)) → ((n : ℕ) → get_or followed n None ≡ None) → AreFollowed states suits sys table followed
  none_noted table followed none n e lt noted = absurd (none_some e (sym (none n) ∙ noted))

  -- what an edge brings rises with the table
  rises : (table later : NodeTable V) (e : ℕ) → IsStarted states suits sys table → IsStarted states suits sys later → IsNodewiseBelow states suits sys table later
      → e < edge_count states suits sys → Below (along states suits sys e table) (along states suits sys e later)
  rises table later e started started' grown lt =
      let at_from = law.from_node e lt in
      closing.brought_rises states suits sys order join law e (table (from e)) (later (from e)) lt (started.fits (from e) at_from) (started'.fits (from e) at_from) (grown (from e) at_from)

  brought_fits : (table : NodeTable V) (e : ℕ) → IsStarted states suits sys table → e < edge_count states suits sys → IfSome (along states suits sys e table) (suits (to e))
  brought_fits table e started lt = closing.brought_fits states suits sys order join law e (table (from e)) lt (started.fits (from e) (law.from_node e lt))

  -- an edge stays followed where its node stays as it is
  still : (table later : NodeTable V) (n e : ℕ) → IsStarted states suits sys table → IsStarted states suits sys later → IsNodewiseBelow states suits sys table later
      → IsFollowed states suits sys table n e → later n ≡ table n → IsFollowed states suits sys later n e
  still table later n e started started' grown noted same =
      let at_to = law.to_node e (noted.within) in
      let here : later (to e) ≡ table (to e) = subst (λ m. later m ≡ table m) (sym (noted.leads)) same in
      record {
        within = noted.within;
        leads = noted.leads;
        below = subst (λ x. Below x (along states suits sys e later)) (sym here)
            (closing.transitive states suits sys order join law (to e) (table (to e)) (along states suits sys e table) (along states suits sys e later)
            (started.fits (to e) at_to) (brought_fits table e started (noted.within)) (brought_fits later e started' (noted.within))
            (noted.below) (rises table later e started started' grown (noted.within)));
      }

  -- the edge that brought the state which stands at its node
  taken : (table later : NodeTable V) (e : ℕ) (v : V) → e < edge_count states suits sys → IsStarted states suits sys table → IsStarted states suits sys later
      → IsNodewiseBelow states suits sys table later → along states suits sys e table ≡ Some v → Below (later (to e)) (Some v) → IsFollowed states suits sys later (to e) e
  taken table later e v lt started started' grown brings exact =
      let at_to = law.to_node e lt in
      record {
        within = lt;
        leads = refl;
        below = closing.transitive states suits sys order join law (to e) (later (to e)) (along states suits sys e table) (along states suits sys e later)
            (started'.fits (to e) at_to) (brought_fits table e started lt) (brought_fits later e started' lt)
            (subst (Below (later (to e))) (sym brings) exact) (rises table later e started started' grown lt);
      }

  module _ (table : List (Option V)) (e : ℕ) (v : V) (nodes : length table ≡ sys.node_count) (lt : e < edge_count states suits sys)
      (started : IsStarted states suits sys (at table)) (brings : along states suits sys e (at table) ≡ Some v)
      (over : Below (Some v) (get_or table (to e) None) → ⊥) where
    pub v-fits : suits (to e) v
    v-fits = subst (λ x. IfSome x (suits (to e))) brings (brought_fits (at table) e started lt)

    abbrev later : List (Option V)
    later = steps.after states suits sys order join law table (to e) v nodes (law.to_node e lt) started v-fits over

    -- the notes after a state was brought
    pub noted_after : (followed : List (Option ℕ)) (is_taken : Bool) (note : Option ℕ) → length followed ≡ sys.node_count → AreFollowed states suits sys (at table) followed
        → MatchBool is_taken (note ≡ Some e) (note ≡ None) → (is_taken ≡ true → Below (get_or later (to e) None) (Some v))
        → AreFollowed states suits sys (at later) (set followed (to e) note)
    noted_after followed is_taken note notes all is exact n k n-lt here = elim (cases_eq n (to e)) [
      | inl same ↦ subst (λ m. IsFollowed states suits sys (at later) m k) (sym same) (new is_taken is exact (sym (get_or-set_same followed (to e) note None (omega arith)) ∙ ap (λ m. get_or (set followed (to e) note) m None) (sym same) ∙ here))
      | inr differ ↦ still (at table) (at later) n k started started' grown (all n k n-lt (sym (get_or-set_other followed (to e) n note None differ) ∙ here))
          (steps.at_other states suits sys order join law table (to e) v nodes at_to started v-fits over n differ)
    ]
      where
        at_to : to e < sys.node_count
        at_to = law.to_node e lt

        started' : IsStarted states suits sys (at later)
        started' = steps.after_started states suits sys order join law table (to e) v nodes at_to started v-fits over

        grown : IsNodewiseBelow states suits sys (at table) (at later)
        grown = steps.grows states suits sys order join law table (to e) v nodes at_to started v-fits over

        new : (b : Bool) → MatchBool b (note ≡ Some e) (note ≡ None) → (b ≡ true → Below (get_or later (to e) None) (Some v)) → note ≡ Some k → IsFollowed states suits sys (at later) (to e) k
        new true noted kept is' = subst (IsFollowed states suits sys (at later) (to e)) (some_same e k (sym noted ∙ is')) (taken (at table) (at later) e v lt started started' grown brings (kept refl))
        new false none kept is' = absurd (none_some k (sym none ∙ is'))

  -- what is noted where a state is brought
  pub follows_here : (links : List Link) (table : List (Option V)) (followed : List (Option ℕ)) (e : ℕ) (a : Option V) (v : V) → links ≡ sys.links → e < edge_count states suits sys
      → AreFollowed states suits sys (at table) followed → get_or followed (to_of links e) None ≡ Some e → along states suits sys e (at table) ≡ a → a ≡ Some v
      → Below (get_or table (to_of links e) None) (Some v)
  follows_here links table followed e a v same lt all noted is some =
      subst (λ ls. get_or followed (to_of ls e) None ≡ Some e → Below (get_or table (to_of ls e) None) (Some v)) (sym same)
      (λ here. subst (Below (at table (to e))) (is ∙ some) ((all (to e) e (law.to_node e lt) here).below)) noted

  -- as `noted_after`, for the list of edges that the code has read
  pub noted_along : (links : List Link) (table table' : List (Option V)) (followed : List (Option ℕ)) (e : ℕ) (a : Option V) (v : V) (is_taken : Bool) (note : Option ℕ)
      → links ≡ sys.links → length table ≡ sys.node_count → e < edge_count states suits sys → IsStarted states suits sys (at table)
      → along states suits sys e (at table) ≡ a → a ≡ Some v
      → length followed ≡ sys.node_count → AreFollowed states suits sys (at table) followed
      → MatchBool is_taken (note ≡ Some e) (note ≡ None)
      → (Below (Some v) (get_or table (to_of links e) None) → ⊥)
      → table' ≡ set table (to_of links e) (Some (sys.outward (to_of links e) (joined_value states.joined (get_or table (to_of links e) None) v)))
      → (is_taken ≡ true → Below (get_or table' (to_of links e) None) (Some v))
      → AreFollowed states suits sys (at table') (set followed (to_of links e) note)
  noted_along links table table' followed e a v is_taken note same nodes lt started is some notes all noted over written exact =
      subst (λ ls. (Below (Some v) (get_or table (to_of ls e) None) → ⊥)
      → table' ≡ set table (to_of ls e) (Some (sys.outward (to_of ls e) (joined_value states.joined (get_or table (to_of ls e) None) v)))
      → (is_taken ≡ true → Below (get_or table' (to_of ls e) None) (Some v))
      → AreFollowed states suits sys (at table') (set followed (to_of ls e) note)) (sym same)
      (λ over' written' exact'.
      subst (λ t. AreFollowed states suits sys (at t) (set followed (to e) note)) (sym written')
      (noted_after table e v nodes lt started (is ∙ some) over' followed is_taken note notes all noted
      (subst (λ t. is_taken ≡ true → Below (get_or t (to e) None) (Some v)) written' exact')))
      over written exact
