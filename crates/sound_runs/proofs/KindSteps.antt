-- Where operations keep the kinds of their temporaries, and none is live at the entry, addresses are kept.
use Rattle.std.proofs.Common.{◌≡◌, refl, sym, ap, subst, ◌∙◌, ℕ, Option, Some, None}
use Rattle.std.proofs.Common.{if◌then◌else◌}
use Rattle.std.proofs.lemmas.Bool.{ne_eqb}
use native.Mathlib.Decide.{ℕ_discrete}
use Rattle.layout_laws.specs.tm_laid.Layouts.{LaidTree}
use Rattle.program_shape.specs.concrete_values.declared.values.Value.{Value}
use Rattle.program_shape.specs.concrete_values.declared.actions.Next.{Next}
use Rattle.program_shape.specs.flow_graph.declared.graphs.Edge.{Edge}
use Rattle.program_shape.specs.flow_graph.Graphs.{Edges, Among, Leaves, IsLive, by_use, by_flow}
use Rattle.program_shape.specs.flow_graph.Operations.{Temps, given, kept_with, used, Doing, gives, shut, asks, fails}
use Rattle.program_shape.specs.flow_graph.Operations.{doing}
use Rattle.program_shape.specs.flow_graph.Operations.{effect_by}
use Rattle.program_shape.specs.flow_graph.Operations.{Silent, Asks}
use Rattle.sound_runs.specs.Sources.{Comes, comes_first, comes_by_itself, comes_by_answer, KeepsAddresses}
use Rattle.sound_runs.specs.Addresses.{IsOfKind, HasKinds}

-- ## What an operation changes

-- another temporary than the one that is given is as before
other_kept : (to : Option ℕ) (v : Value) (temps : Temps) (t : ℕ) → (to ≡ Some t → ⊥) → kept_with to v temps t ≡ temps t
other_kept None v temps t d = refl
other_kept (Some s) v temps t d =
    ap (λ b. if b then v else temps t) (ne_eqb s t (λ e. d (ap (λ z. Some z) e)))

silent_kept : (to : Option ℕ) (temps temps' : Temps) (d : Doing) (t : ℕ) → effect_by to temps d ≡ Silent temps'
    → (to ≡ Some t → ⊥) → temps' t ≡ temps t
silent_kept to temps temps' (gives v) t e d =
    let f : kept_with to v temps ≡ temps' = cc in
    sym (ap (λ g. g t) f) ∙ other_kept to v temps t d
silent_kept to temps temps' shut t e d = absurd (cc)
silent_kept to temps temps' (asks n) t e d = absurd (cc)
silent_kept to temps temps' (fails class place) t e d = absurd (cc)

answer_kept : (to : Option ℕ) (temps : Temps) (doing' : Doing) (n : Next) (after : Value → Temps) (v : Value) (t : ℕ)
    → effect_by to temps doing' ≡ Asks n after → (to ≡ Some t → ⊥) → after v t ≡ temps t
answer_kept to temps (gives w) n after v t e d = absurd (cc)
answer_kept to temps shut n after v t e d = absurd (cc)
answer_kept to temps (asks m) n after v t e d =
    let f : (λ w. kept_with to w temps) ≡ after = cc in
    sym (ap (λ g. g v t) f) ∙ other_kept to v temps t d
answer_kept to temps (fails class place) n after v t e d = absurd (cc)

is_given : (o : Option ℕ) (t : ℕ) → Dec (o ≡ Some t)
is_given None t = no (λ e. cc)
is_given (Some s) t = by_same (ℕ_discrete s t)
  where
    by_same : Dec (s ≡ t) → Dec (Some s ≡ Some t)
    by_same (yes e) = yes (ap (λ z. Some z) e)
    by_same (no d) = no (λ e. d (cc))

-- ## Along edges

module _ (laid : LaidTree) (body : ℕ) (g : Edges) (has : HasKinds laid body g)
    (none : (t : ℕ) → IsLive g t 0 → ⊥) where
  -- each live temporary is of its kind
  abbrev AreLiveKinds : ℕ → Temps → Type 0
  AreLiveKinds node temps = (t : ℕ) → IsLive g t node → IsOfKind laid body (has.kinds t) (temps t)

  used_kinds : (node : ℕ) (temps : Temps) (e : Edge) → AreLiveKinds node temps → Leaves g node e → (t : ℕ)
      → Among t (used e.op) → IsOfKind laid body (has.kinds t) (temps t)
  used_kinds node temps e h l t among = h t (subst (λ z. IsLive g t z) l.from (by_use e l.among among))

  flows : (node : ℕ) (e : Edge) → Leaves g node e → (t : ℕ) → (given e.op ≡ Some t → ⊥) → IsLive g t e.to
      → IsLive g t node
  flows node e l t d live = subst (λ z. IsLive g t z) l.from (by_flow e l.among d live)

  live_kinds : {node : ℕ} {temps : Temps} → Comes laid g node temps → AreLiveKinds node temps
  live_kinds comes_first t live = absurd (none t live)
  live_kinds (comes_by_itself {node = node} {temps = temps} {temps' = temps'} c e l goes) t live =
      by_given (live_kinds c) (is_given (given e.op) t)
    where
      by_given : AreLiveKinds node temps → Dec (given e.op ≡ Some t) → IsOfKind laid body (has.kinds t) (temps' t)
      by_given h (yes q) = (has.keeps e l.among).silent temps temps' (used_kinds node temps e h l) goes t q
      by_given h (no d) =
          subst (λ v. IsOfKind laid body (has.kinds t) v)
          (sym (silent_kept (given e.op) temps temps' (doing laid e.op temps) t goes d)) (h t (flows node e l t d live))
  live_kinds (comes_by_answer {node = node} {temps = temps} c e l n after is a v fits) t live =
      by_given (live_kinds c) (is_given (given e.op) t)
    where
      by_given : AreLiveKinds node temps → Dec (given e.op ≡ Some t) → IsOfKind laid body (has.kinds t) (after v t)
      by_given h (yes q) = (has.keeps e l.among).answered temps n after a v (used_kinds node temps e h l) is fits t q
      by_given h (no d) =
          subst (λ w. IsOfKind laid body (has.kinds t) w)
          (sym (answer_kept (given e.op) temps (doing laid e.op temps) n after v t is d)) (h t (flows node e l t d live))

  pub keeps_addresses : KeepsAddresses laid g
  keeps_addresses node temps temps' e c l goes =
      (has.keeps e l.among).addressed temps temps' (used_kinds node temps e (live_kinds c) l) goes
