-- What is told of a least solution of a source is the list of its assumptions.
use Rattle.std.proofs.Common.{◌≡◌, ◌∙◌, sym, ap, subst, ℕ, ℤ, ◌<◌, ◌≤◌, ◌^◌, List, [], ◌∷◌, length, arith, inl, inr}
use Rattle.std.proofs.lemmas.Option.{slice_get_within, get_or_from_slice_get}
use Rattle.std.specs.Prelude.{◌↔◌, ◌⊎◌, Contains, get_or}
use Rattle.tm_laid.specs.declared.scales.Scale.{Scale}
use Rattle.tm_laid.specs.Layouts.{LaidTree}
use Rattle.flow_graph.specs.declared.graphs.Graph.{Graph}
use Rattle.mutex_configs.specs.declared.nodes.ConfiguredGraph.{ConfiguredGraph}
use Rattle.interfere_set.specs.Stores.{Interferences}
use Rattle.program_streams.specs.declared.statuses.Status.{Status}
use Rattle.program_solutions.specs.transfer_rows.StateForms.{State}
use Rattle.program_solutions.specs.post_recheck.table_covers.Solutions.{NodeTable}
use Rattle.program_solutions.specs.program_equations.Programs.{ProgramBodies, body_at, IsBodyIn, IsProgramOf}
use Rattle.program_solutions.specs.post_recheck.Pairs.{Pair}
use Rattle.program_solutions.specs.LeastReports.{IsLeastPair}
use Rattle.source_programs.specs.LaidSources.{IsLaidSourceOn}
use Rattle.program_solutions.specs.program_equations.Solutions.{tables_of}
use Rattle.source_programs.specs.Sources.{IsAcceptedOn}
use Rattle.source_programs.proofs.Accepted.{accepted_is_program}
use Rattle.certificate_check.proofs.Sourced.{comes_from}
use Rattle.sound_choices.proofs.Kept.{choices_listed}
use Rattle.sound_choices.proofs.Listed.{access_choices_listed, beginnings_listed}
use Rattle.sound_choices.proofs.Enumerated.{enumerations_listed}
use Rattle.text_choices.specs.Choices.{Adds}
use Rattle.text_choices.specs.Lists.{IsOfText}
use Rattle.edge_origins.specs.declared.origins.BodyOrigins.{BodyOrigins}
use Rattle.text_choices.specs.declared.kinds.Choice.{Choice}
use Rattle.open_choices.specs.Choices.{AreChoices}
use Rattle.source_assumptions.specs.declared.replies.Opened.{Opened}
use Rattle.source_assumptions.specs.Lists.{HaveEdges, FindsChoices}
use Rattle.source_assumptions.specs.reading.Told.{IsOpened, TellsAssumptionsOf}

-- ## The edges of bodies

some_element : {A : Type 0} (xs : List A) (k : ℕ) → k < length xs → A
some_element [] k lt = absurd (omega (arith, lt))
some_element (x ∷ xs) k lt = x

pub have_edges : (laid : LaidTree) (gs : List Graph) (cs : List ConfiguredGraph) (marks : List ℤ) (p : ProgramBodies)
    → IsProgramOf laid gs cs marks p → length cs ≡ length gs → HaveEdges p gs
have_edges laid gs cs marks p of many t g is =
    let lt : t < length gs = slice_get_within gs t g is in
    let count = of.count in
    let c : ConfiguredGraph = some_element cs t (omega (arith, lt, many)) in
    let body : IsBodyIn laid (get_or gs t g) (get_or cs t c) (body_at p t) =
    of.bodies t g c (omega (arith, lt, count)) in
    sym (body.edges ∙ ap (λ (h : Graph). h.edges.items) (get_or_from_slice_get gs t g g is))

-- ## Choices of the text

-- what is added to nothing
pub added_to_none : (old new : List Choice) (is : Choice → Type 0) → old ≡ [] → Adds old new is → (c : Choice)
    → Contains new c ↔ is c
added_to_none old new is none adds c =
    let a = adds c in
    (λ h. only (a.0 h), λ h. a.1 (inr h))
  where
    only : Contains old c ⊎ is c → is c
    only (inl h) = (let at = subst (λ (xs : List Choice). Contains xs c) none h in absurd (omega (arith, at.1)))
    only (inr h) = h

-- ## The list

turned : {A B C : Type 0} → (A → B) → A ⊎ C → B ⊎ C
turned f (inl a) = inl (f a)
turned f (inr c) = inr c

by_text : (laid : LaidTree) (p : ProgramBodies) (tables : ℕ → NodeTable State) (store : Interferences)
    (origins : List BodyOrigins) (one other : Choice → Type 0) (choices : List Choice)
    → ((c : Choice) → one c ↔ other c) → AreChoices laid p tables store origins one choices
    → AreChoices laid p tables store origins other choices
by_text laid p tables store origins one other choices same are = record {
  rising = are.rising;
  exact = λ c.
      let e = are.exact c in
      let s = same c in
      (λ h. turned s.0 (e.0 h), λ h. e.1 (turned s.1 h));
}

pub assumptions_found : (scale : Scale) (bytes : List ℕ) (p : ProgramBodies) (a : IsAcceptedOn scale [] bytes p)
    (few : length a.laid.objects ≤ 2 ^ 32) (pair : Pair) (least : IsLeastPair p pair) (laid : LaidTree)
    → IsLaidSourceOn scale bytes laid
    → (graphs : List Graph) → HaveEdges p graphs → (opened : Opened) → IsOpened bytes laid graphs opened
    → (status : Status) (text : List ℕ)
    → (t : TellsAssumptionsOf p opened.others.items opened.origins.items pair status text)
    → FindsChoices scale bytes t.choices
assumptions_found scale bytes p a few pair least laid of graphs edges opened is status text t =
    let are = by_text t.seen p (tables_of pair.tables) pair.store opened.origins.items (Contains opened.others.items)
    (IsOfText bytes laid) t.choices is.exact t.are in
    record {
      solves = record { program = p; accepted = a; pair = pair; least = least };
      laid = laid;
      of = of;
      opens = is.opens;
      are_opens = is.are_opens;
      graphs = graphs;
      edges = edges;
      origins = opened.origins.items;
      noted = is.noted;
      seen = t.seen;
      front = t.front;
      are = are;
      lists = choices_listed a.laid p (comes_from scale [] bytes p a) (accepted_is_program scale [] bytes p a) few
          pair.tables pair.store least.solution t.seen opened.origins.items (IsOfText bytes laid) t.choices are;
      accesses = access_choices_listed a.laid p (comes_from scale [] bytes p a) (accepted_is_program scale [] bytes p a) few
          pair.tables pair.store least.solution t.seen t.front opened.origins.items (IsOfText bytes laid) t.choices are;
      enumerations = enumerations_listed a.laid p (comes_from scale [] bytes p a) (accepted_is_program scale [] bytes p a)
          few pair.tables pair.store least.solution t.seen t.front opened.origins.items (IsOfText bytes laid) t.choices are;
      beginnings = beginnings_listed a.laid p (comes_from scale [] bytes p a) (accepted_is_program scale [] bytes p a) few
          pair.tables pair.store least.solution t.seen t.front opened.origins.items (IsOfText bytes laid) t.choices are;
    }
