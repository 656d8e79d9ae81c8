-- The list of the assumptions of a source: what its text leaves open, and what the least solution of its program does.
use Rattle.std.specs.Prelude.{◌≡◌, ℕ, List, [], ◌∷◌, Some, slice_get}
use Rattle.tm_terms.specs.declared.places.Place.{Place}
use Rattle.tm_laid.specs.declared.scales.Scale.{Scale}
use Rattle.tm_laid.specs.Layouts.{LaidTree}
use Rattle.program_streams.specs.declared.statuses.Status.{Status}
use Rattle.program_streams.specs.declared.statuses.Status.TheVariants.{NoAlarm, Alarms}
use Rattle.flow_graph.specs.declared.graphs.Graph.{Graph}
use Rattle.program_solutions.specs.program_equations.Programs.{ProgramBodies, body_at}
use Rattle.program_solutions.specs.program_equations.Readings.{read_layout}
use Rattle.program_solutions.specs.program_equations.Solutions.{tables_of}
use Rattle.source_programs.specs.LaidSources.{IsLaidSourceOn}
use Rattle.source_findings.specs.Findings.{SolvesOn}
use Rattle.path_origins.specs.Opens.{is_among}
use Rattle.edge_origins.specs.declared.origins.BodyOrigins.{BodyOrigins}
use Rattle.edge_origins.specs.Bodies.{AreBodyOrigins}
use Rattle.text_choices.specs.declared.kinds.Choice.{Choice}
use Rattle.text_choices.specs.Texts.{AreOpens}
use Rattle.text_choices.specs.Lists.{IsOfText}
use Rattle.open_choices.specs.Choices.{AreChoices}
use Rattle.sound_choices.specs.Promises.{ListsChoices}
use Rattle.sound_choices.specs.Accesses.{ListsAccessChoices}
use Rattle.sound_choices.specs.Enumerations.{ListsEnumerations}
use Rattle.sound_choices.specs.Beginnings.{ListsBeginnings}
use Rattle.source_assumptions.specs.Lines.{choices_text}

-- the bodies of a program have the edges of these graphs
abbrev pub HaveEdges : ProgramBodies → List Graph → Type 0
HaveEdges p graphs = (body : ℕ) (g : Graph) → slice_get graphs body ≡ Some g
    → (let b = body_at p body in g.edges.items ≡ b.edges)

-- exactly the choices that the text of a source and the least solution of its program on a scale leave open
pub record FindsChoices (scale : Scale) (bytes : List ℕ) (choices : List Choice) : Type 0 where
  pub solves : SolvesOn scale bytes
  pub laid : LaidTree
  pub of : IsLaidSourceOn scale bytes laid
  pub opens : List Place
  pub are_opens : AreOpens bytes opens
  pub graphs : List Graph
  pub edges : (let s = solves in HaveEdges s.program graphs)
  pub origins : List BodyOrigins
  pub noted : AreBodyOrigins laid (is_among opens) graphs origins
  -- a layout of which the program has objects, cells and types
  pub seen : LaidTree
  pub front : (let s = solves in let p = s.program in p.laid ≡ read_layout seen)
  pub are : (let s = solves in let pair = s.pair in
      AreChoices seen s.program (tables_of pair.tables) pair.store origins (IsOfText bytes laid) choices)
  -- what it promises of runs
  pub lists : (let s = solves in let a = s.accepted in let pair = s.pair in
      ListsChoices a.laid seen s.program (tables_of pair.tables) pair.store origins choices)
  pub accesses : (let s = solves in let a = s.accepted in let pair = s.pair in
      ListsAccessChoices a.laid seen s.program (tables_of pair.tables) pair.store origins choices)
  pub enumerations : (let s = solves in let a = s.accepted in let pair = s.pair in
      ListsEnumerations a.laid seen s.program (tables_of pair.tables) pair.store origins choices)
  pub beginnings : (let s = solves in let a = s.accepted in let pair = s.pair in
      ListsBeginnings a.laid seen s.program (tables_of pair.tables) pair.store origins choices)

-- whether there is one
abbrev pub choices_status : List Choice → Status
choices_status [] = NoAlarm
choices_status (c ∷ choices) = Alarms

-- what is told of them
pub record TellsAssumptions (scale : Scale) (bytes : List ℕ) (status : Status) (text : List ℕ) : Type 0 where
  pub choices : List Choice
  pub finds : FindsChoices scale bytes choices
  pub comes : status ≡ choices_status choices
  pub is : text ≡ choices_text choices
