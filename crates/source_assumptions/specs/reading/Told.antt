-- What is read off a source before its program is analysed, and what is told of a solution of it.
use Rattle.std.specs.Prelude.{◌≡◌, ◌↔◌, ℕ, List, Contains}
use Rattle.tm_terms.specs.declared.places.Place.{Place}
use Rattle.tm_laid.specs.Layouts.{LaidTree}
use Rattle.program_streams.specs.declared.statuses.Status.{Status}
use Rattle.flow_graph.specs.declared.graphs.Graph.{Graph}
use Rattle.program_solutions.specs.program_equations.Programs.{ProgramBodies}
use Rattle.program_solutions.specs.program_equations.Readings.{read_layout}
use Rattle.program_solutions.specs.program_equations.Solutions.{tables_of}
use Rattle.program_solutions.specs.post_recheck.Pairs.{Pair}
use Rattle.path_origins.specs.Opens.{is_among}
use Rattle.edge_origins.specs.declared.origins.BodyOrigins.{BodyOrigins}
use Rattle.edge_origins.specs.Bodies.{AreBodyOrigins}
use Rattle.text_choices.specs.declared.kinds.Choice.{Choice}
use Rattle.text_choices.specs.Texts.{AreOpens}
use Rattle.text_choices.specs.Lists.{IsOfText}
use Rattle.open_choices.specs.Choices.{AreChoices}
use Rattle.source_assumptions.specs.declared.replies.Opened.{Opened}
use Rattle.source_assumptions.specs.Lines.{choices_text}
use Rattle.source_assumptions.specs.Lists.{choices_status}

-- exactly what the text of a source leaves open, and where the edges of its graphs come from
pub record IsOpened (bytes : List ℕ) (laid : LaidTree) (graphs : List Graph) (o : Opened) : Type 0 where
  pub exact : (c : Choice) → Contains o.others.items c ↔ IsOfText bytes laid c
  pub opens : List Place
  pub are_opens : AreOpens bytes opens
  pub noted : AreBodyOrigins laid (is_among opens) graphs o.origins.items

-- the list of these choices and of those that a solution leaves open
pub record TellsAssumptionsOf (p : ProgramBodies) (others : List Choice) (origins : List BodyOrigins) (pair : Pair)
    (status : Status) (text : List ℕ) : Type 0 where
  pub seen : LaidTree
  pub front : p.laid ≡ read_layout seen
  pub choices : List Choice
  pub are : AreChoices seen p (tables_of pair.tables) pair.store origins (Contains others) choices
  pub comes : status ≡ choices_status choices
  pub is : text ≡ choices_text choices
