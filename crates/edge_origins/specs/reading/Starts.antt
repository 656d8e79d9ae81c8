-- Where paths begin in the graph of a body: a list that grows from the first path of the body by the calls of each.
use Rattle.std.specs.Prelude.{ℕ, ◌+◌, ◌<◌, false, List, length, All, Contains}
use Rattle.path_origins.specs.declared.origins.NotedCall.{NotedCall}
use Rattle.path_origins.specs.declared.origins.Notes.{Notes}
use Rattle.edge_origins.specs.declared.starts.Start.{Start}
use Rattle.edge_origins.specs.reading.PathNotes.{noted_in}

abbrev pub first_start : ℕ → Start
first_start path = record { path = path; at = 0; used = false }

-- the path to which a call leads, on a path that begins at an edge
abbrev pub start_by : ℕ → NotedCall → Start
start_by at c = record { path = c.path; at = at + c.at; used = c.used }

module _ (notes : List Notes) (first : ℕ) where
  -- calls lead there from the first path
  pub data IsReached : Start → Type 0 where
    the_first : IsReached (first_start first)
    by_call : {s : Start} (c : NotedCall) → IsReached s → s.path < length notes
        → Contains (noted_in notes s.path).calls c → IsReached (start_by s.at c)

  -- the calls of a path lead to those of a list
  abbrev pub IsFollowed : List Start → Start → Type 0
  IsFollowed starts s = (c : NotedCall) → Contains (noted_in notes s.path).calls c → Contains starts (start_by s.at c)

  -- a list of starts, where the calls of the paths of another have been followed
  pub record AreFollowed (done starts : List Start) : Type 0 where
    pub begins : Contains starts (first_start first)
    pub reached : All IsReached starts
    pub within : All (λ s. s.path < length notes) done
    pub followed : All (IsFollowed starts) done
