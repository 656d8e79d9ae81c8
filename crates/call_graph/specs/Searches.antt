-- What a search through the calls keeps.
use Rattle.std.specs.Prelude.{◌≡◌, ℕ, ◌<◌, ◌≤◌, ◌+◌, ◌-◌, Bool, true, false, List, [], ◌∷◌, ◌++◌, length, take, get_or}
use Rattle.std.specs.Prelude.{replicate, All, Contains}
use Rattle.tm_typed.specs.CallGraph.{Reaches, AreCalleesFirst, calls_in}
use Rattle.call_graph.specs.declared.searches.Mark.{Mark}
use Rattle.call_graph.specs.declared.searches.Mark.TheVariants as Marks
use Rattle.call_graph.specs.declared.searches.Search.{Search}

abbrev pub mark_of : List Mark → ℕ → Mark
mark_of marks f = get_or marks f Marks.New

-- each function calls the next one
abbrev pub IsPath : (ℕ → List ℕ) → List ℕ → Type 0
IsPath calls [] = Unit {0}
IsPath calls (f ∷ []) = Unit {0}
IsPath calls (f ∷ g ∷ fs) = Contains (calls f) g × IsPath calls (g ∷ fs)

-- A search with these functions on its path: each calls the next, what is open is among them, what is done stands in
-- the order, and the calls that were taken are done.
pub record IsSearch (graph : List (List ℕ)) (marks : List Mark) (taken path order : List ℕ) : Type 0 where
  pub same_marks : length marks ≡ length graph
  pub same_taken : length taken ≡ length graph
  pub within : All (λ f. f < length graph) path
  pub order_within : All (λ f. f < length graph) order
  pub chain : IsPath (calls_in graph) path
  pub open_on_path : (f : ℕ) → mark_of marks f ≡ Marks.Open → Contains path f
  pub done_in_order : (f : ℕ) → mark_of marks f ≡ Marks.Done → Contains order f
  pub callees_first : AreCalleesFirst (calls_in graph) order
  pub taken_done : (f : ℕ) → All (λ g. mark_of marks g ≡ Marks.Done) (take (get_or taken f 0) (calls_in graph f))

abbrev pub IsSearchOf : List (List ℕ) → Search → List ℕ → Type 0
IsSearchOf graph s path = IsSearch graph s.marks.items s.taken.items path s.order.items

-- ## The work that is left: the calls that were not taken, and two for each function that was not met

abbrev pub weight : Mark → ℕ → ℕ
weight Marks.New n = n + 2
weight Marks.Open n = n
weight Marks.Done n = n

abbrev pub pending : List Mark → List ℕ → List (List ℕ) → ℕ
pending (m ∷ ms) (t ∷ ts) (callees ∷ graph) = weight m (length callees - t) + pending ms ts graph
pending _ _ _ = 0

abbrev pub work_of : List (List ℕ) → Search → ℕ
work_of graph s = pending s.marks.items s.taken.items graph + length s.path.items

-- ## What the code's parts do

-- nothing is met
abbrev pub IsUnmet : Search → ℕ → Type 0
IsUnmet s n = (s.marks.items ≡ replicate n Marks.New) × (s.taken.items ≡ replicate n 0) × (s.path.items ≡ [])
    × (s.order.items ≡ [])

-- what was met stays met
pub record KeepsMet (old new : List Mark) : Type 0 where
  pub met : (f : ℕ) → mark_of new f ≡ Marks.New → mark_of old f ≡ Marks.New

-- a function reaches itself
abbrev pub HasCycle : List (List ℕ) → Type 0
HasCycle graph = (f : ℕ) × Reaches (calls_in graph) f f

pub record HasGone (graph : List (List ℕ)) (old new : Search) : Type 0 where
  pub searching : IsSearchOf graph new new.path.items
  pub less : work_of graph new ≤ work_of graph old
  pub kept : KeepsMet old.marks.items new.marks.items

abbrev pub Steps : List (List ℕ) → Search → Search → Bool → Type 0
Steps graph old new true = HasGone graph old new
Steps graph old new false = HasCycle graph

pub record HasEnded (graph : List (List ℕ)) (old new : Search) : Type 0 where
  pub searching : IsSearchOf graph new []
  pub empty : new.path.items ≡ []
  pub kept : KeepsMet old.marks.items new.marks.items

abbrev pub Ends : List (List ℕ) → Search → Search → Bool → Type 0
Ends graph old new true = HasEnded graph old new
Ends graph old new false = HasCycle graph

-- between two searches: nothing is open, and the first n functions are met
pub record IsAllMet (graph : List (List ℕ)) (s : Search) (n : ℕ) : Type 0 where
  pub searching : IsSearchOf graph s []
  pub empty : s.path.items ≡ []
  pub met : (f : ℕ) → f < n → mark_of s.marks.items f ≡ Marks.New → ⊥

abbrev pub Begins : List (List ℕ) → Search → ℕ → Bool → Type 0
Begins graph s n true = IsAllMet graph s n
Begins graph s n false = HasCycle graph
