-- Which requests are taken away, since they lead nowhere or none leads to them.
use Rattle.std.specs.Prelude.{◌≡◌, ℕ, suc, ◌<◌, ◌≤◌, Bool, true, false, List, [], ◌∷◌, length}
use Rattle.request_circles.specs.declared.requests.Request.{Request}
use Rattle.request_circles.specs.reading.Steps.{IsMarked, IsOnCircle, IsStepLeft, AreLeft}

-- how many marks there are
abbrev pub marked : List Bool → ℕ
marked [] = 0
marked (true ∷ marks) = suc (marked marks)
marked (false ∷ marks) = marked marks

module _ (requests : List Request) (left : List Bool) where
  -- it is joined with one that is left
  pub record HasStep (ahead : Bool) (k : ℕ) : Type 0 where
    pub to : ℕ
    pub step : IsStepLeft requests left ahead k to

  -- it is left, and not circular
  pub record IsLoose (k : ℕ) : Type 0 where
    pub there : IsMarked left k
    pub not_circular : IsOnCircle requests k → ⊥

-- Some are taken away, and no circular one. There are fewer where the answer is true.
pub record IsTrimmed (requests : List Request) (old new : List Bool) (trimmed : Bool) : Type 0 where
  pub same : length new ≡ length old
  pub left : AreLeft requests new
  pub count : marked new ≤ marked old
  pub fewer : trimmed ≡ true → marked new < marked old
