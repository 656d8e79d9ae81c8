-- Classes of requests that differ in their places alone, each with one of its requests as its head.
use Rattle.std.specs.Prelude.{◌≡◌, ◌⊎◌, ℕ, ◌-◌, ◌<◌, List, length, get_or, Contains}
use Rattle.request_circles.specs.declared.requests.Request.{Request}
use Rattle.request_circles.specs.reading.Steps.{request_at}

pub record IsSameClass (r s : Request) : Type 0 where
  pub task : r.task ≡ s.task
  pub held : r.held ≡ s.held
  pub mutex : r.mutex ≡ s.mutex

-- the number at a place of a list; 0 where there is none
abbrev pub number_at : List ℕ → ℕ → ℕ
number_at numbers k = get_or numbers k 0

-- the last head is of the class of the request
pub record HasHead (old new : List Request) (request : Request) : Type 0 where
  pub some : 0 < length new
  pub last : IsSameClass (request_at new (length new - 1)) request
  pub kept : (k : ℕ) → k < length old → (k < length new) × (request_at new k ≡ request_at old k)
  pub only : (r : Request) → Contains new r → Contains old r ⊎ (r ≡ request)

-- each of the first requests has the number of a head of its class, and the heads are requests
pub record AreClasses (requests heads : List Request) (numbers : List ℕ) (n : ℕ) : Type 0 where
  pub count : length numbers ≡ n
  pub within : (k : ℕ) → k < n → number_at numbers k < length heads
  pub class : (k : ℕ) → k < n → IsSameClass (request_at heads (number_at numbers k)) (request_at requests k)
  pub only : (r : Request) → Contains heads r → Contains requests r
