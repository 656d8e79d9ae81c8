-- What suppresses a result.
use Rattle.std.specs.Prelude.{ℕ, ◌==◌, ◌&&◌, Bool, true, false, not, List, [], ◌∷◌, length, codes, bytes_eq, filter}
use Rattle.std.specs.Prelude.{Option, Some, None, unwrap_or, if◌then◌else◌}
use Rattle.std.specs.List.{list_all}
use Rattle.serde_json.specs.Data.{Data, member, no_members, object, string}
use Rattle.serde_json.specs.Find.{as_str}
use Rattle.log_baselines.specs.Logs.{has_text, list_at, text_at}

-- the suppressions of a result
abbrev pub suppressions_of : Data → List Data
suppressions_of result = unwrap_or (list_at (codes "suppressions") result) []

-- a state of a suppression that is no proposal, and was not turned down
abbrev pub is_accepted : Option (List ℕ) → Bool
is_accepted None = true
is_accepted (Some status) = bytes_eq status (codes "accepted")

-- a suppression that stands in a log alone, and is accepted: it is kept
abbrev pub is_kept : Data → Bool
is_kept suppression =
    has_text (codes "kind") (codes "external") suppression && is_accepted (text_at (codes "status") suppression)

-- the suppressions of a result that are kept
abbrev pub kept_of : Data → List Data
kept_of result = filter is_kept (suppressions_of result)

-- the suppressions that a result has from its partner
abbrev pub kept_from : Option Data → List Data
kept_from None = []
kept_from (Some old) = kept_of old

-- a text that is not empty
abbrev pub is_said : Option (List ℕ) → Bool
is_said None = false
is_said (Some text) = not (length text == 0)

-- a suppression says why
abbrev pub has_reason : Data → Bool
has_reason suppression = is_said (text_at (codes "justification") suppression)

-- the suppressions of a result that are kept all say why
abbrev pub is_reasoned : Data → Bool
is_reasoned result = list_all has_reason (kept_of result)

-- a suppression by a comment of the source, which says why
abbrev pub comment_data : List ℕ → Data
comment_data reason =
    object (member (codes "justification") (string reason) (member (codes "kind") (string (codes "inSource")) no_members))

-- what a comment suppresses: a text says why, and an empty one, or what is no text, stands where there is no comment
abbrev pub by_comment : Option (List ℕ) → List Data
by_comment None = []
by_comment (Some reason) = if length reason == 0 then [] else comment_data reason ∷ []

-- the suppressions in the source, by a remark
abbrev pub in_source : Data → List Data
in_source remark = by_comment (as_str remark)
