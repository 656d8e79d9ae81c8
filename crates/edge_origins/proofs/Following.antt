-- The calls of one path more are followed.
use Rattle.std.proofs.Common.{◌≡◌, ℕ, ◌+◌, ◌<◌, ◌≤◌, List, [], ◌∷◌, ◌++◌, length, map, get_or, take, sym, ap}
use Rattle.std.proofs.Common.{subst, arith, All}
use Rattle.std.specs.Prelude.{Contains}
use Rattle.std.proofs.lemmas.List.{take_all, take-append-le}
use Rattle.std.proofs.lemmas.List.Elements.{Contains-append_left, Contains-append_right, Contains-get_or, Contains-push}
use Rattle.std.proofs.lemmas.List.Elements.{All-nil, All-cons, All-append, All-map, All-more, All-weaker}
use Rattle.path_origins.specs.declared.origins.NotedCall.{NotedCall}
use Rattle.path_origins.specs.declared.origins.Notes.{Notes}
use Rattle.path_origins.specs.Noted.{Noted}
use Rattle.edge_origins.specs.declared.starts.Start.{Start}
use Rattle.edge_origins.specs.reading.PathNotes.{noted_in}
use Rattle.edge_origins.specs.reading.Starts.{first_start, start_by, IsReached, by_call, the_first, IsFollowed}
use Rattle.edge_origins.specs.reading.Starts.{AreFollowed}
use Rattle.edge_origins.proofs.Lists.{to_mapped}
use Rattle.edge_origins.proofs.Walked.{noted_read}

module _ (notes : List Notes) (first : ℕ) where
  pub followed_none : (starts : List Start) → starts ≡ first_start first ∷ []
      → AreFollowed notes first (take 0 starts) starts
  followed_none starts is =
      let alone : List Start = first_start first ∷ [] in
      let Within : Start → Type 0 = λ s. s.path < length notes in
      let Done : List Start → Type 0 = λ l. AreFollowed notes first [] l in
      subst Done (sym is) record {
        begins = Contains-push [] (first_start first);
        reached = All-cons (IsReached notes first) (first_start first) [] the_first (All-nil (IsReached notes first));
        within = All-nil Within;
        followed = All-nil (IsFollowed notes first alone);
      }

  -- the calls of a path are followed: the paths to which they lead are put behind
  module _ (starts : List Start) (index : ℕ) (start : Start) (one : Notes) (lt : index < length starts)
      (is : start ≡ get_or starts index start) (there : start.path < length notes)
      (read : one ≡ get_or notes start.path one) (before : AreFollowed notes first (take index starts) starts) where
    abbrev called : List Start
    called = map (start_by start.at) one.calls.items

    abbrev longer : List Start
    longer = starts ++ called

    same_calls : (noted_in notes start.path).calls ≡ one.calls.items
    same_calls = ap (λ (x : Noted). x.calls) (noted_read notes start.path one there read)

    reached_here : IsReached notes first start
    reached_here =
        let P : Start → Type 0 = IsReached notes first in
        subst P (sym is) (before.reached index start lt)

    reached_called : All (IsReached notes first) called
    reached_called = All-map (IsReached notes first) (start_by start.at) one.calls.items (λ k d below.
        let among : Contains (noted_in notes start.path).calls (get_or one.calls.items k d) =
        subst (λ (l : List NotedCall). Contains l (get_or one.calls.items k d)) (sym same_calls)
        (Contains-get_or one.calls.items k d below) in
        by_call (get_or one.calls.items k d) reached_here there among)

    followed_here : IsFollowed notes first longer start
    followed_here = λ c among.
        let h : Contains one.calls.items c = subst (λ (l : List NotedCall). Contains l c) same_calls among in
        Contains-append_right starts called (start_by start.at c) (to_mapped (start_by start.at) one.calls.items c h)

    front_kept : take (index + 1) longer ≡ take (index + 1) starts
    front_kept = take-append-le (index + 1) starts called (omega (arith, lt))

    kept : (s : Start) → IsFollowed notes first starts s → IsFollowed notes first longer s
    kept s h = λ c among. Contains-append_left starts called (start_by s.at c) (h c among)

    followed_behind : AreFollowed notes first (take (index + 1) longer) longer
    followed_behind =
        let Within : Start → Type 0 = λ s. s.path < length notes in
        let Followed : Start → Type 0 = IsFollowed notes first longer in
        let front = All-weaker (IsFollowed notes first starts) Followed kept (take index starts) before.followed in
        record {
          begins = Contains-append_left starts called (first_start first) before.begins;
          reached = All-append (IsReached notes first) starts called before.reached reached_called;
          within = subst (All Within) (sym front_kept)
              (All-more Within starts index start lt before.within (subst Within is there));
          followed = subst (All Followed) (sym front_kept)
              (All-more Followed starts index start lt front (subst Followed is followed_here));
        }

    pub followed_more : (new : List Start) → new ≡ starts ++ map (start_by start.at) one.calls.items
        → AreFollowed notes first (take (index + 1) new) new
    followed_more new pushed =
        let P : List Start → Type 0 = λ l. AreFollowed notes first (take (index + 1) l) l in
        subst P (sym pushed) followed_behind

  pub followed_all : (starts : List Start) (index : ℕ) → length starts ≤ index
      → AreFollowed notes first (take index starts) starts → AreFollowed notes first starts starts
  followed_all starts index le are =
      let P : List Start → Type 0 = λ l. AreFollowed notes first l starts in
      subst P (take_all index starts le) are
