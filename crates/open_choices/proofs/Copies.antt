-- What the copies of an edge leave open is what its states do.
use Rattle.std.proofs.Common.{◌≡◌, ◌↔◌, ℕ, refl, sym, ap, subst, ◌∙◌, List, Some, Option, true}
use Rattle.std.specs.Prelude.{Contains, slice_get}
use Rattle.std.proofs.lemmas.Bool.{false≢true}
use Rattle.mutex_configs.specs.declared.nodes.EdgeCopy.{EdgeCopy}
use Rattle.post_recheck.specs.transfer_rows.StateForms.{State}
use Rattle.text_choices.specs.declared.kinds.Choice.{Choice}
use Rattle.operand_orders.specs.Reached.{SolvedBody, operation_at, HasState}
use Rattle.operand_orders.specs.reading.Views.{AreCopiesOf, state_from, state_at}
use Rattle.open_choices.specs.declared.looks.Look.{Look}
use Rattle.open_choices.specs.declared.looks.Look.TheVariants as Looks
use Rattle.open_choices.specs.reading.Looks.{is_nothing}
use Rattle.open_choices.specs.reading.Found.{Finds, IsFound, IsCounted, IsCountedAt, IsOfCopy, IsOfSome, IsOfEdge}

module _ (b : SolvedBody) (edge : ℕ) (look : Look) (numbers : List ℕ) (copies : AreCopiesOf b.copies edge numbers) where
  pub has_state : (k : ℕ) (s : State) → Contains numbers k → state_at b k ≡ Some s
      → HasState b edge (operation_at b edge) s
  has_state k s has e =
      let copy = (copies k).0 has in record {
        number = k;
        copy = copy.copy;
        is = copy.is;
        of = copy.of;
        state = subst (λ o. state_from b o ≡ Some s) copy.is e;
        operation = refl;
      }

  pub counted_there : IsCountedAt b edge look → (k : ℕ) (s : State) → Contains numbers k → state_at b k ≡ Some s
      → IsCounted s look
  counted_there all k s has e = all s (has_state k s has e)

  pub of_copies : (c : Choice) → IsOfSome (IsOfCopy b edge look) numbers c ↔ IsOfEdge b edge look c
  of_copies c = (
    λ h. record {
      state = h.opens.state;
      has = has_state h.one h.opens.state h.has h.opens.is;
      found = h.opens.found;
    },
    λ h. (let there = h.has in record {
      one = there.number;
      has = (copies there.number).1 (record { copy = there.copy; is = there.is; of = there.of });
      opens = record {
        state = h.state;
        is = subst (λ o. state_from b o ≡ Some h.state) (sym there.is) there.state;
        found = h.found;
      };
    }),
  )

-- nothing is found where nothing is looked for
module _ (b : SolvedBody) (edge : ℕ) where
  nothing_found : (s : State) (look : Look) → is_nothing look ≡ true → Finds b edge s look → ⊥
  nothing_found s Looks.Nothing e h = h
  nothing_found s look e h = false≢true e

  pub nothing_open : (look : Look) → is_nothing look ≡ true → (c : Choice) → IsOfEdge b edge look c → ⊥
  nothing_open look e c h = nothing_found h.state look e h.found.0

module _ (b : SolvedBody) (edge : ℕ) (look : Look) (k : ℕ) where
  same_state : (s t : State) → ◌≡◌ {A = Option State} (Some s) (Some t) → s ≡ t
  same_state s t f = cc

  pub copy_open : (s : State) → state_at b k ≡ Some s → (c : Choice)
      → IsFound b edge s look c ↔ IsOfCopy b edge look k c
  copy_open s e c = (
    λ h. record { state = s; is = e; found = h },
    λ h. (let same = same_state s h.state (sym e ∙ h.is) in subst (λ z. IsFound b edge z look c) (sym same) h.found),
  )
