-- All that a source leaves open, by its tokens, its tree and its typed file: the parts make the whole.
use Rattle.std.proofs.Common.{◌≡◌, ℕ, List, Ok, refl, sym, subst, inl, inr, ◌⊎◌}
use Rattle.tm_terms.specs.declared.places.Place.{Place}
use Rattle.tm_terms.specs.declared.tokens.Token.{Token}
use Rattle.tm_terms.specs.Spelling.{Lexes}
use Rattle.tm_terms.specs.Limits.{most_tokens}
use Rattle.tm_trees.specs.FileTrees.{ItemTree}
use Rattle.tm_trees.specs.Parsing.{Parses}
use Rattle.tm_laid.specs.Layouts.{LaidTree}
use Rattle.text_choices.specs.declared.kinds.Kind.{Kind}
use Rattle.text_choices.specs.declared.kinds.Kind.TheVariants as Kinds
use Rattle.text_choices.specs.declared.kinds.Choice.{Choice}
use Rattle.text_choices.specs.Choices.{Adds, OfKind}
use Rattle.text_choices.specs.Texts.{IsReserved, AreOpens, declared_in}
use Rattle.text_choices.specs.Lists.{IsOpenByText, IsOfText}
use Rattle.text_choices.specs.reading.Tokens.{AreOpensAmong}
use Rattle.text_choices.specs.reading.Declared.{IsReservedAmong}
use Rattle.text_choices.specs.reading.Files.{Leaves, moved, given, IsOfFile}
use Rattle.text_choices.specs.reading.Trees.{IsOfItems, IsOfTree, IsOfTokens}
use Rattle.text_choices.specs.reading.Typed.{IsWithoutTokens}
use Rattle.text_choices.proofs.Additions.{Adds-same, Adds-behind}

-- ## The signs `(`

pub opens_some : (bytes : List ℕ) (known : List Token) (places : List Place) → ((tokens : List Token) → Lexes most_tokens bytes (Ok tokens) → known ≡ tokens) → AreOpensAmong known places → AreOpens bytes places
opens_some bytes known places one opens = λ tokens lexed. subst (λ ts. AreOpensAmong ts places) (one tokens lexed) opens

-- ## The whole

module _ (bytes : List ℕ) (laid : LaidTree) where
  open_by : (k : Kind) (c : Choice) → c.kind ≡ k → IsOpenByText bytes laid k c.place → IsOfText bytes laid c
  open_by k c e h = subst (λ x. IsOpenByText bytes laid x c.place) (sym e) h

  pub without_open : (c : Choice) → IsWithoutTokens bytes laid c → IsOfText bytes laid c
  without_open c (inl p) = open_by Kinds.Pragma c p.0 p.1
  without_open c (inr (inl s)) = open_by Kinds.Layout c s.0 s.1
  without_open c (inr (inr b)) = open_by Kinds.Enum c b.0 b.1

  module _ (tokens : List Token) (lexed : Lexes most_tokens bytes (Ok tokens)) where
    reserved_open : (items : List ItemTree) → Parses tokens (Ok items) → (place : Place) → IsReservedAmong bytes (declared_in items) place → IsReserved bytes place
    reserved_open items parsed place r = record {
      tokens = tokens;
      lexed = lexed;
      items = items;
      parsed = parsed;
      it = r.it;
      stands = r.stands;
      is = r.is;
      named = r.told.named;
      external = λ d c e. (r.told.yielded d c e).0;
      first = λ d c e f. (r.told.yielded d c e).1 f;
      foremost = λ d c e f. (r.told.yielded d c e).2 f;
    }

    leaves_open : (items : List ItemTree) (parsed : Parses tokens (Ok items)) (c : Choice) (f : IsOfFile laid items c) → Leaves laid f.value f.one c → IsOfText bytes laid c
    leaves_open items parsed c f (moved k left) =
        open_by Kinds.Member c k (record {
          value = f.value;
          one = f.one;
          stands = record { tokens = tokens; lexed = lexed; items = items; parsed = parsed; item = f.item; among = f.among; stands = f.stands };
          moved = left;
        })
    leaves_open items parsed c f (given k p spot object points named lost) =
        open_by Kinds.Const c k (record {
          value = f.value;
          one = f.one;
          stands = record { tokens = tokens; lexed = lexed; items = items; parsed = parsed; item = f.item; among = f.among; stands = f.stands };
          is = p;
          spot = spot;
          points = points;
          object = object;
          named = named;
          lost = lost;
        })

    items_open : (items : List ItemTree) → Parses tokens (Ok items) → (c : Choice) → IsOfItems bytes laid items c → IsOfText bytes laid c
    items_open items parsed c (inl r) = open_by Kinds.Reserved c r.0 (reserved_open items parsed c.place r.1)
    items_open items parsed c (inr f) = leaves_open items parsed c f f.leaves

    pub tokens_open : (c : Choice) → IsOfTokens bytes laid tokens c → IsOfText bytes laid c
    tokens_open c (inl w) = open_by Kinds.Restrict c w.0 (record { tokens = tokens; lexed = lexed; stands = w.1 })
    tokens_open c (inr t) = items_open t.items t.parsed c t.left

  -- what is open is so whether or not there are tokens, or some tokens leave it open
  abbrev Left : Choice → Type 0
  Left c = IsWithoutTokens bytes laid c ⊎ ((tokens : List Token) × Lexes most_tokens bytes (Ok tokens) × IsOfTokens bytes laid tokens c)

  left_by : (k : Kind) (c : Choice) → c.kind ≡ k → IsOpenByText bytes laid k c.place → Left c
  left_by Kinds.Const c e h =
      let s = h.stands in
      inr (
        s.tokens,
        s.lexed,
        inr (record {
          items = s.items;
          parsed = s.parsed;
          left = inr (record { value = h.value; one = h.one; item = s.item; among = s.among; stands = s.stands; leaves = given e h.is h.spot h.object h.points h.named h.lost });
        }),
      )
  left_by Kinds.Member c e h =
      let s = h.stands in
      inr (
        s.tokens,
        s.lexed,
        inr (record {
          items = s.items;
          parsed = s.parsed;
          left = inr (record { value = h.value; one = h.one; item = s.item; among = s.among; stands = s.stands; leaves = moved e h.moved });
        }),
      )
  left_by Kinds.Enum c e h = inl (inr (inr (e, h)))
  left_by Kinds.Layout c e h = inl (inr (inl (e, h)))
  left_by Kinds.Pragma c e h = inl (inl (e, h))
  left_by Kinds.Reserved c e h =
      inr (
        h.tokens,
        h.lexed,
        inr (record {
          items = h.items;
          parsed = h.parsed;
          left = inl (
            e,
            record {
              it = h.it;
              stands = h.stands;
              is = h.is;
              told = record { named = h.named; yielded = λ d c e. (h.external d c e, h.first d c e, h.foremost d c e) };
            },
          );
        }),
      )
  left_by Kinds.Restrict c e h = inr (h.tokens, h.lexed, inl (e, h.stands))
  left_by Kinds.Implementation c e h = absurd h
  left_by Kinds.Lifetime c e h = absurd h
  left_by Kinds.Order c e h = absurd h
  left_by Kinds.Unset c e h = absurd h

  text_left : (c : Choice) → IsOfText bytes laid c → Left c
  text_left c h = left_by c.kind c refl h

  -- the source has no tokens
  pub adds_without : (old new : List Choice) → ((tokens : List Token) → Lexes most_tokens bytes (Ok tokens) → ⊥) → Adds old new (IsWithoutTokens bytes laid) → Adds old new (IsOfText bytes laid)
  adds_without old new none h = Adds-same old new (IsWithoutTokens bytes laid) (IsOfText bytes laid) without_open (λ c t. back c (text_left c t)) h
    where
      back : (c : Choice) → Left c → IsWithoutTokens bytes laid c
      back c (inl p) = p
      back c (inr w) = absurd (none w.0 w.1)

  -- it has these tokens
  pub adds_all : (old new newer : List Choice) (tokens : List Token) → Lexes most_tokens bytes (Ok tokens) → ((others : List Token) → Lexes most_tokens bytes (Ok others) → tokens ≡ others)
      → Adds old new (IsWithoutTokens bytes laid) → Adds new newer (IsOfTokens bytes laid tokens) → Adds old newer (IsOfText bytes laid)
  adds_all old new newer tokens lexed one h k =
      Adds-same old newer (λ c. IsWithoutTokens bytes laid c ⊎ IsOfTokens bytes laid tokens c) (IsOfText bytes laid) to (λ c t. back c (text_left c t))
      (Adds-behind old new newer (IsWithoutTokens bytes laid) (IsOfTokens bytes laid tokens) h k)
    where
      to : (c : Choice) → IsWithoutTokens bytes laid c ⊎ IsOfTokens bytes laid tokens c → IsOfText bytes laid c
      to c (inl p) = without_open c p
      to c (inr t) = tokens_open tokens lexed c t

      back : (c : Choice) → Left c → IsWithoutTokens bytes laid c ⊎ IsOfTokens bytes laid tokens c
      back c (inl p) = inl p
      back c (inr w) = inr (subst (λ ts. IsOfTokens bytes laid ts c) (sym (one w.0 w.1)) w.2)

  -- ## The tree of tokens

  pub adds_tree : (old new newer : List Choice) (tokens : List Token) (items : List ItemTree) → Parses tokens (Ok items)
      → ((others : List ItemTree) → Parses tokens (Ok others) → items ≡ others)
      → Adds old new (OfKind Kinds.Reserved (IsReservedAmong bytes (declared_in items))) → Adds new newer (IsOfFile laid items)
      → Adds old newer (IsOfTree bytes laid tokens)
  adds_tree old new newer tokens items parsed one h k =
      Adds-same old newer (IsOfItems bytes laid items) (IsOfTree bytes laid tokens)
      (λ c w. record { items = items; parsed = parsed; left = w })
      (λ c t. subst (λ is. IsOfItems bytes laid is c) (sym (one t.items t.parsed)) t.left)
      (Adds-behind old new newer (OfKind Kinds.Reserved (IsReservedAmong bytes (declared_in items))) (IsOfFile laid items) h k)
