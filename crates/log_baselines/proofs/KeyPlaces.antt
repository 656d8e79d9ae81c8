-- Where keys stand first.
use Rattle.std.proofs.Common.{arith, ◌≡◌, ◌∙◌, ◌||◌, ℕ, suc, Bool, true, false, cond, List, [], ◌∷◌, ◌++◌, length, map}
use Rattle.std.proofs.Common.{refl, sym, ap, true≢false, bytes_eq, is_some, Option, Some, None, option_map}
use Rattle.std.specs.Prelude.{option_and_then, slice_get}
use Rattle.std.specs.Cmp.Lexicographic.{bytes_decides, nat_list_eq_equiv}
use Rattle.serde_json.specs.Data.{Data}
use Rattle.log_baselines.specs.Keys.{has_key}
use Rattle.log_baselines.specs.Results.{partner}
use Rattle.log_baselines.specs.reading.Seen.{first_at}

abbrev or_last : Option ℕ → Bool → ℕ → Option ℕ
or_last (Some at) b n = Some at
or_last None b n = cond b (Some n) None

later : (t b : Bool) (rest rest' : Option ℕ) (n : ℕ) → rest' ≡ or_last rest b n
    → cond t (Some 0) (option_map (λ at. suc at) rest') ≡ or_last (cond t (Some 0) (option_map (λ at. suc at) rest)) b (suc n)
later true b rest rest' n is = refl
later false b (Some at) rest' n is = ap (option_map (λ k. suc k)) is
later false true None rest' n is = ap (option_map (λ k. suc k)) is
later false false None rest' n is = ap (option_map (λ k. suc k)) is

first_at-push : (q key : List ℕ) (keys : List (List ℕ))
    → first_at q (keys ++ key ∷ []) ≡ or_last (first_at q keys) (bytes_eq q key) (length keys)
first_at-push q key [] = refl
first_at-push q key (first ∷ keys) =
    later (bytes_eq q first) (bytes_eq q key) (first_at q keys) (first_at q (keys ++ key ∷ [])) (length keys)
    (first_at-push q key keys)

stays : (b : Bool) (o : Option ℕ) (n : ℕ) → (b ≡ true → is_some o ≡ true) → or_last o b n ≡ o
stays b (Some at) n h = refl
stays true None n h = absurd (true≢false (sym (h refl)))
stays false None n h = refl

comes : (b : Bool) (o : Option ℕ) (n : ℕ) → (b ≡ true → is_some o ≡ false) → cond b (Some n) o ≡ or_last o b n
comes true None n h = refl
comes true (Some at) n h = absurd (true≢false (h refl))
comes false None n h = refl
comes false (Some at) n h = refl

-- a key that stands before changes nothing
pub known : (q key : List ℕ) (keys : List (List ℕ)) → is_some (first_at key keys) ≡ true
    → first_at q (keys ++ key ∷ []) ≡ first_at q keys
known q key keys h =
    first_at-push q key keys
    ∙ stays (bytes_eq q key) (first_at q keys) (length keys)
    (λ t. ap (λ k. is_some (first_at k keys)) ((bytes_decides q key).0 t) ∙ h)

-- a key that does not stands where it is put
pub added : (q key : List ℕ) (keys : List (List ℕ)) → is_some (first_at key keys) ≡ false
    → cond (bytes_eq key q) (Some (length keys)) (first_at q keys) ≡ first_at q (keys ++ key ∷ [])
added q key keys h =
    ap (λ b. cond b (Some (length keys)) (first_at q keys)) (nat_list_eq_equiv.symm key q)
    ∙ comes (bytes_eq q key) (first_at q keys) (length keys)
    (λ t. ap (λ k. is_some (first_at k keys)) ((bytes_decides q key).0 t) ∙ h)
    ∙ sym (first_at-push q key keys)

-- a key stands somewhere
found_or : (t : Bool) (rest : Option ℕ) (r : Bool) → is_some rest ≡ r
    → is_some (cond t (Some 0) (option_map (λ at. suc at) rest)) ≡ (t || r)
found_or true rest r is = refl
found_or false (Some at) r is = is
found_or false None r is = is

pub is_some-first_at : (key : List ℕ) (keys : List (List ℕ)) → is_some (first_at key keys) ≡ has_key keys key
is_some-first_at key [] = refl
is_some-first_at key (first ∷ keys) = found_or (bytes_eq key first) (first_at key keys) _ (is_some-first_at key keys)

-- the old result at the place of a key is its partner
module _ {A : Type 0} (f : A → Data) where
  place_later : (t : Bool) (old : A) (olds : List A) (rest : Option ℕ) (other : Option Data)
      → option_map f (option_and_then (λ at. slice_get olds at) rest) ≡ other
      → option_map f (option_and_then (λ at. slice_get (old ∷ olds) at) (cond t (Some 0) (option_map (λ at. suc at) rest)))
      ≡ cond t (Some (f old)) other
  place_later true old olds rest other is = refl
  place_later false old olds (Some at) other is = is
  place_later false old olds None other is = is

  pub partner_at : (key : List ℕ) (keys : List (List ℕ)) (olds : List A) → length keys ≡ length olds
      → option_map f (option_and_then (λ at. slice_get olds at) (first_at key keys)) ≡ partner key keys (map f olds)
  partner_at key [] olds many = refl
  partner_at key (first ∷ keys) [] many = absurd (omega arith)
  partner_at key (first ∷ keys) (old ∷ olds) many =
      place_later (bytes_eq key first) old olds (first_at key keys) (partner key keys (map f olds))
      (partner_at key keys olds (omega arith))
