-- Chains: joined, turned round, and around a circle.
use Rattle.tm_soundness.specs.Known.{Chain, one_step, more_steps}

pub joined : {A : Type 0} (R : A → A → Type 0) (a b c : A) → Chain R a b → Chain R b c → Chain R a c
joined R a b c (one_step h) rest = more_steps h rest
joined R a b c (more_steps {b = d} h more) rest = more_steps h (joined R d b c more rest)

pub mapped : {A : Type 0} (R S : A → A → Type 0) → ((x y : A) → R x y → S x y) → (a b : A) → Chain R a b → Chain S a b
mapped R S f a b (one_step h) = one_step (f a b h)
mapped R S f a b (more_steps {b = d} h rest) = more_steps (f a d h) (mapped R S f d b rest)

pub turned : {A : Type 0} (R S : A → A → Type 0) → ((x y : A) → R x y → S y x) → (a b : A) → Chain R a b → Chain S b a
turned R S f a b (one_step h) = one_step (f a b h)
turned R S f a b (more_steps {b = d} h rest) = joined S b d a (turned R S f d b rest) (one_step (f a d h))

-- a circle leads on to a circle
pub next : {A : Type 0} (R : A → A → Type 0) (a : A) → Chain R a a → (b : A) × (R a b) × Chain R b b
next R a (one_step h) = (a, h, one_step h)
next R a (more_steps {b = d} h rest) = (d, h, joined R d a d rest (one_step h))

-- a chain from a circle back to its beginning goes over circles alone
pub around : {A : Type 0} (R : A → A → Type 0) (P : A → Type 0) → ((x : A) → Chain R x x → P x) → (S : A → A → Type 0)
    → ((x y : A) → P y → R x y → S x y) → (a x : A) → Chain R a x → Chain R x a → Chain S x a
around R P each S f a x there (one_step h) = one_step (f x a (each a (joined R a x a there (one_step h))) h)
around R P each S f a x there (more_steps {b = d} h rest) =
    let to : Chain R a d = joined R a x d there (one_step h) in
    more_steps (f x d (each d (joined R d a d rest to)) h) (around R P each S f a d to rest)
