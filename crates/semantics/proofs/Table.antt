-- Lists that hold the values of a function. Assumes nothing.
use mathlib.Core.Path.{◌≡◌, refl, sym, ◌∙◌, ap}
use mathlib.Core.Logic.{◌⊎◌, inl, inr}
use mathlib.Core.Bool.{Bool, true, false, ◌&&◌, ◌||◌, false≢true, or-true}
use mathlib.Core.List.{List}
use Prim.Native.Nat.{ℕ, zero, suc, ◌+◌, ◌<◌}
use native.Mathlib.Decide.{ℕ_discrete}
use native.Mathlib.Omega.{arith}
use lib.ListN.{length, get_or}
use lib.Seq.{ext_get_or}
use Rattle.semantics.specs.Table.{table_from, table, any_below, all_below}

pub length_from : {A : Type 0} (n k : ℕ) (f : ℕ → A) → length (table_from n k f) ≡ n
unfolding table_from
length_from zero k f = refl
length_from (suc n) k f = ap suc (length_from n (suc k) f)

get_d_from : {A : Type 0} (n k : ℕ) (f : ℕ → A) (i : ℕ) (d : A) → i < n → get_or (table_from n k f) i d ≡ f (k + i)
unfolding table_from
get_d_from zero k f i d l = absurd (omega arith)
get_d_from (suc n) k f zero d l = ap f (omega arith)
get_d_from (suc n) k f (suc i) d l = get_d_from n (suc k) f i d (omega arith) ∙ ap f (omega arith)

pub get_d_table : {A : Type 0} (n : ℕ) (f : ℕ → A) (i : ℕ) (d : A) → i < n → get_or (table n f) i d ≡ f i
get_d_table n f i d l = get_d_from n 0 f i d l ∙ ap f (omega arith)

-- a list with these values is their table
pub table_is : {A : Type 0} (d : A) (t : List A) (n : ℕ) (f : ℕ → A) → length t ≡ n → ((i : ℕ) → i < n → get_or t i d ≡ f i) → table n f ≡ t
table_is d t n f e h =
    ext_get_or d (table n f) t (length_from n 0 f ∙ sym e)
    (λ i l. get_d_table n f i d (rw (length_from n 0 f) at l) ∙ sym (h i (rw (length_from n 0 f) at l)))

-- a list is the table of its own values
pub table_back : {A : Type 0} (d : A) (t : List A) (n : ℕ) → length t ≡ n → table n (λ c. get_or t c d) ≡ t
table_back d t n e = table_is d t n (λ c. get_or t c d) e (λ i l. refl)

pub or_cases : (a b : Bool) → (a || b) ≡ true → (a ≡ true) ⊎ (b ≡ true)
or_cases true b e = inl refl
or_cases false b e = inr e

pub iff_eq : (a b : Bool) → (a ≡ true → b ≡ true) → (b ≡ true → a ≡ true) → a ≡ b
iff_eq true b f g = sym (f refl)
iff_eq false true f g = g refl
iff_eq false false f g = refl

pub any_true : (n : ℕ) (p : ℕ → Bool) (a : ℕ) → a < n → p a ≡ true → any_below n p ≡ true
unfolding any_below
any_true zero p a l e = absurd (omega arith)
any_true (suc n) p a l e =
    elim (ℕ_discrete a n) [
      | yes q ↦ rw (sym (ap p q) ∙ e, or-true)
      | no q ↦ rw (any_true n p a (omega arith) e)
    ]

pub any_found : (n : ℕ) (p : ℕ → Bool) → any_below n p ≡ true → (a : ℕ) × (a < n) × (p a ≡ true)
unfolding any_below
any_found zero p e = absurd (false≢true e)
any_found (suc n) p e =
    elim (or_cases (any_below n p) (p n) e) [
      | inl h ↦ let f = any_found n p h in (f.0, omega arith, f.2)
      | inr h ↦ (n, omega arith, h)
    ]

pub all_true : (n : ℕ) (p : ℕ → Bool) → ((i : ℕ) → i < n → p i ≡ true) → all_below n p ≡ true
unfolding all_below
all_true zero p h = refl
all_true (suc n) p h = rw (all_true n p (λ i l. h i (omega arith)), h n (omega arith))

and_left : (a b : Bool) → (a && b) ≡ true → a ≡ true
and_left true b e = refl
and_left false b e = e

and_right : (a b : Bool) → (a && b) ≡ true → b ≡ true
and_right true b e = e
and_right false b e = absurd (false≢true e)

pub all_at : (n : ℕ) (p : ℕ → Bool) → all_below n p ≡ true → (i : ℕ) → i < n → p i ≡ true
unfolding all_below
all_at zero p e i l = absurd (omega arith)
all_at (suc n) p e i l =
    elim (ℕ_discrete i n) [
      | yes q ↦ rw q (and_right (all_below n p) (p n) e)
      | no q ↦ all_at n p (and_left (all_below n p) (p n) e) i (omega arith)
    ]
