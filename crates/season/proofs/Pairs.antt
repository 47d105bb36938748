-- The pairs of a list of numbers, as its parts of two numbers give them, and the first bad one among them. Assumes nothing.
use mathlib.Core.Bool.{true, false}
use mathlib.Core.Path.{◌≡◌, refl, ◌∙◌, ap, subst}
use mathlib.Core.List.{List, [], ◌∷◌, ◌++◌, map}
use Prim.Native.Nat.{ℕ, zero, suc, ◌+◌, ◌≤◌, ◌<◌}
use native.Mathlib.Omega.{arith}
use lib.ListN.{length, get_or, drop}
use Rattle.std.specs.Prelude.{Some, None, MatchOption}
use Rattle.std.specs.Prelude as code
use Rattle.std.specs.Option.{option_map}
use Rattle.std.specs.List.{AllWithin, HoldsAt}
use Rattle.std.specs.Slice.Iter.{chunks_exact_rest, chunks_exact_size, chunks_exact_steps}
use Rattle.std.proofs.lemmas.Iterator.{YieldsList}
use Rattle.std.proofs.lemmas.Iterator.Splits.{YieldsList-from_shown_while}
use Rattle.fixpoint.specs.Interval.{Interval}
use Rattle.semantics.specs.ReadPage.{leftmost}
use Rattle.semantics.specs.Season.{pairs_in, bad_pair, pair_causes}
use Rattle.season.specs.Answer.{fault_at}

-- the pair of a part
abbrev pub pair_of : List ℕ → Interval
pair_of part = record { low = get_or part 0 0; high = get_or part 1 0 }

-- a part at the front of a list
pub pairs_on : (s part rest : List ℕ) → s ≡ part ++ rest → length part ≡ 2 → pairs_in s ≡ pair_of part ∷ pairs_in rest
unfolding pairs_in
pairs_on s (l ∷ h ∷ []) rest e f = ap pairs_in e
pairs_on s [] rest e f = absurd (omega arith)
pairs_on s (l ∷ []) rest e f = absurd (omega arith)
pairs_on s (l ∷ h ∷ x ∷ xs) rest e f = absurd (omega arith)

pub pairs_front : (s : List ℕ) → 2 ≤ length s → pairs_in s ≡ pair_of s ∷ pairs_in (drop 2 s)
unfolding pairs_in
pairs_front [] h = absurd (omega arith)
pairs_front (x ∷ []) h = absurd (omega arith)
pairs_front (x ∷ y ∷ s) h = refl

-- no part is left
pub pairs_end : (s : List ℕ) → length s < 2 → pairs_in s ≡ []
unfolding pairs_in
pairs_end [] h = refl
pairs_end (x ∷ []) h = refl
pairs_end (x ∷ y ∷ s) h = absurd (omega arith)

pub gives_pairs : {parts : _} (s : List ℕ) → chunks_exact_size parts ≡ 2 → chunks_exact_rest parts ≡ s → YieldsList chunks_exact_steps (λ x. pair_of x.now) parts (pairs_in s)
gives_pairs {parts} s f e =
    subst (λ (q : List ℕ). YieldsList chunks_exact_steps (λ x. pair_of x.now) parts (pairs_in q)) e
    (YieldsList-from_shown_while chunks_exact_steps (λ x. pair_of x.now) (λ parts. pairs_in (chunks_exact_rest parts)) (λ parts. chunks_exact_size parts ≡ 2)
    (λ s t p h. ap length (pairs_end (chunks_exact_rest s) (omega (arith, p, h.1.0))))
    (λ s x t p h. (h.0 ∙ p, pairs_on _ _ _ h.1.0 (h.1.1 ∙ p)))
    parts f)

-- the first bad pair of some, which are those from place k on
pub first_place : (k : ℕ) (ps : List Interval) (r : code.Option ℕ)
    → MatchOption r (AllWithin (λ p. bad_pair p ≡ false) ps 0 (length ps)) (λ i. (i < length ps) × HoldsAt (λ p. bad_pair p ≡ true) ps i × AllWithin (λ p. bad_pair p ≡ false) ps 0 i)
    → leftmost k (map pair_causes ps) ≡ fault_at (option_map (λ i. i + k) r)
unfolding leftmost
first_place k [] None a = refl
first_place k [] (Some i) a = absurd (omega (arith, a.0))
first_place k (p ∷ ps) None a = rw (a 0 p (omega arith) (omega arith)) (first_place (suc k) ps None (λ j d l m. a (suc j) d (omega arith) (omega arith)))
first_place k (p ∷ ps) (Some zero) a = let e : 0 + k ≡ k = omega arith in rw (a.1 p, e) refl
first_place k (p ∷ ps) (Some (suc i)) a =
    let e : i + suc k ≡ suc i + k = omega arith in
    rw (a.2 0 p (omega arith) (omega arith)) (rw e at (first_place (suc k) ps (Some i) (omega (arith, a.0), λ d. a.1 d, λ j d l m. a.2 (suc j) d (omega arith) (omega arith))))
