-- Runs of stores, and the D numbers of an area. Assumes nothing.
use Rattle.std.proofs.Common.{drop-drop}
use mathlib.Core.Path.{◌≡◌, refl, sym, ◌∙◌, ap}
use mathlib.Core.List.{List, [], ◌∷◌, ◌++◌, append_assoc}
use Prim.Native.Nat.{ℕ, suc, ◌+◌, ◌-◌, ◌≤◌, ◌<◌}
use native.Mathlib.Omega.{arith}
use native.Mathlib.Nat.{add-zero}
use native.Mathlib.Numerals.{add-one, add-two, add-three}
use lib.ListN.{length, take, drop, set, get_or, length-set}
use lib.Seq.{sets, sets-eq, set_comm}
use borrow.Rule.Slice.PartMut.{put_mid}
use Rattle.fixpoint.specs.Sum.{bit}
use Rattle.semantics.specs.Table.{table_from, table}
use Rattle.bits.specs.Words.{has}

-- four numbers in the place of four are a run
four_of : (vs : List ℕ) → length vs ≡ 4 → vs ≡ get_or vs 0 0 ∷ get_or vs 1 0 ∷ get_or vs 2 0 ∷ get_or vs 3 0 ∷ []
four_of [] h = absurd (omega arith)
four_of (a ∷ []) h = absurd (omega arith)
four_of (a ∷ b ∷ []) h = absurd (omega arith)
four_of (a ∷ b ∷ c ∷ []) h = absurd (omega arith)
four_of (a ∷ b ∷ c ∷ d ∷ []) h = refl
four_of (a ∷ b ∷ c ∷ d ∷ e ∷ vs) h = absurd (omega arith)

pub four_sets : (l : List ℕ) (at : ℕ) (vs : List ℕ) → length vs ≡ 4
    → set (set (set (set l at (get_or vs 0 0)) (at + 1) (get_or vs 1 0)) (at + 2) (get_or vs 2 0)) (at + 3) (get_or vs 3 0) ≡ sets l at vs
four_sets l at vs h = rw (add-one, add-two, add-three) (ap (sets l at) (sym (four_of vs h)))

pub run_put : (l : List ℕ) (at : ℕ) (vs : List ℕ) {us : List ℕ} → us ≡ vs → length vs ≡ 4 → at + 4 ≤ length l → put_mid at (at + 4 - at) l us ≡ sets l at vs
run_put l at vs e f h =
    let k : at + (at + 4 - at) ≡ at + length vs = omega arith in
    let room : at + length vs ≤ length l = omega arith in
    rw (e, drop-drop (at + 4 - at) at l, k, ← (append_assoc (take at l) vs (drop (at + length vs) l))) (sym (sets-eq vs l at room))

-- a run behind a run
pub sets_append : (l : List ℕ) (i : ℕ) (us vs : List ℕ) → sets (sets l i us) (i + length us) vs ≡ sets l i (us ++ vs)
sets_append l i [] vs = rw add-zero
sets_append l i (u ∷ us) vs =
    let e : i + suc (length us) ≡ suc i + length us = omega arith in
    rw e (sets_append (set l i u) (suc i) us vs)

-- a run before a run
set_sets : (l : List ℕ) (i j u : ℕ) (vs : List ℕ) → i < j → set (sets l j vs) i u ≡ sets (set l i u) j vs
set_sets l i j u [] h = refl
set_sets l i j u (v ∷ vs) h = set_sets (set l j v) i (suc j) u vs (omega arith) ∙ ap (λ (m : List ℕ). sets m (suc j) vs) (set_comm l j i v u (λ z. omega arith))

pub sets_before : (l : List ℕ) (i : ℕ) (us vs : List ℕ) → sets (sets l (i + length us) vs) i us ≡ sets l i (us ++ vs)
sets_before l i [] vs = rw add-zero
sets_before l i (u ∷ us) vs =
    let e : i + suc (length us) ≡ suc i + length us = omega arith in
    rw e (ap (λ (m : List ℕ). sets m (suc i) us) (set_sets l i (suc i + length us) u vs (omega arith)) ∙ sets_before (set l i u) (suc i) us vs)

-- The D numbers of the n conditions stand in the area for those below c.
pub record Numbering (area₀ : List ℕ) (n : ℕ) (words area : List ℕ) (c : ℕ) : Type 0 where
  pub written : sets area₀ 4 (table n (λ k. bit (has words k))) ≡ sets area (4 + c) (table_from (n - c) c (λ k. bit (has words k)))
  pub same : length area ≡ length area₀
  pub most : c ≤ n

module _ (area₀ : List ℕ) (n : ℕ) (words : List ℕ) {area : List ℕ} {c : ℕ} (w : Numbering area₀ n words area c) where
  pub numbering_next : c < n → {x : ℕ} → x ≡ bit (has words c) → Numbering area₀ n words (set area (4 + c) x) (c + 1)
  unfolding table_from
  numbering_next h {x} z =
      let f : ℕ → ℕ = λ k. bit (has words k) in
      let e : n - c ≡ suc (n - suc c) = omega arith in
      let d : 4 + suc c ≡ suc (4 + c) = omega arith in
      record {
        written = w.written ∙ ap (λ (m : ℕ). sets area (4 + c) (table_from m c f)) e ∙ rw (z, add-one, d);
        same = length-set area (4 + c) x ∙ w.same;
        most = omega arith;
      }

  pub numbering_done : n ≤ c → area ≡ sets area₀ 4 (table n (λ k. bit (has words k)))
  unfolding table_from
  numbering_done h =
      let e : n - c ≡ 0 = omega arith in
      sym (w.written ∙ ap (λ (m : ℕ). sets area (4 + c) (table_from m c (λ k. bit (has words k)))) e)
