-- The loop that wakes heads, in the code's own terms. Assumes nothing.
use mathlib.Core.Path.{◌≡◌, sym, ◌∙◌, ap}
use mathlib.Core.Logic.{◌≢◌, ◌⊎◌, inl, inr, ⊎_elim}
use mathlib.Core.List.{List}
use Prim.Native.Nat.{ℕ, ◌+◌, ◌*◌, ◌≤◌, ◌<◌}
use native.Mathlib.Decide.{ℕ_discrete}
use native.Mathlib.Omega.{arith}
use lib.ListN.{length, get_or, set, length-set}
use lib.Seq.{drop-set-lt}
use Rattle.semantics.specs.RunArea.{mark_at}
use Rattle.worklist.proofs.Stores.{mark_same, mark_other, mark_apart}
use Rattle.worklist.specs.Woken.{Among, HeadsBelow, HeadsIn, HeadsWoken, SetKept}
use Rattle.bits.specs.Words.{Inserted}
use Rattle.worklist.proofs.Matching.{match_inserted}

module _ (heads : List ℕ) where
  module _ {i : ℕ} where
    -- one place more
    among_more : {h : ℕ} → Among heads i h → Among heads (i + 1) h
    among_more (j, l, e) = (j, omega arith, e)

    among_cases : {h : ℕ} → Among heads (i + 1) h → Among heads i h ⊎ (get_or heads i 0 ≡ h)
    among_cases (j, l, e) =
        elim (ℕ_discrete j i) [
          | yes q ↦ inr (ap (λ (k : ℕ). get_or heads k 0) (sym q) ∙ e)
          | no q ↦ inl (j, omega arith, e)
        ]

    fewer : {n : ℕ} → HeadsBelow n heads (i + 1) → HeadsBelow n heads i
    fewer b j l = b j (omega arith)

    module _ {run₀ run : List ℕ} (s : HeadsWoken heads i run₀ run) where
      abbrev head : ℕ
      head = get_or heads i 0

      -- the head waits already, or is not reached
      pub woken_kept : (mark_at run head ≡ 2) ⊎ (mark_at run head ≡ 0) → HeadsWoken heads (i + 1) run₀ run
      woken_kept e =
          record {
            same_length = s.same_length;
            intervals = s.intervals;
            woken = λ h g m. ⊎_elim (λ k. s.woken h k m) (λ q. waits h q m) (among_cases g);
            others = λ h. ⊎_elim (λ q. inl q) (λ q. inr (q.0, q.1, among_more q.2)) (s.others h);
            beyond = λ n b. s.beyond n (fewer b);
          }
        where
          waits : (h : ℕ) → head ≡ h → 1 ≤ mark_at run₀ h → mark_at run h ≡ 2
          waits h q m =
              let z : (mark_at run h ≡ 2) ⊎ (mark_at run h ≡ 0) = rw q at e in
              ⊎_elim (λ k. k) (λ k. ⊎_elim (λ t. absurd (omega arith)) (λ t. t.0) (s.others h)) z

      -- the head is reached, and waits from now on
      module _ (long : 3 * head + 3 ≤ length run) (reached : mark_at run head ≢ 0) where
        abbrev next : List ℕ
        next = set run (3 * head + 2) 2

        reached₀ : 1 ≤ mark_at run₀ head
        reached₀ = ⊎_elim (λ q. pos (mark_at run₀ head) (λ z. reached (q ∙ z))) (λ q. q.1) (s.others head)
          where
            pos : (k : ℕ) → k ≢ 0 → 1 ≤ k
            pos k n = omega arith

        pub woken_next : HeadsWoken heads (i + 1) run₀ next
        woken_next =
            record {
              same_length = length-set run (3 * head + 2) 2 ∙ s.same_length;
              intervals = λ h. mark_apart run head 2 h ∙ s.intervals h;
              woken = λ h g m. elim (ℕ_discrete h head) [
                | yes q ↦ ap (mark_at next) q ∙ mark_same run head 2 long
                | no q ↦ mark_other run head 2 h q ∙ ⊎_elim (λ k. s.woken h k m) (λ k. absurd (q (sym k))) (among_cases g)
              ];
              others = λ h. elim (ℕ_discrete h head) [
                | yes q ↦ inr (ap (mark_at next) q ∙ mark_same run head 2 long, rw q reached₀, (i, omega arith, sym q))
                | no q ↦ ⊎_elim (λ k. inl (mark_other run head 2 h q ∙ k)) (λ k. inr (mark_other run head 2 h q ∙ k.0, k.1, among_more k.2)) (s.others h)
              ];
              beyond = λ n b. drop-set-lt (3 * n) run (3 * head + 2) 2 (omega (arith, b i (omega arith))) ∙ s.beyond n (fewer b);
            }

    module _ {run₀ words₀ run words : List ℕ} (s : SetKept heads i run₀ words₀ run words) where
      pub kept_kept : SetKept heads (i + 1) run₀ words₀ run words
      kept_kept = record { kept = λ n b w. s.kept n (fewer b) w }

      pub kept_next : {words' : List ℕ} → 3 * get_or heads i 0 + 3 ≤ length run → Inserted (get_or heads i 0) words words'
          → SetKept heads (i + 1) run₀ words₀ (set run (3 * get_or heads i 0 + 2) 2) words'
      kept_next long r =
          record {
            kept = λ n b w. match_inserted (s.kept n (fewer b) w) r (b i (omega arith)) (mark_same run (get_or heads i 0) 2 long)
                (λ k l q. mark_other run (get_or heads i 0) 2 k q);
          }

-- the head at a place still to come
pub head_in : {heads run₀ run : List ℕ} {i : ℕ} → HeadsIn heads run₀ → HeadsWoken heads i run₀ run → i < length heads → (get_or heads i 0 < 512) × (3 * get_or heads i 0 + 3 ≤ length run)
head_in {i = i} p s l = (p.few i l, omega (arith, p.long i l, s.same_length))

-- the head h behind the first i: it waits already or is not reached, or it is reached and waits from now on
module _ {heads run₀ words₀ run words : List ℕ} (i : ℕ) {h : ℕ} (e : h ≡ get_or heads i 0) (s : HeadsWoken heads i run₀ run) (k : SetKept heads i run₀ words₀ run words) where
  pub head_stays : (mark_at run h ≡ 2) ⊎ (mark_at run h ≡ 0) → HeadsWoken heads (i + 1) run₀ run × SetKept heads (i + 1) run₀ words₀ run words
  head_stays m = (woken_kept heads s (rw e at m), kept_kept heads k)

  pub head_wakes : 3 * h + 3 ≤ length run → mark_at run h ≢ 0 → {words' : List ℕ} → Inserted h words words'
      → HeadsWoken heads (i + 1) run₀ (set run (3 * h + 2) 2) × SetKept heads (i + 1) run₀ words₀ (set run (3 * h + 2) 2) words'
  head_wakes l m r = rw e (woken_next heads s (rw e at l) (rw e at m), kept_next heads k (rw e at l) (rw e at r))
