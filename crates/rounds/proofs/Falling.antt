-- The high ends of the conditions that are unknown by default fall, one after the other. Assumes nothing.
use mathlib.Core.Path.{◌≡◌, sym, ◌∙◌, ap, subst}
use mathlib.Core.Logic.{◌≢◌, ◌⊎◌, inl, inr, ⊎_elim}
use mathlib.Core.Bool.{Bool, true, false, ◌||◌, or-true, or-false, true≢false}
use Rattle.fixpoint.proofs.Cond.{by_bool}
use mathlib.Core.List.{List}
use Prim.Native.Nat.{ℕ, ◌+◌, ◌*◌, ◌-◌, ◌≤◌, ◌<◌}
use native.Mathlib.Decide.{ℕ_discrete}
use native.Mathlib.Omega.{arith}
use lib.ListN.{length, get_or, set, drop, length-set}
use lib.Seq.{get_or-set_same, get_or-set_other, drop-set-lt}
use Rattle.semantics.specs.Area.{page_of, top_of, conditions_of}
use Rattle.page.specs.Solvable.{solvable}
use Rattle.page.proofs.Head.{head_of}
use Rattle.bits.specs.Words.{has}
use Rattle.index.specs.Readers.{lines_read}
use Rattle.index.proofs.Readers.{reads_below}
use Rattle.settle.specs.Waiting.{WaitSet}
use Rattle.unknowns.specs.NextHighs.{sought}
use Rattle.rounds.specs.Round.{Renegated, Fallible, Falls, Lowered}
use Rattle.rounds.proofs.Starting.{upto}

module _ (a : List ℕ) (m : List Bool) (indexed : Bool) (next s₀ words₀ : List ℕ) where
  abbrev n : ℕ
  n = conditions_of a

  abbrev high : List ℕ → ℕ → ℕ
  high s d = get_or s (2 * conditions_of a + 2 * d) 0

  -- what became of the high end of d
  abbrev Either : List ℕ → ℕ → Type 0
  Either s d = (high s d ≡ high s₀ d) ⊎ (Falls a m next s₀ d × (high s d ≡ get_or next d 0))

  -- whoever negates d is woken, if its high end is another
  abbrev WokenFor : (s words : List ℕ) → ℕ → Type 0
  WokenFor s words d = high s d ≢ high s₀ d → (h : ℕ) → lines_read (2 * d + 1) (page_of a).lines h ≡ true → has words h ≡ true

  pub record Falling (s words : List ℕ) (fell : Bool) (c : ℕ) : Type 0 where
    pub sound : solvable a ≡ true
    pub ready : Fallible a m next s₀ words₀
    pub within : c ≤ n
    pub same_length : length s ≡ length s₀
    pub lows : (d : ℕ) → d < n → get_or s (2 * d) 0 ≡ get_or s₀ (2 * d) 0
    pub behind : (d : ℕ) → c ≤ d → high s d ≡ high s₀ d
    pub falls : (d : ℕ) → d < c → Either s d
    pub down : (d : ℕ) → d < c → sought a m d ≡ true → high s d ≤ get_or next d 0
    pub negated : (d : ℕ) → d < n → get_or s (2 * d + 1) 0 ≡ top_of a - high s d
    pub beyond : drop (4 * n) s ≡ drop (4 * n) s₀
    pub set_in : WaitSet n words
    pub woken : (indexed ≡ false) ⊎ ((d : ℕ) → d < c → WokenFor s words d)
    pub still : fell ≡ false → (d : ℕ) → d < n → high s d ≡ high s₀ d
    pub moves : fell ≡ true → (d : ℕ) × (d < c) × Falls a m next s₀ d × (high s d ≡ get_or next d 0)

  module _ {s words : List ℕ} {fell : Bool} {c : ℕ} (v : Falling s words fell c) (l : c < n) where
    pub high_in : high s c ≤ top_of a
    high_in = omega (arith, v.behind c (omega arith), v.ready.within c l)

    pub falling_long : 4 * n ≤ length s
    falling_long = omega (arith, v.same_length, v.ready.long)

    module _ {s' words' : List ℕ} {t : Bool} (r : Lowered a m indexed next c s s' words words' t) where
      -- it stays
      falling_still : t ≡ false → Falling s' words' fell (c + 1)
      falling_still z =
          let q = r.still z in
          let same : high s c ≡ high s₀ c = v.behind c (omega arith) in
          rw (q.0, q.1) (record {
            sound = v.sound;
            ready = v.ready;
            within = omega arith;
            same_length = v.same_length;
            lows = v.lows;
            behind = λ d k. v.behind d (omega arith);
            falls = upto (Either s) c v.falls (inl same);
            down = upto (λ d. sought a m d ≡ true → high s d ≤ get_or next d 0) c v.down q.2;
            negated = v.negated;
            beyond = v.beyond;
            set_in = v.set_in;
            woken = ⊎_elim (λ y. inl y) (λ f. inr (upto (WokenFor s words) c f (λ x. absurd (x same)))) v.woken;
            still = v.still;
            moves = λ y. let p = v.moves y in (p.0, omega (arith, p.1), p.2, p.3);
          })

      -- it falls
      module _ (z : t ≡ true) where
        abbrev i : ℕ
        i = 2 * conditions_of a + 2 * c

        x : ℕ
        x = get_or next c 0

        s₁ : List ℕ
        s₁ = set s (2 * conditions_of a + 2 * c) (get_or next c 0)

        renegated : Renegated a indexed c s₁ s' words words'
        unfolding s₁
        renegated = (r.falls z).1

        y : ℕ
        y = top_of a - get_or s₁ (2 * conditions_of a + 2 * c) 0

        s_is : s' ≡ set s₁ (2 * c + 1) y
        unfolding y
        s_is = renegated.stored

        here₁ : get_or s₁ i 0 ≡ x
        unfolding s₁ x
        here₁ = get_or-set_same s i (get_or next c 0) 0 (omega (arith, falling_long))

        rest : (j : ℕ) → j ≢ i → j ≢ 2 * c + 1 → get_or s' j 0 ≡ get_or s j 0
        unfolding s₁
        rest j p q = ap (λ (u : List ℕ). get_or u j 0) s_is ∙ get_or-set_other s₁ (2 * c + 1) j y 0 q ∙ get_or-set_other s i j (get_or next c 0) 0 p

        high_here : high s' c ≡ x
        high_here = ap (λ (u : List ℕ). get_or u i 0) s_is ∙ get_or-set_other s₁ (2 * c + 1) i y 0 (λ q. omega arith) ∙ here₁

        high_else : (d : ℕ) → d ≢ c → high s' d ≡ high s d
        high_else d p = rest (2 * n + 2 * d) (λ q. p (omega arith)) (λ q. omega arith)

        number_here : get_or s' (2 * c + 1) 0 ≡ top_of a - high s' c
        unfolding y s₁
        number_here =
            ap (λ (u : List ℕ). get_or u (2 * c + 1) 0) s_is ∙ get_or-set_same s₁ (2 * c + 1) y 0 (rw length-set (omega (arith, falling_long)))
            ∙ ap (λ (u : ℕ). top_of a - u) (here₁ ∙ sym high_here)

        falls_here : Falls a m next s₀ c
        falls_here = ((r.falls z).0.0, omega (arith, (r.falls z).0.1, v.behind c (omega arith)))

        -- the number of the negation is another, so whoever negates c is woken
        next_woken : (indexed ≡ false) ⊎ ((d : ℕ) → d < c + 1 → WokenFor s' words' d)
        unfolding s₁ x
        next_woken =
            elim v.woken [
              | inl e ↦ inl e
              | inr f ↦ elim renegated.woken [
                | inl e ↦ inl e
                | inr g ↦ inr (upto (WokenFor s' words') c
                    (λ d k p h q. renegated.kept h (omega (arith, (head_of a v.sound).few, reads_below a v.sound (2 * d + 1) h q))
                    (f d k (λ e. p (high_else d (λ o. omega arith) ∙ e)) h q))
                    (λ p h q. g another h q))
              ]
            ]
          where
            another : get_or s₁ (2 * c + 1) 0 ≢ top_of a - get_or s₁ (2 * conditions_of a + 2 * c) 0
            another e = omega (arith, e, get_or-set_other s i (2 * c + 1) (get_or next c 0) 0 (λ q. omega arith), v.negated c l, here₁, high_in, (r.falls z).0.1)

        falling_fell : Falling s' words' true (c + 1)
        unfolding x s₁
        falling_fell =
            record {
              sound = v.sound;
              ready = v.ready;
              within = omega arith;
              same_length = ap length s_is ∙ length-set s₁ (2 * c + 1) y ∙ length-set s i (get_or next c 0) ∙ v.same_length;
              lows = λ d k. rest (2 * d) (λ q. omega arith) (λ q. omega arith) ∙ v.lows d k;
              behind = λ d k. high_else d (λ q. omega arith) ∙ v.behind d (omega arith);
              falls = upto (Either s') c (λ d k. let e = high_else d (λ q. omega arith) in ⊎_elim (λ o. inl (e ∙ o)) (λ o. inr (o.0, e ∙ o.1)) (v.falls d k)) (inr (falls_here, high_here));
              down = upto (λ d. sought a m d ≡ true → high s' d ≤ get_or next d 0) c (λ d k q. omega (arith, high_else d (λ o. omega arith), v.down d k q)) (λ q. omega (arith, high_here));
              negated = λ d k. elim (ℕ_discrete d c) [
                | yes e ↦ subst (λ (b : ℕ). get_or s' (2 * b + 1) 0 ≡ top_of a - high s' b) (sym e) number_here
                | no e ↦ rest (2 * d + 1) (λ q. omega arith) (λ q. e (omega arith)) ∙ v.negated d k ∙ ap (λ (u : ℕ). top_of a - u) (sym (high_else d e))
              ];
              beyond = ap (drop (4 * n)) s_is ∙ drop-set-lt (4 * n) s₁ (2 * c + 1) y (omega arith) ∙ drop-set-lt (4 * n) s i (get_or next c 0) (omega arith) ∙ v.beyond;
              set_in = renegated.set_in;
              woken = next_woken;
              still = λ e. absurd (true≢false e);
              moves = λ e. (c, omega arith, falls_here, high_here);
            }

  pub falling_next : {s words : List ℕ} {fell : Bool} {c : ℕ} → Falling s words fell c → c < n → {s' words' : List ℕ} {t : Bool} → Lowered a m indexed next c s s' words words' t
      → Falling s' words' (fell || t) (c + 1)
  falling_next {fell = fell} v l {t = t} r =
      by_bool t (λ z. rw (z, or-true) (falling_fell v l r z)) (λ z. rw (z, or-false) (falling_still v l r z))
