-- Layers by raising, pass by pass: C passes are enough, the last of which changes nothing, or a chain through a negation leads back. Assumes nothing.
use mathlib.Core.Path.{◌≡◌, sym, ◌∙◌, subst}
use mathlib.Core.Bool.{true}
use mathlib.Core.Logic.{◌⊎◌, inl, inr}
use Prim.Native.Nat.{ℕ, suc, ◌≤◌, ◌<◌, max}
use native.Mathlib.Decide.{ℕ_discrete}
use native.Mathlib.Omega.{arith}
use Rattle.fixpoint.specs.LeastFixpoint.{iter}
use Rattle.semantics.specs.Page.{Page, names}
use Rattle.semantics.proofs.Proper.{Proper}
use Rattle.semantics.proofs.Readings.{names_inside}
use Rattle.semantics.specs.Layers.{negates, Loops, LowestLoop, Layers, LeastLayers}
use Rattle.semantics.proofs.Walks.{lift, layer}
use Rattle.semantics.proofs.WalkRounds.{enough, above_first, above_next}
use Rattle.semantics.proofs.Layers.{namer_inside, negates_names, loop_no_layers, loop_or_layers, free_passed, walk_chain}

-- no layer of v is above that of any layers: v was raised only where the rules ask for it
pub record Founded (page : Page) (v : ℕ → ℕ) : Type 0 where
  pub founded : (m : ℕ → ℕ) → Layers page m → (c : ℕ) → c < page.conditions → v c ≤ m c

-- all at 0, and one raise
pub zero_founded : (page : Page) (v : ℕ → ℕ) → ((c : ℕ) → c < page.conditions → v c ≡ 0) → Founded page v
zero_founded page v h = record { founded = λ m k c l. omega (arith, h c l) }

module _ (page : Page) (w : Proper page) where
  abbrev n : ℕ
  n = page.conditions

  -- u is v but at a, where it is v b, for a that names b, or one more, for a that negates b
  pub name_founded : (v u : ℕ → ℕ) (a b : ℕ) → Founded page v → names page a b ≡ true → u a ≤ max (v a) (v b)
      → ((c : ℕ) → c < n → ¬ (c ≡ a) → u c ≤ v c) → Founded page u
  name_founded v u a b f e r s = record { founded = λ m h c l. go m h c l (ℕ_discrete c a) }
    where
      go : (m : ℕ → ℕ) → Layers page m → (c : ℕ) → c < n → Dec (c ≡ a) → u c ≤ m c
      go m h c l (yes q) =
          subst (λ (k : ℕ). u k ≤ m k) (sym q)
          (omega (arith, f.founded m h a (namer_inside page w a b e), f.founded m h b (names_inside page w a b e), h.named a b e))
      go m h c l (no q) = omega (arith, s c l q, f.founded m h c l)

  pub negate_founded : (v u : ℕ → ℕ) (a b : ℕ) → Founded page v → negates page a b ≡ true → u a ≤ max (v a) (suc (v b))
      → ((c : ℕ) → c < n → ¬ (c ≡ a) → u c ≤ v c) → Founded page u
  negate_founded v u a b f e r s = record { founded = λ m h c l. go m h c l (ℕ_discrete c a) }
    where
      go : (m : ℕ → ℕ) → Layers page m → (c : ℕ) → c < n → Dec (c ≡ a) → u c ≤ m c
      go m h c l (yes q) =
          let g = negates_names page a b e in
          subst (λ (k : ℕ). u k ≤ m k) (sym q)
          (omega (arith, f.founded m h a (namer_inside page w a b g), f.founded m h b (names_inside page w a b g), h.negated a b e))
      go m h c l (no q) = omega (arith, s c l q, f.founded m h c l)

  -- founded and asking for no raise: the least layers
  pub still_least : (v : ℕ → ℕ) → Founded page v → Layers page v → LeastLayers page v
  still_least v f h = record { layers = h; least = f.founded }

  -- a founded layer of C or more: a chain leads back
  pub high_loops : (v : ℕ → ℕ) → Founded page v → (c : ℕ) → c < n → n ≤ v c → (b : ℕ) × LowestLoop page b
  high_loops v f c l h =
      elim (loop_or_layers page w) [
        | inl r ↦ r
        | inr r ↦ absurd (omega (arith, f.founded r.0 r.1.is_least.layers c l, r.1.below c l))
      ]

  -- What a pass makes of the table v. It may work in place, in any order: it raises only where the rules ask for it,
  -- and each condition at least to what its rules ask of v.
  pub record Pass (v u : ℕ → ℕ) : Type 0 where
    pub based : Founded page u
    pub names_raise : (a b : ℕ) → names page a b ≡ true → v b ≤ u a
    pub negates_raise : (a b : ℕ) → negates page a b ≡ true → v b < u a

  -- the table after k passes from all 0: founded, and not behind round k of the layers' iteration
  pub record After (k : ℕ) (v : ℕ → ℕ) : Type 0 where
    pub based : Founded page v
    pub not_behind : (c : ℕ) → c < n → (iter n (lift n (names page) (negates page)) k c).low ≤ v c

  pub after_none : (v : ℕ → ℕ) → ((c : ℕ) → c < n → v c ≡ 0) → After 0 v
  after_none v h = record { based = zero_founded page v h; not_behind = λ c l. above_first n (names page) (negates page) v c }

  pub after_pass : {k : ℕ} {v u : ℕ → ℕ} → After k v → Pass v u → After (suc k) u
  after_pass {k} {v} {u} r p =
      record {
        based = p.based;
        not_behind = above_next n (names page) (negates page) v u k r.not_behind (λ a b i o e. p.names_raise a b e) (λ a b i o e. p.negates_raise a b e);
      }

  -- a pass that changes nothing has found the least layers
  pub pass_still : {v u : ℕ → ℕ} → Founded page v → Pass v u → ((c : ℕ) → c < n → u c ≡ v c) → LeastLayers page v
  pass_still {v} {u} f p e =
      still_least v f
      (record {
        named = λ a b i. omega (arith, p.names_raise a b i, e a (namer_inside page w a b i));
        negated = λ a b i. omega (arith, p.negates_raise a b i, e a (namer_inside page w a b (negates_names page a b i)));
      })

  -- on a page that passes, C - 1 passes have found the least layers
  pub after_enough : {k : ℕ} {v : ℕ → ℕ} → After k v → n ≤ suc k → ((c : ℕ) → ¬ Loops page c)
      → (c : ℕ) → c < n → v c ≡ layer n (names page) (negates page) c
  after_enough {k} {v} r m free c l =
      omega (
        arith,
        r.based.founded _ (free_passed page w free).is_least.layers c l,
        r.not_behind c l,
        enough n (names page) (negates page) (λ a i x. free a (walk_chain page w x)) w.conditions_least k m c l,
      )

  -- so pass C changes nothing, or shows that a chain leads back
  pub late_change : {k : ℕ} {v u : ℕ → ℕ} → After k v → n ≤ suc k → Pass v u → (c : ℕ) → c < n → ¬ (u c ≡ v c) → (b : ℕ) × LowestLoop page b
  late_change {k} {v} {u} r m p c l d =
      elim (loop_or_layers page w) [
        | inl q ↦ q
        | inr q ↦
            let free : (b : ℕ) → ¬ Loops page b = λ b x. loop_no_layers x q.1.is_least.layers in
            absurd (d (after_enough (after_pass r p) (omega arith) free c l ∙ sym (after_enough r m free c l)))
      ]

  -- after C - 1 passes the table has the least layers, or a chain leads back
  pub after_decides : {k : ℕ} {v : ℕ → ℕ} → After k v → n ≤ suc k → LeastLayers page v ⊎ ((b : ℕ) × LowestLoop page b)
  after_decides {k} {v} r m = elim (loop_or_layers page w) [ inl q ↦ inr q | inr q ↦ inl (least (λ b x. loop_no_layers x q.1.is_least.layers)) ]
    where
      least : ((c : ℕ) → ¬ Loops page c) → LeastLayers page v
      least free =
          let g = (free_passed page w free).is_least.layers in
          still_least v r.based
          (record {
            named = λ a b e. omega (arith, g.named a b e, after_enough r m free a (namer_inside page w a b e), after_enough r m free b (names_inside page w a b e));
            negated = λ a b e.
                let f = negates_names page a b e in
                omega (arith, g.negated a b e, after_enough r m free a (namer_inside page w a b f), after_enough r m free b (names_inside page w a b f));
          })
