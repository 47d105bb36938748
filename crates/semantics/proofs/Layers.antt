-- A proper page has least layers exactly where no chain through a negation leads back. Assumes nothing.
use mathlib.Core.Path.{◌≡◌, refl}
use mathlib.Core.Logic.{◌⊎◌, inl, inr, ◌↔◌}
use mathlib.Core.Bool.{Bool, true, false, ◌&&◌, ◌||◌, false≢true, or-true}
use mathlib.Core.List.{List, [], ◌∷◌}
use Prim.Native.Nat.{ℕ, suc, ◌+◌, ◌≤◌, ◌<◌}
use native.Mathlib.Decide.{dec_le}
use native.Mathlib.Omega.{arith}
use lib.Dec.{eqb}
use borrow.Author.Tests.{eqb-true}
use Rattle.fixpoint.specs.Sum.{bit}
use Rattle.semantics.specs.Page.{Literal, positive, negative, mentions, Line, fact, rule, query, default, lines_name, Page, names}
use Rattle.semantics.proofs.Proper.{AllInRange, Proper}
use Rattle.semantics.proofs.Readings.{names_inside}
use Rattle.semantics.proofs.Soundness.{both_true}
use Rattle.semantics.proofs.Table.{or_cases}
use Rattle.semantics.specs.Layers.{denies, lines_negate, negates, Chain, empty, name, negate, Loops, LowestLoop, Layers, LeastLayers}
use Rattle.semantics.proofs.Walks.{Walk, stay, by_name, by_denial, LayersOn, far, far_walk, layer, free_layers, loop?, lowest}

pub or_left : (a b : Bool) → a ≡ true → (a || b) ≡ true
or_left a b e = rw e

pub or_right : (a b : Bool) → b ≡ true → (a || b) ≡ true
or_right a b e = rw (e, or-true)

-- what is negated is named
denies_mentions : (ls : List Literal) (b : ℕ) → denies ls b ≡ true → mentions ls b ≡ true
unfolding denies mentions
denies_mentions [] b e = e
denies_mentions (positive c ∷ ls) b e = or_right (eqb c b) (mentions ls b) (denies_mentions ls b e)
denies_mentions (negative c ∷ ls) b e =
    elim (or_cases (eqb c b) (denies ls b) e) [
      | inl h ↦ or_left (eqb c b) (mentions ls b) h
      | inr h ↦ or_right (eqb c b) (mentions ls b) (denies_mentions ls b h)
    ]

lines_negate_name : (ls : List Line) (a b : ℕ) → lines_negate ls a b ≡ true → lines_name ls a b ≡ true
unfolding lines_negate lines_name
lines_negate_name [] a b e = e
lines_negate_name (fact c l h ∷ ls) a b e = lines_negate_name ls a b e
lines_negate_name (rule c w op lits ∷ ls) a b e =
    elim (or_cases (eqb c a && denies lits b) (lines_negate ls a b) e) [
      | inl h ↦
          let g = both_true (eqb c a) (denies lits b) h in
          or_left (eqb c a && mentions lits b) (lines_name ls a b) (rw (g.0, denies_mentions lits b g.1))
      | inr h ↦ or_right (eqb c a && mentions lits b) (lines_name ls a b) (lines_negate_name ls a b h)
    ]
lines_negate_name (query r c ∷ ls) a b e = lines_negate_name ls a b e
lines_negate_name (default c ∷ ls) a b e = lines_negate_name ls a b e

pub negates_names : (page : Page) (a b : ℕ) → negates page a b ≡ true → names page a b ≡ true
negates_names page = lines_negate_name page.lines

-- only conditions have rules
head_inside : (top n : ℕ) (ls : List Line) → AllInRange top n ls → (a b : ℕ) → lines_name ls a b ≡ true → a < n
unfolding lines_name
head_inside top n [] w a b e = absurd (false≢true e)
head_inside top n (fact c l h ∷ ls) w a b e = head_inside top n ls w.1 a b e
head_inside top n (rule c v op lits ∷ ls) w a b e =
    elim (or_cases (eqb c a && mentions lits b) (lines_name ls a b) e) [
      | inl h ↦ omega (arith, eqb-true c a (both_true (eqb c a) (mentions lits b) h).0, w.0.0)
      | inr h ↦ head_inside top n ls w.1 a b h
    ]
head_inside top n (query r c ∷ ls) w a b e = head_inside top n ls w.1 a b e
head_inside top n (default c ∷ ls) w a b e = head_inside top n ls w.1 a b e

-- layers fall along a chain, and more so through a negation
chain_falls : {page : Page} {lay : ℕ → ℕ} → Layers page lay → {a b : ℕ} {t : Bool} → Chain page a b t → lay b + bit t ≤ lay a
chain_falls h empty = omega arith
chain_falls h (name {a = a} {b = b} e w) = omega (arith, chain_falls h w, h.named a b e)
chain_falls h (negate {a = a} {b = b} e w) = omega (arith, chain_falls h w, h.negated a b e)

-- a page with a loop has no layers
pub loop_no_layers : {page : Page} {lay : ℕ → ℕ} {c : ℕ} → Loops page c → ¬ Layers page lay
loop_no_layers w h = omega (arith, chain_falls h w)

-- the lowest condition on a loop is one, and least layers are
pub lowest_one : {page : Page} {a b : ℕ} → LowestLoop page a → LowestLoop page b → a ≡ b
lowest_one {a = a} {b = b} p q =
    elim (dec_le (suc a) b) [
      | yes h ↦ absurd (q.lowest a (omega arith) p.loops)
      | no h ↦ elim (dec_le (suc b) a) [ yes g ↦ absurd (p.lowest b (omega arith) q.loops) | no g ↦ omega arith ]
    ]

pub layers_one : {page : Page} {f g : ℕ → ℕ} → LeastLayers page f → LeastLayers page g → (c : ℕ) → c < page.conditions → f c ≡ g c
layers_one {f = f} {g = g} p q c l = omega (arith, p.least g q.layers c l, q.least f p.layers c l)

module _ (page : Page) (w : Proper page) where
  abbrev n : ℕ
  n = page.conditions

  pub namer_inside : (a b : ℕ) → names page a b ≡ true → a < n
  namer_inside = head_inside page.top n page.lines w.ranged

  abbrev W : ℕ → ℕ → Bool → Type 0
  W = Walk n (names page) (negates page)

  -- a chain is a walk below n, and the reverse
  chain_walk : {a b : ℕ} {t : Bool} → b < n → Chain page a b t → W a b t
  chain_walk l empty = stay l
  chain_walk l (name {a = a} {b = b} e r) = by_name (namer_inside a b e) e (chain_walk l r)
  chain_walk l (negate {a = a} {b = b} e r) = by_denial (namer_inside a b (negates_names page a b e)) e (chain_walk l r)

  pub walk_chain : {a b : ℕ} {t : Bool} → W a b t → Chain page a b t
  walk_chain (stay l) = empty
  walk_chain (by_name l e r) = name e (walk_chain r)
  walk_chain (by_denial l e r) = negate e (walk_chain r)

  begins : {a b : ℕ} {t : Bool} → Chain page a b t → t ≡ true → a < n
  begins empty e = absurd (false≢true e)
  begins (name {a = a} {b = b} f r) e = namer_inside a b f
  begins (negate {a = a} {b = b} f r) e = namer_inside a b (negates_names page a b f)

  -- the conditions on a loop are conditions of the page
  pub loop_inside : {c : ℕ} → Loops page c → c < n
  loop_inside r = begins r refl

  loop_walk : {c : ℕ} → Loops page c → W c c true
  loop_walk r = chain_walk (loop_inside r) r

  pub layers_on : {lay : ℕ → ℕ} → Layers page lay → LayersOn n (names page) (negates page) lay
  layers_on h = record { named = λ a b l m e. omega (arith, h.named a b e); denied = λ a b l m e. omega (arith, h.negated a b e) }

  pub on_layers : {lay : ℕ → ℕ} → LayersOn n (names page) (negates page) lay → Layers page lay
  on_layers h =
      record {
        named = λ a b e. h.named a b (namer_inside a b e) (names_inside page w a b e) e;
        negated = λ a b e. let f = negates_names page a b e in h.denied a b (namer_inside a b f) (names_inside page w a b f) e;
      }

  -- no chain leads back: the least layers, each below C
  pub record Passed (lay : ℕ → ℕ) : Type 0 where
    pub is_least : LeastLayers page lay
    pub below : (c : ℕ) → c < n → lay c < n

  pub free_passed : ((c : ℕ) → ¬ Loops page c) → Passed (layer n (names page) (negates page))
  free_passed free =
      let r = free_layers n (names page) (negates page) (λ a l v. free a (walk_chain v)) in
      record { is_least = record { layers = on_layers r.0.layers; least = λ m h. r.0.least m (layers_on h) }; below = r.1 }

  -- the lowest condition that is far from itself is the lowest on a loop
  pub far_lowest : (c : ℕ) → c < n → far n (names page) (negates page) c c ≡ true → ((b : ℕ) → b < c → far n (names page) (negates page) b b ≡ false) → LowestLoop page c
  far_lowest c l e h =
      record {
        loops = walk_chain (far_walk n (names page) (negates page) c c l e);
        lowest = λ b m v. loop? n (names page) (negates page) b (omega arith) (h b m) (loop_walk v);
      }

  -- a lowest condition on a loop, or least layers below C
  pub loop_or_layers : ((c : ℕ) × LowestLoop page c) ⊎ ((lay : ℕ → ℕ) × Passed lay)
  loop_or_layers =
      elim (lowest (λ a. far n (names page) (negates page) a a) n) [
        | inl r ↦ inl (r.0, far_lowest r.0 r.1 r.2 r.3)
        | inr h ↦ inr (_, free_passed (λ c v. loop? n (names page) (negates page) c (loop_inside v) (h c (loop_inside v)) (loop_walk v)))
      ]

  -- layers exist exactly where no chain leads back
  pub layers_exactly : ((lay : ℕ → ℕ) × LeastLayers page lay) ↔ ((c : ℕ) → ¬ Loops page c)
  layers_exactly = (λ r c v. loop_no_layers v r.1.layers, λ free. (_, (free_passed free).is_least))

  pub least_below : {lay : ℕ → ℕ} → LeastLayers page lay → (c : ℕ) → c < n → lay c < n
  least_below h c l =
      elim loop_or_layers [
        | inl r ↦ absurd (loop_no_layers r.1.loops h.layers)
        | inr r ↦ omega (arith, layers_one h r.1.is_least c l, r.1.below c l)
      ]

  -- some condition is on a loop: then there is a lowest one
  pub some_lowest : {c : ℕ} → Loops page c → (b : ℕ) × LowestLoop page b
  some_lowest v = elim loop_or_layers [ inl r ↦ r | inr r ↦ absurd (loop_no_layers v r.1.is_least.layers) ]
