-- Layers computed on tables, pass by pass. Assumes nothing.
use mathlib.Core.Path.{◌≡◌, refl, sym, ap, subst}
use mathlib.Core.Bool.{Bool, true, false}
use mathlib.Core.List.{List, ◌++◌}
use Prim.Native.Nat.{ℕ, zero, suc, ◌≤◌, ◌<◌, max}
use native.Mathlib.Omega.{arith}
use lib.ListN.{length, get_or, drop}
use Rattle.semantics.specs.Page.{Page, names}
use Rattle.semantics.proofs.Proper.{Proper}
use Rattle.semantics.specs.Table.{table}
use Rattle.semantics.proofs.Readings.{names_inside}
use Rattle.semantics.proofs.Table.{length_from, get_d_table, table_back}
use Rattle.semantics.specs.Layers.{negates, Layers, LeastLayers, LayersWritten}
use Rattle.semantics.proofs.Layers.{namer_inside, negates_names}
use Rattle.semantics.proofs.Walks.{largest, largest_ge, largest_le}
use Rattle.semantics.proofs.Raising.{Founded, zero_founded, Pass, After, after_none, after_pass, pass_still}

-- what one naming step asks for
abbrev pub asks : (negated named : Bool) → ℕ → ℕ
asks true p v = suc v
asks false true v = v
asks false false v = 0

-- every condition is raised to what its rules ask of the table before the pass
unfoldable pub raise_pass : Page → List ℕ → List ℕ
raise_pass page t = table page.conditions (λ a. max (get_or t a 0) (largest page.conditions (λ b. asks (negates page a b) (names page a b) (get_or t b 0))))

unfoldable pub raised : Page → ℕ → List ℕ
raised page zero = table page.conditions (λ c. 0)
raised page (suc k) = raise_pass page (raised page k)

module _ (page : Page) (w : Proper page) where
  abbrev n : ℕ
  n = page.conditions

  abbrev v : ℕ → ℕ → ℕ
  v k c = get_or (raised page k) c 0

  abbrev asked : ℕ → ℕ → ℕ → ℕ
  asked k a b = asks (negates page a b) (names page a b) (v k b)

  first : (c : ℕ) → c < n → v 0 c ≡ 0
  unfolding raised
  first c l = get_d_table n (λ c. 0) c 0 l

  next : (k c : ℕ) → c < n → v (suc k) c ≡ max (v k c) (largest n (asked k c))
  unfolding raised raise_pass
  next k c l = get_d_table n (λ a. max (v k a) (largest n (asked k a))) c 0 l

  -- a step asks for no more than layers have
  step_founded : (m : ℕ → ℕ) → Layers page m → (a b x : ℕ) → x ≤ m b → (p q : Bool) → negates page a b ≡ p → names page a b ≡ q → asks p q x ≤ m a
  step_founded m h a b x l true q e f = omega (arith, h.negated a b e)
  step_founded m h a b x l false true e f = omega (arith, h.named a b f)
  step_founded m h a b x l false false e f = omega arith

  based : (k : ℕ) → Founded page (v k)
  based zero = zero_founded page (v 0) first
  based (suc k) =
      record {
        founded = λ m h c l. omega (
          arith,
          next k c l,
          (based k).founded m h c l,
          largest_le n (asked k c) (m c) (λ b i. step_founded m h c b (v k b) ((based k).founded m h b i) (negates page c b) (names page c b) refl refl),
        );
      }

  asks_name : (p : Bool) (x : ℕ) → x ≤ asks p true x
  asks_name true x = omega arith
  asks_name false x = omega arith

  raises : (k a b : ℕ) → names page a b ≡ true → asked k a b ≤ v (suc k) a
  raises k a b e = omega (arith, next k a (namer_inside page w a b e), largest_ge n (asked k a) b (names_inside page w a b e))

  pub raised_pass : (k : ℕ) → Pass page w (v k) (v (suc k))
  raised_pass k =
      record {
        based = based (suc k);
        names_raise = λ a b e.
            let h : v k b ≤ asks (negates page a b) (names page a b) (v k b) = subst (λ (q : Bool). v k b ≤ asks (negates page a b) q (v k b)) (sym e) (asks_name (negates page a b) (v k b)) in
            omega (arith, raises k a b e);
        negates_raise = λ a b e.
            let h : suc (v k b) ≤ asks (negates page a b) (names page a b) (v k b) = subst (λ (p : Bool). suc (v k b) ≤ asks p (names page a b) (v k b)) (sym e) (omega arith) in
            omega (arith, raises k a b (negates_names page a b e));
      }

  pub raised_after : (k : ℕ) → After page w k (v k)
  raised_after zero = after_none page w (v 0) first
  raised_after (suc k) = after_pass page w (raised_after k) (raised_pass k)

  -- a pass that leaves the table as it is has found the least layers
  pub raised_least : (k : ℕ) → raised page (suc k) ≡ raised page k → LeastLayers page (v k)
  raised_least k e = pass_still page w (based k) (raised_pass k) (λ c l. ap (λ (t : List ℕ). get_or t c 0) e)

  raised_length : (k : ℕ) → length (raised page k) ≡ n
  unfolding raised raise_pass
  raised_length zero = length_from n 0 (λ c. 0)
  raised_length (suc k) = length_from n 0 (λ a. max (v k a) (largest n (asked k a)))

  -- and so what the check writes
  pub raised_written : (k : ℕ) → raised page (suc k) ≡ raised page k → (s : List ℕ) → LayersWritten page s (raised page k ++ drop n s)
  raised_written k e s =
      record {
        layer = v k;
        is_least = raised_least k e;
        written = ap (λ (t : List ℕ). t ++ drop n s) (sym (table_back 0 (raised page k) n (raised_length k)));
      }
