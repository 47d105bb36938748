-- What a line raises, and a pass over the lines of a page in place. Assumes nothing.
use mathlib.Core.Path.{◌≡◌, refl, sym, ◌∙◌, ap, subst}
use mathlib.Core.Logic.{◌⊎◌, inl, inr, ⊎_elim}
use mathlib.Core.Bool.{true, false, false≢true}
use mathlib.Core.List.{List}
use Prim.Native.Nat.{ℕ, suc, ◌+◌, ◌/◌, ◌%◌, ◌≤◌, ◌<◌, max}
use Rattle.std.specs.Option.{option_cmp}
use Rattle.std.specs.Ordering.{ord_max, nat_cmp}
use Rattle.std.specs.Prelude.{Option, None, Some, MatchOption, IfSome, IfNone, unwrap_or}
use native.Mathlib.Decide.{ℕ_discrete, dec_le}
use native.Mathlib.Omega.{arith}
use lib.ListN.{length, get_or, drop}
use Rattle.semantics.specs.Area.{page_of, line_at, top_of, conditions_of, count_of, first_line}
use Rattle.semantics.specs.Layers.{Layers}
use Rattle.semantics.proofs.Layers.{negates_names}
use Rattle.semantics.proofs.Readings.{names_inside}
use Rattle.page.specs.Graded.{RuleAt}
use Rattle.page.specs.Lines.{Next, line_names, Scanning}
use Rattle.page.proofs.Naming.{line_rule, line_fact, line_over}
use Rattle.page.proofs.Scan.{entry_head}
use Rattle.page.proofs.Scanning.{scanning_first, scanning_moved, entry_ok}
use Rattle.layers.specs.Raising.{layer_in, Low, ask, Raised, line_negates, LineRaised, PassRaised}
use Rattle.layers.proofs.Behind.{Behind, by_names, by_negates, behind_first_lem, behind_next, behind_last, here_related}
use Rattle.layers.proofs.Literals.{code_named, code_negated, named_code, negated_code, line_denies, fact_denies, over_denies}
use Rattle.page.specs.Solvable.{solvable}
use Rattle.page.proofs.Solvable.{solvable_proper}

-- the layer of the condition of a literal
same_layer : (layers : List ℕ) {x y : ℕ} → x ≡ y → get_or layers x 0 ≡ get_or layers y 0
same_layer layers e = ap (λ (c : ℕ). get_or layers c 0) e

module _ (a : List ℕ) (at : ℕ) (layers : List ℕ) where
  abbrev code : ℕ → ℕ
  code i = get_or a (at + 4 + i) 0

  abbrev y : ℕ
  y = get_or a (at + 3) 0

  -- a rule
  module _ {top n : ℕ} (z : RuleAt top n a at) where
    names_code : (i : ℕ) → i < y → line_names (line_at (drop at a)) (code i / 2) ≡ true
    names_code i l = line_rule a at (code i / 2) z.least z.most ∙ code_named a y (at + 4) i (at + 4 + i) z.fits l refl

    negates_code : (i : ℕ) → i < y → code i % 2 ≡ 1 → line_negates (line_at (drop at a)) (code i / 2) ≡ true
    negates_code i l o = line_denies a at (code i / 2) z.least z.most ∙ code_negated a y (at + 4) i (at + 4 + i) z.fits l refl o

    pub line_raised : {layers' : List ℕ} {r : Option ℕ} → Raised a at layers layers' r → LineRaised a at layers layers' r
    line_raised {layers'} {r} s =
        record {
          size = s.size;
          others = s.others;
          named = λ b q.
              let f = named_code a y (at + 4) b z.fits (sym (line_rule a at b z.least z.most) ∙ q) in
              omega (arith, s.asked f.0 f.1, same_layer layers f.2);
          negated = λ b q.
              let f = negated_code a y (at + 4) b z.fits (sym (line_denies a at b z.least z.most) ∙ q) in
              omega (arith, s.asked f.0 f.1, f.2, same_layer layers f.3);
          told = told_lem r s.told;
        }
      where
        told_lem : (r : Option ℕ)
            → MatchOption r (layer_in layers' (get_or a at 0) ≡ layer_in layers (get_or a at 0))
            (λ m. (i : ℕ) × (i < y) × (m ≡ ask a at layers i) × (layer_in layers' (get_or a at 0) ≡ m) × (layer_in layers (get_or a at 0) < m))
            → MatchOption r (layer_in layers' (get_or a at 0) ≡ layer_in layers (get_or a at 0))
            (λ m. (layer_in layers' (get_or a at 0) ≡ m) × (layer_in layers (get_or a at 0) < m)
            × ((b : ℕ) × (((line_names (line_at (drop at a)) b ≡ true) × (m ≡ layer_in layers b)) ⊎ ((line_negates (line_at (drop at a)) b ≡ true) × (m ≡ suc (layer_in layers b))))))
        told_lem None t = t
        told_lem (Some m) (i, l, e, p, q) =
            elim (ℕ_discrete (code i % 2) 1) [
              | yes o ↦ (p, q, (code i / 2, inr (negates_code i l o, omega arith)))
              | no o ↦ (p, q, (code i / 2, inl (names_code i l, omega arith)))
            ]

  -- any other line
  line_none : ((b : ℕ) → line_names (line_at (drop at a)) b ≡ false) → ((b : ℕ) → line_negates (line_at (drop at a)) b ≡ false) → LineRaised a at layers layers None
  line_none f g =
      record {
        size = refl;
        others = λ c e. refl;
        named = λ b q. absurd (false≢true (sym (f b) ∙ q));
        negated = λ b q. absurd (false≢true (sym (g b) ∙ q));
        told = refl;
      }

  pub fact_raises : get_or a (at + 1) 0 < 1 → LineRaised a at layers layers None
  fact_raises l = line_none (λ b. line_fact a at b l) (λ b. fact_denies a at b l)

  pub over_raises : 5 < get_or a (at + 1) 0 → LineRaised a at layers layers None
  over_raises l = line_none (λ b. line_over a at b l) (λ b. over_denies a at b l)

-- the higher of what two tell
abbrev pub higher : Option ℕ → Option ℕ → Option ℕ
higher None r = r
higher (Some m) None = Some m
higher (Some m) (Some l) = Some (max m l)

-- what `max` of two options gives
pub higher_is : (m r : Option ℕ) → ord_max (option_cmp nat_cmp) m r ≡ higher m r
higher_is None None = refl
higher_is None (Some l) = refl
higher_is (Some m) None = refl
higher_is (Some m) (Some l) = grind arith

higher_or : (m r : Option ℕ) → unwrap_or (higher m r) 0 ≡ max (unwrap_or m 0) (unwrap_or r 0)
higher_or None None = refl
higher_or None (Some l) = omega arith
higher_or (Some m) None = omega arith
higher_or (Some m) (Some l) = refl

-- the pass stands at `at`, behind k lines; `most` is the highest layer that was raised to
module _ (a : List ℕ) (layers₀ : List ℕ) where
  abbrev n : ℕ
  n = conditions_of a

  pub record Passing (layers : List ℕ) (at k : ℕ) (most : Option ℕ) : Type 0 where
    pub ok : solvable a ≡ true
    pub scan : Scanning a at k
    pub size : length layers ≡ n
    pub grows : (c : ℕ) → layer_in layers₀ c ≤ layer_in layers c
    pub named : Behind by_names a (λ x b. layer_in layers₀ b ≤ layer_in layers x) at k
    pub negated : Behind by_negates a (λ x b. layer_in layers₀ b < layer_in layers x) at k
    pub under : (m : ℕ → ℕ) → Layers (page_of a) m → ((c : ℕ) → c < n → layer_in layers₀ c ≤ m c) → (c : ℕ) → c < n → layer_in layers c ≤ m c
    pub still : IfNone most ((c : ℕ) → layer_in layers c ≡ layer_in layers₀ c)
    pub some : IfSome most (λ m. (c : ℕ) × (c < n) × (layer_in layers₀ c < layer_in layers c) × (m ≤ layer_in layers c))
    pub highest : (c : ℕ) → layer_in layers c ≤ max (layer_in layers₀ c) (unwrap_or most 0)
    pub low : (c : ℕ) → layer_in layers c ≤ 511 + k

  pub passing_first : solvable a ≡ true → length layers₀ ≡ n → Low 511 layers₀ → {at k : ℕ} → (at ≡ first_line a) × (k ≡ 0) → Passing layers₀ at k None
  passing_first ok s l {at} {k} z =
      record {
        ok = ok;
        scan = rw (z.0, z.1) (scanning_first a ok);
        size = s;
        grows = λ c. omega arith;
        named = behind_first_lem by_names a z;
        negated = behind_first_lem by_negates a z;
        under = λ m h g. g;
        still = λ c. refl;
        some = tt;
        highest = λ c. omega arith;
        low = λ c. omega (arith, l c);
      }

  module _ {layers : List ℕ} {at k : ℕ} {most : Option ℕ} (s : Passing layers at k most) (l : k < count_of a) {at' k' : ℕ} (e : Next a at k at' k')
      {layers' : List ℕ} {r : Option ℕ} (h : LineRaised a at layers layers' r) where
    abbrev head : ℕ
    head = get_or a at 0

    head_below : head < n
    head_below = entry_head (top_of a) (conditions_of a) _ a at (entry_ok a s.scan l)

    -- what the line did to its head
    abbrev Told : Option ℕ → Type 0
    Told r =
        MatchOption r (layer_in layers' head ≡ layer_in layers head)
        (λ m. (layer_in layers' head ≡ m) × (layer_in layers head < m)
        × ((b : ℕ) × (((line_names (line_at (drop at a)) b ≡ true) × (m ≡ layer_in layers b)) ⊎ ((line_negates (line_at (drop at a)) b ≡ true) × (m ≡ suc (layer_in layers b))))))

    at_head : (r : Option ℕ) → Told r → (layer_in layers head ≤ layer_in layers' head) × (layer_in layers' head ≤ max (layer_in layers head) (unwrap_or r 0))
    at_head None t = omega arith
    at_head (Some m) t = omega (arith, t.0, t.1)

    rises : (c : ℕ) → (layer_in layers c ≤ layer_in layers' c) × (layer_in layers' c ≤ max (layer_in layers c) (unwrap_or r 0))
    rises c =
        elim (ℕ_discrete c head) [
          | yes q ↦ subst (λ (x : ℕ). (layer_in layers x ≤ layer_in layers' x) × (layer_in layers' x ≤ max (layer_in layers x) (unwrap_or r 0))) (sym q) (at_head r h.told)
          | no q ↦ omega (arith, h.others c q)
        ]

    -- no higher than layers there are, and not by more than one line's step
    module _ (m : ℕ → ℕ) (g : Layers (page_of a) m) (z : (c : ℕ) → c < n → layer_in layers c ≤ m c) where
      under_head : (r : Option ℕ) → Told r → layer_in layers' head ≤ m head
      unfolding page_of
      under_head None t = omega (arith, z head head_below)
      under_head (Some l₁) t =
          ⊎_elim
          (λ q.
          let f = here_related by_names a s.scan s.named l e t.2.0 q.0 in
          omega (arith, t.0, q.1, z t.2.0 (names_inside (page_of a) (solvable_proper a s.ok) head t.2.0 f), g.named head t.2.0 f))
          (λ q.
          let f = here_related by_negates a s.scan s.negated l e t.2.0 q.0 in
          omega (arith, t.0, q.1, z t.2.0 (names_inside (page_of a) (solvable_proper a s.ok) head t.2.0 (negates_names (page_of a) head t.2.0 f)), g.negated head t.2.0 f))
          t.2.1

    step_low : (r : Option ℕ) → Told r → unwrap_or r 0 ≤ 512 + k
    step_low None t = omega arith
    step_low (Some m) t = ⊎_elim (λ q. omega (arith, q.1, s.low t.2.0)) (λ q. omega (arith, q.1, s.low t.2.0)) t.2.1

    -- nothing rose, or the head or what rose before is as high
    abbrev Still : Type 0
    Still = (c : ℕ) → layer_in layers' c ≡ layer_in layers₀ c

    abbrev Rose : ℕ → Type 0
    Rose m = (c : ℕ) × (c < n) × (layer_in layers₀ c < layer_in layers' c) × (m ≤ layer_in layers' c)

    still_next : (most r : Option ℕ) → Told r → IfNone most ((c : ℕ) → layer_in layers c ≡ layer_in layers₀ c) → IfNone (higher most r) Still
    still_next None None t q =
        λ c.
        elim (ℕ_discrete c head) [
          | yes p ↦ omega (arith, q c, subst (λ (x : ℕ). layer_in layers' x ≡ layer_in layers x) (sym p) t)
          | no p ↦ omega (arith, q c, h.others c p)
        ]
    still_next None (Some r) t q = tt
    still_next (Some m) None t q = tt
    still_next (Some m) (Some r) t q = tt

    some_next : (most r : Option ℕ) → Told r → IfSome most (λ m. (c : ℕ) × (c < n) × (layer_in layers₀ c < layer_in layers c) × (m ≤ layer_in layers c)) → IfSome (higher most r) Rose
    some_next None None t q = tt
    some_next None (Some r) t q = (head, head_below, omega (arith, s.grows head, t.0, t.1), omega (arith, t.0))
    some_next (Some m) None t q = (q.0, q.1, omega (arith, q.2, rises q.0), omega (arith, q.3, rises q.0))
    some_next (Some m) (Some r) t q =
        elim (dec_le r m) [
          | yes p ↦ (q.0, q.1, omega (arith, q.2, rises q.0), omega (arith, q.3, rises q.0))
          | no p ↦ (head, head_below, omega (arith, s.grows head, t.0, t.1), omega (arith, t.0))
        ]

    pub passing_next : Passing layers' at' k' (higher most r)
    passing_next =
        record {
          ok = s.ok;
          scan = scanning_moved a s.scan l e;
          size = h.size ∙ s.size;
          grows = λ c. omega (arith, s.grows c, rises c);
          named = behind_next by_names a s.scan s.named l e (λ x b p. omega (arith, p, rises x)) (λ b p. omega (arith, s.grows b, h.named b p));
          negated = behind_next by_negates a s.scan s.negated l e (λ x b p. omega (arith, p, rises x)) (λ b p. omega (arith, s.grows b, h.negated b p));
          under = λ m g z c i.
              elim (ℕ_discrete c head) [
                | yes p ↦ subst (λ (x : ℕ). layer_in layers' x ≤ m x) (sym p) (under_head m g (s.under m g z) r h.told)
                | no p ↦ omega (arith, h.others c p, s.under m g z c i)
              ];
          still = still_next most r h.told s.still;
          some = some_next most r h.told s.some;
          highest = λ c. omega (arith, s.highest c, rises c, higher_or most r);
          low = λ c. omega (arith, s.low c, rises c, step_low r h.told, e.count);
        }

  pub passing_last : {layers : List ℕ} {at k : ℕ} {most : Option ℕ} → length layers₀ ≡ n → Passing layers at k most → count_of a ≤ k → PassRaised (page_of a) layers₀ layers most
  unfolding page_of
  passing_last z s l =
      record {
        size = s.size ∙ sym z;
        named = behind_last by_names a s.named l;
        negated = behind_last by_negates a s.negated l;
        under = s.under;
        still = s.still;
        some = s.some;
        most = s.highest;
      }
