-- Sets of conditions as bits: one bit set or cleared, a whole set put into others, the lowest of a set, and one of it. Assumes nothing.
use mathlib.Core.Path.{◌≡◌, refl, sym, ◌∙◌, ap}
use mathlib.Core.Logic.{◌≢◌}
use mathlib.Core.Bool.{Bool, true, false, cond, not, ◌&&◌, ◌||◌}
use mathlib.Core.List.{List, [], ◌∷◌}
use Prim.Native.Nat.{ℕ, zero, suc, ◌+◌, ◌-◌, ◌*◌, ◌/◌, ◌%◌, ◌^◌, ◌≤◌, ◌<◌, min, max}
use native.Mathlib.Decide.{ℕ_discrete}
use native.Mathlib.Omega.{arith}
use lib.Bits.{bit_and, bit_or}
use lib.Count.{count_leading_zeros}
use lib.Dec.{eqb}
use lib.ListN.{length, get_or, set, length-set, replicate}
use lib.Seq.{get_or-set_same, get_or-set_other}
use borrow.Author.Tests.{eq-eqb, ne_eqb}
use Rattle.std.specs.Int.{w64, bit_at, bit_not, trailing_zeros}
use Rattle.std.proofs.lemmas.Nat.Bits.{bit_at-lt, bit_at-zero, bit_at_and, bit_at_or, bit_at_not, bit_at_set_same, bit_at_set_other, bit_at_clear_same, bit_at_clear_other, bit_at-trailing_zeros}
use Rattle.bits.specs.Words.{has, Inserted, Removed, Absorbed}
use Rattle.bits.specs.Sets.{Member, Nobody}
use borrow.Author.Count.{below_none, below_more}
use Rattle.bits.proofs.Bits.{both_none, highest_lt, highest_found, bit_masked, masked_fits}

or_as_cond : (b t : Bool) → cond t true b ≡ (b || t)
or_as_cond true true = refl
or_as_cond false true = refl
or_as_cond true false = refl
or_as_cond false false = refl

and_not_as_cond : (b t : Bool) → cond t false b ≡ (b && not t)
and_not_as_cond true true = refl
and_not_as_cond false true = refl
and_not_as_cond true false = refl
and_not_as_cond false false = refl

-- a word of a set changed at one bit
module _ (words : List ℕ) (c : ℕ) (size : length words ≡ 8) (l : c < 512) where
  abbrev old : ℕ
  old = get_or words (c / 64) 0

  changed : (v d : ℕ) → bit_at v (c % 64) ≡ d → ((j : ℕ) → j < 64 → j ≢ c % 64 → bit_at v j ≡ bit_at old j)
      → (k : ℕ) → has (set words (c / 64) v) k ≡ cond (eqb k c) (eqb d 1) (has words k)
  changed v d here there k =
      elim (ℕ_discrete (k / 64) (c / 64)) [
        | no n ↦ ap (λ (x : ℕ). eqb (bit_at x (k % 64)) 1) (get_or-set_other words (c / 64) (k / 64) v 0 n)
            ∙ sym (ap (λ (t : Bool). cond t (eqb d 1) (has words k)) (ne_eqb k c (λ e. n (ap (λ (x : ℕ). x / 64) e))))
        | yes e ↦ ap (λ (i : ℕ). eqb (bit_at (get_or (set words (c / 64) v) i 0) (k % 64)) 1) e
            ∙ ap (λ (x : ℕ). eqb (bit_at x (k % 64)) 1) (get_or-set_same words (c / 64) v 0 (omega arith)) ∙ within e
      ]
    where
      within : k / 64 ≡ c / 64 → eqb (bit_at v (k % 64)) 1 ≡ cond (eqb k c) (eqb d 1) (has words k)
      within e =
          elim (ℕ_discrete (k % 64) (c % 64)) [
            | yes f ↦ ap (λ (j : ℕ). eqb (bit_at v j) 1) f ∙ ap (λ (x : ℕ). eqb x 1) here
                ∙ sym (ap (λ (t : Bool). cond t (eqb d 1) (has words k)) (eq-eqb k c (omega arith)))
            | no f ↦ ap (λ (x : ℕ). eqb x 1) (there (k % 64) (omega arith) f) ∙ ap (λ (i : ℕ). eqb (bit_at (get_or words i 0) (k % 64)) 1) (sym e)
                ∙ sym (ap (λ (t : Bool). cond t (eqb d 1) (has words k)) (ne_eqb k c (λ q. f (ap (λ (x : ℕ). x % 64) q))))
          ]

  pub bit_inserted : Inserted c words (set words (c / 64) (bit_or old (1 * 2 ^ (c % 64) % 2 ^ 64)))
  bit_inserted = (
    length-set words (c / 64) _ ∙ size,
    λ k m. changed _ 1 (bit_at_set_same w64 old (c % 64) (omega arith)) (λ j b. bit_at_set_other w64 old (c % 64) (omega arith) j) k ∙ or_as_cond (has words k) (eqb k c),
  )

  pub bit_removed : Removed c words (set words (c / 64) (bit_and old (bit_not w64 (1 * 2 ^ (c % 64) % 2 ^ 64))))
  bit_removed = (
    length-set words (c / 64) _ ∙ size,
    λ k m. changed _ 0 (bit_at_clear_same w64 old (c % 64) (omega arith)) (bit_at_clear_other w64 old (c % 64) (omega arith)) k ∙ and_not_as_cond (has words k) (eqb k c),
  )

-- one word of a set after the other is changed: those passed have the property P, the others are as they were
pub record Changing (words₀ : List ℕ) (P : ℕ → ℕ → Type 0) (words : List ℕ) (w : ℕ) : Type 0 where
  pub size : length words ≡ 8
  pub passed : (v : ℕ) → v < w → P v (get_or words v 0)
  pub ahead : (v : ℕ) → w ≤ v → get_or words v 0 ≡ get_or words₀ v 0

module _ {words₀ : List ℕ} {P : ℕ → ℕ → Type 0} where
  pub changing_first : length words₀ ≡ 8 → Changing words₀ P words₀ 0
  changing_first e = record { size = e; passed = λ v l. absurd (omega arith); ahead = λ v l. refl }

  pub changing_next : {words : List ℕ} {w x : ℕ} → Changing words₀ P words w → w < 8 → P w x → Changing words₀ P (set words w x) (w + 1)
  changing_next {words} {w} {x} h l p =
      record {
        size = length-set words w x ∙ h.size;
        passed = λ v m.
            elim (ℕ_discrete v w) [
              | yes e ↦ rw (e, get_or-set_same words w x 0 (omega (arith, h.size))) p
              | no e ↦ rw (get_or-set_other words w v x 0 e) (h.passed v (omega arith))
            ];
        ahead = λ v m. get_or-set_other words w v x 0 (omega arith) ∙ h.ahead v (omega arith);
      }

-- digits as truth values
or_digit : (x y : ℕ) → x < 2 → y < 2 → eqb (max x y) 1 ≡ (eqb x 1 || eqb y 1)
or_digit zero zero l m = refl
or_digit zero (suc zero) l m = refl
or_digit zero (suc (suc y)) l m = absurd (omega arith)
or_digit (suc zero) zero l m = refl
or_digit (suc zero) (suc zero) l m = refl
or_digit (suc zero) (suc (suc y)) l m = absurd (omega arith)
or_digit (suc (suc x)) y l m = absurd (omega arith)

and_not_digit : (x y : ℕ) → x < 2 → y < 2 → eqb (min x (1 - y)) 1 ≡ (eqb x 1 && not (eqb y 1))
and_not_digit zero zero l m = refl
and_not_digit zero (suc zero) l m = refl
and_not_digit zero (suc (suc y)) l m = absurd (omega arith)
and_not_digit (suc zero) zero l m = refl
and_not_digit (suc zero) (suc zero) l m = refl
and_not_digit (suc zero) (suc (suc y)) l m = absurd (omega arith)
and_not_digit (suc (suc x)) y l m = absurd (omega arith)

-- the set `named` is put into `reached`, and those of it that were not there into `waiting`
module _ (named reached waiting : List ℕ) where
  abbrev pub Joined : ℕ → ℕ → Type 0
  Joined v x = (j : ℕ) → j < 64 → eqb (bit_at x j) 1 ≡ (eqb (bit_at (get_or reached v 0) j) 1 || eqb (bit_at (get_or named v 0) j) 1)

  abbrev pub JoinedNew : ℕ → ℕ → Type 0
  JoinedNew v x = (j : ℕ) → j < 64 → eqb (bit_at x j) 1 ≡ (eqb (bit_at (get_or waiting v 0) j) 1 || (eqb (bit_at (get_or named v 0) j) 1 && not (eqb (bit_at (get_or reached v 0) j) 1)))

  pub joined : (v : ℕ) {y : ℕ} → y ≡ get_or reached v 0 → Joined v (bit_or y (get_or named v 0))
  joined v {y} e j l =
      rw e
      (ap (λ (d : ℕ). eqb d 1) (bit_at_or (get_or reached v 0) (get_or named v 0) j) ∙ or_digit _ _ (bit_at-lt (get_or reached v 0) j) (bit_at-lt (get_or named v 0) j))

  pub joined_new : (v : ℕ) {y z : ℕ} → y ≡ get_or reached v 0 → y < 2 ^ 64 → z ≡ get_or waiting v 0 → JoinedNew v (bit_or z (bit_and (get_or named v 0) (bit_not w64 y)))
  joined_new v {y} {z} e fits f j l =
      let x = get_or named v 0 in
      let new : bit_at (bit_and x (bit_not w64 y)) j ≡ min (bit_at x j) (1 - bit_at y j) = bit_at_and x (bit_not w64 y) j ∙ ap (min (bit_at x j)) (bit_at_not w64 y j fits l) in
      rw (sym e, sym f)
      (ap (λ (d : ℕ). eqb d 1) (bit_at_or z (bit_and x (bit_not w64 y)) j)
      ∙ or_digit _ _ (bit_at-lt z j) (bit_at-lt (bit_and x (bit_not w64 y)) j)
      ∙ ap (λ (d : ℕ). eqb (bit_at z j) 1 || eqb d 1) new
      ∙ ap (λ (t : Bool). eqb (bit_at z j) 1 || t) (and_not_digit _ _ (bit_at-lt x j) (bit_at-lt y j)))

  pub absorbed : {reached' waiting' : List ℕ} {w : ℕ} → Changing reached Joined reached' w → Changing waiting JoinedNew waiting' w → 8 ≤ w → Absorbed named reached waiting reached' waiting'
  absorbed h k l =
      record {
        reached_size = h.size;
        waiting_size = k.size;
        reached_is = λ c m. h.passed (c / 64) (omega arith) (c % 64) (omega arith);
        waiting_is = λ c m. k.passed (c / 64) (omega arith) (c % 64) (omega arith);
      }

-- a word of a set that is 0 has no bit, and one that is not has its lowest
module _ (words : List ℕ) where
  pub word_none : (k : ℕ) → get_or words (k / 64) 0 ≡ 0 → has words k ≡ false
  word_none k e = ap (λ (x : ℕ). eqb (bit_at x (k % 64)) 1) e ∙ ap (λ (x : ℕ). eqb x 1) (bit_at-zero (k % 64))

  module _ (w : ℕ) (fits : get_or words w 0 < 2 ^ 64) where
    abbrev word : ℕ
    word = get_or words w 0

    has_in : (j : ℕ) → j < 64 → has words (64 * w + j) ≡ eqb (bit_at word j) 1
    has_in j l =
        let q : (64 * w + j) / 64 ≡ w = omega arith in
        let r : (64 * w + j) % 64 ≡ j = omega arith in
        rw (q, r)

    -- the highest of what a mask leaves
    module _ (mask : ℕ) (some : bit_and word mask ≢ 0) where
      abbrev left : ℕ
      left = bit_and word mask

      left_fits : left < 2 ^ 64
      left_fits = masked_fits word mask fits

      pub member_masked : w < 8 → Member words (64 * w + (63 - count_leading_zeros 64 left))
      member_masked l =
          let h = highest_lt left left_fits some in
          record { within = omega (arith, h); found = has_in _ h ∙ eq-eqb _ 1 (bit_masked word mask _ (highest_found left left_fits some)) }

    -- the highest
    pub member_highest : word ≢ 0 → w < 8 → Member words (64 * w + (63 - count_leading_zeros 64 word))
    member_highest some l = let h = highest_lt word fits some in record { within = omega (arith, h); found = has_in _ h ∙ eq-eqb _ 1 (highest_found word fits some) }

    -- the lowest
    module _ (some : word ≢ 0) where
      abbrev lowest : ℕ
      lowest = trailing_zeros w64 word

      lowest_is : (lowest < 64) × (bit_at word lowest ≡ 1) × ((j : ℕ) → j < lowest → bit_at word j ≡ 0)
      lowest_is = bit_at-trailing_zeros w64 word (omega (arith, some)) fits

      pub lowest_has : has words (64 * w + lowest) ≡ true
      lowest_has = has_in lowest lowest_is.0 ∙ eq-eqb _ 1 lowest_is.1

      pub member_lowest : w < 8 → Member words (64 * w + lowest)
      member_lowest l = record { within = omega (arith, lowest_is.0); found = lowest_has }

      -- all words before it are 0
      module _ (none : (v : ℕ) → v < w → get_or words v 0 ≡ 0) where
        pub below_lowest : (c : ℕ) → c < 64 * w + lowest → has words c ≡ false
        below_lowest c m =
            elim (ℕ_discrete (c / 64) w) [
              | yes e ↦ ap (λ (v : ℕ). eqb (bit_at (get_or words v 0) (c % 64)) 1) e ∙ ap (λ (x : ℕ). eqb x 1) (lowest_is.2 (c % 64) (omega arith))
              | no e ↦ word_none c (none (c / 64) (omega (arith, lowest_is.0)))
            ]

  -- every word of an empty set is 0
  pub word_nobody : (w : ℕ) → w < 8 → get_or words w 0 < 2 ^ 64 → Nobody words → get_or words w 0 ≡ 0
  word_nobody w l fits n =
      elim (ℕ_discrete (get_or words w 0) 0) [
        | yes e ↦ e
        | no some ↦ absurd (one_or_none (sym (n _ (omega (arith, (lowest_is w fits some).0))) ∙ lowest_has w fits some))
      ]
    where
      one_or_none : false ≡ true → ⊥
      one_or_none e = cc

  pub nobody : ((v : ℕ) → v < 8 → get_or words v 0 ≡ 0) → Nobody words
  nobody none c l = word_none c (none (c / 64) (omega arith))

  -- the words in turn from that of `from` on
  pub any_passed : (from : ℕ) → from < 512 → ((p : ℕ) → p < 8 → get_or words ((from / 64 + p) % 8) 0 ≡ 0) → (v : ℕ) → v < 8 → get_or words v 0 ≡ 0
  any_passed from l none v m =
      let e : (from / 64 + (8 + v - from / 64) % 8) % 8 ≡ v = omega arith in
      ap (λ (i : ℕ). get_or words i 0) (sym e) ∙ none ((8 + v - from / 64) % 8) (omega arith)

-- eight zeros are an empty set
pub zeros_none : (c : ℕ) → has (0 ∷ 0 ∷ 0 ∷ 0 ∷ 0 ∷ 0 ∷ 0 ∷ 0 ∷ []) c ≡ false
zeros_none c = word_none (0 ∷ 0 ∷ 0 ∷ 0 ∷ 0 ∷ 0 ∷ 0 ∷ 0 ∷ []) c (zero_at 8 (c / 64))
  where
    zero_at : (m i : ℕ) → ◌≡◌ {A = ℕ} (get_or (replicate m 0) i 0) 0
    zero_at zero i = refl
    zero_at (suc m) zero = refl
    zero_at (suc m) (suc i) = zero_at m i

-- eight words together
abbrev pub together : List ℕ → ℕ
together words =
    bit_or (bit_or (bit_or (bit_or (bit_or (bit_or (bit_or (get_or words 0 0) (get_or words 1 0)) (get_or words 2 0)) (get_or words 3 0)) (get_or words 4 0)) (get_or words 5 0)) (get_or words 6 0)) (get_or words 7 0)

module _ (words : List ℕ) where
  -- each is 0 if they are 0 together
  pub each_none : together words ≡ 0 → (v : ℕ) → v < 8 → get_or words v 0 ≡ 0
  each_none h =
      let h6 = both_none _ (get_or words 7 0) h in
      let h5 = both_none _ (get_or words 6 0) h6.0 in
      let h4 = both_none _ (get_or words 5 0) h5.0 in
      let h3 = both_none _ (get_or words 4 0) h4.0 in
      let h2 = both_none _ (get_or words 3 0) h3.0 in
      let h1 = both_none _ (get_or words 2 0) h2.0 in
      let h0 = both_none (get_or words 0 0) (get_or words 1 0) h1.0 in
      below_more _ 7 (below_more _ 6 (below_more _ 5 (below_more _ 4 (below_more _ 3 (below_more _ 2 (below_more _ 1 (below_more _ 0 (below_none _) h0.0) h0.1) h1.1) h2.1) h3.1) h4.1) h5.1) h6.1
